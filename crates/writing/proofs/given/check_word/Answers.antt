-- `check_word` checks the event of a word, and then its other bits.
use mathlib.Core.Path.{refl}
use Rattle.model.proofs.Tests.{handed_on}
use Rattle.writing.proofs.GivenItems.{word_refused, word_exact}
use Rattle.writing.proofs.given.check_word.Goals as goal

pub returns-in_err-check_event : goal.returns-in_err-check_event
returns-in_err-check_event c duration =
    handed_on _ _ _ c.from_residual.ensures.1 (word_refused _ _ _ c.event_in.ensures _ c.check_event.ensures _ duration _ c.in_err-check_event.was refl)

pub returns : goal.returns
returns c duration =
    word_exact _ _ _ c.event_in.ensures _ c.check_event.ensures _ duration c.in_ok-check_event.was _ c.is_exact.ensures c.check_fits.ensures
