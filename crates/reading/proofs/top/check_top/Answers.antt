-- `reading::top::check_top` meets its contract.
use Rattle.model.proofs.Tests.{handed_on}
use Rattle.reading.proofs.OneTop.{tops}
use Rattle.reading.proofs.top.check_top.Goals as goal

pub returns-in_err-voice-clause-value : goal.returns-in_err-voice-clause-value
returns-in_err-voice-clause-value c = handed_on _ _ _ c.from_residual.ensures.1 (search (tops, c.in_err-voice.was))

pub returns-in-Some-clause-value : goal.returns-in-Some-clause-value
returns-in-Some-clause-value c = search (tops, c.in_ok-voice.was)

pub returns-in-None-clause-value : goal.returns-in-None-clause-value
returns-in-None-clause-value c = search (tops, c.in_ok-voice.was)
