-- `playing::operation::play_stated` meets its contract.
use Rattle.playing.proofs.Operations.{stated_played}
use Rattle.model.proofs.Tests.{handed_on}
use Rattle.playing.proofs.operation.play_stated.Goals as goal

pub play_row-requires : goal.play_row-requires
play_row-requires c = search (stated_played, c.in_ok-check_file.was)

pub returns-in_err-check_file : goal.returns-in_err-check_file
returns-in_err-check_file c =
    record {
      value = handed_on _ _ _ c.from_residual.ensures.1 (search (stated_played, c.in_err-check_file.was));
      steps_after = search (stated_played, c.in_err-check_file.was);
      words_after = search (stated_played, c.in_err-check_file.was);
    }
