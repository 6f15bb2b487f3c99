-- `write_items` stores nothing before all is checked and there is room.
use mathlib.Core.Path.{◌∙◌}
use Rattle.model.proofs.Tests.{handed_on}
use Rattle.writing.proofs.Answers.{answered}
use Rattle.writing.proofs.list.write_items.Goals as goal

pub returns-in_err-length : goal.returns-in_err-length
returns-in_err-length c = record {
  value = handed_on _ _ _ c.from_residual.ensures.1 (search (answered, c.in_err-length.was));
  out_after = search (answered, c.in_err-length.was);
}

pub returns-then-length-gt65536 : goal.returns-then-length-gt65536
returns-then-length-gt65536 c = record {
  value = c.refused.ensures ∙ search (answered, c.in_ok-length.was);
  out_after = search (answered, c.in_ok-length.was);
}

pub write_list-requires : goal.write_list-requires
write_list-requires c = record { value = search (answered, c.in_ok-length.was); in_bounds = search (answered, c.in_ok-length.was) }

pub returns : goal.returns
returns c = record { value = search (answered, c.in_ok-length.was); out_after = search (answered, c.in_ok-length.was) }
