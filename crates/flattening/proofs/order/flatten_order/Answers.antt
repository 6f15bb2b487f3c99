-- `flattening::order::flatten_order` meets its contract.
use Rattle.flattening.proofs.Flattened.{flattened_order}
use mathlib.Core.Path.{◌∙◌}
use borrow.Author.Rules.{rules}
use Rattle.flattening.proofs.order.flatten_order.Goals as goal

pub returns-then-measure-gt65536 : goal.returns-then-measure-gt65536
returns-then-measure-gt65536 c = record { value = c.refused.ensures ∙ search flattened_order; out_after = search flattened_order }

pub returns-then-out-measure : goal.returns-then-out-measure
returns-then-out-measure c = record { value = c.refused-then-out-measure.ensures ∙ search flattened_order; out_after = search flattened_order }

pub write_order-requires : goal.write_order-requires
write_order-requires c =
    record { body_len_bound = search rules; body_value = search rules; letters_len_bound = search rules; all_playable = search rules; all_rise = search rules; all_shaped = search flattened_order; letters_bound = search flattened_order; letters_in_bounds = search flattened_order }

pub returns : goal.returns
returns c = record { value = search flattened_order; out_after = search flattened_order }
