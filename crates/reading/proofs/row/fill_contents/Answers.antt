-- `reading::row::fill_contents` meets its contract.
use borrow.Author.Rules.{rules}
use Rattle.reading.proofs.TopRows.{top_rows_lem}
use Rattle.reading.proofs.row.fill_contents.Goals.{in_default-via-in-Ok+in_default, in_default-via-in_default}
use Rattle.reading.proofs.row.fill_contents.Goals as goal

pub returns-in_default-clause-value : goal.returns-in_default-clause-value
returns-in_default-clause-value c = elim c.in_default.branch [ in_default-via-in-Ok+in_default w ↦ search top_rows_lem | in_default-via-in_default w ↦ search top_rows_lem ]

pub returns-in_default-clause-rows_after : goal.returns-in_default-clause-rows_after
returns-in_default-clause-rows_after c = elim c.in_default.branch [ in_default-via-in-Ok+in_default w ↦ search top_rows_lem | in_default-via-in_default w ↦ search top_rows_lem ]

pub fill_parts-requires-clause-start_le_end : goal.fill_parts-requires-clause-start_le_end
fill_parts-requires-clause-start_le_end c = search (rules, top_rows_lem)

pub fill_parts-requires-clause-end_value : goal.fill_parts-requires-clause-end_value
fill_parts-requires-clause-end_value c = search (rules, top_rows_lem)

pub fill_parts-requires-clause-end_in_bounds : goal.fill_parts-requires-clause-end_in_bounds
fill_parts-requires-clause-end_in_bounds c = search (rules, top_rows_lem)

pub returns-clause-value : goal.returns-clause-value
returns-clause-value c = search (rules, top_rows_lem)

pub returns-clause-rows_after : goal.returns-clause-rows_after
returns-clause-rows_after c = search (rules, top_rows_lem)
