use Rattle.giving.proofs.ItemsGiven.{tracks_given}
use Rattle.giving.proofs.operation.items_of.Goals as goal

pub give_items-requires-clause-inside : goal.give_items-requires-clause-inside
give_items-requires-clause-inside c = search (tracks_given, c.in_ok-bodies.was)

pub returns-clause-table_after : goal.returns-clause-table_after
returns-clause-table_after c = search (tracks_given, c.in_ok-bodies.was)
