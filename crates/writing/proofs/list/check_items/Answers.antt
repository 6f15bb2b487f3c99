-- `check_items` begins with no item.
use Rattle.writing.proofs.Checking.{checked_none}
use borrow.Author.Rules.{rules}
use Rattle.writing.proofs.list.check_items.Goals as goal

pub check_from-requires : goal.check_from-requires
check_from-requires c = search (rules, checked_none)
