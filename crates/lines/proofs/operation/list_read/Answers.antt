use borrow.Author.Rules.{rules}
use Rattle.lines.proofs.Listings.{unread_files}
use Rattle.lines.proofs.operation.list_read.Goals as goal

pub returns-in-Err-clause-out_after : goal.returns-in-Err-clause-out_after
returns-in-Err-clause-out_after c = search (rules, unread_files)
