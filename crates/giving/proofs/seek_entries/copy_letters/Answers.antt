use borrow.Author.Rules.{rules}
use Rattle.giving.proofs.EntriesGiven.{copies}
use Rattle.giving.proofs.seek_entries.copy_letters.Goals as goal

pub loop-i-preserved : goal.loop-i-preserved
loop-i-preserved c = search (rules, copies)
