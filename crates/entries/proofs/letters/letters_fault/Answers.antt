-- `letters_fault` answers for the letters of the order list.
use Rattle.model.proofs.Tests.{tests}
use Rattle.entries.specs.Rules.{letters_fault}
use Rattle.entries.proofs.letters.letters_fault.Goals as goal

pub returns-then-letters_named : goal.returns-then-letters_named
unfolding letters_fault
returns-then-letters_named c = search tests depth 9 fits 20000

pub returns-then-ordered : goal.returns-then-ordered
unfolding letters_fault
returns-then-ordered c = search tests depth 9 fits 20000

pub returns : goal.returns
unfolding letters_fault
returns c = search tests depth 9 fits 20000
