-- `order_fault` asks of letters with phrases alone.
use Rattle.model.proofs.Tests.{tests}
use Rattle.entries.specs.Rules.{order_fault}
use Rattle.entries.proofs.rows.order_fault.Goals as goal

pub returns-then-phrases : goal.returns-then-phrases
unfolding order_fault
returns-then-phrases c = search tests

pub returns : goal.returns
unfolding order_fault
returns c = search tests
