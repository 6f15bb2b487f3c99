use borrow.Author.Rules.{rules}
use Rattle.lines.proofs.Names.{channels}
use Rattle.lines.proofs.line.write_channel.Goals as goal

pub returns-in-Some-clause-value : goal.returns-in-Some-clause-value
returns-in-Some-clause-value c = search (rules, channels)

pub returns-in-Some-clause-out_after : goal.returns-in-Some-clause-out_after
returns-in-Some-clause-out_after c = search (rules, channels)

pub returns-in-None-clause-value : goal.returns-in-None-clause-value
returns-in-None-clause-value c = search (rules, channels)
