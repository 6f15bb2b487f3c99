-- `write_decimal` calls itself with the tenth part.
use Rattle.lines.proofs.number.+write_decimal.Given as goal

abbrev pub decreases-write_decimal : goal.decreases-write_decimal
decreases-write_decimal l = l.number
