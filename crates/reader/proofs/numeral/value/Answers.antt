use Rattle.std.proofs.Common.{arith}
use Rattle.reader.proofs.Digits.{power_seven}
use Rattle.reader.proofs.numeral.value.Goals as goal

pub overflow_mul-total : goal.overflow_mul-total
overflow_mul-total c = let p = power_seven c.loop-digit.digit-index (omega arith) in omega arith

pub overflow_add-total : goal.overflow_add-total
overflow_add-total c = let p = power_seven c.loop-digit.digit-index (omega arith) in omega arith

pub returns-clause-small : goal.returns-clause-small
returns-clause-small c = let p = power_seven c.loop-digit.digit-index (omega arith) in omega arith
