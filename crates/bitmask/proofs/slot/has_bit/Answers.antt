use Rattle.std.proofs.Common.{eqb, ap}
use Rattle.bitmask.proofs.Bits.{low_bit}
use Rattle.bitmask.proofs.slot.has_bit.Goals as goal

pub returns : goal.returns
returns c = ap (λ x. eqb x 1) (low_bit _)
