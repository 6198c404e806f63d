use Rattle.std.proofs.Common.{◌≤◌, length, sym, rules, arith}
use Rattle.std.proofs.lemmas.Nat.{or_lt}
use Rattle.std.proofs.lemmas.Bool.Decides.{nat_tests}
use Rattle.bitmask.specs.Masks.{decoded}
use Rattle.bitmask.proofs.Decoding.{canonical_decoded, length_decoded}
use Rattle.bitmask.proofs.slot.Slot.width.Goals as goal

pub returns : goal.returns
returns c =
    let s = c.args.self.now in
    let w = length_decoded s.plus s.minus (or_lt 64 s.plus s.minus (search rules) (search rules)) in
    let k = canonical_decoded s.plus s.minus in
    let l : length (decoded s.plus s.minus) ≤ 64 = grind (arith, nat_tests) in
    record { width = sym w; few = omega arith }
