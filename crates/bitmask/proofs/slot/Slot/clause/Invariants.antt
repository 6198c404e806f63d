use Rattle.std.proofs.Common.{◌≡◌, ◌-◌, ◌≤◌, ◌++◌, length, take}
use Rattle.bitmask.specs.Masks.{decoded_from, decoded}
use Rattle.bitmask.proofs.slot.Slot.clause.Given as goal

-- what is read and what is left to read make the clause
abbrev pub invariant-loop-place : goal.invariant-loop-place
invariant-loop-place l =
    (take l.len l.lits ++ decoded_from l.self.plus l.self.minus l.place (64 - l.place) ≡ decoded l.self.plus l.self.minus)
    × (l.len ≤ l.place)
    × (length l.lits ≡ 64)
