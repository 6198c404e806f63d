use Rattle.std.proofs.Common.{◌≡◌, ◌+◌, ◌≤◌, ◌++◌, take, drop}
use Rattle.arena.specs.Layout.{total, repacked}
use Rattle.arena.proofs.packing.repack.Given as goal

-- those so far are written, and those to come still fit
abbrev pub invariant-loop-record : goal.invariant-loop-record
invariant-loop-record l =
    (take l.record-index l.record-items ++ repacked l.at (drop l.record-index l.record-items) ≡ repacked l.initial.at l.initial.record-items)
    × (l.at + total (drop l.record-index l.record-items) ≤ 16384)
