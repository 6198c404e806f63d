use Rattle.std.proofs.Common.{◌≡◌, false, length, take}
use Rattle.words.specs.Clauses.{opposed}
use Rattle.words.specs.Marks.{Marked}
use Rattle.loading.proofs.lists.holds_opposite_pair.Given as goal

abbrev pub invariant-loop-x : goal.invariant-loop-x
invariant-loop-x l = Marked 512 l.marks (take l.x-index l.list) × (opposed (take l.x-index l.list) ≡ false) × (length l.marks ≡ 1024)
