-- A stack holds no more than it can.
use Rattle.std.proofs.Common.{◌≤◌, length, arith}
use Rattle.std.proofs.lemmas.List.{length-take}
use Rattle.reconstruction.specs.declared.stack.Stack.{Stack}
use Rattle.reconstruction.specs.Stacks.{items, capacity}

pub items_fit : {X : Type 0} (s : Stack X) → length (items s) ≤ capacity s
items_fit s = let t = length-take s.used s.slots.now in let f = s.fits in omega arith
