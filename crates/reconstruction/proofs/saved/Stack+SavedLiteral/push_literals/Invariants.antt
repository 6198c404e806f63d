use Rattle.std.proofs.Common.{◌≡◌, ◌++◌, take}
use Rattle.reconstruction.specs.Stacks.{items, capacity}
use Rattle.reconstruction.specs.Saves.{numbers}
use Rattle.reconstruction.proofs.saved.Stack+SavedLiteral.push_literals.Given as goal

abbrev pub invariant-loop-literal : goal.invariant-loop-literal
invariant-loop-literal l =
    (numbers (items l.self) ≡ numbers (items l.initial.self) ++ take l.literal-index l.literals) ×
    (capacity l.self ≡ capacity l.initial.self) ×
    (l.self.slots.ghost_name ≡ l.initial.self.slots.ghost_name)
