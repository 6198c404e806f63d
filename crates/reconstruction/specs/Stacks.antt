-- Stacks over memory handed in, and the weight of what they hold.
use Rattle.std.specs.Prelude.{ℕ, ◌+◌, min, List, [], ◌∷◌, length, take}
use Rattle.reconstruction.specs.declared.stack.Stack.{Stack}

-- how many entries a stack can hold: as many as its memory does, up to a stated number
abbrev pub capacity : {X : Type 0} → Stack X → ℕ
capacity s = min (length s.slots.now) s.most

-- the entries of a stack, the first pushed first: the used slots
abbrev pub items : {X : Type 0} → Stack X → List X
items s = take s.used s.slots.now

-- what the elements of a list weigh together
abbrev pub total : {X : Type 0} → (X → ℕ) → List X → ℕ
total w [] = 0
total w (x ∷ xs) = w x + total w xs
