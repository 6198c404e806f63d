-- When clauses can be met.
use Rattle.std.specs.Prelude.{◌≡◌, ℕ, true, List, ℤ}
use Rattle.words.specs.Assignments.{assignment, all_met}

-- some assignment of n variables meets every clause
abbrev pub Satisfiable : ℕ → List (List ℤ) → Type 0
Satisfiable n cs = (a : List ℕ) × (assignment n a ≡ true) × (all_met a cs ≡ true)

-- both or neither
abbrev pub Iff : Type 0 → Type 0 → Type 0
Iff P Q = (P → Q) × (Q → P)
