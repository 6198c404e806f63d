-- Literals and clauses under an assignment.
use Rattle.std.proofs.Common.{◌≡◌, ℕ, ◌||◌, List, [], ◌∷◌, map, ℤ, refl, ap}
use Rattle.std.specs.List.{list_any}
use Rattle.words.specs.Assignments.{holds, met}

-- an assignment meets a clause where it makes one of its literals true
pub met_any : {X : Type 0} (f : X → ℤ) (a : List ℕ) (xs : List X) → list_any (λ x. holds a (f x)) xs ≡ met a (map f xs)
met_any f a [] = refl
met_any f a (x ∷ xs) = ap (λ b. holds a (f x) || b) (met_any f a xs)
