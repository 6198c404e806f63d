-- The search for the empty clause.
use Rattle.std.proofs.Common.{◌≡◌, Bool, true, false, cond, eqb, List, [], ◌∷◌, length, ℤ, refl, arith}
use Rattle.std.proofs.lemmas.Bool.Decides.{nat_tests}
use Rattle.std.specs.Int.{from_bool}
use Rattle.std.specs.List.{list_any}
use Rattle.words.specs.Clauses.{equal}
use Rattle.words.specs.Standing.{Entry}
use Rattle.rules.specs.Lines.{some_equal}

-- a clause equals the empty one exactly when it has no literal
empty_equal : (c : List ℤ) → eqb (length c) 0 ≡ equal c []
empty_equal [] = refl
empty_equal (z ∷ c) = grind (arith, nat_tests)

pub empty_among : (s : List Entry) → list_any (λ (e : Entry). eqb (length e.lits) 0) s ≡ some_equal [] s
empty_among [] = refl
empty_among (e ∷ s) = let h = empty_equal e.lits in let ih = empty_among s in cc

-- an answer as a number
pub as_number : (b : Bool) → from_bool b ≡ cond b 1 0
as_number true = refl
as_number false = refl
