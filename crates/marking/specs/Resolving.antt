-- The literals of a clause but one, put into another clause one after another; the resolvent of two clauses as a clause.
use Rattle.std.specs.Prelude.{◌≡◌, ◌<◌, cond, List, [], ◌∷◌, length, ℤ, Some, None, Option, nat_le}
use Rattle.words.specs.declared.clause.Clause.{Clause}
use Rattle.words.specs.Literals.{same}
use Rattle.words.specs.Clauses.{insert, opposed, resolvent}
use Rattle.words.specs.Meanings.{lits_of}
use Rattle.acceptance.proofs.Sets.{Plain}

-- the literals of a list but e, put into those before
abbrev pub added : ℤ → List ℤ → List ℤ → List ℤ
added e before [] = before
added e before (x ∷ xs) = cond (same x e) (added e before xs) (added e (insert x before) xs)

-- a clause that has them all; or none, where they hold an opposite pair or are more than 64
abbrev pub Adds : Option Clause → List ℤ → Type 0
Adds (Some c) sum = lits_of c ≡ sum
Adds None sum = Plain sum → 64 < length sum

-- the resolvent of a and b on l; none where it holds an opposite pair or has more than 64 literals
abbrev pub clause_resolvent : ℤ → List ℤ → List ℤ → Option (List ℤ)
clause_resolvent l a b = cond (opposed (resolvent l a b)) None (cond (nat_le (length (resolvent l a b)) 64) (Some (resolvent l a b)) None)
