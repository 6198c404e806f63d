-- A formula that has what the theorems ask for.
use Rattle.std.proofs.Common.{◌≡◌, List, [], ◌∷◌, pos, negsuc, refl, arith}
use Rattle.std.specs.Fmt.{digits}
use Rattle.words.specs.Standing.{Entry}
use Rattle.roundtrip.specs.ReadsBack.{numbered_from, SpaceFor, Writable}

-- 1 or not 2 under the number 3, and the empty clause under 7
abbrev example : List Entry
example = record { number = 3; lits = pos 1 ∷ negsuc 1 ∷ [] } ∷ record { number = 7; lits = [] } ∷ []

can_be_written : Writable 2 example
unfolding digits
can_be_written = record { few_variables = omega arith; in_order = refl; buffer_length = 100; written = refl }

-- a database that it just fills
has_space : SpaceFor (record { variables = 2; width = 2; clauses = 2; literals = 2 }) example
has_space = record { clauses_fit = refl; few_clauses = omega arith; few_literals = omega arith }

numbered_anew : numbered_from 0 example ≡ record { number = 1; lits = pos 1 ∷ negsuc 1 ∷ [] } ∷ record { number = 2; lits = [] } ∷ []
numbered_anew = refl
