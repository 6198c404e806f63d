-- Signatures of clauses, and a table of them.
use Rattle.std.specs.Prelude.{ℕ, ◌+◌, ◌*◌, ◌%◌, ◌^◌, Bool, false, List, [], ◌∷◌, ℤ, Some, None, Option}
use Rattle.words.specs.Clauses.{equal}
use Rattle.words.specs.Marks.{mark_place}
use Rattle.words.specs.Standing.{Entry}
use Rattle.elimination.specs.declared.signatures.SignedNumber.{SignedNumber}

-- the signature of a list of literals: a sum in which each literal counts by its mark's place, on from h
abbrev pub signature_from : ℕ → List ℤ → ℕ
signature_from h [] = h
signature_from h (x ∷ xs) = signature_from ((h * 1000003 % 2 ^ 64 + mark_place 512 x) % 2 ^ 64) xs

-- the number of an entry with its signature
abbrev pub signed_of : Entry → SignedNumber
signed_of e = record { number = e.number; signature = signature_from 1 e.lits }

-- whether there is a clause and it is equal to c
abbrev pub equal_to : List ℤ → Option (List ℤ) → Bool
equal_to c None = false
equal_to c (Some d) = equal d c
