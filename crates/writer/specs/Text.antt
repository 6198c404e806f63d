-- A formula as DIMACS CNF text, in bytes. `decimal n` is the decimal digits of n without a leading zero, 0 as one digit;
-- `signed z` is those of a whole number, with a minus before them where it is below 0.
use Rattle.std.specs.Prelude.{ℕ, List, [], ◌∷◌, ◌++◌, length, ℤ, codes, decimal}
use Rattle.std.specs.Fmt.{signed_decimal}
use Rattle.words.specs.Standing.{Entry}

-- a literal, followed by a space
abbrev pub literal_text : ℤ → List ℕ
literal_text z = signed_decimal z ++ (32 ∷ [])

-- literals, each followed by a space
abbrev pub literals_text : List ℤ → List ℕ
literals_text [] = []
literals_text (z ∷ zs) = literal_text z ++ literals_text zs

-- a clause as a line: its literals, then `0` and a line feed
abbrev pub clause_text : List ℤ → List ℕ
clause_text zs = literals_text zs ++ codes "0\n"

-- the clauses, one a line
abbrev pub clauses_text : List Entry → List ℕ
clauses_text [] = []
clauses_text (e ∷ es) = clause_text e.lits ++ clauses_text es

-- the first line: the counts of variables and of clauses
abbrev pub header_text : ℕ → ℕ → List ℕ
header_text v n = codes "p cnf " ++ (decimal v ++ (codes " " ++ (decimal n ++ codes "\n")))

-- the formula of the variables up to v and the standing clauses
abbrev pub formula_text : ℕ → List Entry → List ℕ
formula_text v s = header_text v (length s) ++ clauses_text s
