-- Examples of whole texts, read onto an empty database of the largest limits.
use Rattle.std.proofs.Common.{◌≡◌, ℕ, List, [], ◌∷◌, pos, negsuc, Some, None, codes, refl}
use Rattle.words.specs.declared.fault.FileFault.{FileFault}
use Rattle.words.specs.declared.fault.FileFault.TheVariants.{HeaderMalformed, HeaderBeyond, NotANumber, ClauseCount, Session}
use Rattle.words.specs.declared.fault.SessionFault.TheVariants.{LiteralBeyond}
use Rattle.words.specs.declared.limits.Limits.{Limits}
use Rattle.words.specs.Standing.{Entry}
use Rattle.reader.specs.Headers.{announced_clauses}
use Rattle.reader.specs.Formulas.{Outcome, located, read_text}

abbrev largest : Limits
largest = record { variables = 512; width = 64; clauses = 1024; literals = 16384 }

abbrev reads : List ℕ → Outcome
reads text = read_text largest [] [] text

-- a text that is refused with a fault at a line
abbrev Refused : List ℕ → ℕ → FileFault → Type 0
Refused text l f = (reads text).fault ≡ Some (located l f)

-- a text that is read, with how many lists were accepted and what stands then
abbrev Read : List ℕ → ℕ → List Entry → Type 0
Read text k es = ((reads text).fault ≡ None) × ((reads text).accepted ≡ k) × ((reads text).entries ≡ es)

-- the header
empty_text : Refused [] 1 HeaderMalformed
empty_text = refl

only_comment : Refused (codes "c x\n") 1 HeaderMalformed
only_comment = refl

empty_line : Refused (codes "c x\n\n") 2 HeaderMalformed
empty_line = refl

no_line_feed : Refused (codes "p cnf 1 1") 1 HeaderMalformed
no_line_feed = refl

space_at_end : Refused (codes "p cnf 1 1 \n1 0\n") 1 HeaderMalformed
space_at_end = refl

malformed_first : Refused (codes "p cnf 513 01\n") 1 HeaderMalformed
malformed_first = refl

eight_digits : Refused (codes "p cnf 10000000 1\n") 1 HeaderMalformed
eight_digits = refl

too_many_variables : Refused (codes "c\np cnf 513 1\n") 2 HeaderBeyond
too_many_variables = refl

-- the words
no_number : Refused (codes "p cnf 2 1\n1 x 0\n") 2 NotANumber
no_number = refl

variable_beyond : Refused (codes "p cnf 2 1\n1\n-3 0\n") 3 (Session (LiteralBeyond 2))
variable_beyond = refl

late_comment : Refused (codes "p cnf 2 2\n1 0\nc x\n") 3 NotANumber
late_comment = refl

word_too_many : Refused (codes "p cnf 2 1\n1 0\nc x\n") 3 ClauseCount
word_too_many = refl

zero_too_many : Refused (codes "p cnf 2 1\n1 0 0\n") 2 ClauseCount
zero_too_many = refl

zero_missing : Refused (codes "p cnf 2 1\n1 2\n\n") 3 ClauseCount
zero_missing = refl

clause_missing : Refused (codes "p cnf 2 2\n1 0\n") 2 ClauseCount
clause_missing = refl

-- formulas
no_clauses : Read (codes "p cnf 0 0\n") 0 []
no_clauses = (refl, refl, refl)

empty_clause : Read (codes "p cnf 0 1\n0") 1 (record { number = 1; lits = [] } ∷ [])
empty_clause = (refl, refl, refl)

opposite_pair : Read (codes "p cnf 1 1\n1 1 -1 0") 1 []
opposite_pair = (refl, refl, refl)

sorted_once : Read (codes "p cnf 3 1\n3\n1 3 -2\n0") 1 (record { number = 1; lits = pos 1 ∷ negsuc 1 ∷ pos 3 ∷ [] } ∷ [])
sorted_once = (refl, refl, refl)

-- the count of clauses that a header announces
announced_behind_comment : announced_clauses (codes "c x\np cnf 3 7\n1 0\n") ≡ Some 7
announced_behind_comment = refl

announced_beyond : announced_clauses (codes "p cnf 513 2000\n") ≡ Some 2000
announced_beyond = refl

not_announced : announced_clauses (codes "p cnf 3 7") ≡ None
not_announced = refl
