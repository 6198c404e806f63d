-- Reading a formula back that was written.
use Rattle.std.specs.Prelude.{◌≡◌, ℕ, ◌+◌, ◌≤◌, Bool, true, ◌&&◌, List, [], ◌∷◌, length, None, nat_le}
use Rattle.words.specs.declared.limits.Limits.{Limits}
use Rattle.words.specs.Clauses.{within}
use Rattle.words.specs.Standing.{Entry, Lawful, ordered, literals, clauses}
use Rattle.writer.specs.Text.{formula_text}
use Rattle.writer.specs.Writing.{write_fault}
use Rattle.reader.specs.Formulas.{read_text}

-- the same clauses in the same order, under the numbers that follow k
abbrev pub numbered_from : ℕ → List Entry → List Entry
numbered_from k [] = []
numbered_from k (e ∷ es) = record { number = k + 1; lits = e.lits } ∷ numbered_from (k + 1) es

-- whether no clause has a variable beyond V or is wider than W
abbrev pub each_fits : Limits → List Entry → Bool
each_fits l [] = true
each_fits l (e ∷ es) = within l.variables e.lits && (nat_le (length e.lits) l.width && each_fits l es)

-- an empty database of these limits has the space for the clauses: besides, they are at most M, and their literals at most L
pub record SpaceFor (l : Limits) (s : List Entry) : Type 0 where
  pub clauses_fit : each_fits l s ≡ true
  pub few_clauses : length s ≤ l.clauses
  pub few_literals : literals s ≤ l.literals

-- a formula of v variables whose clauses are in canonical form, and which can be written (into a buffer of some length)
pub record Writable (v : ℕ) (s : List Entry) : Type 0 where
  pub few_variables : v ≤ 512
  pub in_order : ordered v 64 0 s ≡ true
  pub buffer_length : ℕ
  pub written : write_fault v s buffer_length ≡ None

-- the text of a formula, read into an empty database that has the space, is accepted, and gives the formula's variables and
-- the same clauses in the same order, numbered from 1
abbrev pub ReadsBack : Type 0
ReadsBack =
    (l : Limits) (v : ℕ) (s : List Entry) → Writable v s → SpaceFor l s →
    read_text l [] [] (formula_text v s) ≡ record { fault = None; variables = v; accepted = length s; entries = numbered_from 0 s }

-- a database has the space for the clauses that stand in it
abbrev pub HoldsWhatStood : Type 0
HoldsWhatStood = (l : Limits) (s : List Entry) → Lawful l s → SpaceFor l s

-- what was read back has the same text
abbrev pub WritesTheSame : Type 0
WritesTheSame = (v : ℕ) (s : List Entry) → formula_text v (numbered_from 0 s) ≡ formula_text v s

-- formulas that have one text have the same variables, and the same clauses in the same order
abbrev pub TextsTell : Type 0
TextsTell =
    (u v : ℕ) (s t : List Entry) → Writable u s → Writable v t → formula_text u s ≡ formula_text v t →
    (u ≡ v) × (clauses s ≡ clauses t)
