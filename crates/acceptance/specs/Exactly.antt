-- The definitions that the checker computes, and the relations that say what they should answer, agree.
use Rattle.std.specs.Prelude.{◌≡◌, ℕ, true, ◌⊎◌, List, [], ℤ, None}
use Rattle.words.specs.declared.limits.Limits.{Limits}
use Rattle.words.specs.declared.line.Line.{Line}
use Rattle.words.specs.Assignments.{assignment, all_met}
use Rattle.words.specs.Clauses.{has, resolvent}
use Rattle.words.specs.Standing.{Entry, ordered, clauses}
use Rattle.rules.specs.Satisfying.{Iff}
use Rattle.rules.specs.Restoring.{Saved, Room, restore_fault}
use Rattle.rules.specs.Loading.{load_fault}
use Rattle.rules.specs.Lines.{line_fault}
use Rattle.rules.specs.Runs.{empty_stands}
use Rattle.rules.specs.Obeying.{Stands, InResolvent, Acceptable, Loadable}

-- the literals of a resolvent are those that the rule of resolution names
abbrev pub ResolventsExactly : Type 0
ResolventsExactly = (l : ℤ) (a b : List ℤ) (z : ℤ) → Iff (has z (resolvent l a b) ≡ true) (InResolvent l a b z)

-- a line has no fault exactly when it should be accepted
abbrev pub LinesExactly : Type 0
LinesExactly =
    (n : ℕ) (l : Limits) (room : Room) (given : ℕ) (s : List Entry) (saved : List Saved) (line : Line) → ordered n 64 0 s ≡ true →
    Iff (line_fault l room given s saved line ≡ None) (Acceptable l room given s saved line)

-- a list has no fault exactly when it should be accepted
abbrev pub ListsExactly : Type 0
ListsExactly = (n k : ℕ) (l : Limits) (s : List Entry) (zs : List ℤ) → Iff (load_fault n k l s zs ≡ None) (Loadable n k l s zs)

-- an assignment is restored exactly when it is one of the formula's variables and meets what stands
abbrev pub RestoringExactly : Type 0
RestoringExactly =
    (n : ℕ) (s : List Entry) (a : List ℕ) →
    Iff (restore_fault n s a ≡ None) ((assignment n a ≡ true) × (all_met a (clauses s) ≡ true))

-- 1 is told exactly when the empty clause stands, else 0
abbrev pub EmptyExactly : Type 0
EmptyExactly =
    (n : ℕ) (s : List Entry) → ordered n 64 0 s ≡ true →
    ((empty_stands s ≡ 1) × ((k : ℕ) × Stands s k [])) ⊎ ((empty_stands s ≡ 0) × ((k : ℕ) → Stands s k [] → ⊥))
