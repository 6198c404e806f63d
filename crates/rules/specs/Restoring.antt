-- The reconstruction stack (the customers' roll): saved clauses with their pivots, the first saved first; and restoring.
use Rattle.std.specs.Prelude.{ℕ, ◌+◌, cond, List, [], ◌∷◌, length, ℤ, Some, None, Option, ◌==◌, nat_le}
use Rattle.words.specs.declared.fault.StackFault.{StackFault}
use Rattle.words.specs.declared.fault.StackFault.TheVariants.{EntriesFull, LiteralsFull}
use Rattle.words.specs.declared.fault.SessionFault.{SessionFault}
use Rattle.words.specs.declared.fault.SessionFault.TheVariants.{AssignmentLength, AssignmentByte, Unmet}
use Rattle.words.specs.Assignments.{met, made_true}
use Rattle.words.specs.Checks.{check, ◌then◌, inside}
use Rattle.words.specs.Standing.{Entry}

-- a saved clause with its pivot
pub record Saved : Type 0 where
  pub pivot : ℤ
  pub lits : List ℤ

-- the most entries and the most literals that a reconstruction stack holds
pub record Room : Type 0 where
  pub entries : ℕ
  pub literals : ℕ

-- how many literals saved clauses have together
abbrev pub saved_literals : List Saved → ℕ
saved_literals [] = 0
saved_literals (e ∷ es) = length e.lits + saved_literals es

-- why clauses can't be saved: the entries do not fit, the literals do not fit, counted for all of them together
abbrev pub save_fault : Room → List Saved → List Saved → Option StackFault
save_fault room saved new =
    check (nat_le (length saved + length new) room.entries) EntriesFull then
    check (nat_le (saved_literals saved + saved_literals new) room.literals) LiteralsFull

-- one saved clause gone through: where it is not met, its pivot is made true
abbrev pub repaired : Saved → List ℕ → List ℕ
repaired e a = cond (met a e.lits) a (made_true e.pivot a)

-- restoring goes from the last saved clause to the first
abbrev pub restored : List Saved → List ℕ → List ℕ
restored [] a = a
restored (e ∷ es) a = repaired e (restored es a)

-- the position, counted on from i, of the first byte above 1
abbrev pub bad_byte : ℕ → List ℕ → Option ℕ
bad_byte i [] = None
bad_byte i (b ∷ bs) = cond (nat_le b 1) (bad_byte (i + 1) bs) (Some (i + 1))

-- the lowest number of a standing clause that is not met
abbrev pub first_unmet : List ℕ → List Entry → Option ℕ
first_unmet a [] = None
first_unmet a (e ∷ es) = cond (met a e.lits) (first_unmet a es) (Some e.number)

-- why an assignment of a formula of n variables can't be restored
abbrev pub restore_fault : ℕ → List Entry → List ℕ → Option SessionFault
restore_fault n s a =
    check (length a == n) (AssignmentLength (length a)) then
    inside AssignmentByte (bad_byte 0 a) then
    inside Unmet (first_unmet a s)
