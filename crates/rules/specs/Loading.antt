-- Opening a session and loading a list of literals.
use Rattle.std.specs.Prelude.{ℕ, ◌+◌, cond, List, [], ◌∷◌, length, ℤ, Some, None, Option, ◌==◌, nat_le, nat_lt}
use Rattle.words.specs.declared.limits.Limits.{Limits}
use Rattle.words.specs.declared.fault.SessionFault.{SessionFault}
use Rattle.words.specs.declared.fault.SessionFault.TheVariants.{DatabaseNotEmpty, StackNotEmpty, TooManyVariables, LoadedFull, LiteralBeyond, TooManyLiterals, Database}
use Rattle.words.specs.Checks.{check, ◌then◌, inside}
use Rattle.words.specs.Clauses.{opposed, gathered, too_many_at}
use Rattle.words.specs.Literals.{literal_ok}
use Rattle.words.specs.Standing.{Entry, inserted, put_fault}
use Rattle.rules.specs.Restoring.{Saved}

-- why a session for n variables can't be opened on a database and a reconstruction stack
abbrev pub open_fault : ℕ → List Entry → List Saved → Option SessionFault
open_fault n s saved =
    check (length s == 0) DatabaseNotEmpty then
    check (length saved == 0) StackNotEmpty then
    check (nat_le n 512) TooManyVariables

-- the position, counted on from i, of the first number that is no literal of the formula's n variables
abbrev pub beyond_at : ℕ → ℕ → List ℤ → Option ℕ
beyond_at n i [] = None
beyond_at n i (z ∷ zs) = cond (literal_ok n z) (beyond_at n (i + 1) zs) (Some (i + 1))

-- a list as a clause under its number: the lists accepted before have taken the numbers up to k
abbrev pub load_entry : ℕ → List ℤ → Entry
load_entry k zs = record { number = k + 1; lits = gathered [] zs }

-- why a list can't be loaded into a formula of n variables, where k lists were accepted before
abbrev pub load_fault : ℕ → ℕ → Limits → List Entry → List ℤ → Option SessionFault
load_fault n k l s zs =
    check (nat_lt k 1024) LoadedFull then
    inside LiteralBeyond (beyond_at n 0 zs) then
    cond (opposed zs) None
    (inside TooManyLiterals (too_many_at 64 0 [] zs) then
    inside Database (put_fault l s (load_entry k zs)))

-- what stands after an accepted list: one with an opposite pair takes its number and is left off the database
abbrev pub load_adds : ℕ → List Entry → List ℤ → List Entry
load_adds k s zs = cond (opposed zs) s (inserted (load_entry k zs) s)
