-- What is known of a list once it is judged, before the database is asked.
use Rattle.std.specs.Prelude.{◌≡◌, ℕ, ◌<◌, true, false, List, [], ℤ, Some, None, Ok, Err, Option, Result}
use Rattle.words.specs.declared.clause.Clause.{Clause}
use Rattle.words.specs.declared.fault.SessionFault.{SessionFault}
use Rattle.words.specs.declared.fault.SessionFault.TheVariants.{Database}
use Rattle.words.specs.declared.limits.Limits.{Limits}
use Rattle.words.specs.Checks.{inside}
use Rattle.words.specs.Clauses.{opposed, gathered, too_many_at}
use Rattle.words.specs.Meanings.{lits_of}
use Rattle.words.specs.Standing.{Entry, put_fault}
use Rattle.rules.specs.Loading.{load_fault, load_entry}

-- the clause of a list, or the position at which it has more than 64 different literals
abbrev pub Gathered : List ℤ → Result Clause ℕ → Type 0
Gathered zs (Ok c) = (too_many_at 64 0 [] zs ≡ None) × (lits_of c ≡ gathered [] zs)
Gathered zs (Err i) = too_many_at 64 0 [] zs ≡ Some i

-- the fault of a list whatever the database is, or nothing to put for one with an opposite pair, or the clause that remains to be put
abbrev pub Judged : ℕ → ℕ → List ℤ → Result (Option Clause) SessionFault → Type 0
Judged n k zs (Err f) = (l : Limits) (s : List Entry) → load_fault n k l s zs ≡ Some f
Judged n k zs (Ok None) = (k < 1024) × (opposed zs ≡ true) × ((l : Limits) (s : List Entry) → load_fault n k l s zs ≡ None)
Judged n k zs (Ok (Some c)) =
    (k < 1024) × (opposed zs ≡ false) × (lits_of c ≡ gathered [] zs) ×
    ((l : Limits) (s : List Entry) → load_fault n k l s zs ≡ inside Database (put_fault l s (load_entry k zs)))
