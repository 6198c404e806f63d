-- The theorems that the rules rest on, in the terms of propositional logic: nothing here is a step of the checker.
use Rattle.std.specs.Prelude.{◌≡◌, ℕ, ◌≤◌, true, ◌⊎◌, List, ℤ, neg_ℤ, unsigned_abs}
use mathlib.Core.List.{Memᴰ}
use Rattle.std.specs.List.{AllByRecursion}
use Rattle.words.specs.Clauses.{resolvent}
use Rattle.words.specs.Assignments.{assignment, met, all_met}
use Rattle.words.specs.Standing.{Entry, clauses, ordered}
use Rattle.rules.specs.Satisfying.{Satisfiable, Iff}
use Rattle.rules.specs.Restoring.{Saved, repaired, restored}
use Rattle.rules.specs.Lines.{eliminated, free_of}
use Rattle.rules.specs.Obeying.{In, Stands, Tautological, IsResolvent}

-- an assignment meets a clause
abbrev pub Meets : List ℕ → List ℤ → Type 0
Meets a c = met a c ≡ true

-- a model of standing clauses: an assignment of n variables that meets each of them
abbrev pub Model : ℕ → List Entry → List ℕ → Type 0
Model n s a = (assignment n a ≡ true) × (all_met a (clauses s) ≡ true)

-- ── Resolution and subsumption ──

-- a resolvent is met wherever its parents are
abbrev pub ResolventsFollow : Type 0
ResolventsFollow = (a : List ℕ) (l : ℤ) (c d : List ℤ) → 1 ≤ unsigned_abs l → Meets a c → Meets a d → Meets a (resolvent l c d)

-- a clause is met wherever one that subsumes it is
abbrev pub SubsumedFollow : Type 0
SubsumedFollow = (a : List ℕ) (c d : List ℤ) → ((z : ℤ) → In z d → In z c) → Meets a d → Meets a c

-- ── Blocked clauses ──

-- a clause is blocked on l among standing clauses: it holds l, and its resolvents on l are all tautological
abbrev pub IsBlocked : List Entry → ℤ → List ℤ → Type 0
IsBlocked s l c = In l c × ((k : ℕ) (d : List ℤ) → Stands s k d → In (neg_ℤ l) d → Tautological l c d)

-- the repair of a blocked clause by its pivot meets it, and keeps every standing clause met that was
abbrev pub BlockedRepairs : Type 0
BlockedRepairs =
    (n w : ℕ) (s : List Entry) → ordered n w 0 s ≡ true → (k : ℕ) (l : ℤ) (c : List ℤ) → Stands s k c → IsBlocked s l c →
    (a : List ℕ) → assignment n a ≡ true →
    (assignment n (repaired (record { pivot = l; lits = c }) a) ≡ true) × Meets (repaired (record { pivot = l; lits = c }) a) c ×
    ((j : ℕ) (d : List ℤ) → Stands s j d → Meets a d → Meets (repaired (record { pivot = l; lits = c }) a) d)

-- ── Eliminated variables ──

-- every resolvent on z of two standing clauses is tautological or stands
abbrev pub IsCovered : List Entry → ℤ → Type 0
IsCovered s z =
    (i j : ℕ) (c d : List ℤ) → Stands s i c → In z c → Stands s j d → In (neg_ℤ z) d →
    Tautological z c d ⊎ ((k : ℕ) × (r : List ℤ) × Stands s k r × IsResolvent z c d r)

-- a saved clause is a standing clause of the variable of z, with the literal of that variable that it holds as its pivot
abbrev pub SavedOf : List Entry → ℤ → Saved → Type 0
SavedOf s z e = In e.pivot e.lits × (unsigned_abs e.pivot ≡ unsigned_abs z) × ((k : ℕ) × Stands s k e.lits)

-- saved clauses are those of the variable of z, in whatever order
abbrev pub SavesVariable : List Entry → ℤ → List Saved → Type 0
SavesVariable s z es =
    AllByRecursion (SavedOf s z) es ×
    ((k : ℕ) (c : List ℤ) → Stands s k c → In z c ⊎ In (neg_ℤ z) c → (p : ℤ) × Memᴰ (record { pivot = p; lits = c }) es)

-- without the clauses of a covered variable, what stands can be met exactly when it could be with them
abbrev pub EliminationKeeps : Type 0
EliminationKeeps =
    (n w : ℕ) (s : List Entry) (z : ℤ) → ordered n w 0 s ≡ true → 1 ≤ unsigned_abs z → IsCovered s z →
    Iff (Satisfiable n (clauses (free_of z s))) (Satisfiable n (clauses s))

-- going through the saved clauses of a covered variable, whatever their order, turns a model of the others into one of all;
-- what an elimination saves are the clauses of its variable
abbrev pub EliminationRestores : Type 0
EliminationRestores =
    (n w : ℕ) (s : List Entry) (z : ℤ) → ordered n w 0 s ≡ true → 1 ≤ unsigned_abs z → IsCovered s z →
    SavesVariable s z (eliminated z s) ×
    ((es : List Saved) → SavesVariable s z es → (a : List ℕ) → Model n (free_of z s) a → Model n s (restored es a))
