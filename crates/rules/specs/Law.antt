-- The law of histories: what holds of every run after every call, whatever the limits of database and reconstruction stack.
use Rattle.std.specs.Prelude.{◌≡◌, ℕ, ◌-◌, ◌≤◌, true, ◌⊎◌, List, [], length, None, ◌≢◌, slice_index}
use mathlib.Core.List.{Memᴰ}
use Rattle.words.specs.declared.limits.Limits.{Limits}
use Rattle.words.specs.Assignments.{assignment, all_met}
use Rattle.words.specs.Standing.{clauses, ordered}
use Rattle.rules.specs.Satisfying.{Satisfiable, Iff}
use Rattle.rules.specs.Restoring.{Room, restored}
use Rattle.rules.specs.Histories.{load, seal, submit, finish, restore, write, History, opened, after, variables_of, loaded, standing_by, saved_by, given_by, accepted_by, pivots_by}
use Rattle.rules.specs.Runs.{Run}
use Rattle.rules.specs.Obeying.{Stands, Loadable, Acceptable}

-- an assignment that meets what stands
abbrev pub MeetsStanding : History → List ℕ → Type 0
MeetsStanding h a = (assignment (variables_of h) a ≡ true) × (all_met a (clauses (standing_by h)) ≡ true)

-- b is a full assignment that meets everything loaded, and differs from a in pivot variables of accepted B and E lines only
abbrev pub Restores : History → List ℕ → List ℕ → Type 0
Restores h a b =
    (assignment (variables_of h) b ≡ true) × (all_met b (loaded h) ≡ true) ×
    ((v : ℕ) → 1 ≤ v → (slice_index b (v - 1) ≢ slice_index a (v - 1)) → Memᴰ v (pivots_by h))

-- the last call was answered as it should be
abbrev pub Fair : Limits → Room → History → Type 0
Fair l room (opened n) = Unit {0}
Fair l room (after h (load zs f)) = Iff (f ≡ None) (Loadable (variables_of h) (length (loaded h)) l (standing_by h) zs)
Fair l room (after h seal) = Unit {0}
Fair l room (after h (submit line f)) = Iff (f ≡ None) (Acceptable l room (given_by h) (standing_by h) (saved_by h) line)
Fair l room (after h (finish a b c)) = (a ≡ accepted_by h) × (b ≡ length (standing_by h)) × (((c ≡ 1) × ((k : ℕ) × Stands (standing_by h) k [])) ⊎ ((c ≡ 0) × ((k : ℕ) → Stands (standing_by h) k [] → ⊥)))
Fair l room (after h (restore a b f)) = Iff (f ≡ None) (MeetsStanding h a) × (f ≡ None → Restores h a b) × ((f ≢ None) → b ≡ a)
Fair l room (after h (write f)) = Unit {0}

pub record Law (l : Limits) (room : Room) (h : History) : Type 0 where
  -- each standing clause is a clause under a number of its own
  pub numbered : ordered (variables_of h) 64 0 (standing_by h) ≡ true
  -- what stands can be met exactly when what was loaded can be
  pub satisfiable : Iff (Satisfiable (variables_of h) (clauses (standing_by h))) (Satisfiable (variables_of h) (loaded h))
  -- restoring turns every assignment that meets what stands into one that meets what was loaded
  pub restoring : (a : List ℕ) → MeetsStanding h a → Restores h a (restored (saved_by h) a)
  -- the last call was answered as it should be
  pub fair : Fair l room h

-- the law, of every run; since what comes before a call of a run is a run too, it holds after every call
abbrev pub LawOfHistories : Type 0
LawOfHistories = (l : Limits) (room : Room) (h : History) → Run l room h → Law l room h
