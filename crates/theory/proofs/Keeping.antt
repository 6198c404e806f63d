-- Runs keep the law: by induction over the calls.
use Rattle.std.proofs.Common.{◌≡◌, ℕ, ◌-◌, true, ◌⊎◌, List, [], ◌∷◌, ◌++◌, length, get_or, ℤ, Some, None, Option, sym, refl, ap, ◌∙◌, subst, inl, inr, ⊎_elim, arith}
use mathlib.Core.List.Memᴰ
use Rattle.std.proofs.lemmas.Bool.{cases_eq, and_from, and_parts}
use Rattle.words.specs.declared.limits.Limits.{Limits}
use Rattle.words.specs.declared.line.Line.{Line}
use Rattle.words.specs.declared.fault.SessionFault.{SessionFault}
use Rattle.words.specs.Assignments.{met, all_met}
use Rattle.words.specs.Checks.{unless}
use Rattle.words.specs.Standing.{ordered, clauses}
use Rattle.rules.specs.Restoring.{Saved, Room, restored}
use Rattle.rules.specs.Lines.{line_leaves, line_saves}
use Rattle.rules.specs.Histories.{load, seal, submit, finish, restore, write, History, opened, after, Phase, loading, checking, finished, phase, variables_of, loaded, standing_by, saved_by, given_by, pivots_by, line_pivots}
use Rattle.rules.specs.Runs.{Run, empty_stands}
use Rattle.rules.specs.Obeying.{Stands}
use Rattle.rules.specs.Law.{MeetsStanding, Restores, Fair, LawOfHistories}
use Rattle.theory.proofs.Steps.{Step, Adds, ChangesOnly, list_adds, line_step}
use Rattle.acceptance.proofs.Pairs.{option_cases}
use Rattle.acceptance.proofs.Loaded.{lists_exactly, restoring_exactly}
use Rattle.acceptance.proofs.Judged.{lines_exactly, empty_exactly}

-- what every run keeps
record Kept (h : History) : Type 0 where
  numbered : ordered (variables_of h) 64 0 (standing_by h) ≡ true
  -- what meets everything loaded meets what stands
  follows : (a : List ℕ) → all_met a (loaded h) ≡ true → all_met a (clauses (standing_by h)) ≡ true
  restores : (a : List ℕ) → MeetsStanding h a → Restores h a (restored (saved_by h) a)
  -- nothing is saved while lists are loaded
  unsaved : phase h ≡ loading → saved_by h ≡ []

-- going through two rows of saved clauses
restored_append : (xs ys : List Saved) (a : List ℕ) → restored (xs ++ ys) a ≡ restored xs (restored ys a)
restored_append [] ys a = refl
restored_append (x ∷ xs) ys a = ap (λ b. restored (x ∷ []) b) (restored_append xs ys a)

-- a session that is checking or finished is not loading
not_loading : (p : Phase) → (p ≡ checking) ⊎ (p ≡ finished) → p ≡ loading → ⊥
not_loading p (inl c) l = let z : ◌≡◌ {A = ℕ} 0 1 = cc in omega arith
not_loading p (inr c) l = let z : ◌≡◌ {A = ℕ} 0 1 = cc in omega arith

-- an accepted list
kept_list : (h : History) (zs : List ℤ) → Kept h → phase h ≡ loading → Adds (variables_of h) (standing_by h) (standing_by (after h (load zs None))) zs → Kept (after h (load zs None))
kept_list h zs kept is_loading adds =
    let none = kept.unsaved is_loading in
    record {
      numbered = adds.numbered;
      follows = λ a m. let parts = and_parts (met a zs) (all_met a (loaded h)) m in adds.follows a parts.0 (kept.follows a parts.1);
      restores = λ a model.
          let back = kept.restores a (model.0, adds.before a model) in
          let earlier : all_met a (loaded h) ≡ true = subst (λ x. all_met (restored x a) (loaded h) ≡ true) none back.1 in
          subst (λ x. Restores (after h (load zs None)) a (restored x a)) (sym none) (model.0, and_from _ _ (adds.list a model) earlier, λ v p d. absurd (d refl));
      unsaved = λ _. none;
    }

-- an accepted line
kept_line : (h : History) (line : Line) → Kept h → phase h ≡ checking →
    Step (variables_of h) (standing_by h) (line_leaves (standing_by h) line) (line_saves (standing_by h) line) (line_pivots line) → Kept (after h (submit line None))
kept_line h line kept is-checking step =
    record {
      numbered = step.numbered;
      follows = λ a m. step.follows a (kept.follows a m);
      restores = λ a model.
          let mid = restored (line_saves (standing_by h) line) a in
          let back = kept.restores mid (step.restores a model) in
          let changes : ChangesOnly (pivots_by h ++ line_pivots line) a (restored (saved_by h) mid) = λ v p d.
          ⊎_elim
          (λ (q : get_or mid (v - 1) 0 ≡ get_or a (v - 1) 0). Memᴰ.append_left (line_pivots line) (back.2 v p (λ e. d (e ∙ q))))
          (λ (q : get_or mid (v - 1) 0 ≡ get_or a (v - 1) 0 → ⊥). Memᴰ.append_right (pivots_by h) (step.changes a v p q))
          (cases_eq (get_or mid (v - 1) 0) (get_or a (v - 1) 0)) in
          subst (Restores (after h (submit line None)) a) (sym (restored_append (saved_by h) (line_saves (standing_by h) line) a)) (back.0, back.1, changes);
      unsaved = λ is_loading. absurd (not_loading (phase h) (inl is-checking) is_loading);
    }

-- every run, call by call
kept : (l : Limits) (room : Room) (h : History) → Run l room h → Kept h
kept l room (opened n) run = record { numbered = refl; follows = λ a m. refl; restores = λ a model. (model.0, refl, λ v p d. absurd (d refl)); unsaved = λ _. refl }
kept l room (after h (load zs None)) run =
    let before = kept l room h run.0 in
    kept_list h zs before run.1.0
    (list_adds (variables_of h) (length (loaded h)) l (standing_by h) zs before.numbered ((lists_exactly (variables_of h) (length (loaded h)) l (standing_by h) zs).0 (sym run.1.1)))
kept l room (after h (load zs (Some f))) run =
    let before = kept l room h run.0 in
    record { numbered = before.numbered; follows = before.follows; restores = before.restores; unsaved = before.unsaved }
kept l room (after h seal) run =
    let before = kept l room h run.0 in
    record { numbered = before.numbered; follows = before.follows; restores = before.restores; unsaved = λ q. absurd (not_loading checking (inl refl) q) }
kept l room (after h (submit line None)) run =
    let before = kept l room h run.0 in
    kept_line h line before run.1.0
    (line_step (variables_of h) l room (given_by h) (standing_by h) (saved_by h) line before.numbered
    ((lines_exactly (variables_of h) l room (given_by h) (standing_by h) (saved_by h) line before.numbered).0 (sym run.1.1)))
kept l room (after h (submit line (Some f))) run =
    let before = kept l room h run.0 in
    record { numbered = before.numbered; follows = before.follows; restores = before.restores; unsaved = before.unsaved }
kept l room (after h (finish a b c)) run =
    let before = kept l room h run.0 in
    record { numbered = before.numbered; follows = before.follows; restores = before.restores; unsaved = λ q. absurd (not_loading finished (inr refl) q) }
kept l room (after h (restore a b f)) run =
    let before = kept l room h run.0 in
    record { numbered = before.numbered; follows = before.follows; restores = before.restores; unsaved = before.unsaved }
kept l room (after h (write f)) run =
    let before = kept l room h run.0 in
    record { numbered = before.numbered; follows = before.follows; restores = before.restores; unsaved = before.unsaved }

-- ── The last call ──

-- a restore that is accepted gives the restored assignment, and one that is refused leaves it
fair_restore : (l : Limits) (room : Room) (h : History) (a b : List ℕ) (f : Option SessionFault) → Run l room (after h (restore a b f)) → Fair l room (after h (restore a b f))
fair_restore l room h a b f run =
    let exactly = restoring_exactly (variables_of h) (standing_by h) a in
    let before = kept l room h run.0 in
    let same = run.1.1 in
    let meets : f ≡ None → MeetsStanding h a = λ e. exactly.0 (sym same ∙ e) in (
      (meets, λ m. same ∙ exactly.1 m),
      λ e. subst (Restores h a) (sym (run.1.2 ∙ ap (λ x. unless x (restored (saved_by h) a) a) e)) (before.restores a (meets e)),
      λ refused.
          ⊎_elim
          (λ (e : f ≡ None). absurd (refused e))
          (λ (e : (x : SessionFault) × (f ≡ Some x)). run.1.2 ∙ ap (λ x. unless x (restored (saved_by h) a) a) e.1)
          (option_cases f),
    )

-- every last call of a run was answered as it should be
fair : (l : Limits) (room : Room) (h : History) → Run l room h → Fair l room h
fair l room (opened n) run = tt
fair l room (after h (load zs f)) run =
    let exactly = lists_exactly (variables_of h) (length (loaded h)) l (standing_by h) zs in
    (λ e. exactly.0 (sym run.1.1 ∙ e), λ ok. run.1.1 ∙ exactly.1 ok)
fair l room (after h seal) run = tt
fair l room (after h (submit line f)) run =
    let exactly = lines_exactly (variables_of h) l room (given_by h) (standing_by h) (saved_by h) line (kept l room h run.0).numbered in
    (λ e. exactly.0 (sym run.1.1 ∙ e), λ ok. run.1.1 ∙ exactly.1 ok)
fair l room (after h (finish a b c)) run = (
  run.1.1,
  run.1.2,
  ⊎_elim
      (λ (q : (empty_stands (standing_by h) ≡ 1) × ((k : ℕ) × Stands (standing_by h) k [])). inl (run.1.3 ∙ q.0, q.1))
      (λ (q : (empty_stands (standing_by h) ≡ 0) × ((k : ℕ) → Stands (standing_by h) k [] → ⊥)). inr (run.1.3 ∙ q.0, q.1))
      (empty_exactly (variables_of h) (standing_by h) (kept l room h run.0).numbered),
)
fair l room (after h (restore a b f)) run = fair_restore l room h a b f run
fair l room (after h (write f)) run = tt

-- the law
pub law_of_histories : LawOfHistories
law_of_histories l room h run =
    let now = kept l room h run in
    record {
      numbered = now.numbered;
      satisfiable = (
        λ x. let back = now.restores x.0 (x.1, x.2) in (restored (saved_by h) x.0, back.0, back.1),
        λ x. (x.0, x.1, now.follows x.0 x.2),
      );
      restoring = now.restores;
      fair = fair l room h run;
    }
