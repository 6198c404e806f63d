-- What one accepted list or line does to the models of the standing clauses.
use Rattle.std.proofs.Common.{◌≡◌, ℕ, ◌+◌, ◌-◌, ◌<◌, ◌≤◌, true, false, cond, ◌&&◌, leb, List, [], ◌∷◌, length, get_or, ℤ, neg_ℤ, nat_abs, Some, None, sym, refl, ap, ◌∙◌, subst, ⊎_elim, arith}
use mathlib.Core.List.{Memᴰ}
use Rattle.std.proofs.lemmas.Bool.{cases_Bool, cases_eq, true≢false, and_parts, and_from, le-leb}
use Rattle.std.proofs.ByRecursion.{All-weaker}
use Rattle.words.specs.declared.limits.Limits.{Limits}
use Rattle.words.specs.declared.line.Kind.{Kind}
use Rattle.words.specs.declared.line.Kind.TheVariants.{Resolve, Subsumed, Blocked, Eliminate}
use Rattle.words.specs.declared.line.Line.{Line}
use Rattle.words.specs.Clauses.{opposed, rising, canonical, gathered, resolvent}
use Rattle.words.specs.Assignments.{assignment, holds, met, all_met}
use Rattle.words.specs.Standing.{Entry, ordered, under, clauses, inserted, without}
use Rattle.rules.specs.Restoring.{Saved, Room, repaired, restored}
use Rattle.rules.specs.Loading.{load_entry, load_adds}
use Rattle.rules.specs.Lines.{clause_under, line_leaves, line_saves, eliminated, free_of}
use Rattle.rules.specs.Histories.{line_pivots}
use Rattle.rules.specs.Obeying.{In, Stands, IsLiteral, IsNumber, Tautological, IsResolvent, HasSpace, Acceptable, HoldsOppositePair, SameLiterals, Loadable}
use Rattle.theory.specs.Soundness.{Model, IsBlocked, IsCovered, SavedOf}
use Rattle.theory.proofs.Truth.{one_of_both, met_has, met_more}
use Rattle.theory.proofs.Follow.{resolvents_follow}
use Rattle.theory.proofs.Models.{met_each, met_all, met_inserted, ordered_inserted, without_met, met_without, ordered_without, free_met, ordered_free}
use Rattle.theory.proofs.Repair.{Agree, blocked_repairs}
use Rattle.theory.proofs.Eliminate.{restored_agrees, eliminated_saves, elimination_restores}
use Rattle.acceptance.proofs.Sets.{has_resolvent, has_gathered, opposed_pair}
use Rattle.acceptance.proofs.Rising.{rising_range, rising_length, resolvent_canonical, opposed_tautological, gathered_rising, Literals, literals_nonzero}
use Rattle.acceptance.proofs.Entries.{absent_under, clause_under_is, under_rising}
use Rattle.acceptance.proofs.Judged.{number_is, line_of}
use Rattle.acceptance.proofs.Loaded.{literal_is}

-- the bytes in which an assignment is changed are of these variables
abbrev pub ChangesOnly : List ℕ → List ℕ → List ℕ → Type 0
ChangesOnly vs a b = (v : ℕ) → 1 ≤ v → (get_or b (v - 1) 0 ≡ get_or a (v - 1) 0 → ⊥) → Memᴰ v vs

-- the step from standing clauses s to t, which saves clauses with pivots of the variables vs
pub record Step (n : ℕ) (s t : List Entry) (new : List Saved) (vs : List ℕ) : Type 0 where
  pub numbered : ordered n 64 0 t ≡ true
  -- models of s are models of t
  pub follows : (a : List ℕ) → all_met a (clauses s) ≡ true → all_met a (clauses t) ≡ true
  -- models of t are restored to models of s
  pub restores : (a : List ℕ) → Model n t a → Model n s (restored new a)
  pub changes : (a : List ℕ) → ChangesOnly vs a (restored new a)

-- assignments that agree but for one variable
agree_changes : (m : ℕ) (a b : List ℕ) → Agree m a b → ChangesOnly (m ∷ []) a b
agree_changes m a b g v p d = ⊎_elim (λ (e : v ≡ m). Memᴰ.head e) (λ (e : v ≡ m → ⊥). absurd (d (g.1 v p e))) (cases_eq v m)

-- an assignment stays as it is
unchanged : (vs a : List ℕ) → ChangesOnly vs a a
unchanged vs a v p d = absurd (d refl)

-- ── Lists ──

-- a list with an opposite pair is met by every assignment of its variables
opposite_met : (n : ℕ) (a : List ℕ) (zs : List ℤ) → assignment n a ≡ true → ((z : ℤ) → In z zs → IsLiteral n z) → HoldsOppositePair zs → met a zs ≡ true
opposite_met n a zs s lits p =
    ⊎_elim
    (λ (h : holds a p.0 ≡ true). met_has a p.0 zs p.1 h)
    (λ (h : holds a p.0 ≡ false). let r = lits p.0 p.1 in met_has a (neg_ℤ p.0) zs p.2 (one_of_both n a p.0 s r.0 r.1 h))
    (cases_Bool (holds a p.0))

-- the clause of the literals of a list is met where the list is
gathered_met : (a : List ℕ) (zs : List ℤ) → met a zs ≡ true → met a (gathered [] zs) ≡ true
gathered_met a zs m = met_more a (gathered [] zs) zs (λ z h. (has_gathered zs z).1 h) m

-- and the other way
met_gathered : (a : List ℕ) (zs : List ℤ) → met a (gathered [] zs) ≡ true → met a zs ≡ true
met_gathered a zs m = met_more a zs (gathered [] zs) (λ z h. (has_gathered zs z).0 h) m

-- a list of literals without an opposite pair and with few literals is a clause
gathered_canonical : (n : ℕ) (zs c : List ℤ) → Literals n zs → opposed zs ≡ false → SameLiterals c zs → length c ≤ 64 → canonical n 64 (gathered [] zs) ≡ true
gathered_canonical n zs c lits plain same few =
    let rises = gathered_rising n zs lits plain in
    let short = rising_length n 0 (gathered [] zs) c rises (λ z h. (same z).1 ((has_gathered zs z).0 h)) in
    and_from (leb (length (gathered [] zs)) 64) (rising n 0 (gathered [] zs)) (le-leb _ _ (omega arith)) rises

-- the step of a list: in order, and met exactly where the list and the clauses before are
pub record Adds (n : ℕ) (s t : List Entry) (zs : List ℤ) : Type 0 where
  pub numbered : ordered n 64 0 t ≡ true
  pub follows : (a : List ℕ) → met a zs ≡ true → all_met a (clauses s) ≡ true → all_met a (clauses t) ≡ true
  pub before : (a : List ℕ) → Model n t a → all_met a (clauses s) ≡ true
  pub list : (a : List ℕ) → Model n t a → met a zs ≡ true

-- a new clause among those that stand
adds_clause : (n k : ℕ) (l : Limits) (s : List Entry) (zs : List ℤ) → ordered n 64 0 s ≡ true → k < 1024 → canonical n 64 (gathered [] zs) ≡ true →
    HasSpace l s (k + 1) (gathered [] zs) → Adds n s (inserted (load_entry k zs) s) zs
adds_clause n k l s zs o few can space =
    let x = load_entry k zs in
    let is : (a : List ℕ) → all_met a (clauses (inserted x s)) ≡ (met a (gathered [] zs) && all_met a (clauses s)) = λ a. met_inserted a x s in
    record {
      numbered = ordered_inserted n 64 0 x s o (omega arith) ((number_is (k + 1)).1 (omega arith)) can ((absent_under (k + 1) s).1 space.0);
      follows = λ a m all. is a ∙ and_from _ _ (gathered_met a zs m) all;
      before = λ a model. (and_parts _ _ (sym (is a) ∙ model.1)).1;
      list = λ a model. met_gathered a zs (and_parts _ _ (sym (is a) ∙ model.1)).0;
    }

-- an accepted list
pub list_adds : (n k : ℕ) (l : Limits) (s : List Entry) (zs : List ℤ) → ordered n 64 0 s ≡ true → Loadable n k l s zs → Adds n s (load_adds k s zs) zs
list_adds n k l s zs o ok =
    let lits : Literals n zs = λ z h. (literal_is n z).1 (ok.1 z h) in
    let pair = opposed_pair zs (literals_nonzero n zs lits) in
    ⊎_elim
    (λ (t : opposed zs ≡ true).
    subst (λ b. Adds n s (cond b s (inserted (load_entry k zs) s)) zs) (sym t)
    (record { numbered = o; follows = λ a m all. all; before = λ a model. model.1; list = λ a model. opposite_met n a zs model.0 ok.1 (pair.0 t) }))
    (λ (t : opposed zs ≡ false).
    subst (λ b. Adds n s (cond b s (inserted (load_entry k zs) s)) zs) (sym t)
    (⊎_elim
    (λ (p : HoldsOppositePair zs). absurd (true≢false (sym (pair.1 p) ∙ t)))
    (λ (p : (c : List ℤ) × SameLiterals c zs × (length c ≤ 64) × HasSpace l s (k + 1) (gathered [] zs)).
    adds_clause n k l s zs o ok.0 (gathered_canonical n zs p.0 lits t p.1 p.2) p.3)
    ok.2))
    (cases_Bool (opposed zs))

-- ── Lines ──

-- one clause stands under a number
stands_one : (s : List Entry) (j k : ℕ) (c d : List ℤ) → Stands s j c → Stands s k d → j ≡ k → c ≡ d
stands_one s j k c d h g e = let u : under j s ≡ Some d = ap (λ x. under x s) e ∙ g in cc

-- R: the resolvent is a clause, and follows from its parents
step_resolve : (n : ℕ) (s : List Entry) (k i j : ℕ) (p : ℤ) (a b c : List ℤ) → ordered n 64 0 s ≡ true → IsNumber k → under k s ≡ None →
    Stands s i a → Stands s j b → In p a → (Tautological p a b → ⊥) → IsResolvent p a b c → length c ≤ 64 →
    Step n s (inserted (record { number = k; lits = resolvent p (clause_under i s) (clause_under j s) }) s) [] []
step_resolve n s k i j p a b c o number free hi hj has-pivot plain is few =
    let x : Entry = record { number = k; lits = resolvent p a b } in
    let ra = under_rising n 64 0 i a s o hi in
    let rb = under_rising n 64 0 j b s o hj in
    let low = number.0 in
    let apart : opposed (resolvent p a b) ≡ false =
    ⊎_elim (λ (t : opposed (resolvent p a b) ≡ true). absurd (plain ((opposed_tautological n p a b ra rb).0 t))) (λ (t : opposed (resolvent p a b) ≡ false). t) (cases_Bool (opposed (resolvent p a b))) in
    let rises = resolvent_canonical n p a b ra rb apart in
    let short = rising_length n 0 (resolvent p a b) c rises (λ z h. (is z).1 ((has_resolvent p a b z).0 h)) in
    let can : canonical n 64 (resolvent p a b) ≡ true = and_from (leb (length (resolvent p a b)) 64) (rising n 0 (resolvent p a b)) (le-leb _ _ (omega arith)) rises in
    let all : (y : List ℕ) → all_met y (clauses (inserted x s)) ≡ (met y (resolvent p a b) && all_met y (clauses s)) = λ y. met_inserted y x s in
    let named : resolvent p (clause_under i s) (clause_under j s) ≡ resolvent p a b = ap (λ y. resolvent p y (clause_under j s)) (clause_under_is i a s hi) ∙ ap (resolvent p a) (clause_under_is j b s hj) in
    subst (λ y. Step n s (inserted (record { number = k; lits = y }) s) [] []) (sym named)
    (record {
      numbered = ordered_inserted n 64 0 x s o low ((number_is k).1 number) can ((absent_under k s).1 free);
      follows = λ y m. all y ∙ and_from _ _ (resolvents_follow y p a b (rising_range n 0 a p ra has-pivot).0 (met_each y s i a m hi) (met_each y s j b m hj)) m;
      restores = λ y model. (model.0, (and_parts _ _ (sym (all y) ∙ model.1)).1);
      changes = unchanged [];
    })

-- S: the subsumed clause follows from the other
step_subsumed : (n : ℕ) (s : List Entry) (k i : ℕ) (c d : List ℤ) → ordered n 64 0 s ≡ true → Stands s k c → Stands s i d → (k ≡ i → ⊥) → ((z : ℤ) → In z d → In z c) →
    Step n s (without k s) [] []
step_subsumed n s k i c d o hk hi other sub =
    record {
      numbered = ordered_without n 64 0 k s o;
      follows = λ y m. without_met y k s m;
      restores = λ y model. (
        model.0,
        met_all n 64 0 y s o
            (λ j e h.
            ⊎_elim
            (λ (q : j ≡ k). ap (met y) (stands_one s j k e c h hk q) ∙ met_more y c d sub (met_without y k s i d model.1 hi (λ x. other (sym x))))
            (λ (q : j ≡ k → ⊥). met_without y k s j e model.1 h q)
            (cases_eq j k)),
      );
      changes = unchanged [];
    }

-- B: the repair of the blocked clause meets it and keeps the others met
step_blocked : (n : ℕ) (s : List Entry) (k : ℕ) (p : ℤ) (c : List ℤ) → ordered n 64 0 s ≡ true → Stands s k c → IsBlocked s p c →
    Step n s (without k s) (record { pivot = p; lits = clause_under k s } ∷ []) (nat_abs p ∷ [])
step_blocked n s k p c o hk blocked =
    let e : Saved = record { pivot = p; lits = c } in
    let low = (rising_range n 0 c p (under_rising n 64 0 k c s o hk) blocked.0).0 in
    subst (λ y. Step n s (without k s) (record { pivot = p; lits = y } ∷ []) (nat_abs p ∷ [])) (sym (clause_under_is k c s hk))
    (record {
      numbered = ordered_without n 64 0 k s o;
      follows = λ y m. without_met y k s m;
      restores = λ y model.
          let repair = blocked_repairs n 64 s o k p c hk blocked y model.0 in (
            repair.0,
            met_all n 64 0 (repaired e y) s o
                (λ j d h.
                ⊎_elim
                (λ (q : j ≡ k). ap (met (repaired e y)) (stands_one s j k d c h hk q) ∙ repair.1)
                (λ (q : j ≡ k → ⊥). repair.2 j d h (met_without y k s j d model.1 h q))
                (cases_eq j k)),
          );
      changes = λ y. agree_changes (nat_abs p) y (repaired e y) (restored_agrees (nat_abs p) (e ∷ []) y low (refl, tt));
    })

-- E: going through the clauses of the variable meets them and keeps the others met
step_eliminate : (n : ℕ) (s : List Entry) (z : ℤ) → ordered n 64 0 s ≡ true → 1 ≤ nat_abs z → IsCovered s z → Step n s (free_of z s) (eliminated z s) (nat_abs z ∷ [])
step_eliminate n s z o low cover =
    let saves = eliminated_saves n 64 s z o in
    record {
      numbered = ordered_free n 64 0 z s o;
      follows = λ y m. free_met y z s m;
      restores = λ y model. (elimination_restores n 64 s z o low cover).1 (eliminated z s) saves y model;
      changes = λ y.
          agree_changes (nat_abs z) y (restored (eliminated z s) y)
          (restored_agrees (nat_abs z) (eliminated z s) y low (All-weaker (SavedOf s z) (λ e. nat_abs e.pivot ≡ nat_abs z) (λ e q. q.1) (eliminated z s) saves.0));
    }

-- a line of each kind
kind_step : (n : ℕ) (l : Limits) (room : Room) (given : ℕ) (s : List Entry) (saved : List Saved) (kind : Kind) (k : ℕ) (p : ℤ) (i j : ℕ) → ordered n 64 0 s ≡ true →
    Acceptable l room given s saved (line_of kind k p i j) → Step n s (line_leaves s (line_of kind k p i j)) (line_saves s (line_of kind k p i j)) (line_pivots (line_of kind k p i j))
kind_step n l room given s saved Resolve k p i j o ok =
    let x = ok.1.1 in
    step_resolve n s k i j p x.0 x.1 x.7.0 o ok.0.0 ok.2.0 x.2 x.3 x.4 x.6 x.7.1 x.7.2
kind_step n l room given s saved Subsumed k p i j o ok = let x = ok.1 in step_subsumed n s k i x.0 x.1 o x.2 x.3 x.4 x.5
kind_step n l room given s saved Blocked k p i j o ok = let x = ok.1 in step_blocked n s k p x.0 o x.1 (x.2, x.3)
kind_step n l room given s saved Eliminate k p i j o ok =
    let v = ok.0.1 in
    let e = ap nat_abs v.1 in
    let low = v.2 in
    step_eliminate n s p o (omega arith) ok.1

-- an accepted line
pub line_step : (n : ℕ) (l : Limits) (room : Room) (given : ℕ) (s : List Entry) (saved : List Saved) (line : Line) → ordered n 64 0 s ≡ true →
    Acceptable l room given s saved line → Step n s (line_leaves s line) (line_saves s line) (line_pivots line)
line_step n l room given s saved line o ok = kind_step n l room given s saved line.kind line.clause line.pivot line.first line.second o ok
