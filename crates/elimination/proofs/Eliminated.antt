-- Rule E: the clauses of a variable counted, saved and taken away, one after another.
use Rattle.std.proofs.Common.{◌≡◌, ℕ, ◌+◌, ◌*◌, ◌<◌, ◌≤◌, true, false, cond, ltb, leb, List, [], ◌∷◌, ◌++◌, length, ℤ, neg_ℤ, Some, None, Option, sym, refl, ap, ◌∙◌, ⊎_elim, append_assoc, arith}
use Rattle.std.proofs.lemmas.List.{length-append}
use Rattle.std.proofs.lemmas.Bool.{cases_lt, cases_Bool}
use Rattle.std.proofs.lemmas.Bool.Decides.{nat_tests}
use Rattle.words.specs.declared.fault.DatabaseFault.{DatabaseFault}
use Rattle.words.specs.declared.fault.DatabaseFault.TheVariants.{Absent}
use Rattle.words.specs.declared.fault.StackFault.{StackFault}
use Rattle.words.specs.declared.fault.StackFault.TheVariants.{EntriesFull, LiteralsFull}
use Rattle.words.specs.declared.limits.Limits.{Limits}
use Rattle.words.specs.Checks.{check, unless}
use Rattle.words.specs.Clauses.{has}
use Rattle.words.specs.Standing.{Entry, Lawful, ordered, stands, under, next_above, without}
use Rattle.database.proofs.Walks.{Step, next_step}
use Rattle.rules.specs.Restoring.{Saved, Room, saved_literals, save_fault}
use Rattle.rules.specs.Lines.{eliminated, free_of}
use Rattle.acceptance.proofs.Passing.{passed, check_passed}
use Rattle.acceptance.proofs.Entries.{stands_under}
use Rattle.elimination.specs.Finding.{of_variable, held_of, under_of_variable}

-- ── What is saved ──

-- a clause of the variable, by the literal that it holds, and any other
module _ (v : ℤ) (e : Entry) (rest : List Entry) where
  pub held_saved : (p : ℤ) → Some p ≡ held_of v e.lits → eliminated v (e ∷ rest) ≡ record { pivot = p; lits = e.lits } ∷ eliminated v rest
  held_saved p h =
      ⊎_elim
      (λ (t : has v e.lits ≡ true).
      let q : ◌≡◌ {A = Option ℤ} (Some p) (Some v) = h ∙ ap (λ b. cond b (Some v) (cond (has (neg_ℤ v) e.lits) (Some (neg_ℤ v)) None)) t in
      let i : p ≡ v = cc in
      let c : eliminated v (e ∷ rest) ≡ record { pivot = v; lits = e.lits } ∷ eliminated v rest = grind (arith, nat_tests) in
      c ∙ ap (λ l. record { pivot = l; lits = e.lits } ∷ eliminated v rest) (sym i))
      (λ (t : has v e.lits ≡ false).
      ⊎_elim
      (λ (u : has (neg_ℤ v) e.lits ≡ true).
      let q : ◌≡◌ {A = Option ℤ} (Some p) (Some (neg_ℤ v)) =
      h ∙ ap (λ b. cond b (Some v) (cond (has (neg_ℤ v) e.lits) (Some (neg_ℤ v)) None)) t ∙ ap (λ b. cond b (Some (neg_ℤ v)) None) u in
      let i : p ≡ neg_ℤ v = cc in
      let c : eliminated v (e ∷ rest) ≡ record { pivot = neg_ℤ v; lits = e.lits } ∷ eliminated v rest = grind (arith, nat_tests) in
      c ∙ ap (λ l. record { pivot = l; lits = e.lits } ∷ eliminated v rest) (sym i))
      (λ (u : has (neg_ℤ v) e.lits ≡ false).
      let q : ◌≡◌ {A = Option ℤ} (Some p) None = h ∙ ap (λ b. cond b (Some v) (cond (has (neg_ℤ v) e.lits) (Some (neg_ℤ v)) None)) t ∙ ap (λ b. cond b (Some (neg_ℤ v)) None) u in
      absurd (let z : ◌≡◌ {A = ℕ} 0 1 = cc in omega arith))
      (cases_Bool (has (neg_ℤ v) e.lits)))
      (cases_Bool (has v e.lits))

  pub held_passed : ◌≡◌ {A = Option ℤ} None (held_of v e.lits) → eliminated v (e ∷ rest) ≡ eliminated v rest
  held_passed h = grind (arith, nat_tests)

-- ── The counts ──

entries_few : (n w k : ℕ) (s : List Entry) → ordered n w k s ≡ true → k ≤ 1000000 → k + length s ≤ 1000000
entries_few n w k [] o h = omega arith
entries_few n w k (e ∷ es) o h =
    let o1 : ordered n w e.number es ≡ true = grind (arith, nat_tests) in
    let lo : k < e.number = grind (arith, nat_tests) in
    let hi : e.number ≤ 1000000 = grind (arith, nat_tests) in
    let ih = entries_few n w e.number es o1 hi in
    omega arith

eliminated_few : (v : ℤ) (s : List Entry) → length (eliminated v s) ≤ length s
eliminated_few v [] = omega arith
eliminated_few v (e ∷ es) = let ih = eliminated_few v es in grind (arith, nat_tests)

eliminated_narrow : (n w k : ℕ) (v : ℤ) (s : List Entry) → ordered n w k s ≡ true → w ≤ 64 → saved_literals (eliminated v s) ≤ 64 * length s
eliminated_narrow n w k v [] o h = omega arith
eliminated_narrow n w k v (e ∷ es) o h =
    let o1 : ordered n w e.number es ≡ true = grind (arith, nat_tests) in
    let few : length e.lits ≤ w = grind (arith, nat_tests) in
    let ih = eliminated_narrow n w e.number v es o1 h in
    grind (arith, nat_tests)

-- neither count is large
pub totals_small : (l : Limits) (v : ℤ) (s : List Entry) → Lawful l s → (length (eliminated v s) ≤ 1000000) × (saved_literals (eliminated v s) ≤ 64000000)
totals_small l v s law =
    let w : l.width ≤ 64 = let f = law.width_fits in grind (arith, nat_tests) in
    let few = entries_few l.variables l.width 0 s law.in_order (omega arith) in
    let a = eliminated_few v s in
    let b = eliminated_narrow l.variables l.width 0 v s law.in_order w in
    (omega arith, omega arith)

-- ── Room for what is saved ──

literals_append : (a b : List Saved) → saved_literals (a ++ b) ≡ saved_literals a + saved_literals b
literals_append [] b = omega arith
literals_append (x ∷ a) b = let ih = literals_append a b in omega arith

-- where all of them fit, the next one does
next_fits : (room : Room) (a b now rest : List Saved) (x : Saved) → save_fault room a b ≡ None → now ++ x ∷ rest ≡ a ++ b → save_fault room now (x ∷ []) ≡ None
next_fits room a b now rest x h q =
    let p = passed (leb (length a + length b) room.entries) EntriesFull (check (leb (saved_literals a + saved_literals b) room.literals) LiteralsFull) h in
    let p0 = p.0 in
    let p1 = check_passed (leb (saved_literals a + saved_literals b) room.literals) LiteralsFull p.1 in
    let l = ap length q in
    let la = length-append a b in
    let ln = length-append now (x ∷ rest) in
    let m = ap saved_literals q in
    let ma = literals_append a b in
    let mn = literals_append now (x ∷ rest) in
    let t : leb (length now + 1) room.entries ≡ true = grind (arith, nat_tests) in
    let u : leb (saved_literals now + (length x.lits + 0)) room.literals ≡ true = grind (arith, nat_tests) in
    grind (arith, nat_tests)

-- one clause saved
pub save_step : (room : Room) (a b now rest : List Saved) (x : Saved) → save_fault room a b ≡ None → now ++ x ∷ rest ≡ a ++ b → (r : Room) → r ≡ room →
    (after : List Saved) (f : Option StackFault) → f ≡ save_fault r now (x ∷ []) → after ≡ unless f (now ++ x ∷ []) now → after ++ rest ≡ a ++ b
save_step room a b now rest x h q r er after f e u =
    let z = e ∙ ap (λ y. save_fault y now (x ∷ [])) er ∙ next_fits room a b now rest x h q in
    ap (λ ys. ys ++ rest) (u ∙ ap (λ g. unless g (now ++ x ∷ []) now) z) ∙ append_assoc now (x ∷ []) rest ∙ q

-- a clause of the variable saved with the literal p that it holds
pub save_held : (room : Room) (a b now : List Saved) (v : ℤ) (left rest : List Entry) (e : Entry) (p : ℤ) → left ≡ e ∷ rest → Some p ≡ held_of v e.lits →
    save_fault room a b ≡ None → now ++ eliminated v left ≡ a ++ b → (r : Room) → r ≡ room → (after : List Saved) (f : Option StackFault) →
    f ≡ save_fault r now (record { pivot = p; lits = e.lits } ∷ []) → after ≡ unless f (now ++ record { pivot = p; lits = e.lits } ∷ []) now →
    after ++ eliminated v rest ≡ a ++ b
save_held room a b now v left rest e p split held h q r er after f x u =
    save_step room a b now (eliminated v rest) (record { pivot = p; lits = e.lits }) h
    (ap (λ xs. now ++ xs) (sym (ap (eliminated v) split ∙ held_saved v e rest p held)) ∙ q) r er after f x u

-- ── Taking away ──

-- the entries without those of a variable up to a number
abbrev pub freed : ℕ → ℤ → List Entry → List Entry
freed k v [] = []
freed k v (e ∷ es) = cond (ltb k e.number) (e ∷ es) (cond (of_variable v e.lits) (freed k v es) (e ∷ freed k v es))

pub freed_low : (n w k m : ℕ) (v : ℤ) (s : List Entry) → ordered n w k s ≡ true → m ≤ k → freed m v s ≡ s
freed_low n w k m v [] o h = refl
freed_low n w k m v (e ∷ es) o h = grind (arith, nat_tests)

-- at the next number m, the clause under it is taken away where it is of the variable
freed_next : (n w j : ℕ) (v : ℤ) (k m : ℕ) (s : List Entry) (c : List ℤ) → ordered n w j s ≡ true → next_above k s ≡ Some m → under m s ≡ Some c → k < m →
    freed m v s ≡ cond (of_variable v c) (without m (freed k v s)) (freed k v s)
freed_next n w j v k m [] c o q u up = absurd (let z : ◌≡◌ {A = ℕ} 0 1 = cc in omega arith)
freed_next n w j v k m (x ∷ s) c o q u up =
    let o1 : ordered n w x.number s ≡ true = grind (arith, nat_tests) in
    ⊎_elim
    (λ (h : k < x.number).
    let q1 : ◌≡◌ {A = Option ℕ} (Some x.number) (Some m) = grind (arith, nat_tests) in
    let r : x.number ≡ m = cc in
    let u1 : ◌≡◌ {A = Option (List ℤ)} (Some x.lits) (Some c) = grind (arith, nat_tests) in
    let d : x.lits ≡ c = cc in
    let fl = freed_low n w x.number m v s o1 (omega arith) in
    let a1 : freed k v (x ∷ s) ≡ x ∷ s = grind (arith, nat_tests) in
    let a2 : freed m v (x ∷ s) ≡ cond (of_variable v x.lits) (freed m v s) (x ∷ freed m v s) = grind (arith, nat_tests) in
    let a3 : without m (x ∷ s) ≡ s = grind (arith, nat_tests) in
    a2 ∙ ap (λ ys. cond (of_variable v x.lits) ys (x ∷ ys)) fl ∙ ap (λ y. cond (of_variable v y) s (x ∷ s)) d ∙
    ap (λ ys. cond (of_variable v c) ys (x ∷ s)) (sym a3) ∙ ap (λ ys. cond (of_variable v c) (without m ys) ys) (sym a1))
    (λ (h : x.number ≤ k).
    let q1 : next_above k s ≡ Some m = grind (arith, nat_tests) in
    let u1 : under m s ≡ Some c = grind (arith, nat_tests) in
    let ih = freed_next n w x.number v k m s c o1 q1 u1 up in
    ⊎_elim
    (λ (t : of_variable v c ≡ true).
    let i1 : freed m v s ≡ without m (freed k v s) = grind (arith, nat_tests) in
    grind (arith, nat_tests))
    (λ (t : of_variable v c ≡ false).
    let i1 : freed m v s ≡ freed k v s = grind (arith, nat_tests) in
    grind (arith, nat_tests))
    (cases_Bool (of_variable v c)))
    (cases_lt k x.number)

-- what is still to come is not changed by what was taken away
freed_next_above : (k : ℕ) (v : ℤ) (s : List Entry) → next_above k (freed k v s) ≡ next_above k s
freed_next_above k v [] = refl
freed_next_above k v (e ∷ es) = let ih = freed_next_above k v es in grind (arith, nat_tests)

freed_under : (k m : ℕ) (v : ℤ) (s : List Entry) → k < m → under m (freed k v s) ≡ under m s
freed_under k m v [] h = refl
freed_under k m v (e ∷ es) h = let ih = freed_under k m v es h in grind (arith, nat_tests)

-- at the end all are taken away
freed_done : (k : ℕ) (v : ℤ) (s : List Entry) → next_above k s ≡ None → freed k v s ≡ free_of v s
freed_done k v [] q = refl
freed_done k v (e ∷ es) q = let ih = freed_done k v es in grind (arith, nat_tests, ih)

module _ (n w : ℕ) (v : ℤ) (k : ℕ) (s now : List Entry) (o : ordered n w 0 s ≡ true) (i : now ≡ freed k v s) where
  pub remove_done : None ≡ next_above k now → now ≡ free_of v s
  remove_done q = i ∙ freed_done k v s (sym (freed_next_above k v s) ∙ ap (next_above k) (sym i) ∙ sym q)

  module _ (m : ℕ) (q : Some m ≡ next_above k now) where
    next : next_above k s ≡ Some m
    next = sym (freed_next_above k v s) ∙ ap (next_above k) (sym i) ∙ sym q

    step : Step k m s
    step = next_step n w 0 k m s o next

    pub remove_rises : k < m
    remove_rises = step.rises

    found : under m now ≡ Some step.lits
    found = ap (under m) i ∙ freed_under k m v s step.rises ∙ step.found

    on : freed m v s ≡ cond (of_variable v step.lits) (without m now) now
    on = freed_next n w 0 v k m s step.lits o next step.found step.rises ∙ ap (λ ys. cond (of_variable v step.lits) (without m ys) ys) (sym i)

    -- the clause under the number is taken away
    pub remove_step : true ≡ under_of_variable v (under m now) → (after : List Entry) (f : Option DatabaseFault) → f ≡ check (stands m now) (Absent m) →
        after ≡ unless f (without m now) now → after ≡ freed m v s
    remove_step t after f g u =
        let b : of_variable v step.lits ≡ true = sym (t ∙ ap (under_of_variable v) found) in
        let z : f ≡ None = g ∙ ap (λ x. check x (Absent m)) (stands_under m step.lits now found) in
        u ∙ ap (λ y. unless y (without m now) now) z ∙ sym (on ∙ ap (λ x. cond x (without m now) now) b)

    -- or stays
    pub remove_pass : false ≡ under_of_variable v (under m now) → now ≡ freed m v s
    remove_pass t =
        let b : of_variable v step.lits ≡ false = sym (t ∙ ap (under_of_variable v) found) in
        sym (on ∙ ap (λ x. cond x (without m now) now) b)
