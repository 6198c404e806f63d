-- Eliminated variables: going through the saved clauses, whatever their order.
use Rattle.std.proofs.Common.{◌≡◌, ℕ, ◌≤◌, true, false, ◌⊎◌, List, [], ◌∷◌, ℤ, neg_ℤ, nat_abs, sym, refl, ap, ◌∙◌, subst, inl, inr, ⊎_elim, arith}
use mathlib.Core.List.Memᴰ
use mathlib.Core.List.{Memᴰ}
use lib.IntN.{neg_ℤ-neg_ℤ}
use Rattle.std.specs.List.{AllByRecursion}
use Rattle.std.proofs.ByRecursion.{All-weaker}
use Rattle.std.proofs.lemmas.Bool.{cases_Bool, true≢false, cond_both}
use Rattle.words.specs.Clauses.{has, rising}
use Rattle.words.specs.Assignments.{assignment, holds, met, made_true}
use Rattle.words.specs.Standing.{Entry, ordered}
use Rattle.rules.specs.Restoring.{Saved, restored}
use Rattle.rules.specs.Lines.{eliminated, free_of}
use Rattle.rules.specs.Obeying.{In, Stands, InResolvent, Tautological, IsResolvent}
use Rattle.theory.specs.Soundness.{Model, IsCovered, SavedOf, SavesVariable, EliminationKeeps, EliminationRestores}
use Rattle.theory.proofs.Truth.{length_of, met_has, met_some, made_holds}
use Rattle.theory.proofs.Models.{met_all, met_free, free_met}
use Rattle.theory.proofs.Repair.{clause_plain, Agree, agree_itself, agree_made, FalseOff, MetOff, met_off, false_off, clash_off, resolvent_off, repaired_met, repaired_unmet, repaired_assignment, repaired_meets}
use Rattle.acceptance.proofs.Sets.{one_variable, abs_neg}
use Rattle.acceptance.proofs.Rising.{rising_range}
use Rattle.acceptance.proofs.Passing.{none_not_some}
use Rattle.acceptance.proofs.Entries.{under_first, under_cases, under_more, under_rising, ordered_rest}

-- ── The two sides are alike ──

-- a literal of the resolvent is one of the resolvent on the negation, of the parents exchanged
in_swapped : (z : ℤ) (c d : List ℤ) (x : ℤ) → InResolvent z c d x → InResolvent (neg_ℤ z) d c x
in_swapped z c d x i =
    ⊎_elim
    (λ (p : In x c × (x ≡ z → ⊥)). inr (p.0, λ e. p.1 (e ∙ neg_ℤ-neg_ℤ z)))
    (λ (p : In x d × (x ≡ neg_ℤ z → ⊥)). inl p)
    i

-- and the other way
in_swapped_back : (z : ℤ) (c d : List ℤ) (x : ℤ) → InResolvent (neg_ℤ z) d c x → InResolvent z c d x
in_swapped_back z c d x i =
    ⊎_elim
    (λ (p : In x d × (x ≡ neg_ℤ z → ⊥)). inr p)
    (λ (p : In x c × (x ≡ neg_ℤ (neg_ℤ z) → ⊥)). inl (p.0, λ e. p.1 (e ∙ sym (neg_ℤ-neg_ℤ z))))
    i

-- a variable that is covered by its literal is covered by the negation
covered_swapped : (s : List Entry) (z : ℤ) → IsCovered s z → IsCovered s (neg_ℤ z)
covered_swapped s z cover i j c d hi hc hj hd =
    ⊎_elim
    (λ (t : Tautological z d c). inl (t.0, in_swapped z d c t.0 t.1, in_swapped z d c (neg_ℤ t.0) t.2))
    (λ (t : (k : ℕ) × (r : List ℤ) × Stands s k r × IsResolvent z d c r).
    inr (t.0, t.1, t.2, λ x. (λ h. in_swapped z d c x ((t.3 x).0 h), λ h. (t.3 x).1 (in_swapped_back z d c x h))))
    (cover j i d c hj (ap (λ x. has x d) (sym (neg_ℤ-neg_ℤ z)) ∙ hd) hi hc)

-- ── Two clauses of the variable ──

-- neither literal of the variable is in a resolvent
resolvent_free : (n : ℕ) (z : ℤ) (c d r : List ℤ) → rising n 0 c ≡ true → rising n 0 d ≡ true → has z c ≡ true → has (neg_ℤ z) d ≡ true → IsResolvent z c d r →
    (has z r ≡ false) × (has (neg_ℤ z) r ≡ false)
resolvent_free n z c d r rc rd hc hd is = (
  lacks z
      (λ (p : In z c × (z ≡ z → ⊥)). p.1 refl)
      (λ (p : In z d × (z ≡ neg_ℤ z → ⊥)). clause_plain n d z rd p.0 hd),
  lacks (neg_ℤ z)
      (λ (p : In (neg_ℤ z) c × (neg_ℤ z ≡ z → ⊥)). clause_plain n c z rc hc p.0)
      (λ (p : In (neg_ℤ z) d × (neg_ℤ z ≡ neg_ℤ z → ⊥)). p.1 refl),
)
  where
    lacks : (x : ℤ) → (In x c × (x ≡ z → ⊥) → ⊥) → (In x d × (x ≡ neg_ℤ z → ⊥) → ⊥) → has x r ≡ false
    lacks x f g =
        ⊎_elim
        (λ (h : has x r ≡ true). absurd (⊎_elim f g ((is x).0 h)))
        (λ (h : has x r ≡ false). h)
        (cases_Bool (has x r))

-- of two clauses with opposite literals of a covered variable one has a true literal of another variable
rivals : (n w : ℕ) (s : List Entry) (z : ℤ) → ordered n w 0 s ≡ true → IsCovered s z →
    (a : List ℕ) → assignment n a ≡ true → ((k : ℕ) (c : List ℤ) → Stands s k c → has z c ≡ false → has (neg_ℤ z) c ≡ false → met a c ≡ true) →
    (i j : ℕ) (c d : List ℤ) → Stands s i c → In z c → Stands s j d → In (neg_ℤ z) d → FalseOff (nat_abs z) a c → MetOff (nat_abs z) a d
rivals n w s z o cover a assigned free i j c d hi hc hj hd f =
    let rc = under_rising n w 0 i c s o hi in
    let rd = under_rising n w 0 j d s o hj in
    ⊎_elim
    (λ (t : Tautological z c d). clash_off n a z c d assigned rc rd hc t f)
    (λ (t : (k : ℕ) × (r : List ℤ) × Stands s k r × IsResolvent z c d r).
    let lacks = resolvent_free n z c d t.1 rc rd hc hd t.3 in
    resolvent_off n a z c d t.1 rc rd hc hd t.3 (free t.0 t.1 t.2 lacks.0 lacks.1) f)
    (cover i j c d hi hc hj hd)

-- ── Through the saved clauses ──

-- a restored assignment is an assignment
pub restored_assignment : (n : ℕ) (es : List Saved) (a : List ℕ) → assignment n a ≡ true → assignment n (restored es a) ≡ true
restored_assignment n [] a s = s
restored_assignment n (e ∷ es) a s = repaired_assignment n e (restored es a) (restored_assignment n es a s)

-- restoring changes the variables of the pivots only
pub restored_agrees : (m : ℕ) (es : List Saved) (a : List ℕ) → 1 ≤ m → AllByRecursion (λ e. nat_abs e.pivot ≡ m) es → Agree m a (restored es a)
restored_agrees m [] a p all = agree_itself m a
restored_agrees m (e ∷ es) a p all =
    let ih = restored_agrees m es a p all.1 in
    let v = all.0 in
    ⊎_elim
    (λ k. subst (Agree m a) (sym (repaired_met e (restored es a) k)) ih)
    (λ k. subst (Agree m a) (sym (repaired_unmet e (restored es a) k)) (agree_made m a (restored es a) e.pivot (omega arith) v ih))
    (cases_Bool (met (restored es a) e.lits))

-- what holds of all saved clauses holds of each
all_at : (P : Saved → Type 0) (es : List Saved) (e : Saved) → AllByRecursion P es → Memᴰ e es → P e
all_at P [] e all m = absurd (Memᴰ.not-nil m)
all_at P (x ∷ es) e all m = ⊎_elim (λ q. subst P (sym q) all.0) (λ q. all_at P es e all.1 q) (Memᴰ.cases_cons m)

-- a variable is covered by whichever of its literals
covered_like : (s : List Entry) (z p : ℤ) → nat_abs p ≡ nat_abs z → IsCovered s z → IsCovered s p
covered_like s z p v cover =
    ⊎_elim (λ e. subst (IsCovered s) (sym e) cover) (λ e. subst (IsCovered s) (sym e) (covered_swapped s z cover)) (one_variable p z v)

-- a clause that lacks both literals of a variable lacks them by whichever name
lacks_like : (z p : ℤ) (c : List ℤ) → nat_abs p ≡ nat_abs z → has p c ≡ false → has (neg_ℤ p) c ≡ false → (has z c ≡ false) × (has (neg_ℤ z) c ≡ false)
lacks_like z p c v h k =
    ⊎_elim
    (λ (e : z ≡ p). (ap (λ x. has x c) e ∙ h, ap (λ x. has (neg_ℤ x) c) e ∙ k))
    (λ (e : z ≡ neg_ℤ p). (ap (λ x. has x c) e ∙ k, ap (λ x. has x c) (ap neg_ℤ e ∙ neg_ℤ-neg_ℤ p) ∙ h))
    (one_variable z p (sym v))

module _ (n w : ℕ) (s : List Entry) (z : ℤ) (o : ordered n w 0 s ≡ true) (nonzero : 1 ≤ nat_abs z) (cover : IsCovered s z) (a : List ℕ) (model : Model n (free_of z s) a) where
  -- where a saved clause has no true literal of another variable, those with the opposite pivot have one
  opposite_off : (e f : Saved) → SavedOf s z e → SavedOf s z f → f.pivot ≡ neg_ℤ e.pivot → FalseOff (nat_abs z) a e.lits → MetOff (nat_abs z) a f.lits
  opposite_off e f qe qf opp off =
      let v = qe.1 in
      subst (λ m. MetOff m a f.lits) v
      (rivals n w s e.pivot o (covered_like s z e.pivot v cover) a model.0
      (λ k c h p q. let both = lacks_like z e.pivot c v p q in met_free a z s k c model.1 h both.0 both.1)
      qe.2.0 qf.2.0 e.lits f.lits qe.2.1 qe.0 qf.2.1 (ap (λ x. has x f.lits) (sym opp) ∙ qf.0)
      (subst (λ m. FalseOff m a e.lits) (sym v) off))

  -- where the pivot of e is made true, each saved clause is met by it or by another variable
  after_made : (e f : Saved) → SavedOf s z e → SavedOf s z f → (b : List ℕ) → Agree (nat_abs z) a b →
      holds (made_true e.pivot b) e.pivot ≡ true → FalseOff (nat_abs z) a e.lits → met (made_true e.pivot b) f.lits ≡ true
  after_made e f qe qf b agrees now_true off =
      let v = qe.1 in
      ⊎_elim
      (λ (q : f.pivot ≡ e.pivot). met_has (made_true e.pivot b) e.pivot f.lits (ap (λ x. has x f.lits) (sym q) ∙ qf.0) now_true)
      (λ (q : f.pivot ≡ neg_ℤ e.pivot).
      met_off n (nat_abs z) a (made_true e.pivot b) f.lits (under_rising n w 0 qf.2.0 f.lits s o qf.2.1)
      (agree_made (nat_abs z) a b e.pivot (omega arith) v agrees) (opposite_off e f qe qf q off))
      (one_variable f.pivot e.pivot (qf.1 ∙ sym v))

  -- restoring the clauses of the variable changes that variable only
  saved_agrees : (es : List Saved) → AllByRecursion (SavedOf s z) es → Agree (nat_abs z) a (restored es a)
  saved_agrees es all = restored_agrees (nat_abs z) es a nonzero (All-weaker (SavedOf s z) (λ f. nat_abs f.pivot ≡ nat_abs z) (λ f q. q.1) es all)

  -- the saved clauses are met after restoring
  restored_meets : (es : List Saved) → AllByRecursion (SavedOf s z) es → AllByRecursion (λ e. met (restored es a) e.lits ≡ true) es
  restored_meets [] all = tt
  restored_meets (e ∷ es) all =
      let b = restored es a in
      let mine = all.0 in
      let re = under_rising n w 0 mine.2.0 e.lits s o mine.2.1 in
      let assigned = restored_assignment n es a model.0 in
      let agrees = saved_agrees es all.1 in
      let low = rising_range n 0 e.lits e.pivot re mine.0 in
      let len = length_of n b assigned in
      let now_true : holds (made_true e.pivot b) e.pivot ≡ true = made_holds e.pivot b low.0 (omega arith) in (
        repaired_meets n e b assigned re mine.0,
        ⊎_elim
            (λ (k : met b e.lits ≡ true).
            subst (λ x. AllByRecursion (λ f. met x f.lits ≡ true) es) (sym (repaired_met e b k)) (restored_meets es all.1))
            (λ (k : met b e.lits ≡ false).
            subst (λ x. AllByRecursion (λ f. met x f.lits ≡ true) es) (sym (repaired_unmet e b k))
            (All-weaker (SavedOf s z) (λ f. met (made_true e.pivot b) f.lits ≡ true)
            (λ f q. after_made e f mine q b agrees now_true (false_off n (nat_abs z) a b e.lits re agrees k))
            es all.1))
            (cases_Bool (met b e.lits)),
      )

  -- a standing clause without the variable stays met
  others_stay : (es : List Saved) → AllByRecursion (SavedOf s z) es → (k : ℕ) (c : List ℤ) → Stands s k c → has z c ≡ false → has (neg_ℤ z) c ≡ false → met (restored es a) c ≡ true
  others_stay es all k c h p q =
      let x = met_some a c (met_free a z s k c model.1 h p q) in
      let other : nat_abs x.0 ≡ nat_abs z → ⊥ = λ v.
      ⊎_elim
      (λ (e : x.0 ≡ z). true≢false (sym x.1 ∙ ap (λ y. has y c) e ∙ p))
      (λ (e : x.0 ≡ neg_ℤ z). true≢false (sym x.1 ∙ ap (λ y. has y c) e ∙ q))
      (one_variable x.0 z v) in
      met_off n (nat_abs z) a (restored es a) c (under_rising n w 0 k c s o h) (saved_agrees es all) (x.0, x.1, other, x.2)

  -- restoring gives a model of all
  restored_model : (es : List Saved) → SavesVariable s z es → Model n s (restored es a)
  restored_model es saves =
      let meets = restored_meets es saves.0 in
      let held : (k : ℕ) (c : List ℤ) → Stands s k c → In z c ⊎ In (neg_ℤ z) c → met (restored es a) c ≡ true = λ k c h i.
      let m = saves.1 k c h i in all_at (λ e. met (restored es a) e.lits ≡ true) es (record { pivot = m.0; lits = c }) meets m.1 in (
        restored_assignment n es a model.0,
        met_all n w 0 (restored es a) s o
            (λ k c h.
            ⊎_elim
            (λ (p : has z c ≡ true). held k c h (inl p))
            (λ (p : has z c ≡ false).
            ⊎_elim
            (λ (q : has (neg_ℤ z) c ≡ true). held k c h (inr q))
            (λ (q : has (neg_ℤ z) c ≡ false). others_stay es saves.0 k c h p q)
            (cases_Bool (has (neg_ℤ z) c)))
            (cases_Bool (has z c))),
      )

-- ── What an elimination saves ──

-- each is a standing clause of the variable with the literal that it holds
eliminated_all : (n w m : ℕ) (s : List Entry) (z : ℤ) → ordered n w m s ≡ true → AllByRecursion (SavedOf s z) (eliminated z s)
eliminated_all n w m [] z o = tt
eliminated_all n w m (e ∷ es) z o =
    let rest = ordered_rest n w m e es o in
    let later = All-weaker (SavedOf es z) (SavedOf (e ∷ es) z) (λ f q. (q.0, q.1, (q.2.0, under_more n w m q.2.0 f.lits e es o q.2.1))) (eliminated z es) (eliminated_all n w e.number es z rest) in
    cond_both (has z e.lits) _ _ (AllByRecursion (SavedOf (e ∷ es) z))
    (λ h. ((h, refl, (e.number, under_first e es)), later))
    (λ _. cond_both (has (neg_ℤ z) e.lits) _ _ (AllByRecursion (SavedOf (e ∷ es) z)) (λ h. ((h, abs_neg z, (e.number, under_first e es)), later)) (λ _. later))

-- a saved clause with some pivot
abbrev SavedAmong : List ℤ → List Saved → Type 0
SavedAmong c es = (p : ℤ) × Memᴰ (record { pivot = p; lits = c }) es

-- every standing clause of the variable is saved
eliminated_complete : (s : List Entry) (z : ℤ) (k : ℕ) (c : List ℤ) → Stands s k c → In z c ⊎ In (neg_ℤ z) c → SavedAmong c (eliminated z s)
eliminated_complete [] z k c h i = absurd (none_not_some c h)
eliminated_complete (e ∷ es) z k c h i =
    ⊎_elim
    (λ (q : (e.number ≡ k) × (e.lits ≡ c)).
    let with_pivot : (p : ℤ) → ◌≡◌ {A = Saved} (record { pivot = p; lits = c }) (record { pivot = p; lits = e.lits }) = λ p. ap (λ x. record { pivot = p; lits = x }) (sym q.1) in
    cond_both (has z e.lits) _ _ (SavedAmong c)
    (λ _. (z, Memᴰ.head (with_pivot z)))
    (λ lacks.
    cond_both (has (neg_ℤ z) e.lits) _ _ (SavedAmong c)
    (λ _. (neg_ℤ z, Memᴰ.head (with_pivot (neg_ℤ z))))
    (λ lacks_too.
    absurd
    (⊎_elim
    (λ (j : In z c). true≢false (sym j ∙ ap (has z) (sym q.1) ∙ lacks))
    (λ (j : In (neg_ℤ z) c). true≢false (sym j ∙ ap (has (neg_ℤ z)) (sym q.1) ∙ lacks_too))
    i))))
    (λ (q : Stands es k c).
    let ih = eliminated_complete es z k c q i in
    cond_both (has z e.lits) _ _ (SavedAmong c)
    (λ _. (ih.0, Memᴰ.tail ih.1))
    (λ _. cond_both (has (neg_ℤ z) e.lits) _ _ (SavedAmong c) (λ _. (ih.0, Memᴰ.tail ih.1)) (λ _. ih)))
    (under_cases k c e es h)

-- the two together
pub eliminated_saves : (n w : ℕ) (s : List Entry) (z : ℤ) → ordered n w 0 s ≡ true → SavesVariable s z (eliminated z s)
eliminated_saves n w s z o = (eliminated_all n w 0 s z o, eliminated_complete s z)

-- ── The theorems ──

-- the theorem on restoring
pub elimination_restores : EliminationRestores
elimination_restores n w s z o nonzero cover = (eliminated_saves n w s z o, λ es saves a model. restored_model n w s z o nonzero cover a model es saves)

-- the theorem on satisfiability
pub elimination_keeps : EliminationKeeps
elimination_keeps n w s z o nonzero cover = (
  λ x.
      let r = elimination_restores n w s z o nonzero cover in
      let b = r.1 (eliminated z s) r.0 x.0 (x.1, x.2) in
      (restored (eliminated z s) x.0, b.0, b.1),
  λ x. (x.0, x.1, free_met x.0 z s x.2),
)
