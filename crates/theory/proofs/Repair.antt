-- Repairs: a pivot made true, the clauses that stay met, and the blocked clause.
use Rattle.std.proofs.Common.{◌≡◌, ℕ, ◌-◌, ◌≤◌, true, false, cond, List, length, get_or, ℤ, neg_ℤ, nat_abs, sym, refl, ap, ◌∙◌, ⊎_elim, arith}
use lib.IntN.{neg_ℤ-neg_ℤ}
use Rattle.std.proofs.lemmas.Bool.{cases_Bool, cases_eq, true≢false}
use Rattle.words.specs.Clauses.{has, rising}
use Rattle.words.specs.Assignments.{assignment, holds, met, made_true}
use Rattle.rules.specs.Restoring.{Saved, repaired}
use Rattle.rules.specs.Obeying.{In, Tautological, IsResolvent}
use Rattle.theory.specs.Soundness.{BlockedRepairs}
use Rattle.theory.proofs.Truth.{holds_at, holds_says, length_of, one_of_both, met_has, met_some, made_length, made_assignment, made_holds, made_byte}
use Rattle.acceptance.proofs.Sets.{one_variable, abs_neg}
use Rattle.acceptance.proofs.Rising.{rising_range, rising_plain}
use Rattle.acceptance.proofs.Entries.{under_rising}

-- ── Literals of one clause ──

-- a clause holds no opposite pair
pub clause_plain : (n : ℕ) (c : List ℤ) (z : ℤ) → rising n 0 c ≡ true → has z c ≡ true → has (neg_ℤ z) c ≡ true → ⊥
clause_plain n c z r h k = true≢false (sym k ∙ rising_plain n 0 c r z h)

-- a literal of a clause that holds l, other than l, is of another variable
pub other_variable : (n : ℕ) (c : List ℤ) (l z : ℤ) → rising n 0 c ≡ true → has l c ≡ true → has z c ≡ true → (z ≡ l → ⊥) → nat_abs z ≡ nat_abs l → ⊥
other_variable n c l z r h k d v = ⊎_elim d (λ (e : z ≡ neg_ℤ l). clause_plain n c l r h (ap (λ x. has x c) (sym e) ∙ k)) (one_variable z l v)

-- ── Assignments that agree ──

-- two assignments have the same bytes but for that of one variable
abbrev pub Agree : ℕ → List ℕ → List ℕ → Type 0
Agree m a b = (length b ≡ length a) × ((v : ℕ) → 1 ≤ v → (v ≡ m → ⊥) → get_or b (v - 1) 0 ≡ get_or a (v - 1) 0)

pub agree_itself : (m : ℕ) (a : List ℕ) → Agree m a a
agree_itself m a = (refl, λ _ _ _. refl)

-- literals of other variables are then true together
pub agree_holds : (m : ℕ) (a b : List ℕ) (z : ℤ) → Agree m a b → 1 ≤ nat_abs z → (nat_abs z ≡ m → ⊥) → holds a z ≡ true → holds b z ≡ true
agree_holds m a b z g p d h =
    let x = holds_says a z h in
    let len = g.0 in
    let w = x.0 in
    holds_at b z (omega arith) (g.1 (nat_abs z) p d ∙ x.1)

-- a literal of the one variable made true keeps the agreement
pub agree_made : (m : ℕ) (a b : List ℕ) (l : ℤ) → 1 ≤ nat_abs l → nat_abs l ≡ m → Agree m a b → Agree m a (made_true l b)
agree_made m a b l p e g = (made_length l b ∙ g.0, λ v q d. made_byte l b v p q (λ k. d (k ∙ e)) ∙ g.1 v q d)

-- ── Clauses away from one variable ──

-- no literal of another variable is true
abbrev pub FalseOff : ℕ → List ℕ → List ℤ → Type 0
FalseOff m a c = (z : ℤ) → has z c ≡ true → (nat_abs z ≡ m → ⊥) → holds a z ≡ false

-- a literal of another variable is true
abbrev pub MetOff : ℕ → List ℕ → List ℤ → Type 0
MetOff m a c = (z : ℤ) × (has z c ≡ true) × (nat_abs z ≡ m → ⊥) × (holds a z ≡ true)

-- a clause that is met so is met by every assignment that agrees
pub met_off : (n m : ℕ) (a b : List ℕ) (c : List ℤ) → rising n 0 c ≡ true → Agree m a b → MetOff m a c → met b c ≡ true
met_off n m a b c r g x = met_has b x.0 c x.1 (agree_holds m a b x.0 g (rising_range n 0 c x.0 r x.1).0 x.2 x.3)

-- a clause that is not met has no true literal, of an assignment that agrees either
pub false_off : (n m : ℕ) (a b : List ℕ) (c : List ℤ) → rising n 0 c ≡ true → Agree m a b → met b c ≡ false → FalseOff m a c
false_off n m a b c r g u z h d =
    ⊎_elim
    (λ (t : holds a z ≡ true). absurd (true≢false (sym (met_off n m a b c r g (z, h, d, t)) ∙ u)))
    (λ (t : holds a z ≡ false). t)
    (cases_Bool (holds a z))

-- where the resolvent on l is tautological, one parent with no true literal but perhaps l leaves the other met
pub clash_off : (n : ℕ) (a : List ℕ) (l : ℤ) (c d : List ℤ) → assignment n a ≡ true → rising n 0 c ≡ true → rising n 0 d ≡ true → has l c ≡ true →
    Tautological l c d → FalseOff (nat_abs l) a c → MetOff (nat_abs l) a d
clash_off n a l c d s rc rd h t f =
    ⊎_elim
    (λ (p : In t.0 c × (t.0 ≡ l → ⊥)).
    ⊎_elim
    (λ (q : In (neg_ℤ t.0) c × (neg_ℤ t.0 ≡ l → ⊥)). absurd (clause_plain n c t.0 rc p.0 q.0))
    (λ (q : In (neg_ℤ t.0) d × (neg_ℤ t.0 ≡ neg_ℤ l → ⊥)). across t.0 (neg_ℤ t.0) p.0 p.1 q.0 refl)
    t.2)
    (λ (p : In t.0 d × (t.0 ≡ neg_ℤ l → ⊥)).
    ⊎_elim
    (λ (q : In (neg_ℤ t.0) c × (neg_ℤ t.0 ≡ l → ⊥)). across (neg_ℤ t.0) t.0 q.0 q.1 p.0 (sym (neg_ℤ-neg_ℤ t.0)))
    (λ (q : In (neg_ℤ t.0) d × (neg_ℤ t.0 ≡ neg_ℤ l → ⊥)). absurd (clause_plain n d t.0 rd p.0 q.0))
    t.2)
    t.1
  where
    -- y in c is false, so its negation z in d is true
    across : (y z : ℤ) → In y c → (y ≡ l → ⊥) → In z d → z ≡ neg_ℤ y → MetOff (nat_abs l) a d
    across y z hy e hz k =
        let off = other_variable n c l y rc h hy e in
        let b = rising_range n 0 c y rc hy in
        (z, hz, λ v. off (sym (abs_neg y) ∙ ap nat_abs (sym k) ∙ v), ap (holds a) k ∙ one_of_both n a y s b.0 b.1 (f y hy off))

-- where the resolvent on l is met, one parent with no true literal but perhaps l leaves the other met
pub resolvent_off : (n : ℕ) (a : List ℕ) (l : ℤ) (c d r : List ℤ) → rising n 0 c ≡ true → rising n 0 d ≡ true → has l c ≡ true → has (neg_ℤ l) d ≡ true →
    IsResolvent l c d r → met a r ≡ true → FalseOff (nat_abs l) a c → MetOff (nat_abs l) a d
resolvent_off n a l c d r rc rd h k is m f =
    let x = met_some a r m in
    ⊎_elim
    (λ (p : In x.0 c × (x.0 ≡ l → ⊥)). absurd (true≢false (sym x.2 ∙ f x.0 p.0 (other_variable n c l x.0 rc h p.0 p.1))))
    (λ (p : In x.0 d × (x.0 ≡ neg_ℤ l → ⊥)). (x.0, p.0, λ v. other_variable n d (neg_ℤ l) x.0 rd k p.0 p.1 (v ∙ sym (abs_neg l)), x.2))
    ((is x.0).0 x.1)

-- ── One repair ──

-- a clause that is met and does not hold -l stays met where l is made true
pub met_made : (n : ℕ) (a : List ℕ) (l : ℤ) (d : List ℤ) → 1 ≤ nat_abs l → nat_abs l ≤ length a → rising n 0 d ≡ true → has (neg_ℤ l) d ≡ false → met a d ≡ true → met (made_true l a) d ≡ true
met_made n a l d p q r h m =
    let x = met_some a d m in
    ⊎_elim
    (λ (v : nat_abs x.0 ≡ nat_abs l).
    ⊎_elim
    (λ (e : x.0 ≡ l). met_has (made_true l a) x.0 d x.1 (ap (holds (made_true l a)) e ∙ made_holds l a p q))
    (λ (e : x.0 ≡ neg_ℤ l). absurd (true≢false (sym x.1 ∙ ap (λ z. has z d) e ∙ h)))
    (one_variable x.0 l v))
    (λ v. met_off n (nat_abs l) a (made_true l a) d r (agree_made (nat_abs l) a a l p refl (agree_itself (nat_abs l) a)) (x.0, x.1, v, x.2))
    (cases_eq (nat_abs x.0) (nat_abs l))

-- a saved clause that is met is left
pub repaired_met : (e : Saved) (a : List ℕ) → met a e.lits ≡ true → repaired e a ≡ a
repaired_met e a m = ap (λ b. cond b a (made_true e.pivot a)) m

-- one that is not met has its pivot made true
pub repaired_unmet : (e : Saved) (a : List ℕ) → met a e.lits ≡ false → repaired e a ≡ made_true e.pivot a
repaired_unmet e a m = ap (λ b. cond b a (made_true e.pivot a)) m

-- a repaired assignment is an assignment
pub repaired_assignment : (n : ℕ) (e : Saved) (a : List ℕ) → assignment n a ≡ true → assignment n (repaired e a) ≡ true
repaired_assignment n e a s =
    ⊎_elim
    (λ m. ap (assignment n) (repaired_met e a m) ∙ s)
    (λ m. ap (assignment n) (repaired_unmet e a m) ∙ made_assignment n e.pivot a s)
    (cases_Bool (met a e.lits))

-- a saved clause that holds its pivot is met after its repair
pub repaired_meets : (n : ℕ) (e : Saved) (a : List ℕ) → assignment n a ≡ true → rising n 0 e.lits ≡ true → has e.pivot e.lits ≡ true → met (repaired e a) e.lits ≡ true
repaired_meets n e a s r h =
    let b = rising_range n 0 e.lits e.pivot r h in
    let len = length_of n a s in
    ⊎_elim
    (λ m. ap (λ x. met x e.lits) (repaired_met e a m) ∙ m)
    (λ m. ap (λ x. met x e.lits) (repaired_unmet e a m) ∙ met_has (made_true e.pivot a) e.pivot e.lits h (made_holds e.pivot a b.0 (omega arith)))
    (cases_Bool (met a e.lits))

-- the repair of a clause keeps another met that does not hold -l, or whose resolvent with it on l is tautological
pub repaired_keeps : (n : ℕ) (l : ℤ) (c d : List ℤ) (a : List ℕ) → assignment n a ≡ true → rising n 0 c ≡ true → rising n 0 d ≡ true → has l c ≡ true →
    (In (neg_ℤ l) d → Tautological l c d) → met a d ≡ true → met (repaired (record { pivot = l; lits = c }) a) d ≡ true
repaired_keeps n l c d a s rc rd h t m =
    let b = rising_range n 0 c l rc h in
    let len = length_of n a s in
    let itself = agree_itself (nat_abs l) a in
    ⊎_elim
    (λ (u : met a c ≡ true). ap (λ x. met x d) (repaired_met (record { pivot = l; lits = c }) a u) ∙ m)
    (λ (u : met a c ≡ false).
    ap (λ x. met x d) (repaired_unmet (record { pivot = l; lits = c }) a u) ∙
    ⊎_elim
    (λ (k : has (neg_ℤ l) d ≡ true).
    met_off n (nat_abs l) a (made_true l a) d rd (agree_made (nat_abs l) a a l b.0 refl itself)
    (clash_off n a l c d s rc rd h (t k) (false_off n (nat_abs l) a a c rc itself u)))
    (λ (k : has (neg_ℤ l) d ≡ false). met_made n a l d b.0 (omega arith) rd k m)
    (cases_Bool (has (neg_ℤ l) d)))
    (cases_Bool (met a c))

-- the theorem on blocked clauses
pub blocked_repairs : BlockedRepairs
blocked_repairs n w s o k l c h blocked a assigned =
    let rc = under_rising n w 0 k c s o h in (
      repaired_assignment n (record { pivot = l; lits = c }) a assigned,
      repaired_meets n (record { pivot = l; lits = c }) a assigned rc blocked.0,
      λ j d g m. repaired_keeps n l c d a assigned rc (under_rising n w 0 j d s o g) blocked.0 (blocked.1 j d g) m,
    )
