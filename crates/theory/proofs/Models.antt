-- Standing clauses, more of them or fewer: what meets them, and that they stay in order.
use Rattle.std.proofs.Common.{◌≡◌, ℕ, ◌<◌, true, false, not, ◌&&◌, ◌||◌, eqb, List, [], ◌∷◌, ℤ, neg_ℤ, sym, refl, ap, ◌∙◌, ⊎_elim, arith}
use Rattle.std.proofs.lemmas.Bool.{and_parts, and_from, or_from, cond_both, cond-false, ne_eqb}
use Rattle.std.proofs.lemmas.Bool.Decides.{nat_tests}
use Rattle.words.specs.Clauses.{has, canonical}
use Rattle.words.specs.Literals.{number_ok}
use Rattle.words.specs.Assignments.{met, all_met}
use Rattle.words.specs.Standing.{Entry, ordered, stands, clauses, inserted, without}
use Rattle.rules.specs.Lines.{free_of}
use Rattle.rules.specs.Obeying.{Stands}
use Rattle.acceptance.proofs.Passing.{none_not_some}
use Rattle.acceptance.proofs.Entries.{under_first, under_cases, under_more, ordered_first, ordered_rest}
use Rattle.acceptance.proofs.Pairs.{ordered_lower}

-- ── All and each ──

-- an assignment that meets all meets each
pub met_each : (a : List ℕ) (s : List Entry) (k : ℕ) (c : List ℤ) → all_met a (clauses s) ≡ true → Stands s k c → met a c ≡ true
met_each a [] k c m h = absurd (none_not_some c h)
met_each a (e ∷ es) k c m h =
    let parts = and_parts (met a e.lits) (all_met a (clauses es)) m in
    ⊎_elim (λ q. ap (met a) (sym q.1) ∙ parts.0) (λ q. met_each a es k c parts.1 q) (under_cases k c e es h)

-- an assignment that meets each meets all
pub met_all : (n w m : ℕ) (a : List ℕ) (s : List Entry) → ordered n w m s ≡ true → ((k : ℕ) (c : List ℤ) → Stands s k c → met a c ≡ true) → all_met a (clauses s) ≡ true
met_all n w m a [] o f = refl
met_all n w m a (e ∷ es) o f =
    and_from (met a e.lits) (all_met a (clauses es)) (f e.number e.lits (under_first e es))
    (met_all n w e.number a es (ordered_rest n w m e es o) (λ k c h. f k c (under_more n w m k c e es o h)))

-- ── One more ──

-- a clause more is met with the others
pub met_inserted : (a : List ℕ) (x : Entry) (s : List Entry) → all_met a (clauses (inserted x s)) ≡ (met a x.lits && all_met a (clauses s))
met_inserted a x [] = refl
met_inserted a x (e ∷ es) = let ih = met_inserted a x es in grind arith

-- a clause under a free number keeps the order
pub ordered_inserted : (n w m : ℕ) (x : Entry) (s : List Entry) → ordered n w m s ≡ true → m < x.number → number_ok x.number ≡ true → canonical n w x.lits ≡ true →
    not (stands x.number s) ≡ true → ordered n w m (inserted x s) ≡ true
ordered_inserted n w m x [] o low ok can free = grind (arith, nat_tests)
ordered_inserted n w m x (e ∷ es) o low ok can free =
    let rest = ordered_rest n w m e es o in
    let free_rest : not (stands x.number es) ≡ true = grind arith in
    let ih : e.number < x.number → ordered n w e.number (inserted x es) ≡ true = λ g. ordered_inserted n w e.number x es rest g ok can free_rest in
    grind (arith, nat_tests, ih)

-- ── One less ──

-- the clauses but one are met where all are
pub without_met : (a : List ℕ) (k : ℕ) (s : List Entry) → all_met a (clauses s) ≡ true → all_met a (clauses (without k s)) ≡ true
without_met a k [] m = refl
without_met a k (e ∷ es) m =
    let parts = and_parts (met a e.lits) (all_met a (clauses es)) m in
    cond_both (eqb e.number k) _ _ (λ x. all_met a (clauses x) ≡ true) (λ _. parts.1) (λ _. and_from _ _ parts.0 (without_met a k es parts.1))

-- an assignment that meets all but one meets each other
pub met_without : (a : List ℕ) (k : ℕ) (s : List Entry) (j : ℕ) (c : List ℤ) → all_met a (clauses (without k s)) ≡ true → Stands s j c → (j ≡ k → ⊥) → met a c ≡ true
met_without a k [] j c m h d = absurd (none_not_some c h)
met_without a k (e ∷ es) j c m h d =
    ⊎_elim
    (λ (q : (e.number ≡ j) × (e.lits ≡ c)).
    let kept = cond-false (eqb e.number k) es (e ∷ without k es) (ne_eqb e.number k (λ x. d (sym q.0 ∙ x))) in
    ap (met a) (sym q.1) ∙ (and_parts (met a e.lits) (all_met a (clauses (without k es))) (ap (λ x. all_met a (clauses x)) (sym kept) ∙ m)).0)
    (λ (q : Stands es j c).
    cond_both (eqb e.number k) es (e ∷ without k es) (λ x. all_met a (clauses x) ≡ true → met a c ≡ true)
    (λ _ m. met_each a es j c m q)
    (λ _ m. met_without a k es j c (and_parts (met a e.lits) (all_met a (clauses (without k es))) m).1 q d)
    m)
    (under_cases j c e es h)

-- one clause less keeps the order
pub ordered_without : (n w m k : ℕ) (s : List Entry) → ordered n w m s ≡ true → ordered n w m (without k s) ≡ true
ordered_without n w m k [] o = refl
ordered_without n w m k (e ∷ es) o =
    let low = ordered_first n w m e es o in
    let rest = ordered_rest n w m e es o in
    let fewer = ordered_lower n w e.number m es (omega arith) rest in
    let ih = ordered_without n w e.number k es rest in
    grind (arith, nat_tests)

-- ── Those without a variable ──

-- the clauses without a variable are met where all are
pub free_met : (a : List ℕ) (z : ℤ) (s : List Entry) → all_met a (clauses s) ≡ true → all_met a (clauses (free_of z s)) ≡ true
free_met a z [] m = refl
free_met a z (e ∷ es) m =
    let parts = and_parts (met a e.lits) (all_met a (clauses es)) m in
    let ih = free_met a z es parts.1 in
    cond_both (has z e.lits || has (neg_ℤ z) e.lits) _ _ (λ x. all_met a (clauses x) ≡ true) (λ _. ih) (λ _. and_from _ _ parts.0 ih)

-- an assignment that meets all without a variable meets each of them
pub met_free : (a : List ℕ) (z : ℤ) (s : List Entry) (k : ℕ) (c : List ℤ) → all_met a (clauses (free_of z s)) ≡ true → Stands s k c → has z c ≡ false → has (neg_ℤ z) c ≡ false → met a c ≡ true
met_free a z [] k c m h p q = absurd (none_not_some c h)
met_free a z (e ∷ es) k c m h p q =
    ⊎_elim
    (λ (x : (e.number ≡ k) × (e.lits ≡ c)).
    let lacks = or_from (has z e.lits) (has (neg_ℤ z) e.lits) (ap (has z) x.1 ∙ p) (ap (has (neg_ℤ z)) x.1 ∙ q) in
    let kept = cond-false (has z e.lits || has (neg_ℤ z) e.lits) (free_of z es) (e ∷ free_of z es) lacks in
    ap (met a) (sym x.1) ∙ (and_parts (met a e.lits) (all_met a (clauses (free_of z es))) (ap (λ y. all_met a (clauses y)) (sym kept) ∙ m)).0)
    (λ (x : Stands es k c).
    cond_both (has z e.lits || has (neg_ℤ z) e.lits) (free_of z es) (e ∷ free_of z es) (λ y. all_met a (clauses y) ≡ true → met a c ≡ true)
    (λ _ m. met_free a z es k c m x p q)
    (λ _ m. met_free a z es k c (and_parts (met a e.lits) (all_met a (clauses (free_of z es))) m).1 x p q)
    m)
    (under_cases k c e es h)

-- so do those without a variable
pub ordered_free : (n w m : ℕ) (z : ℤ) (s : List Entry) → ordered n w m s ≡ true → ordered n w m (free_of z s) ≡ true
ordered_free n w m z [] o = refl
ordered_free n w m z (e ∷ es) o =
    let low = ordered_first n w m e es o in
    let ih = ordered_free n w e.number z es (ordered_rest n w m e es o) in
    let fewer = ordered_lower n w e.number m (free_of z es) (omega arith) ih in
    grind (arith, nat_tests)
