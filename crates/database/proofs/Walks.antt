-- Walks over a database by its next question: what is still to come after each step.
use Rattle.std.proofs.Common.{◌≡◌, ℕ, ◌<◌, ◌≤◌, true, List, [], ◌∷◌, length, suc, ℤ, Some, None, Option, refl, sym, ◌∙◌, ap, ⊎_elim, arith}
use Rattle.std.proofs.lemmas.Bool.{cases_lt}
use Rattle.std.proofs.lemmas.Bool.Decides.{nat_tests}
use Rattle.words.specs.Standing.{Entry, ordered, under, next_above}
use Rattle.database.specs.Walks.{above}

-- at the start everything is to come
pub above_start : (n w : ℕ) (s : List Entry) → ordered n w 0 s ≡ true → above 0 s ≡ s
above_start n w [] o = refl
above_start n w (e ∷ es) o = grind (arith, nat_tests)

-- a number that is above every one so far is not under a lower one
pub under_low : (n w k m : ℕ) (s : List Entry) → ordered n w k s ≡ true → m ≤ k → under m s ≡ None
under_low n w k m [] o h = refl
under_low n w k m (e ∷ es) o h = let ih = under_low n w e.number m es in grind (arith, nat_tests, ih)

pub above_low : (n w k m : ℕ) (s : List Entry) → ordered n w k s ≡ true → m ≤ k → above m s ≡ s
above_low n w k m [] o h = refl
above_low n w k m (e ∷ es) o h = grind (arith, nat_tests)

-- where there is no next number, nothing is to come
pub above_end : (k : ℕ) (s : List Entry) → next_above k s ≡ None → above k s ≡ []
above_end k [] e = refl
above_end k (x ∷ s) e = let ih = above_end k s in grind (arith, nat_tests, ih)

-- the next number m: its entry is the first to come, and the rest is what is to come after m
pub record Step (k m : ℕ) (s : List Entry) : Type 0 where
  pub lits : List ℤ
  pub rises : k < m
  pub found : under m s ≡ Some lits
  pub split : above k s ≡ record { number = m; lits = lits } ∷ above m s

pub next_step : (n w j k m : ℕ) (s : List Entry) → ordered n w j s ≡ true → next_above k s ≡ Some m → Step k m s
next_step n w j k m [] o e = absurd (let z : ◌≡◌ {A = ℕ} 0 1 = cc in omega arith)
next_step n w j k m (x ∷ s) o e =
    let o1 : ordered n w x.number s ≡ true = grind (arith, nat_tests) in
    ⊎_elim
    (λ (h : k < x.number).
    let q : ◌≡◌ {A = Option ℕ} (Some x.number) (Some m) = grind (arith, nat_tests) in
    let t : x.number ≡ m = cc in
    let a1 = above_low n w x.number m s o1 (omega arith) in
    record {
      lits = x.lits;
      rises = omega arith;
      found = grind (arith, nat_tests);
      split =
          let b1 : above k (x ∷ s) ≡ x ∷ s = grind (arith, nat_tests) in
          let b2 : above m (x ∷ s) ≡ above m s = grind (arith, nat_tests) in
          let b3 : x ≡ record { number = m; lits = x.lits } = ap (λ i. record { number = i; lits = x.lits }) t in
          cc;
    })
    (λ (h : x.number ≤ k).
    let q : next_above k s ≡ Some m = grind (arith, nat_tests) in
    let r = next_step n w x.number k m s o1 q in
    let lt = r.rises in
    record {
      lits = r.lits;
      rises = r.rises;
      found = let f = r.found in grind (arith, nat_tests);
      split =
          let b1 : above k (x ∷ s) ≡ above k s = grind (arith, nat_tests) in
          let b2 : above m (x ∷ s) ≡ above m s = grind (arith, nat_tests) in
          let b3 = r.split in
          cc;
    })
    (cases_lt k x.number)

-- the entry that a walk gives next, and what is still to come behind it
pub next_given :
    (n w k m : ℕ) (z : List ℤ) (s : List Entry) → ordered n w 0 s ≡ true → Some m ≡ next_above k s → Some z ≡ under m s → above k s ≡ record { number = m; lits = z } ∷ above m s
next_given n w k m z s o e u =
    let r = next_step n w 0 k m s o (sym e) in
    let q : ◌≡◌ {A = Option (List ℤ)} (Some r.lits) (Some z) = sym r.found ∙ sym u in
    let t : r.lits ≡ z = cc in
    r.split ∙ ap (λ (x : List ℤ). record { number = m; lits = x } ∷ above m s) t

-- a number that a walk gives is above the one before
pub next_rises : (n w k m : ℕ) (s : List Entry) → ordered n w 0 s ≡ true → Some m ≡ next_above k s → k < m
next_rises n w k m s o e = (next_step n w 0 k m s o (sym e)).rises

-- a number that a walk gives stands
pub next_stands : (n w k m : ℕ) (s : List Entry) → ordered n w 0 s ≡ true → Some m ≡ next_above k s → None ≡ under m s → ⊥
next_stands n w k m s o e u =
    let r = next_step n w 0 k m s o (sym e) in
    let q : ◌≡◌ {A = Option (List ℤ)} (Some r.lits) None = sym r.found ∙ sym u in
    cc

-- a list is longer than what is behind its first
pub longer : (e : Entry) (s t : List Entry) → s ≡ e ∷ t → length t < length s
longer e s t q = let l : length s ≡ suc (length t) = ap length q in omega (arith, l)
