-- Rule E: the pairs of the two sides, one after another.
use Rattle.std.proofs.Common.{◌≡◌, ℕ, ◌<◌, ◌≤◌, Bool, true, false, cond, ◌||◌, leb, List, [], ◌∷◌, length, ℤ, Some, None, Option, sym, refl, ap, ◌∙◌, ⊎_elim, arith}
use Rattle.std.proofs.lemmas.Bool.{cases_Bool}
use Rattle.std.proofs.lemmas.Bool.Decides.{nat_tests}
use Rattle.words.specs.Clauses.{opposed, equal, resolvent}
use Rattle.words.specs.Standing.{Entry, ordered}
use Rattle.rules.specs.Lines.{some_equal, covered, uncovered_with, first_uncovered}
use Rattle.acceptance.proofs.Sets.{equal_is}
use Rattle.acceptance.proofs.Pairs.{pairs_on, pairs_at}

-- ── One pair ──

-- a list of more than 64 literals does not stand
wide_unequal : (n w k : ℕ) (c : List ℤ) (s : List Entry) → ordered n w k s ≡ true → w ≤ 64 → 64 < length c → some_equal c s ≡ false
wide_unequal n w k c [] o h l = refl
wide_unequal n w k c (e ∷ es) o h l =
    let o1 : ordered n w e.number es ≡ true = grind (arith, nat_tests) in
    let few : length e.lits ≤ w = grind (arith, nat_tests) in
    let ih = wide_unequal n w e.number c es o1 h l in
    ⊎_elim
    (λ (t : equal e.lits c ≡ true). absurd (let q = ap length (equal_is e.lits c t) in omega arith))
    (λ (t : equal e.lits c ≡ false). grind arith)
    (cases_Bool (equal e.lits c))

module _ (v : ℤ) (s : List Entry) (a b : List ℤ) where
  -- the resolvent holds an opposite pair
  pub cover_clash : (r : Bool) → opposed (resolvent v a b) ≡ r → r ≡ true → true ≡ covered v s a b
  cover_clash r o t = let q = o ∙ t in grind arith

  -- or is looked for among what stands
  pub cover_stands : opposed (resolvent v a b) ≡ false → (c : List ℤ) (r : Bool) → ◌≡◌ {A = Option (List ℤ)} (Some c) (cond (leb (length (resolvent v a b)) 64) (Some (resolvent v a b)) None) → r ≡ some_equal c s → r ≡ covered v s a b
  cover_stands o c r q e =
      ⊎_elim
      (λ (t : leb (length (resolvent v a b)) 64 ≡ true).
      let p : ◌≡◌ {A = Option (List ℤ)} (Some c) (Some (resolvent v a b)) = q ∙ ap (λ x. cond x (Some (resolvent v a b)) None) t in
      let i : c ≡ resolvent v a b = cc in
      e ∙ ap (λ x. some_equal x s) i ∙ sym (ap (λ x. x || some_equal (resolvent v a b) s) o))
      (λ (t : leb (length (resolvent v a b)) 64 ≡ false).
      let p : ◌≡◌ {A = Option (List ℤ)} (Some c) None = q ∙ ap (λ x. cond x (Some (resolvent v a b)) None) t in
      absurd (let z : ◌≡◌ {A = ℕ} 0 1 = cc in omega arith))
      (cases_Bool (leb (length (resolvent v a b)) 64))

  -- or has more than 64 literals
  pub cover_wide : (n w : ℕ) → ordered n w 0 s ≡ true → leb w 64 ≡ true → opposed (resolvent v a b) ≡ false → ◌≡◌ {A = Option (List ℤ)} None (cond (leb (length (resolvent v a b)) 64) (Some (resolvent v a b)) None) → false ≡ covered v s a b
  cover_wide n w d f o q =
      ⊎_elim
      (λ (t : leb (length (resolvent v a b)) 64 ≡ true).
      let p : ◌≡◌ {A = Option (List ℤ)} None (Some (resolvent v a b)) = q ∙ ap (λ x. cond x (Some (resolvent v a b)) None) t in
      absurd (let z : ◌≡◌ {A = ℕ} 0 1 = cc in omega arith))
      (λ (t : leb (length (resolvent v a b)) 64 ≡ false).
      let l : 64 < length (resolvent v a b) = grind (arith, nat_tests) in
      let m : w ≤ 64 = grind (arith, nat_tests) in
      let u = wide_unequal n w 0 (resolvent v a b) s d m l in
      sym (ap (λ x. x || some_equal (resolvent v a b) s) o ∙ u))
      (cases_Bool (leb (length (resolvent v a b)) 64))

-- ── The pairs ──

-- the partners of a clause: the next is covered, or not, or there is none
module _ (v : ℤ) (s : List Entry) (a : List ℤ) (ns rest all : List Entry) (inv : uncovered_with v s a ns ≡ uncovered_with v s a all) where
  pub partner_covered : (e : Entry) → ns ≡ e ∷ rest → covered v s a e.lits ≡ true → uncovered_with v s a rest ≡ uncovered_with v s a all
  partner_covered e q t = sym (ap (uncovered_with v s a) q ∙ ap (λ b. cond b (uncovered_with v s a rest) (Some e.number)) t) ∙ inv

  pub partner_uncovered : (e : Entry) → ns ≡ e ∷ rest → covered v s a e.lits ≡ false → uncovered_with v s a all ≡ Some e.number
  partner_uncovered e q t = sym inv ∙ ap (uncovered_with v s a) q ∙ ap (λ b. cond b (uncovered_with v s a rest) (Some e.number)) t

  pub partners_done : ns ≡ [] → uncovered_with v s a all ≡ None
  partners_done q = sym inv ∙ ap (uncovered_with v s a) q

-- the clauses of P: the next has an uncovered partner, or none, or there is no next
module _ (v : ℤ) (s ns ps rest all : List Entry) (inv : first_uncovered v s ps ns ≡ first_uncovered v s all ns) where
  pub pair_on : (e : Entry) → ps ≡ e ∷ rest → uncovered_with v s e.lits ns ≡ None → first_uncovered v s rest ns ≡ first_uncovered v s all ns
  pair_on e q u = sym (ap (λ xs. first_uncovered v s xs ns) q ∙ pairs_on v s e rest ns u) ∙ inv

  pub pair_at : (e : Entry) (k : ℕ) → ps ≡ e ∷ rest → uncovered_with v s e.lits ns ≡ Some k → Some (e.number, k) ≡ first_uncovered v s all ns
  pair_at e k q u = sym (sym inv ∙ ap (λ xs. first_uncovered v s xs ns) q ∙ pairs_at v s e rest ns k u)

  pub pairs_done : ps ≡ [] → None ≡ first_uncovered v s all ns
  pairs_done q = sym (sym inv ∙ ap (λ xs. first_uncovered v s xs ns) q)
