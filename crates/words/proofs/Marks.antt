-- The literal marks.
use Rattle.std.proofs.Common.{◌≡◌, ℕ, ◌+◌, ◌<◌, ◌≤◌, true, false, cond, eqb, List, [], ◌∷◌, ◌++◌, length, get_or, set, replicate, ℤ, pos, negsuc, nat_abs, sym, ap, ◌∙◌, ⊎_elim, arith}
use Rattle.std.proofs.lemmas.List.{get_or-set_same, get_or-set_other, get_or-replicate}
use Rattle.std.proofs.lemmas.Bool.{cases_eq, cases_Bool}
use Rattle.std.proofs.lemmas.Bool.Decides.{nat_tests}
use Rattle.words.specs.Clauses.{has}
use Rattle.words.specs.Marks.{mark_place, Marked}
use Rattle.words.proofs.Inserts.{has_push}
use Rattle.words.proofs.Literals.{same_eq, same_ne}

-- every literal has a place in the table
pub mark_place_lt : (n : ℕ) (z : ℤ) → 1 ≤ nat_abs z → nat_abs z ≤ n → mark_place n z < n + n
mark_place_lt n (pos v) p q = omega arith
mark_place_lt n (negsuc k) p q = omega arith

-- and one of its own
pub mark_place_inj : (n : ℕ) (a b : ℤ) → 1 ≤ nat_abs a → nat_abs a ≤ n → 1 ≤ nat_abs b → nat_abs b ≤ n → mark_place n a ≡ mark_place n b → a ≡ b
mark_place_inj n (pos a) (pos b) h i j k e = ap pos (omega arith)
mark_place_inj n (pos a) (negsuc b) h i j k e = absurd (omega arith)
mark_place_inj n (negsuc a) (pos b) h i j k e = absurd (omega arith)
mark_place_inj n (negsuc a) (negsuc b) h i j k e = ap negsuc (omega arith)

-- a clear table has the marks of no literal
pub marked_none : (n size : ℕ) (flags : List ℕ) → size ≡ n + n → flags ≡ replicate size 0 → Marked n flags []
marked_none n size flags k e z p q =
    let l = mark_place_lt n z p q in
    ap (λ fs. get_or fs (mark_place n z) 0) e ∙ get_or-replicate size (mark_place n z) 0 0 (omega arith)

-- one literal more is marked
pub marked_more : (n : ℕ) (flags : List ℕ) (zs : List ℤ) (l : ℤ) (i : ℕ) → i ≡ mark_place n l → n + n ≤ length flags → 1 ≤ nat_abs l → nat_abs l ≤ n →
    Marked n flags zs → Marked n (set flags i 1) (zs ++ l ∷ [])
marked_more n flags zs l i e size p q m z pz qz =
    let hp = has_push z zs l in
    let before = m z pz qz in
    let lt = mark_place_lt n l p q in
    ⊎_elim
    (λ (s : mark_place n z ≡ mark_place n l).
    let s1 = same_eq l z (sym (mark_place_inj n z l pz qz p q s)) in
    let g1 = ap (λ j. get_or (set flags i 1) j 0) (s ∙ sym e) in
    let g2 = get_or-set_same flags i 1 0 (omega arith) in
    let g3 : has z (zs ++ l ∷ []) ≡ true = grind (arith, nat_tests) in
    g1 ∙ g2 ∙ sym (ap (λ b. cond b 1 0) g3))
    (λ (s : mark_place n z ≡ mark_place n l → ⊥).
    let s1 = same_ne l z (λ w. s (sym (ap (mark_place n) w))) in
    let g1 = get_or-set_other flags i (mark_place n z) 1 0 (λ w. s (w ∙ e)) in
    let g2 : has z (zs ++ l ∷ []) ≡ has z zs = grind (arith, nat_tests) in
    g1 ∙ before ∙ sym (ap (λ b. cond b 1 0) g2))
    (cases_eq (mark_place n z) (mark_place n l))

-- a mark tells whether its literal is in the list
pub mark_tells : (n : ℕ) (flags : List ℕ) (zs : List ℤ) (z : ℤ) (i : ℕ) → i ≡ mark_place n z → 1 ≤ nat_abs z → nat_abs z ≤ n → Marked n flags zs → eqb (get_or flags i 0) 1 ≡ has z zs
mark_tells n flags zs z i e p q m =
    let g = ap (λ j. get_or flags j 0) e ∙ m z p q in
    ⊎_elim
    (λ (t : has z zs ≡ true). let h : get_or flags i 0 ≡ 1 = g ∙ ap (λ b. cond b 1 0) t in grind (arith, nat_tests))
    (λ (t : has z zs ≡ false). let h : get_or flags i 0 ≡ 0 = g ∙ ap (λ b. cond b 1 0) t in grind (arith, nat_tests))
    (cases_Bool (has z zs))
