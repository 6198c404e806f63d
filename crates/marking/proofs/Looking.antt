-- Looking at bytes and at the literals of a clause one after another.
use Rattle.std.proofs.Common.{◌≡◌, ℕ, ◌<◌, ◌≤◌, true, List, [], ◌∷◌, ◌++◌, length, set, replicate, ℤ, nat_abs, sym, refl, ap, ◌∙◌, subst, arith}
use Rattle.std.specs.Prelude.{◌==◌}
use Rattle.std.specs.List.{list_all}
use Rattle.std.proofs.lemmas.List.{length-set, append_assoc, append-nil}
use Rattle.std.proofs.lemmas.Bool.Decides.{nat_tests}
use Rattle.words.specs.Clauses.{rising}
use Rattle.words.specs.Marks.{mark_place, Marked}
use Rattle.words.proofs.Marks.{marked_none, marked_more}
use Rattle.marking.specs.Marking.{clean_marks, with_marks}

-- marking keeps the number of places
pub with_marks_length : (bs : List ℕ) (xs : List ℤ) → length (with_marks bs xs) ≡ length bs
with_marks_length bs [] = refl
with_marks_length bs (x ∷ xs) = with_marks_length (set bs (mark_place 512 x) 1) xs ∙ length-set bs (mark_place 512 x) 1

-- the marks of some literals, with a clause's marked too
with_marks_more : (m : ℕ) (bs : List ℕ) (zs xs : List ℤ) → length bs ≡ 1024 → rising 512 m xs ≡ true → Marked 512 bs zs → Marked 512 (with_marks bs xs) (zs ++ xs)
with_marks_more m bs zs [] l r k = subst (Marked 512 bs) (sym (append-nil zs)) k
with_marks_more m bs zs (x ∷ xs) l r k =
    let r1 : rising 512 (nat_abs x) xs ≡ true = grind (arith, nat_tests) in
    let lo : m < nat_abs x = grind (arith, nat_tests) in
    let hi : nat_abs x ≤ 512 = grind (arith, nat_tests) in
    let one = marked_more 512 bs zs x (mark_place 512 x) refl (omega arith) (omega arith) hi k in
    subst (Marked 512 (with_marks bs (x ∷ xs))) (append_assoc zs (x ∷ []) xs) (with_marks_more (nat_abs x) (set bs (mark_place 512 x) 1) (zs ++ x ∷ []) xs (length-set bs (mark_place 512 x) 1 ∙ l) r1 one)

-- in clean bytes the marks are those of the clause
pub marked_clean : (bs : List ℕ) (xs : List ℤ) → rising 512 0 xs ≡ true → bs ≡ with_marks (replicate 1024 0) xs → Marked 512 bs xs
marked_clean bs xs r e = subst (λ b. Marked 512 b xs) (sym e) (with_marks_more 0 (replicate 1024 0) [] xs refl r (marked_none 512 1024 (replicate 1024 0) refl refl))

-- bytes that are all 0 are zeros
all_zeros : (bs : List ℕ) → list_all (λ b. b == 0) bs ≡ true → bs ≡ replicate (length bs) 0
all_zeros [] h = refl
all_zeros (b ∷ bs) h =
    let z : b ≡ 0 = grind (arith, nat_tests) in
    let r : list_all (λ x. x == 0) bs ≡ true = grind (arith, nat_tests) in
    ap (λ x. x ∷ bs) z ∙ ap (λ xs. 0 ∷ xs) (all_zeros bs r)

-- clean marks are 1,024 zeros
pub clean_zeros : (bs : List ℕ) → clean_marks bs ≡ true → bs ≡ replicate 1024 0
clean_zeros bs h =
    let l : length bs ≡ 1024 = grind (arith, nat_tests) in
    let z : list_all (λ b. b == 0) bs ≡ true = grind (arith, nat_tests) in
    all_zeros bs z ∙ ap (λ n. replicate n 0) l
