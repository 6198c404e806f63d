-- Lines and fields of the header.
use Rattle.std.proofs.Common.{◌≡◌, ℕ, suc, ◌+◌, ◌<◌, ◌≤◌, true, false, ◌&&◌, not, eqb, MatchOption, List, [], ◌∷◌, length, take, drop, Some, None, Option, sym, refl, ap, ◌∙◌, subst, ⊎_elim, arith}
use Rattle.std.specs.Cmp.Lexicographic.{pointwise}
use Rattle.std.specs.List.{position, position_or_len}
use Rattle.std.proofs.lemmas.List.Recursion.{is_position_or_len}
use Rattle.std.proofs.lemmas.Bool.{cases_Bool, cases_lt, cond-true, cond-false, eqb-true, lt-ltb, le-ltb}
use Rattle.std.proofs.lemmas.Bool.Decides.{nat_tests}
use Rattle.textlines.specs.Lines.{length_to}
use Rattle.reader.specs.Tokens.{Part, line_behind}
use Rattle.reader.specs.Headers.{past_line, uncommented, begins, both_counts}

-- the bytes before the first x lie in the text
pub to_fits : (x : ℕ) (bs : List ℕ) → length_to x bs ≤ length bs
to_fits x [] = omega arith
to_fits x (b ∷ bs) = let ih = to_fits x bs in grind (arith, nat_tests)

-- where the code finds the first x
pub placed : (x : ℕ) (bs : List ℕ) (r : Option ℕ) → r ≡ position (λ b. eqb b x) bs → MatchOption r (length_to x bs ≡ length bs) (λ i. (i ≡ length_to x bs) × (i < length bs))
placed x bs r e =
    let p = is_position_or_len (length_to x) (λ b. eqb b x) refl (λ b bs. grind arith) bs in
    let Meant : Option ℕ → Type 0 = λ r. MatchOption r (length_to x bs ≡ length bs) (λ i. (i ≡ length_to x bs) × (i < length bs)) in
    ⊎_elim
    (λ (h : position_or_len (λ b. eqb b x) bs < length bs). subst Meant (sym (e ∙ cond-true _ _ _ (lt-ltb _ _ h))) (sym p, h))
    (λ (h : length bs ≤ position_or_len (λ b. eqb b x) bs). subst Meant (sym (e ∙ cond-false _ _ _ (le-ltb _ _ h))) (omega (arith, to_fits x bs)))
    (cases_lt (position_or_len (λ b. eqb b x) bs) (length bs))

-- where one count is missing, there are not two
pub no_second : (a b : Option ℕ) → b ≡ None → both_counts a b ≡ None
no_second None b e = refl
no_second (Some v) b e = ap (both_counts (Some v)) e

-- where both are there, there are two
pub two_there : (a b : Option ℕ) (v n : ℕ) → a ≡ Some v → b ≡ Some n → both_counts a b ≡ Some (record { variables = v; clauses = n })
two_there a b v n p q = ap (λ x. both_counts x b) p ∙ ap (both_counts (Some v)) q

-- a text that begins with another, as the code finds it
pub begins_told : (ps bs : List ℕ) → pointwise eqb (take (length ps) bs) ps ≡ begins ps bs
begins_told [] bs = refl
begins_told (p ∷ ps) [] = refl
begins_told (p ∷ ps) (b ∷ bs) = ap (λ t. eqb b p && t) (begins_told ps bs)

-- behind a line that a line feed ends, and behind one that none does
pub past_found : (bs : List ℕ) (l : ℕ) → length_to 10 bs < length bs → past_line l bs ≡ record { line = l + 1; bytes = drop (length_to 10 bs + 1) bs }
past_found [] l h = absurd (omega arith)
past_found (b ∷ bs) l h =
    ⊎_elim
    (λ (t : eqb b 10 ≡ true).
    let e : length_to 10 (b ∷ bs) ≡ 0 = cond-true (eqb b 10) _ _ t in
    cond-true (eqb b 10) _ _ t ∙ sym (ap (λ n. record { line = l + 1; bytes = drop (n + 1) (b ∷ bs) }) e))
    (λ (t : eqb b 10 ≡ false).
    let e : length_to 10 (b ∷ bs) ≡ suc (length_to 10 bs) = cond-false (eqb b 10) _ _ t in
    let f : length_to 10 (b ∷ bs) + 1 ≡ suc (length_to 10 bs + 1) = omega arith in
    cond-false (eqb b 10) _ _ t ∙ past_found bs l (omega arith) ∙ sym (ap (λ n. record { line = l + 1; bytes = drop n (b ∷ bs) }) f))
    (cases_Bool (eqb b 10))

pub past_missing : (bs : List ℕ) (l : ℕ) → length_to 10 bs ≡ length bs → past_line l bs ≡ record { line = l; bytes = [] }
past_missing [] l h = refl
past_missing (b ∷ bs) l h =
    ⊎_elim
    (λ (t : eqb b 10 ≡ true). let e : length_to 10 (b ∷ bs) ≡ 0 = cond-true (eqb b 10) _ _ t in absurd (omega arith))
    (λ (t : eqb b 10 ≡ false).
    let e : length_to 10 (b ∷ bs) ≡ suc (length_to 10 bs) = cond-false (eqb b 10) _ _ t in
    cond-false (eqb b 10) _ _ t ∙ past_missing bs l (omega arith))
    (cases_Bool (eqb b 10))

-- a comment is passed over line by line
pub comment_passed : (l : ℕ) (bs : List ℕ) → uncommented true l bs ≡ uncommented false (past_line l bs).line (past_line l bs).bytes
comment_passed l [] = refl
comment_passed l (b ∷ bs) =
    ⊎_elim
    (λ (t : eqb b 10 ≡ true).
    let k : line_behind b l ≡ l + 1 = cond-true (eqb b 10) _ _ t in
    let p : past_line l (b ∷ bs) ≡ record { line = l + 1; bytes = bs } = cond-true (eqb b 10) _ _ t in
    ap (λ x. uncommented (not x) (line_behind b l) bs) t ∙ ap (λ m. uncommented false m bs) k ∙ sym (ap (λ (q : Part). uncommented false q.line q.bytes) p))
    (λ (t : eqb b 10 ≡ false).
    let k : line_behind b l ≡ l = cond-false (eqb b 10) _ _ t in
    let p : past_line l (b ∷ bs) ≡ past_line l bs = cond-false (eqb b 10) _ _ t in
    ap (λ x. uncommented (not x) (line_behind b l) bs) t ∙ ap (λ m. uncommented true m bs) k ∙ comment_passed l bs ∙ sym (ap (λ (q : Part). uncommented false q.line q.bytes) p))
    (cases_Bool (eqb b 10))

-- a comment stands here, or something else
pub comment_here : (bs : List ℕ) (l : ℕ) (p : Part) → bs ≡ 99 ∷ drop 1 bs → p ≡ past_line l bs → uncommented false l bs ≡ uncommented false p.line p.bytes
comment_here bs l p h e =
    ap (uncommented false l) h ∙ comment_passed l (drop 1 bs) ∙ ap (λ (q : Part). uncommented false q.line q.bytes) (sym (e ∙ ap (past_line l) h))

pub no_comment : (bs : List ℕ) (l : ℕ) → ((rest : List ℕ) → bs ≡ 99 ∷ rest → ⊥) → uncommented false l bs ≡ record { line = l; bytes = bs }
no_comment [] l n = refl
no_comment (b ∷ bs) l n =
    ⊎_elim
    (λ (t : eqb b 99 ≡ true). absurd (n bs (ap (λ x. x ∷ bs) (eqb-true _ _ t))))
    (λ (t : eqb b 99 ≡ false). cond-false (eqb b 99) _ _ t)
    (cases_Bool (eqb b 99))
