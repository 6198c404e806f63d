-- The first line of a text, the lines behind it, and the line of a number.
use Rattle.std.proofs.Common.{◌≡◌, ℕ, zero, suc, ◌+◌, ◌-◌, ◌<◌, ◌≤◌, true, false, cond, eqb, List, [], ◌∷◌, ◌++◌, length, get_or, take, drop, None, sym, refl, ap, ◌∙◌, ⊎_elim, arith}
use Rattle.std.specs.List.{slice_get}
use Rattle.std.specs.Option.{option_map}
use Rattle.std.proofs.lemmas.List.{append_assoc, append-nil}
use Rattle.std.proofs.lemmas.List.Recursion.{is_position_or_len}
use Rattle.std.proofs.lemmas.List.Sums.{position_or_len_is}
use Rattle.std.proofs.lemmas.Bool.{cases_Bool, cond-true, cond-false, eq-eqb, ne_eqb}
use Rattle.textlines.specs.Lines.{TextLine, last_of, lines_on, text_lines, length_to, first_end, nth_line}

-- the first x stands at i, or there is none before the end
pub length_to_is : (x : ℕ) (bs : List ℕ) (i : ℕ) → i ≤ length bs → ((k : ℕ) → k < i → eqb (get_or bs k 0) x ≡ false) → (i < length bs → eqb (get_or bs i 0) x ≡ true) → length_to x bs ≡ i
length_to_is x bs i low miss hit =
    is_position_or_len (length_to x) (λ b. eqb b x) refl (λ b bs. ap (cond (eqb b x) 0) (omega arith)) bs ∙ position_or_len_is (λ b. eqb b x) bs i 0 low miss hit

-- with w read so far of the first line: a line feed ends it, and the other lines are those of the text behind
pub lines_on_ended : (w bs : List ℕ) → first_end bs < length bs →
    lines_on w bs ≡ record { bytes = w ++ take (first_end bs) bs; ended = true } ∷ text_lines (drop (first_end bs + 1) bs)
lines_on_ended w [] h = absurd (omega arith)
lines_on_ended w (b ∷ bs) h =
    ⊎_elim
    (λ (t : eqb b 10 ≡ true).
    let e : first_end (b ∷ bs) ≡ 0 = cond-true (eqb b 10) _ _ t in
    let p : lines_on w (b ∷ bs) ≡ record { bytes = w; ended = true } ∷ text_lines bs = cond-true (eqb b 10) _ _ t in
    let r : w ++ take (first_end (b ∷ bs)) (b ∷ bs) ≡ w = ap (λ n. w ++ take n (b ∷ bs)) e ∙ append-nil w in
    let s : drop (first_end (b ∷ bs) + 1) (b ∷ bs) ≡ bs = ap (λ n. drop (n + 1) (b ∷ bs)) e in
    cc)
    (λ (t : eqb b 10 ≡ false).
    let e : first_end (b ∷ bs) ≡ suc (first_end bs) = cond-false (eqb b 10) _ _ t in
    let p : lines_on w (b ∷ bs) ≡ lines_on (w ++ b ∷ []) bs = cond-false (eqb b 10) _ _ t in
    let ih = lines_on_ended (w ++ b ∷ []) bs (omega arith) in
    let r : take (first_end (b ∷ bs)) (b ∷ bs) ≡ b ∷ take (first_end bs) bs = ap (λ n. take n (b ∷ bs)) e in
    let f : first_end (b ∷ bs) + 1 ≡ suc (first_end bs + 1) = omega arith in
    let s : drop (first_end (b ∷ bs) + 1) (b ∷ bs) ≡ drop (first_end bs + 1) bs = ap (λ n. drop n (b ∷ bs)) f in
    let a = append_assoc w (b ∷ []) (take (first_end bs) bs) in
    cc)
    (cases_Bool (eqb b 10))

-- without a line feed all is one line, if there is a byte
pub lines_on_unended : (w bs : List ℕ) → length bs ≤ first_end bs → lines_on w bs ≡ last_of (w ++ bs)
lines_on_unended w [] h = ap last_of (sym (append-nil w))
lines_on_unended w (b ∷ bs) h =
    ⊎_elim
    (λ (t : eqb b 10 ≡ true). let e : first_end (b ∷ bs) ≡ 0 = cond-true (eqb b 10) _ _ t in absurd (omega arith))
    (λ (t : eqb b 10 ≡ false).
    let e : first_end (b ∷ bs) ≡ suc (first_end bs) = cond-false (eqb b 10) _ _ t in
    let p : lines_on w (b ∷ bs) ≡ lines_on (w ++ b ∷ []) bs = cond-false (eqb b 10) _ _ t in
    p ∙ lines_on_unended (w ++ b ∷ []) bs (omega arith) ∙ ap last_of (append_assoc w (b ∷ []) bs))
    (cases_Bool (eqb b 10))

-- the same of a whole text: its first line and the text behind it, or one line without line feed
pub text_lines_ended : (bs : List ℕ) → first_end bs < length bs →
    text_lines bs ≡ record { bytes = take (first_end bs) bs; ended = true } ∷ text_lines (drop (first_end bs + 1) bs)
text_lines_ended bs h = lines_on_ended [] bs h

pub text_lines_unended : (bs : List ℕ) → length bs ≤ first_end bs → text_lines bs ≡ last_of bs
text_lines_unended bs h = lines_on_unended [] bs h

-- line n is the one at place n - 1; there is no line 0
pub nth_line_at : (m n : ℕ) (ls : List TextLine) → n ≡ m + 1 → nth_line n ls ≡ option_map (λ l. l.bytes) (slice_get ls m)
nth_line_at m n [] e = refl
nth_line_at zero n (l ∷ ls) e = cond-true (eqb n 1) _ _ (eq-eqb _ _ (omega arith))
nth_line_at (suc m) n (l ∷ ls) e = cond-false (eqb n 1) _ _ (ne_eqb _ _ (λ q. omega arith)) ∙ nth_line_at m (n - 1) ls (omega arith)

pub no_line_zero : (ls : List TextLine) → nth_line 0 ls ≡ None
no_line_zero [] = refl
no_line_zero (l ∷ ls) = no_line_zero ls
