-- Counting lines.
use Rattle.std.proofs.Common.{◌≡◌, ℕ, suc, ◌+◌, ◌-◌, ◌≤◌, max, true, false, cond, eqb, List, [], ◌∷◌, ◌++◌, length, take, count_by, refl, ap, ⊎_elim, arith}
use Rattle.std.proofs.lemmas.List.Sums.{sum_by-cons}
use Rattle.std.proofs.lemmas.Bool.{cases_Bool, cond-true, cond-false}
use Rattle.textlines.specs.Lines.{last_of, lines_on, text_lines}
use Rattle.reader.specs.Tokens.{line_behind, line_past, last_line}

-- each line feed adds a line
pub past_feeds : (bs : List ℕ) (l : ℕ) → line_past bs l ≡ l + count_by (λ b. eqb b 10) bs
past_feeds [] l = omega arith
past_feeds (b ∷ bs) l =
    let ih : line_past (b ∷ bs) l ≡ line_behind b l + count_by (λ b. eqb b 10) bs = past_feeds bs (line_behind b l) in
    let s : count_by (λ b. eqb b 10) (b ∷ bs) ≡ cond (eqb b 10) 1 0 + count_by (λ b. eqb b 10) bs = sum_by-cons (λ b. cond (eqb b 10) 1 0) b bs in
    ⊎_elim
    (λ (t : eqb b 10 ≡ true).
    let k : line_behind b l ≡ l + 1 = cond-true (eqb b 10) _ _ t in
    let n : ◌≡◌ {A = ℕ} (cond (eqb b 10) 1 0) 1 = cond-true (eqb b 10) _ _ t in
    omega arith)
    (λ (t : eqb b 10 ≡ false).
    let k : line_behind b l ≡ l = cond-false (eqb b 10) _ _ t in
    let n : ◌≡◌ {A = ℕ} (cond (eqb b 10) 1 0) 0 = cond-false (eqb b 10) _ _ t in
    omega arith)
    (cases_Bool (eqb b 10))

-- and never takes one away
pub past_low : (bs : List ℕ) (l : ℕ) → l ≤ line_past bs l
past_low bs l = omega (arith, past_feeds bs l)

last_pushed : (w : List ℕ) (b : ℕ) → length (last_of (w ++ b ∷ [])) ≡ 1
last_pushed [] b = refl
last_pushed (x ∷ w) b = refl

-- the lines of a text that has a byte, with w read before of the first, end with that of the last byte
last_past : (w : List ℕ) (b : ℕ) (bs : List ℕ) (l : ℕ) → line_past (take (length (b ∷ bs) - 1) (b ∷ bs)) l + 1 ≡ l + length (lines_on w (b ∷ bs))
last_past w b [] l =
    ⊎_elim
    (λ (t : eqb b 10 ≡ true). let n : length (lines_on w (b ∷ [])) ≡ 1 = ap length (cond-true (eqb b 10) _ _ t) in omega arith)
    (λ (t : eqb b 10 ≡ false). let n : length (lines_on w (b ∷ [])) ≡ length (last_of (w ++ b ∷ [])) = ap length (cond-false (eqb b 10) _ _ t) in omega (arith, last_pushed w b))
    (cases_Bool (eqb b 10))
last_past w b (c ∷ bs) l =
    let e : length (b ∷ c ∷ bs) - 1 ≡ suc (length (c ∷ bs) - 1) = omega arith in
    let s : line_past (take (length (b ∷ c ∷ bs) - 1) (b ∷ c ∷ bs)) l ≡ line_past (take (length (c ∷ bs) - 1) (c ∷ bs)) (line_behind b l) =
    ap (λ n. line_past (take n (b ∷ c ∷ bs)) l) e in
    ⊎_elim
    (λ (t : eqb b 10 ≡ true).
    let n : length (lines_on w (b ∷ c ∷ bs)) ≡ suc (length (lines_on [] (c ∷ bs))) = ap length (cond-true (eqb b 10) _ _ t) in
    let k : line_behind b l ≡ l + 1 = cond-true (eqb b 10) _ _ t in
    omega (arith, last_past [] c bs (line_behind b l)))
    (λ (t : eqb b 10 ≡ false).
    let n : length (lines_on w (b ∷ c ∷ bs)) ≡ length (lines_on (w ++ b ∷ []) (c ∷ bs)) = ap length (cond-false (eqb b 10) _ _ t) in
    let k : line_behind b l ≡ l = cond-false (eqb b 10) _ _ t in
    omega (arith, last_past (w ++ b ∷ []) c bs (line_behind b l)))
    (cases_Bool (eqb b 10))

pub last_counted : (bs : List ℕ) (n : ℕ) → n ≡ max (length (text_lines bs)) 1 → n ≡ last_line bs
last_counted [] n e = e
last_counted (b ∷ bs) n e =
    let s : last_line (b ∷ bs) + 1 ≡ 1 + length (text_lines (b ∷ bs)) = last_past [] b bs 1 in
    let h : 1 ≤ last_line (b ∷ bs) = past_low (take (length (b ∷ bs) - 1) (b ∷ bs)) 1 in
    omega arith
