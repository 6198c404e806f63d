-- Reading back what is written: numbers, words and the header.
use Rattle.std.proofs.Common.{◌≡◌, ℕ, suc, ◌+◌, ◌^◌, ◌<◌, ◌≤◌, true, false, not, eqb, List, [], ◌∷◌, ◌++◌, length, get_or, take, drop, ℤ, pos, negsuc, nat_abs, Some, codes, decimal, sym, refl, ap, ◌∙◌, ⊎_elim, arith, rules}
use Rattle.std.specs.Option.{option_map}
use Rattle.std.specs.Fmt.{signed_decimal}
use Rattle.std.proofs.lemmas.Fmt.{decimal_digit, decimal_nonempty, first_decimal, length-decimal-le, digits_decimal, digits_value-decimal}
use Rattle.std.proofs.lemmas.List.{append_assoc, drop_at, length-append, take_at}
use Rattle.std.proofs.lemmas.Str.Parse.{IsNumeralModel, numerals_by_fold}
use Rattle.std.proofs.lemmas.Bool.{and_from, and_right, cases_Bool, cases_eq, cond-false, cond-true, eq-eqb, le-leb, lt-ltb, ne_eqb}
use Rattle.std.proofs.lemmas.Bool.Decides.{nat_tests}
use Rattle.reader.specs.Numerals.{digit, all_digits, value_on, padded, unsigned_numeral, negative, numeral}
use Rattle.reader.specs.Tokens.{line_behind, word_before, words_on}
use Rattle.textlines.specs.Lines.{blank, length_to}
use Rattle.reader.specs.Headers.{past_line, two_counts, header_counts, first_counts}
use Rattle.reader.proofs.Heads.{two_there}
use Rattle.reader.proofs.Runs.{run, some_word, words_run}

own : IsNumeralModel (λ ds. all_digits ds ≡ true) (value_on 0)
own = numerals_by_fold _ (search rules) value_on (search rules)

-- the digits of a number: their first is no 0 unless it is the only one
module _ (n : ℕ) (h : n < 10000000) where
  fits : n < 2 ^ 64
  fits = omega arith

  pub decimal_digits : all_digits (decimal n) ≡ true
  decimal_digits = digits_decimal own n fits

  unpadded : padded (decimal n) ≡ false
  unpadded =
      ⊎_elim
      (λ (z : n ≡ 0). ap (λ m. padded (decimal m)) z ∙ ap padded (decimal_digit 0 (omega arith)))
      (λ (z : n ≡ 0 → ⊥). let f = first_decimal n (omega arith) fits in let q : get_or (decimal n) 0 0 ≡ 48 → ⊥ = λ e. omega arith in and_right _ _ (ne_eqb _ _ q))
      (cases_eq n 0)

  first_low : 48 ≤ get_or (decimal n) 0 0
  first_low =
      ⊎_elim
      (λ (z : n ≡ 0). let e : get_or (decimal n) 0 0 ≡ 48 = ap (λ m. get_or (decimal m) 0 0) z ∙ ap (λ ds. get_or ds 0 0) (decimal_digit 0 (omega arith)) in omega arith)
      (λ (z : n ≡ 0 → ⊥). let f = first_decimal n (omega arith) fits in omega arith)
      (cases_eq n 0)

  -- a number is read back
  pub decimal_read : unsigned_numeral (decimal n) ≡ Some n
  decimal_read =
      let p : not (padded (decimal n)) ≡ true = ap not unpadded in
      let a = and_from _ _ (lt-ltb _ _ (decimal_nonempty n fits)) (and_from _ _ (le-leb _ _ (length-decimal-le 7 n (omega arith) h fits)) (and_from _ _ p decimal_digits)) in
      cond-true _ _ _ a ∙ ap Some (digits_value-decimal own n fits)

  not_minus : eqb (get_or (decimal n) 0 0) 45 ≡ false
  not_minus = let f = first_low in ne_eqb _ _ (λ e. omega arith)

  -- a number without a sign is read back as one
  pub plain_read : numeral (decimal n) ≡ Some (pos n)
  plain_read = cond-false _ _ _ not_minus ∙ ap (option_map pos) decimal_read

-- a number with its sign is read back
pub signed_read : (z : ℤ) → nat_abs z < 10000000 → numeral (signed_decimal z) ≡ Some z
signed_read (pos n) h = plain_read n h
signed_read (negsuc n) h = ap negative (decimal_read (suc n) h) ∙ cond-false (eqb (suc n) 0) _ _ (ne_eqb _ _ (λ e. omega arith))

-- digits and a minus are not blank
digit_unblank : (b : ℕ) → digit b ≡ true → blank b ≡ false
digit_unblank b t = grind (arith, nat_tests)

digits_run : (ds : List ℕ) → all_digits ds ≡ true → run ds ≡ length ds
digits_run [] t = refl
digits_run (b ∷ ds) t =
    let d : digit b ≡ true = grind arith in
    let e : all_digits ds ≡ true = grind arith in
    cond-false (blank b) _ _ (digit_unblank b d) ∙ ap suc (digits_run ds e)

pub signed_run : (z : ℤ) → nat_abs z < 10000000 → run (signed_decimal z) ≡ length (signed_decimal z)
signed_run (pos n) h = digits_run (decimal n) (decimal_digits n h)
signed_run (negsuc n) h = ap suc (digits_run (decimal (suc n)) (decimal_digits (suc n) h))

-- a run of bytes that are not blank, and a blank behind it
run_append : (w : List ℕ) (b : ℕ) (bs : List ℕ) → run w ≡ length w → blank b ≡ true → run (w ++ b ∷ bs) ≡ length w
run_append [] b bs e t = cond-true (blank b) _ _ t
run_append (x ∷ w) b bs e t =
    ⊎_elim
    (λ (u : blank x ≡ true). let z : run (x ∷ w) ≡ 0 = cond-true (blank x) _ _ u in absurd (omega arith))
    (λ (u : blank x ≡ false).
    let z : run (x ∷ w) ≡ suc (run w) = cond-false (blank x) _ _ u in
    cond-false (blank x) _ _ u ∙ ap suc (run_append w b bs (omega arith) t))
    (cases_Bool (blank x))

-- is the first word of the text
pub word_read : (l : ℕ) (w : List ℕ) (b : ℕ) (bs : List ℕ) → run w ≡ length w → 0 < length w → blank b ≡ true →
    words_on l [] (w ++ b ∷ bs) ≡ record { line = l; bytes = w } ∷ words_on (line_behind b l) [] bs
word_read l w b bs e h t =
    let r = run_append w b bs e t in
    let k = take_at w (b ∷ bs) _ (sym r) in
    let d = drop_at w (b ∷ bs) _ (sym r) in
    let q : words_on l [] (b ∷ bs) ≡ words_on (line_behind b l) [] bs = cond-true (blank b) _ _ t in
    words_run l [] (w ++ b ∷ bs) ∙ ap (λ v. word_before l v (words_on l [] (drop (run (w ++ b ∷ bs)) (w ++ b ∷ bs)))) k ∙
    ap (λ v. word_before l w (words_on l [] v)) d ∙ some_word l w _ h ∙ ap (λ v. record { line = l; bytes = w } ∷ v) q

-- the bytes before the first x, where it stands behind bytes that are none
pub to_append : (x : ℕ) (w bs : List ℕ) → length_to x w ≡ length w → length_to x (w ++ x ∷ bs) ≡ length w
to_append x [] bs e = cond-true (eqb x x) _ _ (eq-eqb x x refl)
to_append x (y ∷ w) bs e =
    ⊎_elim
    (λ (u : eqb y x ≡ true). let z : length_to x (y ∷ w) ≡ 0 = cond-true (eqb y x) _ _ u in absurd (omega arith))
    (λ (u : eqb y x ≡ false).
    let z : length_to x (y ∷ w) ≡ suc (length_to x w) = cond-false (eqb y x) _ _ u in
    cond-false (eqb y x) _ _ u ∙ ap suc (to_append x w bs (omega arith)))
    (cases_Bool (eqb y x))

-- digits are none of the bytes that separate
digits_to : (x : ℕ) (ds : List ℕ) → digit x ≡ false → all_digits ds ≡ true → length_to x ds ≡ length ds
digits_to x [] f t = refl
digits_to x (b ∷ ds) f t =
    let d : digit b ≡ true = grind arith in
    let e : all_digits ds ≡ true = grind arith in
    let n : b ≡ x → ⊥ = λ q. grind (arith, nat_tests) in
    cond-false (eqb b x) _ _ (ne_eqb b x n) ∙ ap suc (digits_to x ds f e)

-- two runs of bytes that are not x
to_both : (x : ℕ) (xs bs : List ℕ) → length_to x xs ≡ length xs → length_to x bs ≡ length bs → length_to x (xs ++ bs) ≡ length (xs ++ bs)
to_both x [] bs e f = f
to_both x (y ∷ xs) bs e f =
    ⊎_elim
    (λ (u : eqb y x ≡ true). let z : length_to x (y ∷ xs) ≡ 0 = cond-true (eqb y x) _ _ u in absurd (omega arith))
    (λ (u : eqb y x ≡ false).
    let z : length_to x (y ∷ xs) ≡ suc (length_to x xs) = cond-false (eqb y x) _ _ u in
    cond-false (eqb y x) _ _ u ∙ ap suc (to_both x xs bs (omega arith) f))
    (cases_Bool (eqb y x))

-- behind a line with its line feed
pub line_read : (l : ℕ) (w bs : List ℕ) → length_to 10 w ≡ length w → past_line l (w ++ 10 ∷ bs) ≡ record { line = l + 1; bytes = bs }
line_read l [] bs e = refl
line_read l (y ∷ w) bs e =
    ⊎_elim
    (λ (u : eqb y 10 ≡ true). let z : length_to 10 (y ∷ w) ≡ 0 = cond-true (eqb y 10) _ _ u in absurd (omega arith))
    (λ (u : eqb y 10 ≡ false).
    let z : length_to 10 (y ∷ w) ≡ suc (length_to 10 w) = cond-false (eqb y 10) _ _ u in
    cond-false (eqb y 10) _ _ u ∙ line_read l w bs (omega arith))
    (cases_Bool (eqb y 10))

-- a header is read back
module _ (v n : ℕ) (h : v < 10000000) (k : n < 10000000) where
  counts_read : two_counts (decimal v ++ 32 ∷ decimal n) ≡ Some (record { variables = v; clauses = n })
  counts_read =
      let t = to_append 32 (decimal v) (decimal n) (digits_to 32 (decimal v) refl (decimal_digits v h)) in
      let i = length_to 32 (decimal v ++ 32 ∷ decimal n) in
      let a : take i (decimal v ++ 32 ∷ decimal n) ≡ decimal v = take_at (decimal v) (32 ∷ decimal n) i (sym t) in
      let g = append_assoc (decimal v) (32 ∷ []) (decimal n) in
      let m : length (decimal v ++ 32 ∷ []) ≡ i + 1 = length-append (decimal v) (32 ∷ []) ∙ ap (λ j. j + 1) (sym t) in
      let b : drop (i + 1) (decimal v ++ 32 ∷ decimal n) ≡ decimal n = ap (drop (i + 1)) (sym g) ∙ drop_at (decimal v ++ 32 ∷ []) (decimal n) (i + 1) m in
      two_there _ _ v n (ap unsigned_numeral a ∙ decimal_read v h) (ap unsigned_numeral b ∙ decimal_read n k)

  -- the header without its line feed holds no other
  pub header_feedless : length_to 10 (codes "p cnf " ++ (decimal v ++ 32 ∷ decimal n)) ≡ length (codes "p cnf " ++ (decimal v ++ 32 ∷ decimal n))
  header_feedless =
      let a = digits_to 10 (decimal v) refl (decimal_digits v h) in
      let b : length_to 10 (32 ∷ decimal n) ≡ length (32 ∷ decimal n) = ap suc (digits_to 10 (decimal n) refl (decimal_digits n k)) in
      to_both 10 (codes "p cnf ") (decimal v ++ 32 ∷ decimal n) refl (to_both 10 (decimal v) (32 ∷ decimal n) a b)

  pub header_read : (bs : List ℕ) → first_counts ((codes "p cnf " ++ (decimal v ++ 32 ∷ decimal n)) ++ 10 ∷ bs) ≡ Some (record { variables = v; clauses = n })
  header_read bs =
      let w = codes "p cnf " ++ (decimal v ++ 32 ∷ decimal n) in
      let t = to_append 10 w bs header_feedless in
      let m : length_to 10 (w ++ 10 ∷ bs) < length (w ++ 10 ∷ bs) = omega (arith, length-append w (10 ∷ bs)) in
      cond-true _ _ _ (lt-ltb _ _ m) ∙ ap header_counts (take_at w (10 ∷ bs) _ (sym t)) ∙ counts_read
