-- Words as runs of bytes.
use Rattle.std.proofs.Common.{◌≡◌, ℕ, suc, ◌<◌, true, false, cond, not, List, [], ◌∷◌, ◌++◌, length, get_or, take, drop, sym, refl, ap, ◌∙◌, ⊎_elim, arith}
use Rattle.std.specs.List.{prefix_len}
use Rattle.std.proofs.lemmas.List.{append_assoc, append-nil}
use Rattle.std.proofs.lemmas.Bool.{cases_Bool, cond-true, cond-false}
use Rattle.std.proofs.lemmas.Bool.Decides.{nat_tests}
use Rattle.textlines.specs.Lines.{blank}
use Rattle.reader.specs.Tokens.{line_behind, line_past, Part, word_before, words_on}

-- the length of the run of bytes with which a text begins that are not blank
abbrev pub run : List ℕ → ℕ
run [] = 0
run (b ∷ bs) = cond (blank b) 0 (suc (run bs))

-- as the code counts it
pub run_counted : (bs : List ℕ) → prefix_len (λ b. not (blank b)) bs ≡ run bs
run_counted [] = refl
run_counted (b ∷ bs) = let ih = run_counted bs in grind arith

-- the words of a text are its run, and the words behind it
pub words_run : (l : ℕ) (w bs : List ℕ) → words_on l w bs ≡ word_before l (w ++ take (run bs) bs) (words_on l [] (drop (run bs) bs))
words_run l w [] = ap (λ v. word_before l v []) (sym (append-nil w))
words_run l w (b ∷ bs) =
    ⊎_elim
    (λ (t : blank b ≡ true).
    let e : run (b ∷ bs) ≡ 0 = cond-true (blank b) _ _ t in
    let p : words_on l w (b ∷ bs) ≡ word_before l w (words_on (line_behind b l) [] bs) = cond-true (blank b) _ _ t in
    let q : words_on l [] (b ∷ bs) ≡ words_on (line_behind b l) [] bs = cond-true (blank b) _ _ t in
    let r : w ++ take (run (b ∷ bs)) (b ∷ bs) ≡ w = ap (λ n. w ++ take n (b ∷ bs)) e ∙ append-nil w in
    let s : drop (run (b ∷ bs)) (b ∷ bs) ≡ b ∷ bs = ap (λ n. drop n (b ∷ bs)) e in
    cc)
    (λ (t : blank b ≡ false).
    let e : run (b ∷ bs) ≡ suc (run bs) = cond-false (blank b) _ _ t in
    let p : words_on l w (b ∷ bs) ≡ words_on l (w ++ b ∷ []) bs = cond-false (blank b) _ _ t in
    let ih = words_run l (w ++ b ∷ []) bs in
    let r : take (run (b ∷ bs)) (b ∷ bs) ≡ b ∷ take (run bs) bs = ap (λ n. take n (b ∷ bs)) e in
    let s : drop (run (b ∷ bs)) (b ∷ bs) ≡ drop (run bs) bs = ap (λ n. drop n (b ∷ bs)) e in
    let a = append_assoc w (b ∷ []) (take (run bs) bs) in
    cc)
    (cases_Bool (blank b))

-- a run ends no line
not_feed : (b : ℕ) → blank b ≡ false → b ≡ 10 → ⊥
not_feed b t e = grind (arith, nat_tests)

pub run_line : (bs : List ℕ) (l : ℕ) → line_past (take (run bs) bs) l ≡ l
run_line [] l = refl
run_line (b ∷ bs) l =
    ⊎_elim
    (λ (t : blank b ≡ true). let e : run (b ∷ bs) ≡ 0 = cond-true (blank b) _ _ t in ap (λ n. line_past (take n (b ∷ bs)) l) e)
    (λ (t : blank b ≡ false).
    let e : run (b ∷ bs) ≡ suc (run bs) = cond-false (blank b) _ _ t in
    let n = not_feed b t in
    let k : line_behind b l ≡ l = grind (arith, nat_tests) in
    ap (λ n. line_past (take n (b ∷ bs)) l) e ∙ ap (λ m. line_past (take (run bs) bs) m) k ∙ run_line bs l)
    (cases_Bool (blank b))

pub some_word : (l : ℕ) (w : List ℕ) (ws : List Part) → 0 < length w → word_before l w ws ≡ record { line = l; bytes = w } ∷ ws
some_word l [] ws h = absurd (omega arith)
some_word l (b ∷ bs) ws h = refl

-- where no blank stands and the run is empty, nothing is left
nothing_left : (bs : List ℕ) → (0 < length bs → blank (get_or bs 0 0) ≡ false) → length (take (run bs) bs) ≡ 0 → bs ≡ []
nothing_left [] s h = refl
nothing_left (b ∷ bs) s h =
    let e : run (b ∷ bs) ≡ suc (run bs) = cond-false (blank b) _ _ (s (omega arith)) in
    let f : length (take (run (b ∷ bs)) (b ∷ bs)) ≡ suc (length (take (run bs) bs)) = ap (λ n. length (take n (b ∷ bs))) e in
    absurd (omega arith)

-- a text before which no blank is left, its word w, and what is left behind that, as the code comes to them
module _ (l : ℕ) (bs ds w : List ℕ) (p : w ≡ take (prefix_len (λ b. not (blank b)) bs) bs) (r : ds ≡ drop (prefix_len (λ b. not (blank b)) bs) bs) where
  as_run : w ≡ take (run bs) bs
  as_run = p ∙ ap (λ n. take n bs) (run_counted bs)

  behind : ds ≡ drop (run bs) bs
  behind = r ∙ ap (λ n. drop n bs) (run_counted bs)

  pub word_found : 0 < length w → words_on l [] bs ≡ record { line = l; bytes = w } ∷ words_on l [] ds
  word_found h =
      words_run l [] bs ∙ ap (λ v. word_before l v (words_on l [] (drop (run bs) bs))) (sym as_run) ∙ some_word l w _ h ∙
      ap (λ v. record { line = l; bytes = w } ∷ words_on l [] v) (sym behind)

  pub no_word : (0 < length bs → blank (get_or bs 0 0) ≡ false) → length w ≡ 0 → (words_on l [] bs ≡ []) × (words_on l [] ds ≡ [])
  no_word s h =
      let nil : bs ≡ [] = nothing_left bs s (sym (ap length as_run) ∙ h) in
      (ap (words_on l []) nil, ap (words_on l []) (behind ∙ ap (λ v. drop (run v) v) nil))
