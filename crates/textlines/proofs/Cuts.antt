-- The parts of a text that `split_inclusive` cuts behind each line feed, and the lines that they hold.
use Rattle.std.proofs.Common.{◌≡◌, ℕ, ◌+◌, ◌-◌, ◌<◌, ◌≤◌, min, Bool, true, false, cond, eqb, List, [], ◌∷◌, ◌++◌, ◌&&◌, length, get_or, take, drop, Some, None, Option, sym, refl, ap, ◌∙◌, subst, ⊎_elim, arith}
use denote.Param.Members.{Mut}
use denote.Ref.{Bor}
use Rattle.std.specs.Cmp.Lexicographic.{pointwise}
use Rattle.std.specs.Fn.{Called, ComputesKey}
use Rattle.std.specs.Iterator.{YieldsThen}
use Rattle.std.specs.List.{IsFirstMatchOrLen}
use Rattle.std.specs.Option.{MatchOption, option_map, unwrap_or}
use Rattle.std.specs.Slice.Iter.{split_inclusive_rest, split_inclusive_callee}
use Rattle.std.specs.declared.slice.SplitInclusive.{SplitInclusive}
use Rattle.std.proofs.lemmas.Fn.{always_returns_same}
use Rattle.std.proofs.lemmas.Iterator.{YieldsList}
use Rattle.std.proofs.lemmas.Iterator.Consumers.{nth_from_yields_List}
use Rattle.std.proofs.lemmas.Iterator.Splits.{YieldsList-from_shown_while}
use Rattle.std.proofs.lemmas.List.{take_at, drop_at, drop-take, take-take, drop_more, drop_all, nil_from_length, append-nil, length-append}
use Rattle.std.proofs.lemmas.Bool.{cases_lt, cond-true, cond-false}
use Rattle.textlines.specs.Lines.{TextLine, last_of, text_lines, first_end, nth_line}
use Rattle.textlines.proofs.Lines.{length_to_is, nth_line_at, text_lines_ended, text_lines_unended}

-- whether a part ends in a line feed, and the line that it holds
abbrev pub fed : List ℕ → Bool
fed w = pointwise eqb (drop (length w - 1) w) (10 ∷ [])

abbrev pub line_of : List ℕ → TextLine
line_of w = record { bytes = cond (fed w) (take (length w - 1) w) w; ended = fed w }

-- what is left at the end of a text is a line, if it has a byte
last_of_some : (w : List ℕ) → 0 < length w → last_of w ≡ record { bytes = w; ended = false } ∷ []
last_of_some [] h = absurd (omega arith)
last_of_some (b ∷ w) h = refl

-- the first part of a text: it ends behind the first line feed or, where there is none, with the text
module _ (bs w rest : List ℕ) (i : ℕ) (s : bs ≡ w ++ rest) (l : length w ≡ min (i + 1) (length bs)) (f : IsFirstMatchOrLen (λ b. eqb b 10) bs i) where
  first_fed : i < length bs → text_lines bs ≡ line_of w ∷ text_lines rest
  first_fed h =
      let n : length w ≡ i + 1 = omega arith in
      let e : first_end bs ≡ i = length_to_is 10 bs i (omega arith) (λ k q. f.0 k 0 (omega arith) q) (λ q. f.1 q 0) in
      let front : w ≡ take (i + 1) bs = sym (take_at w rest (i + 1) n) ∙ ap (take (i + 1)) (sym s) in
      let behind : rest ≡ drop (i + 1) bs = sym (drop_at w rest (i + 1) n) ∙ ap (drop (i + 1)) (sym s) in
      let m : length w - 1 ≡ i = omega arith in
      let last : drop (length w - 1) w ≡ get_or bs i 0 ∷ [] =
      ap (λ k. drop k w) m ∙ ap (drop i) front ∙ drop-take i 1 bs ∙ ap (take 1) (drop_more bs i 0 h) in
      let feed : fed w ≡ true = ap (λ x. pointwise eqb x (10 ∷ [])) last ∙ ap (λ b. b && true) (f.1 h 0) in
      let line : take (length w - 1) w ≡ take (first_end bs) bs = ap (λ k. take k w) m ∙ ap (take i) front ∙ take-take i (i + 1) bs (omega arith) ∙ ap (λ k. take k bs) (sym e) in
      let q : cond (fed w) (take (length w - 1) w) w ≡ take (first_end bs) bs = cond-true (fed w) _ _ feed ∙ line in
      let r : rest ≡ drop (first_end bs + 1) bs = behind ∙ ap (λ k. drop (k + 1) bs) (sym e) in
      let t = text_lines_ended bs (omega arith) in
      cc

  first_unfed : length bs ≤ i → 0 < length bs → text_lines bs ≡ line_of w ∷ text_lines rest
  first_unfed h p =
      let e : first_end bs ≡ length bs = length_to_is 10 bs (length bs) (omega arith) (λ k q. f.0 k 0 (omega arith) (omega arith)) (λ q. absurd (omega arith)) in
      let none : rest ≡ [] = nil_from_length rest (omega (arith, ap length s, length-append w rest)) in
      let all : bs ≡ w = s ∙ ap (λ x. w ++ x) none ∙ append-nil w in
      let t : text_lines bs ≡ last_of bs = text_lines_unended bs (omega arith) in
      let last : drop (length w - 1) w ≡ get_or bs (length w - 1) 0 ∷ [] =
      let a = drop_more w (length w - 1) 0 (omega (arith, ap length all)) in
      let b = drop_all (length w - 1 + 1) w (omega arith) in
      cc in
      let feed : fed w ≡ false = ap (λ x. pointwise eqb x (10 ∷ [])) last ∙ ap (λ b. b && true) (f.0 (length w - 1) 0 (omega arith) (omega arith)) in
      let line : cond (fed w) (take (length w - 1) w) w ≡ w = cond-false (fed w) _ _ feed in
      let one : last_of w ≡ record { bytes = w; ended = false } ∷ [] = last_of_some w (omega (arith, ap length all)) in
      let behind : text_lines rest ≡ [] = ap text_lines none in
      cc

  pub first_part : 0 < length bs → text_lines bs ≡ line_of w ∷ text_lines rest
  first_part p = ⊎_elim first_fed (λ h. first_unfed h p) (cases_lt i (length bs))

-- a line's bytes, read in two steps or in one
option_map_twice : (r : Option (Bor (List ℕ))) → option_map (λ l. l.bytes) (option_map (λ x. line_of x.now) r) ≡ option_map (λ x. (line_of x.now).bytes) r
option_map_twice None = refl
option_map_twice (Some x) = refl

-- the parts hold the lines of the text
module _ {F : Type 0} (g : Mut F (Bor ℕ × Unit {0}) Bool) where
  abbrev pub cuts : SplitInclusive ℕ F → Option (Bor (List ℕ)) → SplitInclusive ℕ F → Type 0
  cuts s r t =
      MatchOption r ((length (split_inclusive_rest s) ≡ 0) × (t ≡ s))
      (λ x. (split_inclusive_rest s ≡ x.now ++ split_inclusive_rest t) × ((i : ℕ) × (length x.now ≡ min (i + 1) (length (split_inclusive_rest s))) × ((p : ℕ → Bool) → ComputesKey g p (split_inclusive_callee s) → ComputesKey g p (split_inclusive_callee t) × IsFirstMatchOrLen p (split_inclusive_rest s) i)) × (0 < length (split_inclusive_rest s)))

  pub cuts_lines : {s : SplitInclusive ℕ F} {f : F} (bs : List ℕ) → split_inclusive_rest s ≡ bs → split_inclusive_callee s ≡ f →
      ((a : Bor ℕ × Unit {0}) (r : Bool) (q : F) → Called g f a r q → (r ≡ eqb a.0.now 10) × (q ≡ f)) → YieldsList cuts (λ x. line_of x.now) s (text_lines bs)
  cuts_lines {s = s} {f = f} bs e d h =
      subst (λ xs. YieldsList cuts (λ x. line_of x.now) s (text_lines xs)) e
      (YieldsList-from_shown_while cuts (λ x. line_of x.now) (λ t. text_lines (split_inclusive_rest t)) (λ t. ComputesKey g (λ b. eqb b 10) (split_inclusive_callee t))
      (λ t u p q. ap (λ xs. length (text_lines xs)) (nil_from_length (split_inclusive_rest t) q.0))
      (λ t x u p q. let k = q.1.2 (λ b. eqb b 10) p in (k.0, first_part (split_inclusive_rest t) x.now (split_inclusive_rest u) q.1.0 q.0 q.1.1 k.1 q.2))
      s (subst (ComputesKey g (λ b. eqb b 10)) (sym d) (always_returns_same g _ f h)))

  -- the part at a place holds the line of the next number
  pub nth_cut : {s : SplitInclusive ℕ F} {f : F} (n m : ℕ) (r : Option (Bor (List ℕ))) (t : SplitInclusive ℕ F) →
      (xs : List (Bor (List ℕ))) × YieldsThen cuts s xs r t × MatchOption r (length xs ≤ m) (λ _. length xs ≡ m) → n ≡ m + 1 →
      (bs : List ℕ) → split_inclusive_rest s ≡ bs → split_inclusive_callee s ≡ f → ((a : Bor ℕ × Unit {0}) (b : Bool) (q : F) → Called g f a b q → (b ≡ eqb a.0.now 10) × (q ≡ f)) →
      nth_line n (text_lines bs) ≡ option_map (λ x. (line_of x.now).bytes) r
  nth_cut n m r t ran e bs rest callee h =
      nth_line_at m n (text_lines bs) e ∙ ap (option_map (λ l. l.bytes)) (sym (nth_from_yields_List r t m ran (cuts_lines bs rest callee h))) ∙ option_map_twice r

-- a part without its line feed is the line that it holds
pub stripped_line : (w : List ℕ) (r : Option (Bor (List ℕ))) (x : Bor (List ℕ)) →
    MatchOption r (pointwise eqb (drop (length w - 1) w) (10 ∷ []) ≡ false) (λ y. (pointwise eqb (drop (length w - 1) w) (10 ∷ []) ≡ true) × (y.now ≡ take (length w - 1) w) × (length y.now + 1 ≡ length w)) →
    x.now ≡ w → (unwrap_or r x).now ≡ (line_of w).bytes
stripped_line w None x h e = e ∙ sym (cond-false (fed w) _ _ h)
stripped_line w (Some y) x h e = h.1 ∙ sym (cond-true (fed w) _ _ h.0)
