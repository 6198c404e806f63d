-- Signatures of clauses, and the table of those that stand.
use Rattle.std.proofs.Common.{◌≡◌, ℕ, zero, suc, ◌+◌, ◌*◌, ◌%◌, ◌^◌, ◌<◌, ◌≤◌, Bool, true, false, cond, ◌||◌, eqb, List, [], ◌∷◌, ◌++◌, map, length, get_or, take, drop, ℤ, Some, None, Decides, Option, sym, refl, ap, ◌∙◌, ⊎_elim, arith}
use Rattle.std.proofs.lemmas.List.{drop_more, drop_all, length-append, length-drop, length-map, length-take, get_or-take, get_or-map, map_more, take-append-drop}
use Rattle.std.proofs.lemmas.Bool.{cases_Bool}
use Rattle.std.proofs.lemmas.Bool.Decides.{nat_tests, Decides-int_eq}
use Rattle.std.proofs.lemmas.Slice.Eq.{slice_eq-Decides}
use Rattle.std.specs.Cmp.Lexicographic.{pointwise}
use Rattle.std.specs.Ordering.{int_eq}
use Rattle.std.specs.List.{fold, list_any}
use Rattle.std.specs.Option.{MatchOption, option_map}
use Rattle.words.specs.declared.clause.Clause.{Clause}
use Rattle.words.specs.Clauses.{equal}
use Rattle.words.specs.Marks.{mark_place}
use Rattle.words.specs.Meanings.{lits_of}
use Rattle.words.specs.Standing.{Entry, ordered, under}
use Rattle.database.specs.Walks.{above}
use Rattle.database.proofs.Walks.{above_start, above_low}
use Rattle.rules.specs.Lines.{some_equal}
use Rattle.acceptance.proofs.Sets.{equal_is, equal_refl, same_tests}
use Rattle.elimination.specs.declared.signatures.SignedNumber.{SignedNumber}
use Rattle.elimination.specs.Signing.{signature_from, signed_of, equal_to}

-- a test that decides whether two lists are equal
pub equal_decided : (r : Bool) (a b : List ℤ) → Decides r (a ≡ b) → r ≡ equal a b
equal_decided r a b d = same_tests r (equal a b) ((λ t. ap (equal a) (sym (d.0 t)) ∙ equal_refl a), λ t. d.1 (equal_is a b t))

-- what `==` tells of two clauses
pub equal_told : (r : Bool) (a b : List ℤ) → r ≡ pointwise int_eq a b → r ≡ equal a b
equal_told r a b e = equal_decided r a b (slice_eq-Decides Decides-int_eq a b r e)

-- whether there is a clause and it is equal
pub equal_option : (z : List ℤ) (o : Option Clause) (u : Option (List ℤ)) (r : Bool) (Q : Clause → Type 0) → option_map lits_of o ≡ u → MatchOption o (r ≡ false) Q →
    ((x : Clause) → Q x → r ≡ equal (lits_of x) z) → r ≡ equal_to z u
equal_option z None u r Q e m t = m ∙ ap (equal_to z) e
equal_option z (Some x) u r Q e m t = t x m ∙ ap (equal_to z) e

-- whether an equal clause is among some
pub equal_among : (c : List ℤ) (s : List Entry) → list_any (λ (e : Entry). equal e.lits c) s ≡ some_equal c s
equal_among c [] = refl
equal_among c (e ∷ s) = ap (λ b. equal e.lits c || b) (equal_among c s)

-- the signature, as a fold
pub signature_folded : (h : ℕ) (xs : List ℤ) → fold (λ (k : ℕ) (x : ℤ). (k * 1000003 % 2 ^ 64 + mark_place 512 x) % 2 ^ 64) h xs ≡ signature_from h xs
signature_folded h [] = refl
signature_folded h (x ∷ xs) = signature_folded ((h * 1000003 % 2 ^ 64 + mark_place 512 x) % 2 ^ 64) xs

-- ── Walking on ──

equal_under : (c d : List ℤ) (o : Option (List ℤ)) → o ≡ Some d → equal_to c o ≡ equal d c
equal_under c d o e = ap (equal_to c) e

-- ── The table ──

-- the clauses behind the one at a place are those above its number
above_at : (n w k : ℕ) (s : List Entry) (i : ℕ) (x : Entry) (r : List Entry) → ordered n w k s ≡ true → drop i s ≡ x ∷ r → (k < x.number) × (above x.number s ≡ r)
above_at n w k [] zero x r o q = absurd (let l = ap length q in omega arith)
above_at n w k [] (suc i) x r o q = absurd (let l = ap length q in omega arith)
above_at n w k (y ∷ s) zero x r o q =
    let o1 : ordered n w y.number s ≡ true = grind (arith, nat_tests) in
    let i1 : y ≡ x = cc in
    let i2 : s ≡ r = cc in
    let low = above_low n w y.number y.number s o1 (omega arith) in
    let a1 : above y.number (y ∷ s) ≡ above y.number s = grind (arith, nat_tests) in
    let up : k < y.number = grind (arith, nat_tests) in
    let j = ap (λ z. z.number) i1 in
    (omega arith, ap (λ z. above z.number (y ∷ s)) (sym i1) ∙ a1 ∙ low ∙ i2)
above_at n w k (y ∷ s) (suc i) x r o q =
    let o1 : ordered n w y.number s ≡ true = grind (arith, nat_tests) in
    let up : k < y.number = grind (arith, nat_tests) in
    let ih = above_at n w y.number s i x r o1 q in
    let over = ih.0 in
    let a1 : above x.number (y ∷ s) ≡ above x.number s = grind (arith, nat_tests) in
    (omega arith, a1 ∙ ih.1)

-- a table of the first clauses, and the number of the last
pub record Table (rs : List SignedNumber) (last : ℕ) (s : List Entry) : Type 0 where
  pub listed : rs ≡ map signed_of (take (length rs) s)
  pub beyond : above last s ≡ drop (length rs) s

-- at first it is empty, and all is to come
pub table_start : (n w : ℕ) (s left : List Entry) (rs : List SignedNumber) → ordered n w 0 s ≡ true → rs ≡ [] → left ≡ s → Table rs 0 s × (left ≡ drop (length rs) s)
table_start n w s left rs o e a =
    let b = ap (λ r. drop (length r) s) e in (
      record { listed = e ∙ sym (ap (λ r. map signed_of (take (length r) s)) e); beyond = above_start n w s o ∙ sym b },
      a ∙ sym b,
    )

-- the next clause x goes into it
pub table_step : (n w : ℕ) (s left rest : List Entry) (rs after : List SignedNumber) (last : ℕ) (x : Entry) → ordered n w 0 s ≡ true → Table rs last s → left ≡ drop (length rs) s →
    left ≡ x ∷ rest → after ≡ rs ++ signed_of x ∷ [] → Table after x.number s × (rest ≡ drop (length after) s)
table_step n w s left rest rs after last x o t l q a =
    let d : drop (length rs) s ≡ x ∷ rest = sym l ∙ q in
    let dl = ap length d in
    let ld = length-drop (length rs) s in
    let lt : length rs < length s = omega arith in
    let m = drop_more s (length rs) x lt in
    let g : get_or s (length rs) x ≡ x = cc in
    let r : rest ≡ drop (length rs + 1) s = cc in
    let n1 : length after ≡ length rs + 1 = ap length a ∙ length-append rs (signed_of x ∷ []) in
    let up = above_at n w 0 s (length rs) x rest o d in
    let r1 : rest ≡ drop (length after) s = r ∙ ap (λ k. drop k s) (sym n1) in (
      record {
        listed =
            a ∙ ap (λ ys. ys ++ signed_of x ∷ []) t.listed ∙ ap (λ y. map signed_of (take (length rs) s) ++ signed_of y ∷ []) (sym g) ∙ sym (map_more signed_of s (length rs) x lt) ∙
            ap (λ k. map signed_of (take k s)) (sym n1);
        beyond = up.1 ∙ r1;
      },
      r1,
    )

-- equal to one of the table, or to one beyond it
some_equal_append : (c : List ℤ) (a b : List Entry) → some_equal c (a ++ b) ≡ (some_equal c a || some_equal c b)
some_equal_append c [] b = refl
some_equal_append c (x ∷ a) b = let ih = some_equal_append c a b in grind arith

pub listed_hit : (c : List ℤ) (len : ℕ) (s : List Entry) → some_equal c (take len s) ≡ true → true ≡ some_equal c s
listed_hit c len s h = let p = some_equal_append c (take len s) (drop len s) in let q = ap (some_equal c) (take-append-drop len s) in grind arith

pub listed_miss : (c : List ℤ) (len last : ℕ) (s : List Entry) → above last s ≡ drop len s → some_equal c (take len s) ≡ false → some_equal c (above last s) ≡ some_equal c s
listed_miss c len last s b h =
    let p = some_equal_append c (take len s) (drop len s) in
    let q = ap (some_equal c) (take-append-drop len s) in
    let r = ap (some_equal c) b in
    grind arith

-- the entries of a database have clause numbers above the first ones
ordered_at : (n w k : ℕ) (s : List Entry) (i : ℕ) (d : Entry) → ordered n w k s ≡ true → i < length s → (k < (get_or s i d).number) × ((get_or s i d).number ≤ 1000000)
ordered_at n w k [] i d o h = absurd (omega arith)
ordered_at n w k (x ∷ s) zero d o h = (grind (arith, nat_tests), grind (arith, nat_tests))
ordered_at n w k (x ∷ s) (suc i) d o h =
    let o1 : ordered n w x.number s ≡ true = grind (arith, nat_tests) in
    let k1 : k < x.number = grind (arith, nat_tests) in
    let ih = ordered_at n w x.number s i d o1 (omega arith) in
    let a = ih.0 in
    (omega arith, ih.1)

-- and each clause is under its number
under_at : (n w k : ℕ) (s : List Entry) (i : ℕ) (d : Entry) → ordered n w k s ≡ true → i < length s → under (get_or s i d).number s ≡ Some (get_or s i d).lits
under_at n w k [] i d o h = absurd (omega arith)
under_at n w k (x ∷ s) zero d o h = grind (arith, nat_tests)
under_at n w k (x ∷ s) (suc i) d o h =
    let o1 : ordered n w x.number s ≡ true = grind (arith, nat_tests) in
    let ih = under_at n w x.number s i d o1 (omega arith) in
    let a = (ordered_at n w x.number s i d o1 (omega arith)).0 in
    let q : eqb x.number (get_or s i d).number ≡ false = grind (arith, nat_tests) in
    ap (λ b. cond b (Some x.lits) (under (get_or s i d).number s)) q ∙ ih

module _ (n w : ℕ) (s : List Entry) (o : ordered n w 0 s ≡ true) (rs items : List SignedNumber) (v : rs ≡ items) (l : items ≡ map signed_of (take (length items) s)) (i : ℕ) (h : i < length rs) (d : Entry) (b : SignedNumber) where
  shorter : i < length (take (length items) s)
  shorter = let e : length rs ≡ length (take (length items) s) = ap length v ∙ ap length l ∙ length-map (take (length items) s) signed_of in omega arith

  inside : i < length items
  inside = let e = ap length v in omega arith

  reached : i < length s
  reached = let a = shorter in let t = length-take (length items) s in omega arith

  -- the record at a place is that of the entry there
  at_place : get_or rs i b ≡ signed_of (get_or s i d)
  at_place = ap (λ ys. get_or ys i b) (v ∙ l) ∙ get_or-map signed_of (take (length items) s) i d b shorter ∙ ap signed_of (get_or-take (length items) s i d inside)

  pub record_number : (1 ≤ (get_or rs i b).number) × ((get_or rs i b).number ≤ 1000000)
  record_number =
      let p = ordered_at n w 0 s i d o reached in
      let q = ap (λ r. r.number) at_place in
      let p0 = p.0 in
      let p1 = p.1 in
      (omega arith, omega arith)

  -- the entry there is compared, and then those after it
  record_compares : (c : List ℤ) → some_equal c (drop i (take (length items) s)) ≡ (equal_to c (under (get_or rs i b).number s) || some_equal c (drop (i + 1) (take (length items) s)))
  record_compares c =
      ap (some_equal c) (drop_more (take (length items) s) i d shorter) ∙ ap (λ x. equal x.lits c || some_equal c (drop (i + 1) (take (length items) s))) (get_or-take (length items) s i d inside) ∙
      ap (λ t. t || some_equal c (drop (i + 1) (take (length items) s)))
      (sym (ap (λ r. equal_to c (under r.number s)) at_place ∙ equal_under c _ _ (under_at n w 0 s i d o reached)))

  pub record_hit : (c : List ℤ) (f : Bool) → equal_to c (under (get_or rs i b).number s) ≡ true → some_equal c (drop i (take (length items) s)) ≡ f → true ≡ f
  record_hit c f t q = let p = record_compares c in grind arith

  pub record_miss : (c : List ℤ) (f : Bool) → equal_to c (under (get_or rs i b).number s) ≡ false → some_equal c (drop i (take (length items) s)) ≡ f → some_equal c (drop (i + 1) (take (length items) s)) ≡ f
  record_miss c f t q = let p = record_compares c in grind arith

  -- clauses of different signatures are not equal
  pub record_apart : (c : List ℤ) (f : Bool) (g : ℕ) → g ≡ signature_from 1 c → ((get_or rs i b).signature ≡ g → ⊥) → some_equal c (drop i (take (length items) s)) ≡ f → some_equal c (drop (i + 1) (take (length items) s)) ≡ f
  record_apart c f g e ne q =
      let u : equal_to c (under (get_or rs i b).number s) ≡ equal (get_or s i d).lits c = ap (λ r. equal_to c (under r.number s)) at_place ∙ equal_under c _ _ (under_at n w 0 s i d o reached) in
      ⊎_elim
      (λ (t : equal (get_or s i d).lits c ≡ true). absurd (ne (ap (λ r. r.signature) at_place ∙ ap (signature_from 1) (equal_is (get_or s i d).lits c t) ∙ sym e)))
      (λ (t : equal (get_or s i d).lits c ≡ false). record_miss c f (u ∙ t) q)
      (cases_Bool (equal (get_or s i d).lits c))

-- past the last record
pub records_done : (c : List ℤ) (f : Bool) (len i : ℕ) (s : List Entry) → len ≤ i → some_equal c (drop i (take len s)) ≡ f → false ≡ f
records_done c f len i s h q = let k : length (take len s) ≤ i = simp length-take (omega arith) in sym (ap (some_equal c) (drop_all i (take len s) k)) ∙ q
