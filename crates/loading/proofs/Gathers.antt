-- The set of the literals of a list.
use Rattle.std.proofs.Common.{◌≡◌, ℕ, ◌+◌, ◌<◌, ◌≤◌, Bool, true, false, cond, not, ◌&&◌, ◌||◌, ltb, List, [], ◌∷◌, length, get_or, take, drop, ℤ, pos, neg_ℤ, Some, None, sym, ap, ◌∙◌, arith}
use Rattle.std.proofs.lemmas.List.{take_more, at_drop_more, at_drop_all}
use Rattle.std.proofs.lemmas.Bool.{cond-true}
use Rattle.std.proofs.lemmas.Bool.Decides.{nat_tests}
use Rattle.words.specs.Literals.{same}
use Rattle.words.specs.Clauses.{has, opposed, insert, rising, gathered, too_many_at}
use Rattle.words.proofs.Inserts.{has_insert, has_push, length_insert}
use Rattle.loading.proofs.Pairs.{opposed_at}

-- what is kept while the literals of a list are gathered into a clause, one after another: c has those before place i
abbrev pub Gathering : List ℤ → ℕ → List ℤ → Type 0
Gathering zs i c =
    (too_many_at 64 i c (drop i zs) ≡ too_many_at 64 0 [] zs) × (gathered c (drop i zs) ≡ gathered [] zs) × ((y : ℤ) → has y c ≡ has y (take i zs))

-- one step: x is put into c, and b tells whether it is there then
module _ (zs : List ℤ) (i : ℕ) (c : List ℤ) (inv : Gathering zs i c) (apart : opposed zs ≡ false) (rises : rising 512 0 c ≡ true) (few : length c ≤ 64)
    (x : ℤ) (e : x ≡ get_or zs i (pos 0)) (h : i < length zs) (b : Bool) (there : b ≡ (has x c || (not (has (neg_ℤ x) c) && ltb (length c) 64))) where
  lone : has (neg_ℤ x) c ≡ false
  lone = inv.2 (neg_ℤ x) ∙ ap (λ y. has (neg_ℤ y) (take i zs)) e ∙ opposed_at zs i apart h

  rest : drop i zs ≡ x ∷ drop (i + 1) zs
  rest = at_drop_more (λ l. l) zs i (pos 0) h ∙ ap (λ y. y ∷ drop (i + 1) zs) (sym e)

  pub gathering_more : (c' : List ℤ) → b ≡ true → c' ≡ cond b (insert x c) c → Gathering zs (i + 1) c'
  gathering_more c' t put =
      let q = put ∙ cond-true b (insert x c) c t in
      let len = length_insert 512 0 x c rises in
      let lo = lone in
      let d1 = ap (too_many_at 64 i c) rest in
      let d2 = ap (gathered c) rest in
      let i1 = inv.0 in
      let i2 = inv.1 in
      let fits : ltb 64 (length (insert x c)) ≡ false = grind (arith, nat_tests) in
      let w1 : too_many_at 64 (i + 1) (insert x c) (drop (i + 1) zs) ≡ too_many_at 64 0 [] zs = grind (arith, nat_tests) in
      let tm = take_more zs i (pos 0) h in (
        ap (λ l. too_many_at 64 (i + 1) l (drop (i + 1) zs)) q ∙ w1,
        ap (λ l. gathered l (drop (i + 1) zs)) q ∙ sym d2 ∙ i2,
        λ y. let hi = has_insert y x c in
            let hp = has_push y (take i zs) (get_or zs i (pos 0)) in
            let i3 = inv.2 y in
            let s = ap (λ w. same w y) e in
            let u = ap (has y) tm in
            let v = ap (has y) q in
            grind (arith, nat_tests),
      )

  pub gathering_full : b ≡ false → too_many_at 64 0 [] zs ≡ Some (i + 1)
  gathering_full t =
      let len = length_insert 512 0 x c rises in
      let lo = lone in
      let d1 = ap (too_many_at 64 i c) rest in
      let i1 = inv.0 in
      let long : ltb 64 (length (insert x c)) ≡ true = grind (arith, nat_tests) in
      grind (arith, nat_tests)

-- the end of the list
pub gathering_all : (zs : List ℤ) (i : ℕ) (c : List ℤ) → Gathering zs i c → length zs ≤ i → (too_many_at 64 0 [] zs ≡ None) × (c ≡ gathered [] zs)
gathering_all zs i c inv h =
    (sym inv.0 ∙ at_drop_all (too_many_at 64 i c) zs i h, sym (at_drop_all (gathered c) zs i h) ∙ inv.1)
