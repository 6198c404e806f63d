-- A clause read from two masks, bit by bit.
use Rattle.std.proofs.Common.{◌≡◌, ℕ, suc, ◌+◌, ◌-◌, ◌<◌, ◌≤◌, true, leb, List, [], ◌∷◌, ◌++◌, length, take, set, ℤ, nat_abs, sym, refl, ap, ◌∙◌, arith}
use Rattle.std.proofs.lemmas.List.{take_more_set, append_assoc, append-nil}
use Rattle.std.proofs.lemmas.Bool.{and_parts}
use Rattle.std.proofs.lemmas.Bool.Decides.{nat_tests}
use Rattle.words.specs.Clauses.{rising}
use Rattle.bitmask.specs.Masks.{told, decoded_from, decoded}
use Rattle.bitmask.proofs.Decoding.{canonical_decoded}

-- before the first bit nothing is read
pub read_start : (p n : ℕ) → decoded_from p n 0 64 ≡ decoded p n
unfolding decoded
read_start p n = refl

module _ (p n i len : ℕ) (lits whole : List ℤ) (h : i < 64) (so_far : take len lits ++ decoded_from p n i (64 - i) ≡ whole) where
  -- the next bit
  next : decoded_from p n i (64 - i) ≡ told p n i ++ decoded_from p n (i + 1) (64 - (i + 1))
  unfolding decoded_from
  next = let e : 64 - i ≡ suc (64 - (i + 1)) = omega arith in ap (decoded_from p n i) e

  -- a bit that tells a literal, which is written behind the others
  pub read_some : (x y : ℤ) (len' : ℕ) (lits' : List ℤ) → len < length lits → x ∷ [] ≡ told p n i → y ≡ x → len' ≡ len + 1 → lits' ≡ set lits len y →
      take len' lits' ++ decoded_from p n (i + 1) (64 - (i + 1)) ≡ whole
  read_some x y len' lits' k t q e w =
      let a = next in
      let b = take_more_set lits len y k in
      let d = append_assoc (take len lits) (x ∷ []) (decoded_from p n (i + 1) (64 - (i + 1))) in
      cc

  -- a bit that tells none
  pub read_none : (len' : ℕ) (lits' : List ℤ) → [] ≡ told p n i → len' ≡ len → lits' ≡ lits → take len' lits' ++ decoded_from p n (i + 1) (64 - (i + 1)) ≡ whole
  read_none len' lits' t e w =
      let a : decoded_from p n i (64 - i) ≡ decoded_from p n (i + 1) (64 - (i + 1)) = next ∙ ap (λ l. l ++ decoded_from p n (i + 1) (64 - (i + 1))) (sym t) in
      cc

-- after the last bit all is read
pub read_end : (p n i len : ℕ) (lits whole : List ℤ) → 64 ≤ i → take len lits ++ decoded_from p n i (64 - i) ≡ whole → take len lits ≡ whole
unfolding decoded_from
read_end p n i len lits whole h e =
    let z : 64 - i ≡ 0 = omega arith in
    sym (append-nil (take len lits)) ∙ ap (λ f. take len lits ++ decoded_from p n i f) (sym z) ∙ e

-- what rises up to v rises up to a higher bound
rising_wider : (v w m : ℕ) (zs : List ℤ) → v ≤ w → rising v m zs ≡ true → rising w m zs ≡ true
rising_wider v w m [] h r = refl
rising_wider v w m (z ∷ zs) h r = let ih = rising_wider v w (nat_abs z) zs in grind (arith, nat_tests, ih)

-- what is read is a clause
pub read_rises : (p n : ℕ) (zs : List ℤ) → zs ≡ decoded p n → rising 512 0 zs ≡ true
read_rises p n zs e =
    let r = (and_parts (leb (length (decoded p n)) 64) (rising 64 0 (decoded p n)) (canonical_decoded p n)).1 in
    ap (rising 512 0) e ∙ rising_wider 64 512 0 (decoded p n) (omega arith) r
