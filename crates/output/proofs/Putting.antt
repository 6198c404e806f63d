-- Texts put one behind the other.
use Rattle.std.proofs.Common.{◌≡◌, ℕ, suc, ◌+◌, ◌^◌, ◌<◌, List, [], ◌∷◌, ◌++◌, length, set, sym, refl, ap, subst, ◌∙◌, arith}
use lib.Seq.{sets}
use Rattle.std.proofs.lemmas.List.{length-append}
use Rattle.output.specs.declared.Output.{Output}
use Rattle.output.specs.Puts.{Puts}

-- a text of two parts is stored part by part
pub sets_append : (t u s : List ℕ) (i : ℕ) → sets s i (t ++ u) ≡ sets (sets s i t) (i + length t) u
sets_append [] u s i = let e : i ≡ i + 0 = omega arith in ap (λ k. sets s k u) e
sets_append (x ∷ t) u s i =
    let e : suc i + length t ≡ i + suc (length t) = omega arith in
    sets_append t u (set s i x) (suc i) ∙ ap (λ k. sets (sets (set s i x) (suc i) t) k u) e

pub puts_none : (o : Output) → Puts [] o o
puts_none o = record { same = refl; stored = λ h. refl; counted = λ h. omega arith }

pub puts_then : (t u : List ℕ) {o p q : Output} → Puts t o p → Puts u p q → Puts (t ++ u) o q
puts_then t u {o = o} {p = p} {q = q} a b =
    let l = length-append t u in record {
      same = b.same ∙ a.same;
      stored = λ h.
          let n = a.counted (omega arith) in
          b.stored (omega arith) ∙ ap (λ k. sets p.bytes.now k u) n ∙ ap (λ s. sets s (o.len + length t) u) (a.stored (omega arith)) ∙ sym (sets_append t u o.bytes.now o.len);
      counted = λ h. let n = a.counted (omega arith) in let m = b.counted (omega (arith, n)) in omega (arith, n, m);
    }

pub puts_is : {t u : List ℕ} {o p : Output} → t ≡ u → Puts t o p → Puts u o p
puts_is {o = o} {p = p} e = subst (λ x. Puts x o p) e

-- a text that was put from the start on
module _ (text : List ℕ) (short : length text < 2 ^ 64) {o p : Output} (start : o.len ≡ 0) (puts : Puts text o p) where
  pub put_stored : p.bytes.now ≡ sets o.bytes.now 0 text
  put_stored = puts.stored (omega arith) ∙ ap (λ i. sets o.bytes.now i text) start

  pub put_counted : p.len ≡ length text
  put_counted = puts.counted (omega arith) ∙ omega arith

-- A loop that puts the text F all, a part for each element, keeps this: what puts the text of the elements left has put it whole.
module _ {X : Type 0} (F : List X → List ℕ) (all : List X) where
  abbrev pub PutsSo : List X → Output → Output → Type 0
  PutsSo rest first o = (p : Output) → Puts (F rest) o p → Puts (F all) first p

  -- one element more, and the end
  pub puts_more : (t : List ℕ) {xs rest : List X} {x : X} {first o p : Output} → xs ≡ x ∷ rest → F (x ∷ rest) ≡ t ++ F rest → Puts t o p → PutsSo xs first o → PutsSo rest first p
  puts_more t {rest = rest} e f a k q b = k q (puts_is (sym (ap F e ∙ f)) (puts_then t (F rest) a b))

  pub puts_all : {xs : List X} {first o p : Output} → xs ≡ [] → Puts (F []) o p → PutsSo xs first o → Puts (F all) first p
  puts_all {p = p} e a k = k p (puts_is (sym (ap F e)) a)
