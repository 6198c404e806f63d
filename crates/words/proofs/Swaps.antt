-- Blocks of a list that change places.
use Rattle.std.proofs.Common.{◌≡◌, ℕ, suc, ◌+◌, ◌-◌, ◌<◌, ◌≤◌, List, [], ◌∷◌, ◌++◌, length, take, drop, set, sym, ap, ◌∙◌, arith}
use borrow.Rule.Slice.PartMut.{put_mid}
use Rattle.std.proofs.lemmas.List.{drop-take, drop-drop, take-take, append_assoc, take_at, drop_at, take-append-drop, set_split, length-append, length-take, length-drop, length-set}
use Rattle.words.specs.Blocks.{swapped, exchanged, overwritten}
use Rattle.std.proofs.lemmas.Bool.Decides.{nat_tests}
use lib.Seq.{paste}
use Rattle.std.specs.List.{insert}

-- what a rotation of a part leaves
pub rotated : {X : Type 0} (s : List X) (a m e : ℕ) (ys : List X) → a ≤ m → m ≤ e →
    ys ≡ drop (m - a) (take (e - a) (drop a s)) ++ take (m - a) (take (e - a) (drop a s)) →
    put_mid a (e - a) s ys ≡ swapped s a m e
rotated s a m e ys p q h =
    let e1 : e - a ≡ (m - a) + (e - m) = omega arith in
    let n1 : a + (m - a) ≡ m = omega arith in
    let n2 : a + (e - a) ≡ e = omega arith in
    let b1 : drop (m - a) (take (e - a) (drop a s)) ≡ take (e - m) (drop m s) =
    ap (λ n. drop (m - a) (take n (drop a s))) e1 ∙ drop-take (m - a) (e - m) (drop a s) ∙ ap (take (e - m)) (drop-drop (m - a) a s ∙ ap (λ n. drop n s) n1) in
    let b2 : take (m - a) (take (e - a) (drop a s)) ≡ take (m - a) (drop a s) = take-take (m - a) (e - a) (drop a s) (omega arith) in
    let b3 : drop (e - a) (drop a s) ≡ drop e s = drop-drop (e - a) a s ∙ ap (λ n. drop n s) n2 in
    let g = append_assoc (drop (m - a) (take (e - a) (drop a s))) (take (m - a) (take (e - a) (drop a s))) (drop (e - a) (drop a s)) in
    cc

-- two blocks between others
pub swapped_blocks : {X : Type 0} (p q t rest : List X) (a m e : ℕ) → a ≡ length p → m ≡ length p + length q → e ≡ length p + length q + length t →
    swapped (p ++ (q ++ (t ++ rest))) a m e ≡ p ++ (t ++ (q ++ rest))
swapped_blocks p q t rest a m e ea em ee =
    let ga = append_assoc p q (t ++ rest) in
    let gb = append_assoc (p ++ q) t rest in
    let t1 = take_at p (q ++ (t ++ rest)) a (sym ea) in
    let d1 = drop_at p (q ++ (t ++ rest)) a (sym ea) in
    let d2 = drop_at (p ++ q) (t ++ rest) m (length-append p q ∙ sym em) in
    let l3 : length ((p ++ q) ++ t) ≡ e = simp length-append (omega arith) in
    let d3 = drop_at ((p ++ q) ++ t) rest e l3 in
    let k1 : length q ≡ m - a = omega arith in
    let k2 : length t ≡ e - m = omega arith in
    let t2 = take_at q (t ++ rest) (m - a) k1 in
    let t3 = take_at t rest (e - m) k2 in
    cc

pub length_swapped : {X : Type 0} (s : List X) (a m e : ℕ) → a ≤ m → m ≤ e → e ≤ length s → length (swapped s a m e) ≡ length s
length_swapped s a m e h k l = simp (length-append, length-take, length-drop) (omega arith)

-- where the blocks are there, the exchange takes place
pub exchanged_is : {X : Type 0} (s : List X) (a m e : ℕ) → a ≤ m → m ≤ e → e ≤ length s → exchanged s a m e ≡ swapped s a m e
exchanged_is s a m e p q r = grind (arith, nat_tests)

-- an exchange keeps the length
pub length_exchanged : {X : Type 0} (s : List X) (a m e : ℕ) → a ≤ m → m ≤ e → e ≤ length s → length (exchanged s a m e) ≡ length s
length_exchanged s a m e p q r = ap length (exchanged_is s a m e p q r) ∙ length_swapped s a m e p q r

-- where the elements fit, they are written
pub overwritten_is : {X : Type 0} (s : List X) (a : ℕ) (xs : List X) → a + length xs ≤ length s → overwritten s a xs ≡ paste s a xs (length xs)
overwritten_is s a xs h = grind (arith, nat_tests)

-- an element written behind the first n and then brought to a place among them, where y' is y
pub placed : {X : Type 0} (xs : List X) (n at : ℕ) (y y' : X) → y' ≡ y → n < length xs → at ≤ n →
    take (n + 1) (exchanged (set xs n y') at n (n + 1)) ≡ insert (take n xs) at y
placed xs n at y y' e h k =
    let p = take at (take n xs) in
    let q = drop at (take n xs) in
    let rest = drop (suc n) xs in
    let s1 = set_split xs n y' h in
    let s2 = take-append-drop at (take n xs) in
    let s3 = append_assoc p q (y' ∷ rest) in
    let whole : set xs n y' ≡ p ++ (q ++ ((y' ∷ []) ++ rest)) = cc in
    let ln : length (take n xs) ≡ n = simp length-take (omega arith) in
    let lp : length p ≡ at = simp length-take (omega arith) in
    let lq : length q ≡ n - at = simp length-drop (omega arith) in
    let ls = length-set xs n y' in
    let x1 = exchanged_is (set xs n y') at n (n + 1) k (omega arith) (omega arith) in
    let x2 = ap (λ l. swapped l at n (n + 1)) whole in
    let x3 = swapped_blocks p q (y' ∷ []) rest at n (n + 1) (sym lp) (omega arith) (omega arith) in
    let x4 = append_assoc p (y' ∷ q) rest in
    let l5 : length (p ++ y' ∷ q) ≡ n + 1 = simp length-append (omega arith) in
    let x5 = take_at (p ++ y' ∷ q) rest (n + 1) l5 in
    cc
