-- Blocks that are put into the live part of a memory, or taken out of it.
use Rattle.std.proofs.Common.{◌≡◌, ℕ, ◌+◌, ◌-◌, ◌≤◌, List, ◌++◌, length, take, drop, sym, ap, ◌∙◌, arith}
use borrow.Rule.Slice.PartMut.{put_mid}
use Rattle.std.specs.List.{copy_within}
use Rattle.std.proofs.lemmas.List.{append_assoc, take_at, drop_at, take-append-le, drop-take, drop-drop, take-take, length-append, length-take, length-drop, length-take-le}
use Rattle.arena.specs.Splices.{opened, closed}

-- the elements from i to n moved to a place j
moved : {X : Type 0} (s : List X) (i n j : ℕ) → copy_within s i n j ≡ take j s ++ (take (n - i) (drop i s) ++ drop (j + (n - i)) s)
moved s i n j = append_assoc (take j s) (take (n - i) (drop i s)) (drop (j + (n - i)) s)

-- the elements from i on moved up, and a block written in their place
pub opened_live : {X : Type 0} (s xs s' ys : List X) (n i e : ℕ) → e ≡ i + length xs → i ≤ n → n + length xs ≤ length s →
    s' ≡ copy_within s i n e → ys ≡ xs → take (n + length xs) (put_mid i (e - i) s' ys) ≡ opened (take n s) i xs
opened_live s xs s' ys n i e z h k m w =
    let q = take (n - i) (drop i s) in
    let rest = drop (e + (n - i)) s in
    let v = m ∙ moved s i n e in
    let le : length (take e s) ≡ e = length-take-le e s (omega arith) in
    let lq : length q ≡ n - i = length-take-le (n - i) (drop i s) (simp length-drop (omega arith)) in
    let t1 : take i s' ≡ take i s = ap (take i) v ∙ take-append-le i (take e s) (q ++ rest) (omega arith) ∙ take-take i e s (omega arith) in
    let d1 : drop (e - i) (drop i s') ≡ q ++ rest = drop-drop (e - i) i s' ∙ ap (λ j. drop j s') (let y : i + (e - i) ≡ e = omega arith in y) ∙ ap (drop e) v ∙ drop_at (take e s) (q ++ rest) e le in
    let a1 = append_assoc xs q rest in
    let a2 = append_assoc (take i s) (xs ++ q) rest in
    let t2 : take i (take n s) ≡ take i s = take-take i n s h in
    let d2 : drop i (take n s) ≡ q = let y : i + (n - i) ≡ n = omega arith in ap (λ j. drop i (take j s)) (sym y) ∙ drop-take i (n - i) s in
    let li = length-take-le i s (omega arith) in
    let lt : length (take i s ++ (xs ++ q)) ≡ n + length xs = simp length-append (omega arith) in
    let t = take_at (take i s ++ (xs ++ q)) rest (n + length xs) lt in
    cc

-- the elements behind a block moved down over it
pub closed_live : {X : Type 0} (s s' : List X) (n i m : ℕ) → i + m ≤ n → n ≤ length s →
    s' ≡ copy_within s (i + m) n i → take (n - m) s' ≡ closed (take n s) i m
closed_live s s' n i m h k e =
    let q = take (n - (i + m)) (drop (i + m) s) in
    let rest = drop (i + (n - (i + m))) s in
    let li = length-take-le i s (omega arith) in
    let lq : length q ≡ n - (i + m) = length-take-le (n - (i + m)) (drop (i + m) s) (simp length-drop (omega arith)) in
    let a = append_assoc (take i s) q rest in
    let t2 : take i (take n s) ≡ take i s = take-take i n s (omega arith) in
    let d2 : drop (i + m) (take n s) ≡ q = let y : i + m + (n - (i + m)) ≡ n = omega arith in ap (λ j. drop (i + m) (take j s)) (sym y) ∙ drop-take (i + m) (n - (i + m)) s in
    let lt : length (take i s ++ q) ≡ n - m = simp length-append (omega arith) in
    let t = take_at (take i s ++ q) rest (n - m) lt in
    cc

-- the length with a block put in
pub length_opened : {X : Type 0} (xs : List X) (i : ℕ) (ys : List X) → length (opened xs i ys) ≡ length xs + length ys
length_opened xs i ys = simp (length-append, length-take, length-drop) (omega arith)

-- no more elements than before
pub length_closed : {X : Type 0} (xs : List X) (i n : ℕ) → length (closed xs i n) ≤ length xs
length_closed xs i n = simp (length-append, length-take, length-drop) (omega arith)
