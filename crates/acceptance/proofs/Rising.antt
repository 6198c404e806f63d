-- Clauses in canonical form: lists of literals whose variables rise strictly.
use Rattle.std.proofs.Common.{◌≡◌, ℕ, ◌<◌, ◌≤◌, true, false, List, [], ◌∷◌, length, ℤ, neg_ℤ, nat_abs, sym, refl, ap, ◌∙◌, ⊎_elim, arith}
use Rattle.std.proofs.lemmas.Bool.{false≢true, or_right}
use Rattle.std.proofs.lemmas.Bool.Decides.{nat_tests}
use Rattle.words.specs.Literals.{same, literal_ok}
use Rattle.words.specs.Clauses.{has, opposed, rising, insert, gathered, lacking, joined, resolvent}
use Rattle.words.proofs.Inserts.{has_above, rising_insert}
use Rattle.rules.specs.Satisfying.{Iff}
use Rattle.rules.specs.Obeying.{Tautological}
use Rattle.acceptance.proofs.Sets.{same_ne, not_same, same_refl, cases_same, not_its_negation, abs_neg, same_tests, has_first, has_insert, has_lacking, has_gathered_is, Nonzero, Plain, opposed_plain, opposed_resolvent, resolvent_nonzero}

-- ── Literals of a rising list ──

-- the variable of every literal of a rising list is above its start and up to its end
pub rising_range : (n m : ℕ) (xs : List ℤ) (z : ℤ) → rising n m xs ≡ true → has z xs ≡ true → (m < nat_abs z) × (nat_abs z ≤ n)
rising_range n m [] z r h = absurd (false≢true h)
rising_range n m (x ∷ xs) z r h =
    ⊎_elim
    (λ (e : x ≡ z). let a : nat_abs x ≡ nat_abs z = ap nat_abs e in (grind (arith, nat_tests), grind (arith, nat_tests)))
    (λ (e : same x z ≡ false).
    let ih = rising_range n (nat_abs x) xs z (grind (arith, nat_tests)) (grind arith) in
    let low = ih.0 in
    let b : m < nat_abs x = grind (arith, nat_tests) in
    (omega arith, ih.1))
    (cases_same x z)

-- no literal of a rising list is 0
pub rising_nonzero : (n m : ℕ) (xs : List ℤ) → rising n m xs ≡ true → Nonzero xs
rising_nonzero n m xs r z h = let p = rising_range n m xs z r h in let q = p.0 in omega arith

-- a rising list rises from any lower start too
pub rising_lower : (n m k : ℕ) (xs : List ℤ) → k ≤ m → rising n m xs ≡ true → rising n k xs ≡ true
rising_lower n m k [] h r = refl
rising_lower n m k (x ∷ xs) h r = grind (arith, nat_tests)

-- a rising list has one literal of each variable
pub rising_plain : (n m : ℕ) (xs : List ℤ) → rising n m xs ≡ true → Plain xs
rising_plain n m [] r z h = refl
rising_plain n m (x ∷ xs) r z h =
    let r1 : rising n (nat_abs x) xs ≡ true = grind (arith, nat_tests) in
    let nz = rising_nonzero n m (x ∷ xs) r z h in
    let a = abs_neg z in
    ⊎_elim
    (λ (e : x ≡ z).
    let ab : nat_abs x ≡ nat_abs z = ap nat_abs e in
    let k = has_above n (nat_abs x) (neg_ℤ z) xs r1 (omega arith) in
    let s = same_ne x (neg_ℤ z) (λ f. not_its_negation z nz (sym e ∙ f)) in
    grind arith)
    (λ (e : same x z ≡ false).
    let h1 : has z xs ≡ true = grind arith in
    let ih = rising_plain n (nat_abs x) xs r1 z h1 in
    let low = (rising_range n (nat_abs x) xs z r1 h1).0 in
    let s = same_ne x (neg_ℤ z) (λ f. let ab : nat_abs x ≡ nat_abs (neg_ℤ z) = ap nat_abs f in omega arith) in
    grind arith)
    (cases_same x z)

-- ── What keeps a list rising ──

-- a rising list without a literal rises
pub rising_lacking : (n m : ℕ) (l : ℤ) (xs : List ℤ) → rising n m xs ≡ true → rising n m (lacking l xs) ≡ true
rising_lacking n m l [] r = refl
rising_lacking n m l (x ∷ xs) r =
    let r1 : rising n (nat_abs x) xs ≡ true = grind (arith, nat_tests) in
    let low : m < nat_abs x = grind (arith, nat_tests) in
    let ih = rising_lacking n (nat_abs x) l xs r1 in
    let w = rising_lower n (nat_abs x) m (lacking l xs) (omega arith) ih in
    grind (arith, nat_tests)

-- what is plain stays so without a literal
plain_less : (x : ℤ) (xs : List ℤ) → Plain (insert x xs) → Plain xs
plain_less x xs p z h =
    let a = has_insert z x xs in
    let b = has_insert (neg_ℤ z) x xs in
    let c = p z (grind arith) in
    grind arith

-- the union of two rising lists rises, if it is plain
pub rising_joined : (n m : ℕ) (xs ys : List ℤ) → rising n m xs ≡ true → rising n m ys ≡ true → Plain (joined xs ys) → rising n m (joined xs ys) ≡ true
rising_joined n m [] ys r s p = s
rising_joined n m (x ∷ xs) ys r s p =
    let r1 : rising n (nat_abs x) xs ≡ true = grind (arith, nat_tests) in
    let low : m < nat_abs x = grind (arith, nat_tests) in
    let high : nat_abs x ≤ n = grind (arith, nat_tests) in
    let ih = rising_joined n m xs ys (rising_lower n (nat_abs x) m xs (omega arith) r1) s (plain_less x (joined xs ys) p) in
    let a = has_insert x x (joined xs ys) in
    let e = same_refl x in
    let b = has_insert (neg_ℤ x) x (joined xs ys) in
    let q = p x (grind arith) in
    rising_insert n m x (joined xs ys) ih low high (grind arith)

-- ── Resolvents ──

-- the resolvent of two clauses in canonical form holds an opposite pair exactly when it is tautological
pub opposed_tautological : (n : ℕ) (l : ℤ) (a b : List ℤ) → rising n 0 a ≡ true → rising n 0 b ≡ true → Iff (opposed (resolvent l a b) ≡ true) (Tautological l a b)
opposed_tautological n l a b ra rb = opposed_resolvent l a b (rising_nonzero n 0 a ra) (rising_nonzero n 0 b rb)

-- a resolvent without an opposite pair is in canonical form
pub resolvent_canonical : (n : ℕ) (l : ℤ) (a b : List ℤ) → rising n 0 a ≡ true → rising n 0 b ≡ true → opposed (resolvent l a b) ≡ false → rising n 0 (resolvent l a b) ≡ true
resolvent_canonical n l a b ra rb o =
    rising_joined n 0 (lacking l a) (lacking (neg_ℤ l) b) (rising_lacking n 0 l a ra) (rising_lacking n 0 (neg_ℤ l) b rb)
    (opposed_plain (resolvent l a b) (resolvent_nonzero l a b (rising_nonzero n 0 a ra) (rising_nonzero n 0 b rb)) o)

-- ── Gathered lists ──

-- every number of a list is a literal of n variables
abbrev pub Literals : ℕ → List ℤ → Type 0
Literals n zs = (z : ℤ) → has z zs ≡ true → literal_ok n z ≡ true

-- no literal is 0
pub literals_nonzero : (n : ℕ) (zs : List ℤ) → Literals n zs → Nonzero zs
literals_nonzero n zs l z h = let o = l z h in grind (arith, nat_tests)

-- a list gathered onto a rising one
pub gathered_onto_rising : (n : ℕ) (before zs : List ℤ) → rising n 0 before ≡ true → Literals n zs → Plain (gathered before zs) → rising n 0 (gathered before zs) ≡ true
gathered_onto_rising n before [] r l p = r
gathered_onto_rising n before (x ∷ xs) r l p =
    let o = l x (has_first x xs) in
    let a = has_gathered_is x before (x ∷ xs) in
    let b = has_gathered_is (neg_ℤ x) before (x ∷ xs) in
    let f = has_first x xs in
    let q = p x (grind arith) in
    gathered_onto_rising n (insert x before) xs
    (rising_insert n 0 x before r (grind (arith, nat_tests)) (grind (arith, nat_tests)) (grind arith))
    (λ z h. l z (or_right (same x z) (has z xs) h))
    p

-- a list of literals without an opposite pair, gathered, is a clause in canonical form
pub gathered_rising : (n : ℕ) (zs : List ℤ) → Literals n zs → opposed zs ≡ false → rising n 0 (gathered [] zs) ≡ true
gathered_rising n zs l o =
    gathered_onto_rising n [] zs refl l
    (λ z h. has_gathered_is (neg_ℤ z) [] zs ∙ opposed_plain zs (literals_nonzero n zs l) o z (sym (has_gathered_is z [] zs) ∙ h))

-- ── Equal sets, and counting ──

-- two rising lists with the same members are equal
pub rising_unique : (n m k : ℕ) (a b : List ℤ) → rising n m a ≡ true → rising n k b ≡ true → ((z : ℤ) → has z a ≡ has z b) → a ≡ b
rising_unique n m k [] [] ra rb e = refl
rising_unique n m k [] (y ∷ ys) ra rb e = absurd (false≢true (e y ∙ has_first y ys))
rising_unique n m k (x ∷ xs) [] ra rb e = absurd (false≢true (sym (e x) ∙ has_first x xs))
rising_unique n m k (x ∷ xs) (y ∷ ys) ra rb e =
    let ra1 : rising n (nat_abs x) xs ≡ true = grind (arith, nat_tests) in
    let rb1 : rising n (nat_abs y) ys ≡ true = grind (arith, nat_tests) in
    let ex = e x in
    let ey = e y in
    let fx = has_first x xs in
    let fy = has_first y ys in
    ⊎_elim
    (λ (p : x ≡ y).
    let inner : (z : ℤ) → has z xs ≡ has z ys = λ z.
    let ez = e z in
    let t : same x z ≡ same y z = ap (λ v. same v z) p in
    ⊎_elim
    (λ (q : x ≡ z).
    let ab : nat_abs x ≡ nat_abs z = ap nat_abs q in
    let ac : nat_abs x ≡ nat_abs y = ap nat_abs p in
    has_above n (nat_abs x) z xs ra1 (omega arith) ∙ sym (has_above n (nat_abs y) z ys rb1 (omega arith)))
    (λ (q : same x z ≡ false). grind arith)
    (cases_same x z) in
    let ih = rising_unique n (nat_abs x) (nat_abs y) xs ys ra1 rb1 inner in
    cc)
    (λ (p : same x y ≡ false).
    let q : same y x ≡ false = same_ne y x (λ f. not_same x y p (sym f)) in
    let hx : has x ys ≡ true = grind arith in
    let hy : has y xs ≡ true = grind arith in
    let lx = (rising_range n (nat_abs y) ys x rb1 hx).0 in
    let ly = (rising_range n (nat_abs x) xs y ra1 hy).0 in
    absurd (omega arith))
    (cases_same x y)

-- the same, where the members are told as both or neither
pub rising_same_set : (n : ℕ) (a b : List ℤ) → rising n 0 a ≡ true → rising n 0 b ≡ true → ((z : ℤ) → Iff (has z a ≡ true) (has z b ≡ true)) → a ≡ b
rising_same_set n a b ra rb e = rising_unique n 0 0 a b ra rb (λ z. same_tests (has z a) (has z b) (e z))

-- a list is longer than it is without one of its literals
pub lacking_no_longer : (z : ℤ) (xs : List ℤ) → length (lacking z xs) ≤ length xs
lacking_no_longer z [] = omega arith
lacking_no_longer z (x ∷ xs) = let ih = lacking_no_longer z xs in grind arith

pub lacking_shorter : (z : ℤ) (xs : List ℤ) → has z xs ≡ true → length (lacking z xs) < length xs
lacking_shorter z [] h = absurd (false≢true h)
lacking_shorter z (x ∷ xs) h = let w = lacking_no_longer z xs in let ih = lacking_shorter z xs in grind (arith, ih)

-- a rising list repeats nothing, so it is no longer than any list that has its literals
pub rising_length : (n m : ℕ) (a c : List ℤ) → rising n m a ≡ true → ((z : ℤ) → has z a ≡ true → has z c ≡ true) → length a ≤ length c
rising_length n m [] c r e = omega arith
rising_length n m (x ∷ xs) c r e =
    let r1 : rising n (nat_abs x) xs ≡ true = grind (arith, nat_tests) in
    let inner : (z : ℤ) → has z xs ≡ true → has z (lacking x c) ≡ true = λ z h.
    let g = e z (or_right (same x z) (has z xs) h) in
    let w = has_lacking z x c in
    let low = (rising_range n (nat_abs x) xs z r1 h).0 in
    let s = same_ne x z (λ f. let ab : nat_abs x ≡ nat_abs z = ap nat_abs f in omega arith) in
    grind arith in
    let ih = rising_length n (nat_abs x) xs (lacking x c) r1 inner in
    let sh = lacking_shorter x c (e x (has_first x xs)) in
    omega arith
