-- Assignments: when literals and clauses are true, and what making a literal true changes.
use Rattle.std.proofs.Common.{◌≡◌, ℕ, zero, suc, ◌+◌, ◌-◌, ◌≤◌, true, false, eqb, leb, List, [], ◌∷◌, length, get_or, set, ℤ, pos, negsuc, neg_ℤ, nat_abs, sym, refl, ap, ◌∙◌, ⊎_elim, arith, length-set}
use Rattle.std.proofs.lemmas.List.{get_or-set_same, get_or-set_other}
use Rattle.std.proofs.lemmas.Bool.{true≢false, false≢true, or_cases, or_left, or_right, eq-eqb, le-leb, and_from, and_parts, eqb-true, leb-true}
use Rattle.std.proofs.lemmas.Bool.Decides.{nat_tests}
use Rattle.words.specs.Clauses.{has}
use Rattle.words.specs.Assignments.{all_bits, assignment, wanted, holds, met, made_true}
use Rattle.acceptance.proofs.Sets.{has_first, cases_same, abs_neg}

-- ── Literals ──

-- the byte of a literal's variable
abbrev pub byte_of : ℤ → List ℕ → ℕ
byte_of z a = get_or a (nat_abs z - 1) 0

-- a literal within the assignment is true where its byte is the wanted one
pub holds_at : (a : List ℕ) (z : ℤ) → nat_abs z ≤ length a → byte_of z a ≡ wanted z → holds a z ≡ true
holds_at a z w e = and_from (leb (nat_abs z) (length a)) (eqb (byte_of z a) (wanted z)) (le-leb _ _ w) (eq-eqb _ _ e)

-- a true literal is within the assignment, and its byte is the wanted one
pub holds_says : (a : List ℕ) (z : ℤ) → holds a z ≡ true → (nat_abs z ≤ length a) × (byte_of z a ≡ wanted z)
holds_says a z h =
    let p = and_parts (leb (nat_abs z) (length a)) (eqb (byte_of z a) (wanted z)) h in
    (leb-true _ _ p.0, eqb-true _ _ p.1)

-- the byte of the negation is the other one
pub wanted_neg : (z : ℤ) → 1 ≤ nat_abs z → wanted z + wanted (neg_ℤ z) ≡ 1
wanted_neg (pos zero) p = absurd (omega arith)
wanted_neg (pos (suc n)) p = refl
wanted_neg (negsuc n) p = refl

-- the byte is a bit
pub wanted_bit : (z : ℤ) → wanted z ≤ 1
wanted_bit (pos n) = omega arith
wanted_bit (negsuc n) = omega arith

-- the bytes of an assignment are bits
pub bit_at : (a : List ℕ) (i : ℕ) → all_bits a ≡ true → get_or a i 0 ≤ 1
bit_at [] i h = omega arith
bit_at (b ∷ bs) zero h = grind (arith, nat_tests)
bit_at (b ∷ bs) (suc i) h = bit_at bs i (grind arith)

-- an assignment of n variables has n bytes
pub length_of : (n : ℕ) (a : List ℕ) → assignment n a ≡ true → length a ≡ n
length_of n a h = eqb-true _ _ (and_parts (eqb (length a) n) (all_bits a) h).0

-- each of them a bit
pub bits_of : (n : ℕ) (a : List ℕ) → assignment n a ≡ true → all_bits a ≡ true
bits_of n a h = (and_parts (eqb (length a) n) (all_bits a) h).1

-- a literal and its negation are not both true
pub not_both : (a : List ℕ) (z : ℤ) → 1 ≤ nat_abs z → holds a z ≡ true → holds a (neg_ℤ z) ≡ true → ⊥
not_both a z p h k =
    let x = (holds_says a z h).1 in
    let y = (holds_says a (neg_ℤ z) k).1 in
    let w = wanted_neg z p in
    let e : byte_of (neg_ℤ z) a ≡ byte_of z a = ap (λ m. get_or a (m - 1) 0) (abs_neg z) in
    omega arith

-- a literal of the assignment's variables or its negation is true
pub one_of_both : (n : ℕ) (a : List ℕ) (z : ℤ) → assignment n a ≡ true → 1 ≤ nat_abs z → nat_abs z ≤ n → holds a z ≡ false → holds a (neg_ℤ z) ≡ true
one_of_both n a z s p q h =
    let len = length_of n a s in
    let bit = bit_at a (nat_abs z - 1) (bits_of n a s) in
    let w = wanted_neg z p in
    let v = abs_neg z in
    let e : byte_of (neg_ℤ z) a ≡ byte_of z a = ap (λ m. get_or a (m - 1) 0) v in
    let differs : byte_of z a ≡ wanted z → ⊥ = λ k. true≢false (sym (holds_at a z (omega arith) k) ∙ h) in
    let b = wanted_bit z in
    holds_at a (neg_ℤ z) (omega arith) (omega arith)

-- ── Clauses ──

-- a clause with a true literal is met
pub met_has : (a : List ℕ) (z : ℤ) (c : List ℤ) → has z c ≡ true → holds a z ≡ true → met a c ≡ true
met_has a z [] h t = absurd (false≢true h)
met_has a z (x ∷ xs) h t =
    ⊎_elim
    (λ (e : x ≡ z). or_left (holds a x) (met a xs) (ap (holds a) e ∙ t))
    (λ e. or_right (holds a x) (met a xs) (met_has a z xs (grind arith) t))
    (cases_same x z)

-- a clause that is met has a true literal
pub met_some : (a : List ℕ) (c : List ℤ) → met a c ≡ true → (z : ℤ) × (has z c ≡ true) × (holds a z ≡ true)
met_some a [] m = absurd (false≢true m)
met_some a (x ∷ xs) m =
    ⊎_elim
    (λ (e : holds a x ≡ true). (x, has_first x xs, e))
    (λ (e : met a xs ≡ true). let r = met_some a xs e in let h = r.1 in (r.0, or_right _ _ h, r.2))
    (or_cases (holds a x) (met a xs) m)

-- a clause with the literals of another and perhaps more is met with it
pub met_more : (a : List ℕ) (c d : List ℤ) → ((z : ℤ) → has z d ≡ true → has z c ≡ true) → met a d ≡ true → met a c ≡ true
met_more a c d sub m = let r = met_some a d m in met_has a r.0 c (sub r.0 r.1) r.2

-- ── A literal made true ──

-- the bytes stay as many
pub made_length : (z : ℤ) (a : List ℕ) → length (made_true z a) ≡ length a
made_length z a = length-set a (nat_abs z - 1) (wanted z)

-- the bits stay bits
pub bits_set : (a : List ℕ) (i b : ℕ) → b ≤ 1 → all_bits a ≡ true → all_bits (set a i b) ≡ true
bits_set [] i b l h = refl
bits_set (x ∷ xs) zero b l h = grind (arith, nat_tests)
bits_set (x ∷ xs) (suc i) b l h = let ih = bits_set xs i b l (grind arith) in grind arith

-- an assignment stays one
pub made_assignment : (n : ℕ) (z : ℤ) (a : List ℕ) → assignment n a ≡ true → assignment n (made_true z a) ≡ true
made_assignment n z a s =
    and_from (eqb (length (made_true z a)) n) (all_bits (made_true z a)) (eq-eqb _ _ (made_length z a ∙ length_of n a s)) (bits_set a (nat_abs z - 1) (wanted z) (wanted_bit z) (bits_of n a s))

-- the literal is then true
pub made_holds : (z : ℤ) (a : List ℕ) → 1 ≤ nat_abs z → nat_abs z ≤ length a → holds (made_true z a) z ≡ true
made_holds z a p q =
    let len = made_length z a in
    holds_at (made_true z a) z (omega arith) (get_or-set_same a (nat_abs z - 1) (wanted z) 0 (omega arith))

-- the byte of another variable stays
pub made_byte : (z : ℤ) (a : List ℕ) (v : ℕ) → 1 ≤ nat_abs z → 1 ≤ v → (v ≡ nat_abs z → ⊥) → get_or (made_true z a) (v - 1) 0 ≡ get_or a (v - 1) 0
made_byte z a v p q d = get_or-set_other a (nat_abs z - 1) (v - 1) (wanted z) 0 (λ e. d (omega arith))
