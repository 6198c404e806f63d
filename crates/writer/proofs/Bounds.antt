-- How long the texts are at most.
use Rattle.std.proofs.Common.{◌≡◌, ℕ, suc, ◌*◌, ◌^◌, ◌<◌, ◌≤◌, true, List, [], ◌∷◌, length, ℤ, pos, negsuc, nat_abs, codes, decimal, arith}
use Rattle.std.proofs.lemmas.List.{length-append}
use Rattle.std.proofs.lemmas.Fmt.{length-decimal-le}
use Rattle.std.proofs.lemmas.Bool.Decides.{nat_tests}
use Rattle.std.specs.Fmt.{signed_decimal}
use Rattle.words.specs.declared.limits.Limits.{Limits}
use Rattle.words.specs.Clauses.{rising, canonical}
use Rattle.words.specs.Standing.{Entry, Lawful, ordered}
use Rattle.writer.specs.Text.{literal_text, literals_text, clause_text, clauses_text, header_text}

-- a number
pub decimal_short : (n : ℕ) → n < 2 ^ 64 → length (decimal n) ≤ 20
decimal_short n h = length-decimal-le 20 n (omega arith) (omega arith) h

-- a header
pub header_short : (v n : ℕ) → v < 2 ^ 64 → n < 2 ^ 64 → length (header_text v n) ≤ 48
header_short v n a b =
    let d = decimal_short v a in
    let e = decimal_short n b in
    simp length-append (omega arith)

-- a literal
pub signed_short : (z : ℤ) → nat_abs z ≤ 512 → length (signed_decimal z) ≤ 4
signed_short (pos n) h = omega (arith, length-decimal-le 3 n (omega arith) (omega arith) (omega arith))
signed_short (negsuc n) h = omega (arith, length-decimal-le 3 (suc n) (omega arith) (omega arith) (omega arith))

pub literal_short : (z : ℤ) → nat_abs z ≤ 512 → length (literal_text z) ≤ 5
literal_short z h = let e = signed_short z h in simp length-append (omega arith)

-- the literals of a clause
pub literals_short : (n m : ℕ) (zs : List ℤ) → n ≤ 512 → rising n m zs ≡ true → length (literals_text zs) ≤ 5 * length zs
literals_short n m [] h r = omega arith
literals_short n m (z ∷ zs) h r =
    let r1 : rising n (nat_abs z) zs ≡ true = grind (arith, nat_tests) in
    let a : nat_abs z ≤ n = grind (arith, nat_tests) in
    let ih = literals_short n (nat_abs z) zs h r1 in
    let b = literal_short z (omega arith) in
    let c = length-append (literal_text z) (literals_text zs) in
    omega arith

-- a clause
pub clause_short : (n w : ℕ) (zs : List ℤ) → n ≤ 512 → w ≤ 64 → canonical n w zs ≡ true → length (clause_text zs) ≤ 322
clause_short n w zs h k c =
    let r : rising n 0 zs ≡ true = grind (arith, nat_tests) in
    let l : length zs ≤ w = grind (arith, nat_tests) in
    let a = literals_short n 0 zs h r in
    let b = length-append (literals_text zs) (codes "0\n") in
    omega arith

-- the clauses
pub clauses_short : (n w k : ℕ) (es : List Entry) → n ≤ 512 → w ≤ 64 → ordered n w k es ≡ true → length (clauses_text es) ≤ 322 * length es
clauses_short n w k [] h i o = omega arith
clauses_short n w k (e ∷ es) h i o =
    let o1 : ordered n w e.number es ≡ true = grind (arith, nat_tests) in
    let c : canonical n w e.lits ≡ true = grind (arith, nat_tests) in
    let ih = clauses_short n w e.number es h i o1 in
    let a = clause_short n w e.lits h i c in
    let b = length-append (clause_text e.lits) (clauses_text es) in
    omega arith

-- the clauses of a database
pub lawful_short : (l : Limits) (s : List Entry) → Lawful l s → length (clauses_text s) ≤ 322 * length s
lawful_short l s lawful =
    let a : l.variables ≤ 512 = grind (arith, nat_tests, lawful.variables_fit) in
    let b : l.width ≤ 64 = grind (arith, nat_tests, lawful.width_fits) in
    clauses_short l.variables l.width 0 s a b lawful.in_order
