-- Standing clauses by rising number, one more and one less: their order, their count and their literals.
use Rattle.std.proofs.Common.{◌≡◌, ℕ, zero, suc, ◌*◌, ◌<◌, ◌≤◌, true, false, List, [], ◌∷◌, length, refl, mul-suc, arith}
use Rattle.std.specs.List.{remove}
use Rattle.std.proofs.lemmas.Bool.Decides.{nat_tests}
use Rattle.words.specs.Clauses.{canonical}
use Rattle.words.specs.Literals.{number_ok}
use Rattle.words.specs.Standing.{Entry, ordered, stands, literals, inserted}

-- every clause has at most w literals
pub literals_bound : (v w m : ℕ) (es : List Entry) → ordered v w m es ≡ true → literals es ≤ w * length es
literals_bound v w m [] o = omega arith
literals_bound v w m (e ∷ es) o =
    let ih = literals_bound v w e.number es (grind (arith, nat_tests)) in
    let l : length e.lits ≤ w = grind (arith, nat_tests) in
    omega (arith, mul-suc w (length es))

-- one clause more keeps the order
pub ordered_inserted : (v w m : ℕ) (x : Entry) (es : List Entry) → ordered v w m es ≡ true → m < x.number → number_ok x.number ≡ true → canonical v w x.lits ≡ true →
    stands x.number es ≡ false → ordered v w m (inserted x es) ≡ true
ordered_inserted v w m x [] o h k c s = grind (arith, nat_tests)
ordered_inserted v w m x (e ∷ es) o h k c s = let ih = ordered_inserted v w e.number x es in grind (arith, nat_tests, ih)

-- an order above k is one above any lower number
pub ordered_lower : (v w m k : ℕ) (es : List Entry) → k ≤ m → ordered v w m es ≡ true → ordered v w k es ≡ true
ordered_lower v w m k [] h o = refl
ordered_lower v w m k (e ∷ es) h o = grind (arith, nat_tests)

-- one clause less keeps the order
pub ordered_remove : (v w m i : ℕ) (es : List Entry) → ordered v w m es ≡ true → ordered v w m (remove es i) ≡ true
ordered_remove v w m zero [] o = refl
ordered_remove v w m (suc i) [] o = refl
ordered_remove v w m zero (e ∷ es) o =
    let t : m < e.number = grind (arith, nat_tests) in
    let q : ordered v w e.number es ≡ true = grind (arith, nat_tests) in
    ordered_lower v w e.number m es (omega arith) q
ordered_remove v w m (suc i) (e ∷ es) o =
    let ih = ordered_remove v w e.number i es in
    grind (arith, nat_tests, ih)
