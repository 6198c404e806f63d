-- Clauses as lists of literals. A clause is a set without an opposite pair, so it has at most one literal of each variable.
-- Its canonical form lists the literals by strictly rising variable: equal sets are then equal lists.
use Rattle.std.specs.Prelude.{ℕ, ◌+◌, Bool, true, false, cond, ◌&&◌, ◌||◌, List, [], ◌∷◌, length, ℤ, neg_ℤ, Some, None, Option, nat_le, nat_lt, unsigned_abs}
use Rattle.words.specs.Literals.{same}

-- whether a literal is in a list
abbrev pub has : ℤ → List ℤ → Bool
has z [] = false
has z (x ∷ xs) = same x z || has z xs

-- whether a list holds an opposite pair, a literal and its negation
abbrev pub opposed : List ℤ → Bool
opposed [] = false
opposed (x ∷ xs) = has (neg_ℤ x) xs || opposed xs

-- whether every literal of the first list is in the second
abbrev pub subset : List ℤ → List ℤ → Bool
subset [] ys = true
subset (x ∷ xs) ys = has x ys && subset xs ys

-- whether two lists are the same literal by literal
abbrev pub equal : List ℤ → List ℤ → Bool
equal [] [] = true
equal [] (y ∷ ys) = false
equal (x ∷ xs) [] = false
equal (x ∷ xs) (y ∷ ys) = same x y && equal xs ys

-- whether no variable of a list is beyond n
abbrev pub within : ℕ → List ℤ → Bool
within n [] = true
within n (x ∷ xs) = nat_le (unsigned_abs x) n && within n xs

-- whether the variables of a list rise strictly, from above m and up to n
abbrev pub rising : ℕ → ℕ → List ℤ → Bool
rising n m [] = true
rising n m (x ∷ xs) = nat_lt m (unsigned_abs x) && (nat_le (unsigned_abs x) n && rising n (unsigned_abs x) xs)

-- whether a list is a clause in canonical form, of variables up to n and at most w literals
abbrev pub canonical : ℕ → ℕ → List ℤ → Bool
canonical n w xs = nat_le (length xs) w && rising n 0 xs

-- a literal put into a list by its variable; one that is there already stays once
abbrev pub insert : ℤ → List ℤ → List ℤ
insert z [] = z ∷ []
insert z (x ∷ xs) = cond (nat_lt (unsigned_abs z) (unsigned_abs x)) (z ∷ (x ∷ xs)) (cond (same x z) (x ∷ xs) (x ∷ insert z xs))

-- the set of the literals of a list, put one after another into those gathered before
abbrev pub gathered : List ℤ → List ℤ → List ℤ
gathered before [] = before
gathered before (x ∷ xs) = gathered (insert x before) xs

-- the position, counted on from i, at which a list first holds more than w different literals with those gathered before
abbrev pub too_many_at : ℕ → ℕ → List ℤ → List ℤ → Option ℕ
too_many_at w i before [] = None
too_many_at w i before (x ∷ xs) =
    cond (nat_lt w (length (insert x before))) (Some (i + 1)) (too_many_at w (i + 1) (insert x before) xs)

-- a list without a literal
abbrev pub lacking : ℤ → List ℤ → List ℤ
lacking z [] = []
lacking z (x ∷ xs) = cond (same x z) (lacking z xs) (x ∷ lacking z xs)

-- the union of two lists
abbrev pub joined : List ℤ → List ℤ → List ℤ
joined [] ys = ys
joined (x ∷ xs) ys = insert x (joined xs ys)

-- the resolvent of a and b on l: a without l, joined with b without -l
abbrev pub resolvent : ℤ → List ℤ → List ℤ → List ℤ
resolvent l a b = joined (lacking l a) (lacking (neg_ℤ l) b)
