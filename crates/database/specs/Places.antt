-- Places in the standing clauses, which lie by rising number.
use Rattle.std.specs.Prelude.{ℕ, suc, cond, List, [], ◌∷◌, map, ℤ, None, Option, Ok, Err, Result, ◌==◌, nat_lt, slice_get, remove}
use Rattle.std.specs.Option.{option_map}
use Rattle.words.specs.Standing.{Entry}

-- the numbers of clauses
abbrev pub numbers : List Entry → List ℕ
numbers es = map (λ e. e.number) es

-- the place of the first clause with a number above k, behind all where there is none
abbrev pub place_above : ℕ → List Entry → ℕ
place_above k [] = 0
place_above k (e ∷ es) = cond (nat_lt k e.number) 0 (suc (place_above k es))

-- a place, counted from one clause further in front
abbrev pub later : Result ℕ ℕ → Result ℕ ℕ
later (Ok i) = Ok (suc i)
later (Err i) = Err (suc i)

-- the place of the clause under the number k where it stands, or else the one where it would go
abbrev pub place_of : ℕ → List Entry → Result ℕ ℕ
place_of k [] = Err 0
place_of k (e ∷ es) = cond (nat_lt k e.number) (Err 0) (cond (e.number == k) (Ok 0) (later (place_of k es)))

-- the literals of the clause that a search found, if it did
abbrev pub lits_found : Result ℕ ℕ → List Entry → Option (List ℤ)
lits_found (Ok i) es = option_map (λ e. e.lits) (slice_get es i)
lits_found (Err i) es = None

-- the clauses without the one that it found
abbrev pub rest_of : Result ℕ ℕ → List Entry → List Entry
rest_of (Ok i) es = remove es i
rest_of (Err i) es = es
