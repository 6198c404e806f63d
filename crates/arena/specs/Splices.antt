-- A block put into a list or taken out of it.
use Rattle.std.specs.Prelude.{ℕ, ◌+◌, List, ◌++◌, take, drop}

-- the list with a block put in at a place
abbrev pub opened : {X : Type 0} → List X → ℕ → List X → List X
opened xs i ys = take i xs ++ (ys ++ drop i xs)

-- the list without the n elements at a place
abbrev pub closed : {X : Type 0} → List X → ℕ → ℕ → List X
closed xs i n = take i xs ++ drop (i + n) xs
