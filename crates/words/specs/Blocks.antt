-- Parts of a list that change places or are written over.
use Rattle.std.specs.Prelude.{ℕ, ◌+◌, Bool, cond, ◌&&◌, List, ◌++◌, length, take, drop, nat_le}
use Rattle.std.proofs.Math.Seq.{paste}
use Rattle.std.specs.List.{between}

-- two blocks that lie side by side, from a to m and from m to e, with their places exchanged
abbrev pub swapped : {X : Type 0} → List X → ℕ → ℕ → ℕ → List X
swapped s a m e = take a s ++ (between m e s ++ (between a m s ++ drop e s))

-- whether a to m and m to e are two blocks of a list
abbrev pub side_by_side : {X : Type 0} → List X → ℕ → ℕ → ℕ → Bool
side_by_side s a m e = nat_le a m && (nat_le m e && nat_le e (length s))

-- the list with the two blocks exchanged, or as it is where there are no such blocks
abbrev pub exchanged : {X : Type 0} → List X → ℕ → ℕ → ℕ → List X
exchanged s a m e = cond (side_by_side s a m e) (swapped s a m e) s

-- the list with the elements of xs written over those from a place on, or as it is where they do not fit
abbrev pub overwritten : {X : Type 0} → List X → ℕ → List X → List X
overwritten s a xs = cond (nat_le (a + length xs) (length s)) (paste s a xs (length xs)) s
