-- What fits onto a reconstruction stack: clauses that fit together fit one after another.
use Rattle.std.proofs.Common.{◌≡◌, ℕ, ◌+◌, ◌≤◌, List, [], ◌∷◌, ◌++◌, length, None, arith}
use Rattle.std.proofs.lemmas.List.{length-append}
use Rattle.std.proofs.lemmas.Bool.Decides.{nat_tests}
use Rattle.rules.specs.Restoring.{Saved, Room, saved_literals, save_fault}
use Rattle.reconstruction.specs.Saves.{fit_fault}

-- what fits, by its counts
pub fit_parts : (room : Room) (ss : List Saved) (n m : ℕ) → fit_fault room ss n m ≡ None → (length ss + n ≤ room.entries) × (saved_literals ss + m ≤ room.literals)
fit_parts room ss n m e = (grind (arith, nat_tests), grind (arith, nat_tests))

-- and back
pub parts_fit : (room : Room) (ss : List Saved) (n m : ℕ) → length ss + n ≤ room.entries → saved_literals ss + m ≤ room.literals → fit_fault room ss n m ≡ None
parts_fit room ss n m p q = grind (arith, nat_tests)

-- the literals of two lists of saved clauses
pub saved_literals_append : (ss ts : List Saved) → saved_literals (ss ++ ts) ≡ saved_literals ss + saved_literals ts
saved_literals_append [] ts = omega arith
saved_literals_append (s ∷ ss) ts = let ih = saved_literals_append ss ts in omega arith

-- where several clauses fit, the first fits
pub first_fits : (room : Room) (ss : List Saved) (x : Saved) (new : List Saved) → save_fault room ss (x ∷ new) ≡ None → save_fault room ss (x ∷ []) ≡ None
first_fits room ss x new e =
    let p = fit_parts room ss (length (x ∷ new)) (saved_literals (x ∷ new)) e in
    parts_fit room ss 1 (length x.lits + 0) (omega (arith, p.0)) (omega (arith, p.1))

-- and once it is saved, the others fit
pub rest_fits : (room : Room) (ss : List Saved) (x : Saved) (new : List Saved) → save_fault room ss (x ∷ new) ≡ None → save_fault room (ss ++ x ∷ []) new ≡ None
rest_fits room ss x new e =
    let p = fit_parts room ss (length (x ∷ new)) (saved_literals (x ∷ new)) e in
    let n = length-append ss (x ∷ []) in
    let m = saved_literals_append ss (x ∷ []) in
    parts_fit room (ss ++ x ∷ []) (length new) (saved_literals new) (omega (arith, p.0)) (omega (arith, p.1))
