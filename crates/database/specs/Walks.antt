-- Walks over a database by rising number.
use Rattle.std.specs.Prelude.{ℕ, cond, List, [], ◌∷◌, nat_lt}
use Rattle.words.specs.Meanings.{lits_of}
use Rattle.words.specs.Standing.{Entry}
use Rattle.database.specs.declared.walking.Numbered.{Numbered}

-- a numbered clause, as an entry
abbrev pub entry_of : Numbered → Entry
entry_of x = record { number = x.number.value; lits = lits_of x.clause }

-- the entries that a walk has still to come to, after the number k: in a list by rising number, those above k
abbrev pub above : ℕ → List Entry → List Entry
above k [] = []
above k (e ∷ es) = cond (nat_lt k e.number) (e ∷ es) (above k es)
