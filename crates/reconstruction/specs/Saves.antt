-- Saved clauses as they lie in two stacks: an entry for each, and the literals of all of them one after another.
use Rattle.std.specs.Prelude.{ℕ, ◌+◌, List, [], ◌∷◌, map, length, take, drop, ℤ, Option, nat_le}
use Rattle.words.specs.declared.fault.StackFault.{StackFault}
use Rattle.words.specs.declared.fault.StackFault.TheVariants.{EntriesFull, LiteralsFull}
use Rattle.words.specs.Checks.{check, ◌then◌}
use Rattle.rules.specs.Restoring.{Saved, Room, saved_literals}
use Rattle.reconstruction.specs.declared.saved.SavedEntry.{SavedEntry}
use Rattle.reconstruction.specs.declared.saved.SavedLiteral.{SavedLiteral}

-- the numbers of saved literals
abbrev pub numbers : List SavedLiteral → List ℤ
numbers ls = map (λ l. l.value) ls

-- the clauses that entries save: each has the next of the literals, as many as it counts
abbrev pub saved_from : List SavedEntry → List ℤ → List Saved
saved_from [] zs = []
saved_from (e ∷ es) zs = record { pivot = e.pivot; lits = take e.count zs } ∷ saved_from es (drop e.count zs)

-- why so many entries and literals more do not fit: the entries do not, the literals do not
abbrev pub fit_fault : Room → List Saved → ℕ → ℕ → Option StackFault
fit_fault room saved more-entries more-literals =
    check (nat_le (length saved + more-entries) room.entries) EntriesFull then
    check (nat_le (saved_literals saved + more-literals) room.literals) LiteralsFull
