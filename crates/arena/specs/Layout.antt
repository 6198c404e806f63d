-- How records and literals lie in the two memories, and what they mean.
use Rattle.std.specs.Prelude.{ℕ, ◌+◌, Bool, true, ◌&&◌, List, [], ◌∷◌, take, drop, ℤ, ◌==◌}
use Rattle.words.specs.Standing.{Entry}
use Rattle.arena.specs.declared.records.Record.{Record}

-- the clauses of records whose literals lie one after another, in the records' order
abbrev pub entries : List Record → List ℤ → List Entry
entries [] ls = []
entries (r ∷ rs) ls = record { number = r.number; lits = take r.len ls } ∷ entries rs (drop r.len ls)

-- how many literals the records have in all
abbrev pub total : List Record → ℕ
total [] = 0
total (r ∷ rs) = r.len + total rs

-- whether the literals begin where the records say: one clause after another, the first at `at`
abbrev pub packed : ℕ → List Record → Bool
packed at [] = true
packed at (r ∷ rs) = r.start == at && packed (at + r.len) rs

-- the records with such beginnings written in
abbrev pub repacked : ℕ → List Record → List Record
repacked at [] = []
repacked at (r ∷ rs) = record { number = r.number; start = at; len = r.len } ∷ repacked (at + r.len) rs
