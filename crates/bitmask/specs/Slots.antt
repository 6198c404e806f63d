-- The meaning of slots.
use Rattle.std.specs.Prelude.{List, map}
use Rattle.words.specs.Standing.{Entry}
use Rattle.bitmask.specs.declared.slot.Slot.{Slot}
use Rattle.bitmask.specs.Masks.{decoded}

-- the clause of a slot, under its number
abbrev pub entry : Slot → Entry
entry s = record { number = s.number; lits = decoded s.plus s.minus }

-- the clauses of slots
abbrev pub entries : List Slot → List Entry
entries ss = map entry ss
