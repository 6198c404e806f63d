-- What a bitmask database means.
use Rattle.std.specs.Prelude.{List}
use Rattle.words.specs.declared.limits.Limits.{Limits}
use Rattle.words.specs.Standing.{Entry}
use Rattle.bitmask.specs.declared.table.Bitmask.{Bitmask}
use Rattle.bitmask.specs.Slots.{entries}

-- its limits
abbrev pub mask_limits : Limits
mask_limits = record { variables = 64; width = 64; clauses = 256; literals = 16384 }

-- its standing clauses: those of its slots
abbrev pub standing_in : Bitmask → List Entry
standing_in b = entries b.slots.items
