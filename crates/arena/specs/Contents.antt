-- What the two memories of an arena mean, by how much of each is in use.
use Rattle.std.specs.Prelude.{ℕ, min, List, length, take, ℤ}
use Rattle.words.specs.Standing.{Entry}
use Rattle.words.specs.declared.limits.Limits.{Limits}
use Rattle.arena.specs.Layout.{entries}
use Rattle.arena.specs.declared.memory.Memory.{Memory}
use Rattle.arena.specs.declared.records.Record.{Record}

-- the records in use
abbrev pub live_records : Memory → List Record
live_records m = take m.count m.records.now

-- the literals in use
abbrev pub live_literals : Memory → List ℤ
live_literals m = take m.used m.literals.now

-- the clauses
abbrev pub contents : Memory → List Entry
contents m = entries (live_records m) (live_literals m)

-- the limits over memories of so many records and literals: these are counted up to 1,024 and 16,384
abbrev pub limits_over : ℕ → ℕ → Limits
limits_over rs ls = record { variables = 512; width = 64; clauses = min rs 1024; literals = min ls 16384 }

-- the limits
abbrev pub limits_of : Memory → Limits
limits_of m = limits_over (length m.records.now) (length m.literals.now)
