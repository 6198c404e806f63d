-- What a reconstruction stack means.
use Rattle.std.specs.Prelude.{List}
use Rattle.rules.specs.Restoring.{Saved, Room}
use Rattle.reconstruction.specs.declared.saves.ReconstructionStack.{ReconstructionStack}
use Rattle.reconstruction.specs.Stacks.{items, capacity}
use Rattle.reconstruction.specs.Saves.{numbers, saved_from}

-- the saved clauses with their pivots, the first saved first
abbrev pub saved : ReconstructionStack → List Saved
saved s = saved_from (items s.entries) (numbers (items s.literals))

-- the most entries and the most literals that it holds
abbrev pub room_of : ReconstructionStack → Room
room_of s = record { entries = capacity s.entries; literals = capacity s.literals }
