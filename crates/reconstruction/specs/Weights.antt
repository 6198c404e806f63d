-- What the entries of the two stacks weigh.
use Rattle.std.specs.Prelude.{ℕ}
use Rattle.reconstruction.specs.declared.saved.SavedEntry.{SavedEntry}
use Rattle.reconstruction.specs.declared.saved.SavedLiteral.{SavedLiteral}

-- a saved clause weighs as much as its literals together
abbrev pub entry_weight : SavedEntry → ℕ
entry_weight e = e.count

-- a literal weighs 1
abbrev pub literal_weight : SavedLiteral → ℕ
literal_weight l = 1
