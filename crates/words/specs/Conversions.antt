-- Numbers that become words of the subject where they are in range.
use Rattle.std.specs.Prelude.{◌≡◌, ℕ, Bool, false, Result, MatchResult}
use Rattle.words.specs.declared.line.Field.{Field}
use Rattle.words.specs.declared.line.Field.TheVariants as field

-- what a checked conversion of a number gives: the word of that number where it is in range, else an error
abbrev pub Converts : {W N E : Type 0} → (W → N) → (N → Bool) → N → Result W E → Type 0
Converts number_of in_range n r = MatchResult r (λ w. number_of w ≡ n) (λ _. in_range n ≡ false)

-- the place of a field in its line, from 1
abbrev pub field_number : Field → ℕ
field_number field.Kind = 1
field_number field.Clause = 2
field_number field.Pivot = 3
field_number field.First = 4
field_number field.Second = 5
