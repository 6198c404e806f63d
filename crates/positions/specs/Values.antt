-- Switch positions as text, in bytes: one byte for each variable, blanks between them.
use Rattle.std.specs.Prelude.{◌≡◌, ℕ, true, cond, List, [], ◌∷◌, ◌==◌}
use Rattle.textlines.specs.Lines.{blank}
use Rattle.words.specs.Assignments.{all_bits}

-- the value that a byte stands for: `0` and `1` for themselves, any other for 2, which no switch can have
abbrev pub value_of : ℕ → ℕ
value_of b = cond (b == 48) 0 (cond (b == 49) 1 2)

-- the values of a text in order; blanks are passed over
abbrev pub position_values : List ℕ → List ℕ
position_values [] = []
position_values (b ∷ bs) = cond (blank b) (position_values bs) (value_of b ∷ position_values bs)

-- the byte for a value: the digits `0` and `1`, and `?` (byte 63) for any other
abbrev pub value_byte : ℕ → ℕ
value_byte v = cond (v == 0) 48 (cond (v == 1) 49 63)

-- what stands behind the first value: each later one behind a space, and a line feed at the end
abbrev pub text_behind : List ℕ → List ℕ
text_behind [] = 10 ∷ []
text_behind (v ∷ vs) = 32 ∷ value_byte v ∷ text_behind vs

-- a position as text: its values with single spaces between them, and a line feed at the end
abbrev pub position_text : List ℕ → List ℕ
position_text [] = 10 ∷ []
position_text (v ∷ vs) = value_byte v ∷ text_behind vs

-- a memory with these bytes at its front, as many as it has room for; its bytes behind them stay
abbrev pub fronted : List ℕ → List ℕ → List ℕ
fronted [] old = old
fronted (b ∷ bs) [] = []
fronted (b ∷ bs) (o ∷ old) = b ∷ fronted bs old

-- a position is read back from its text
abbrev pub ReadBack : List ℕ → Type 0
ReadBack vs = all_bits vs ≡ true → position_values (position_text vs) ≡ vs
