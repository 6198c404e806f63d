-- Lines and words of a text, as bytes.
use Rattle.std.specs.Prelude.{ℕ, ◌+◌, ◌-◌, cond, List, [], ◌∷◌, ◌++◌, length, take, ◌==◌, nat_lt}
use Rattle.textlines.specs.Lines.{blank}

-- the line of the byte behind b, where b is in line l: a line feed is a byte of the line that it ends
abbrev pub line_behind : ℕ → ℕ → ℕ
line_behind b l = cond (b == 10) (l + 1) l

-- the line of the byte behind several, the first of them in line l
abbrev pub line_past : List ℕ → ℕ → ℕ
line_past [] l = l
line_past (b ∷ bs) l = line_past bs (line_behind b l)

-- the last line of a text that has a byte, or 1: the line of the last byte
abbrev pub last_line : List ℕ → ℕ
last_line bs = line_past (take (length bs - 1) bs) 1

-- bytes of a text that lie together, with the line of the first
pub record Part : Type 0 where
  pub line : ℕ
  pub bytes : List ℕ

-- the line of the place in a text where this part is left: that of its first byte, and at the end the last line
abbrev pub line_before : List ℕ → Part → ℕ
line_before bs p = cond (nat_lt 0 (length p.bytes)) p.line (last_line bs)

-- a word before others, unless it is empty
abbrev pub word_before : ℕ → List ℕ → List Part → List Part
word_before l [] ws = ws
word_before l (b ∷ bs) ws = record { line = l; bytes = b ∷ bs } ∷ ws

-- the words of a text that begins in line l, where w is the part read so far of the first: longest runs of bytes that are not blank
abbrev pub words_on : ℕ → List ℕ → List ℕ → List Part
words_on l w [] = word_before l w []
words_on l w (b ∷ bs) = cond (blank b) (word_before l w (words_on (line_behind b l) [] bs)) (words_on l (w ++ b ∷ []) bs)
