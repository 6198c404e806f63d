-- The lines of a text, as bytes, and the line that a fault names.
use Rattle.std.specs.Prelude.{ℕ, suc, ◌-◌, Bool, true, false, cond, ◌||◌, List, [], ◌∷◌, ◌++◌, Some, None, Option, ◌==◌}
use Rattle.words.specs.declared.fault.File.{File}
use Rattle.words.specs.declared.fault.File.TheVariants.{Formula, Trace, Write}
use Rattle.words.specs.declared.fault.LocatedFault.{LocatedFault}

-- space, tab, carriage return and line feed separate words
abbrev pub blank : ℕ → Bool
blank b = b == 32 || (b == 9 || (b == 13 || b == 10))

-- one line of a text: its bytes without the line feed, and whether a line feed ends it
pub record TextLine : Type 0 where
  pub bytes : List ℕ
  pub ended : Bool

-- what is left at the end of a text: a line without line feed, unless it has no byte
abbrev pub last_of : List ℕ → List TextLine
last_of [] = []
last_of (b ∷ bs) = record { bytes = b ∷ bs; ended = false } ∷ []

-- the lines of a text, where w is the part read so far of the first; a line feed (byte 10) ends a line
abbrev pub lines_on : List ℕ → List ℕ → List TextLine
lines_on w [] = last_of w
lines_on w (b ∷ bs) = cond (b == 10) (record { bytes = w; ended = true } ∷ lines_on [] bs) (lines_on (w ++ b ∷ []) bs)

-- the lines of a text
abbrev pub text_lines : List ℕ → List TextLine
text_lines bs = lines_on [] bs

-- how many bytes stand before the first x, all where there is none
abbrev pub length_to : ℕ → List ℕ → ℕ
length_to x [] = 0
length_to x (b ∷ bs) = cond (b == x) 0 (suc (length_to x bs))

-- where the first line of a text ends: how many bytes stand before the first line feed
abbrev pub first_end : List ℕ → ℕ
first_end bs = length_to 10 bs

-- the bytes of line n, counted from 1, or none; there is no line 0
abbrev pub nth_line : ℕ → List TextLine → Option (List ℕ)
nth_line n [] = None
nth_line n (l ∷ ls) = cond (n == 1) (Some l.bytes) (nth_line (n - 1) ls)

-- line n of the formula or of the trace; the writer names neither
abbrev pub line_in : List ℕ → List ℕ → File → ℕ → Option (List ℕ)
line_in formula trace Formula n = nth_line n (text_lines formula)
line_in formula trace Trace n = nth_line n (text_lines trace)
line_in formula trace Write n = None

-- the line that a fault names, in the two texts
abbrev pub faulty_line : List ℕ → List ℕ → LocatedFault → Option (List ℕ)
faulty_line formula trace f = line_in formula trace f.file f.line
