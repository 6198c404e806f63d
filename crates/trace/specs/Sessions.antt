-- What the code has reached, and how it ended.
use Rattle.std.specs.Prelude.{ℕ, ◌-◌, Bool, cond, List, [], ◌∷◌, length, take, drop, Result}
use Rattle.std.specs.List.{enumerate_from}
use Rattle.std.specs.Str.{bytes_eq}
use Rattle.words.specs.declared.fault.LocatedFault.{LocatedFault}
use Rattle.words.specs.Checks.{fault_of}
use Rattle.words.specs.Standing.{Entry}
use Rattle.rules.specs.Restoring.{Saved}
use Rattle.session.specs.declared.Checking.{Checking}
use Rattle.session.specs.Meanings.{given_number, accepted_count}
use Rattle.textlines.specs.Lines.{TextLine, text_lines}
use Rattle.trace.specs.declared.numbered.NumberedLines.{NumberedLines}
use Rattle.trace.specs.Traces.{Progress, TraceOutcome}

-- a checking session, what stands and what was saved, together
abbrev pub progress : Checking → List Entry → List Saved → Progress
progress s es saves = record { given = given_number s; accepted = accepted_count s; entries = es; saves = saves }

-- an answer and what was reached, as an outcome
abbrev pub told : Result Unit LocatedFault → Progress → TraceOutcome
told r p = record { fault = fault_of r; reached = p }

-- whether a line feed ends a piece of a text, and the piece, which goes behind its first line feed or else to the end, as a line
abbrev pub fed : List ℕ → Bool
fed bs = bytes_eq (drop (length bs - 1) bs) (10 ∷ [])

abbrev pub line_of : List ℕ → TextLine
line_of bs = record { bytes = cond (fed bs) (take (length bs - 1) bs) bs; ended = fed bs }

-- the lines to come, each with its number
abbrev pub lines_of : NumberedLines → List (ℕ × TextLine)
lines_of x = enumerate_from x.number (text_lines x.rest.now)
