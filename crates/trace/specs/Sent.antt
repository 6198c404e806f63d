-- The history that a trace makes: reading it counts as the lines that it submits.
use Rattle.std.specs.Prelude.{ℕ, cond, ◌&&◌, List, [], ◌∷◌, length, drop, None, Ok, Err, Option, nat_le}
use Rattle.words.specs.declared.fault.SessionFault.{SessionFault}
use Rattle.words.specs.declared.limits.Limits.{Limits}
use Rattle.words.specs.declared.line.Line.{Line}
use Rattle.words.specs.Checks.{unless}
use Rattle.rules.specs.Restoring.{Room}
use Rattle.rules.specs.Lines.{line_fault}
use Rattle.rules.specs.Histories.{History, after, submit, standing_by, saved_by, given_by}
use Rattle.reader.specs.Headers.{begins}
use Rattle.textlines.specs.Lines.{TextLine, text_lines}
use Rattle.trace.specs.Traces.{names, proof_line}

-- the answer that a line gets after a history
abbrev pub answer : Limits → Room → History → Line → Option SessionFault
answer l room h line = line_fault l room (given_by h) (standing_by h) (saved_by h) line

-- a history with the lines of a trace: each is submitted, up to the first that is malformed or refused
abbrev pub with_lines : Limits → Room → History → List TextLine → History
with_lines l room h [] = h
with_lines l room h (x ∷ xs) = elim (proof_line x) [
  | Err f ↦ h
  | Ok line ↦ unless (answer l room h line) (with_lines l room (after h (submit line None)) xs) (after h (submit line (answer l room h line)))
]

-- a history with a trace
abbrev pub with_trace : Limits → Room → History → List ℕ → History
with_trace l room h text = cond (nat_le (length text) 65536 && begins names text) (with_lines l room h (text_lines (drop 31 text))) h
