-- A line as it is sent: the marks, the fields, the rule and the space.
use Rattle.std.specs.Prelude.{◌≡◌, ℕ, Bool, true, false, List, Some, None, Ok, Err, Option, Result}
use Rattle.words.specs.declared.limits.Limits.{Limits}
use Rattle.words.specs.declared.line.Line.{Line}
use Rattle.words.specs.declared.fault.SessionFault.{SessionFault}
use Rattle.words.specs.declared.fault.SessionFault.TheVariants.{FieldWrong, MarksDirty}
use Rattle.words.specs.declared.line.Field.{Field}
use Rattle.words.specs.Checks.{check, ◌then◌}
use Rattle.words.specs.Standing.{Entry}
use Rattle.rules.specs.Restoring.{Saved, Room}
use Rattle.rules.specs.Lines.{field_fault, line_fault}
use Rattle.lines.specs.declared.steps.Step.{Step}
use Rattle.lines.specs.declared.steps.Step.TheVariants.{Resolve, Subsumed, Blocked, Eliminate}
use Rattle.marking.specs.Marking.{clean_marks}
use Rattle.elimination.specs.Eliminating.{e_line}
use Rattle.lines.specs.Judging.{resolution_line, s_line, b_line}

-- why a line is refused with these marks: they are not clean, or the line itself is refused
abbrev pub submit_fault : List ℕ → Limits → Room → ℕ → List Entry → List Saved → Line → Option SessionFault
submit_fault marks l room given s saved line = check (clean_marks marks) MarksDirty then line_fault l room given s saved line

-- the line of a step
abbrev pub line_of : Step → Line
line_of (Resolve r) = resolution_line r
line_of (Subsumed k a) = s_line k.value a.value
line_of (Blocked k z) = b_line k.value z.value
line_of (Eliminate z) = e_line z.value

-- a field as the word of its number, or the fault that names the field
abbrev pub Reads : {W N : Type 0} → (W → N) → (N → Bool) → Field → N → Result W SessionFault → Type 0
Reads number_of in_range f n (Ok w) = (in_range n ≡ true) × (number_of w ≡ n)
Reads number_of in_range f n (Err e) = (in_range n ≡ false) × (e ≡ FieldWrong f)

-- a field that is as it should be, or the fault that names it
abbrev pub Demands : Field → Bool → Result (Unit {0}) SessionFault → Type 0
Demands f fits (Ok u) = fits ≡ true
Demands f fits (Err e) = (fits ≡ false) × (e ≡ FieldWrong f)

-- a line's fields as a step, or the first that is wrong
abbrev pub Typed : Line → Result Step SessionFault → Type 0
Typed line (Ok step) = (field_fault line ≡ None) × (line_of step ≡ line)
Typed line (Err f) = field_fault line ≡ Some f
