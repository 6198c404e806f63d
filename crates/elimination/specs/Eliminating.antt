-- Rule E as a whole.
use Rattle.std.specs.Prelude.{ℕ, List, ℤ, Option}
use Rattle.words.specs.declared.fault.SessionFault.{SessionFault}
use Rattle.words.specs.declared.fault.SessionFault.TheVariants.{Stack, MarksDirty}
use Rattle.words.specs.declared.line.Kind.TheVariants.{Eliminate}
use Rattle.words.specs.declared.line.Line.{Line}
use Rattle.words.specs.Checks.{check, ◌then◌, inside}
use Rattle.words.specs.Standing.{Entry}
use Rattle.rules.specs.Restoring.{Saved, Room, save_fault}
use Rattle.rules.specs.Lines.{eliminate_fault, eliminated}
use Rattle.marking.specs.Marking.{clean_marks}

-- an E line, by the field that it uses
abbrev pub e_line : ℤ → Line
e_line z = record { kind = Eliminate; clause = 0; pivot = z; first = 0; second = 0 }

-- why an E line on the variable v is refused: a pair is not covered, or its clauses do not fit on the reconstruction stack
abbrev pub eliminate_refused : Room → List Entry → List Saved → ℤ → Option SessionFault
eliminate_refused room s saves v = eliminate_fault s (e_line v) then inside Stack (save_fault room saves (eliminated v s))

-- why it is refused with these marks: they are not clean, or the line itself is refused
abbrev pub elimination_fault : List ℕ → Room → List Entry → List Saved → ℤ → Option SessionFault
elimination_fault marks room s saves v = check (clean_marks marks) MarksDirty then eliminate_refused room s saves v
