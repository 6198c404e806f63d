-- The number, the place and the layer of every fault: the one table of refusals.
use Rattle.std.specs.Prelude.{ℕ}
use Rattle.words.specs.declared.refusal.Place.{Place}
use Rattle.words.specs.declared.refusal.Place.TheVariants.{Nowhere, At, Pair}
use Rattle.words.specs.declared.refusal.Layer.{Layer}
use Rattle.words.specs.declared.refusal.Layer.TheVariants as layer
use Rattle.words.specs.declared.refusal.Refusal.{Refusal}
use Rattle.words.specs.declared.fault.DatabaseFault.{DatabaseFault}
use Rattle.words.specs.declared.fault.DatabaseFault.TheVariants as database
use Rattle.words.specs.declared.fault.StackFault.{StackFault}
use Rattle.words.specs.declared.fault.StackFault.TheVariants as stack
use Rattle.words.specs.declared.fault.SessionFault.{SessionFault}
use Rattle.words.specs.declared.fault.SessionFault.TheVariants as session
use Rattle.words.specs.declared.fault.FileFault.{FileFault}
use Rattle.words.specs.declared.fault.FileFault.TheVariants as file
use Rattle.words.specs.declared.fault.LocatedFault.{LocatedFault}
use Rattle.words.specs.Conversions.{field_number}

abbrev pub refusal : ℕ → Place → Layer → Refusal
refusal n p l = record { number = n; place = p; layer = l }

-- of a clause database (the customers' shelf)
abbrev pub database_refusal : DatabaseFault → Refusal
database_refusal (database.Absent k) = refusal 42 (At k) layer.Shelf
database_refusal database.NumberTaken = refusal 60 Nowhere layer.Shelf
database_refusal database.VariableBeyond = refusal 61 Nowhere layer.Shelf
database_refusal database.TooWide = refusal 62 Nowhere layer.Shelf
database_refusal database.ClausesFull = refusal 63 Nowhere layer.Shelf
database_refusal database.LiteralsFull = refusal 64 Nowhere layer.Shelf

-- of the reconstruction stack (the customers' roll)
abbrev pub stack_refusal : StackFault → Refusal
stack_refusal stack.EntriesFull = refusal 65 Nowhere layer.Roll
stack_refusal stack.LiteralsFull = refusal 66 Nowhere layer.Roll

-- of a call of a session
abbrev pub session_refusal : SessionFault → Refusal
session_refusal session.DatabaseNotEmpty = refusal 10 Nowhere layer.Open
session_refusal session.StackNotEmpty = refusal 11 Nowhere layer.Open
session_refusal session.TooManyVariables = refusal 12 Nowhere layer.Open
session_refusal session.LoadedFull = refusal 27 Nowhere layer.Load
session_refusal (session.LiteralBeyond i) = refusal 24 (At i) layer.Load
session_refusal (session.TooManyLiterals i) = refusal 25 (At i) layer.Load
session_refusal session.MarksDirty = refusal 40 Nowhere layer.Submit
session_refusal (session.FieldWrong f) = refusal 33 (At (field_number f)) layer.Submit
session_refusal (session.NumberNotAbove k) = refusal 41 (At k) layer.Rule
session_refusal (session.Missing k) = refusal 42 (At k) layer.Rule
session_refusal (session.Lacking k) = refusal 43 (At k) layer.Rule
session_refusal (session.Tautology a b) = refusal 44 (Pair a b) layer.Rule
session_refusal (session.ResolventTooWide a b) = refusal 45 (Pair a b) layer.Rule
session_refusal (session.NotSubsumed c a) = refusal 46 (Pair c a) layer.Rule
session_refusal (session.NotBlocked k) = refusal 47 (At k) layer.Rule
session_refusal (session.NotCovered p n) = refusal 48 (Pair p n) layer.Rule
session_refusal (session.AssignmentLength n) = refusal 70 (At n) layer.Restore
session_refusal (session.AssignmentByte i) = refusal 71 (At i) layer.Restore
session_refusal (session.Unmet k) = refusal 72 (At k) layer.Restore
session_refusal session.TextTooLong = refusal 81 Nowhere layer.Write
session_refusal session.BufferShort = refusal 80 Nowhere layer.Write
session_refusal (session.Database f) = database_refusal f
session_refusal (session.Stack f) = stack_refusal f

-- of reading a file, where the fault came up at a line
abbrev pub file_refusal : FileFault → ℕ → Refusal
file_refusal file.TooManyBytes line = refusal 20 Nowhere layer.File
file_refusal file.HeaderMalformed line = refusal 21 (At line) layer.Formula
file_refusal file.HeaderBeyond line = refusal 22 (At line) layer.Formula
file_refusal file.NotANumber line = refusal 23 (At line) layer.Formula
file_refusal file.ClauseCount line = refusal 26 (At line) layer.Formula
file_refusal file.TooManyWords line = refusal 28 (At line) layer.Formula
file_refusal file.NamesWrong line = refusal 30 (At line) layer.Trace
file_refusal file.NotFiveValues line = refusal 31 (At line) layer.Trace
file_refusal file.ValueMalformed line = refusal 32 (At line) layer.Trace
file_refusal (file.Session f) line = session_refusal f

abbrev pub located_refusal : LocatedFault → Refusal
located_refusal f = file_refusal f.cause f.line
