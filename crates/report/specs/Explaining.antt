-- What is told of a fault: a row for programs, and an explanation for people.
use Rattle.std.specs.Prelude.{ℕ, cond, List, [], ◌++◌, length, take, Some, None, codes, decimal, Option, ◌==◌, nat_le}
use Rattle.words.specs.declared.fault.DatabaseFault.{DatabaseFault}
use Rattle.words.specs.declared.fault.DatabaseFault.TheVariants as database
use Rattle.words.specs.declared.fault.SessionFault.{SessionFault}
use Rattle.words.specs.declared.fault.SessionFault.TheVariants as session
use Rattle.words.specs.declared.fault.FileFault.{FileFault}
use Rattle.words.specs.declared.fault.FileFault.TheVariants as file
use Rattle.words.specs.declared.fault.LocatedFault.{LocatedFault}
use Rattle.words.specs.declared.line.Field.{Field}
use Rattle.words.specs.Refusals.{located_refusal}
use Rattle.textlines.specs.Lines.{faulty_line}
use Rattle.words.specs.Naming.{file_name, layer_name, field_name}
use Rattle.words.specs.Conversions.{field_number}
use Rattle.words.specs.Sentences.{file_meaning}

-- a row: what was read, the line or 0, and the number
abbrev pub row : List ℕ → ℕ → ℕ → List ℕ
row name line number = name ++ (codes " " ++ (decimal line ++ (codes " " ++ decimal number)))

-- the row of a refusal: the file, the line or 0, and the number
abbrev pub refusal_row : LocatedFault → List ℕ
refusal_row f = row (file_name f.file) f.line (located_refusal f).number

-- a clause number
abbrev pub clause_place : ℕ → List ℕ
clause_place k = codes ": clause " ++ decimal k

-- two clause numbers
abbrev pub clauses_place : ℕ → ℕ → List ℕ
clauses_place a b = codes ": clauses " ++ (decimal a ++ (codes " and " ++ decimal b))

-- a field of a line
abbrev pub field_place : Field → List ℕ
field_place field = codes ": field " ++ (decimal (field_number field) ++ (codes " (" ++ (field_name field ++ codes ")")))

-- a position in a list of literals
abbrev pub list_place : ℕ → List ℕ
list_place i = codes ": position " ++ (decimal i ++ codes " of the list")

-- a position in an assignment
abbrev pub byte_place : ℕ → List ℕ
byte_place i = codes ": position " ++ decimal i

-- the length of an assignment
abbrev pub length_place : ℕ → List ℕ
length_place n = codes ": length " ++ decimal n

-- the place of a fault of a clause database, where it has one
abbrev pub database_place : DatabaseFault → List ℕ
database_place (database.Absent k) = clause_place k
database_place database.NumberTaken = []
database_place database.VariableBeyond = []
database_place database.TooWide = []
database_place database.ClausesFull = []
database_place database.LiteralsFull = []

-- the place of a fault of a session, where it has one
abbrev pub session_place : SessionFault → List ℕ
session_place session.DatabaseNotEmpty = []
session_place session.StackNotEmpty = []
session_place session.TooManyVariables = []
session_place session.LoadedFull = []
session_place (session.LiteralBeyond i) = list_place i
session_place (session.TooManyLiterals i) = list_place i
session_place session.MarksDirty = []
session_place (session.FieldWrong field) = field_place field
session_place (session.NumberNotAbove k) = clause_place k
session_place (session.Missing k) = clause_place k
session_place (session.Lacking k) = clause_place k
session_place (session.Tautology a b) = clauses_place a b
session_place (session.ResolventTooWide a b) = clauses_place a b
session_place (session.NotSubsumed c a) = clauses_place c a
session_place (session.NotBlocked k) = clause_place k
session_place (session.NotCovered p n) = clauses_place p n
session_place (session.AssignmentLength n) = length_place n
session_place (session.AssignmentByte i) = byte_place i
session_place (session.Unmet k) = clause_place k
session_place session.TextTooLong = []
session_place session.BufferShort = []
session_place (session.Database f) = database_place f
session_place (session.Stack f) = []

-- the place of a fault inside its line; a fault of the text itself has no more than the line
abbrev pub inner_place : FileFault → List ℕ
inner_place file.TooManyBytes = []
inner_place file.HeaderMalformed = []
inner_place file.HeaderBeyond = []
inner_place file.NotANumber = []
inner_place file.ClauseCount = []
inner_place file.TooManyWords = []
inner_place file.NamesWrong = []
inner_place file.NotFiveValues = []
inner_place file.ValueMalformed = []
inner_place (file.Session f) = session_place f

-- the file and the line of a fault, or the file alone
abbrev pub heading : LocatedFault → List ℕ
heading f = cond (f.line == 0) (file_name f.file ++ codes ":") (file_name f.file ++ (codes ", line " ++ (decimal f.line ++ codes ":")))

-- a line, or its front where it has more than this many bytes
abbrev pub front : ℕ → List ℕ → List ℕ
front most bs = cond (nat_le (length bs) most) bs (take most bs ++ codes "...")

-- the faulty line behind its heading, where there is one, up to 200 bytes of it
abbrev pub quoted : Option (List ℕ) → List ℕ
quoted None = []
quoted (Some bs) = codes " " ++ front 200 bs

-- the refusal in a sentence: its number, its layer, what it means, its place
abbrev pub sentence : LocatedFault → List ℕ
sentence f =
    codes "refusal " ++ (decimal (located_refusal f).number ++ (codes " (" ++ (layer_name (located_refusal f).layer ++ (codes "): " ++ (file_meaning f.cause ++ inner_place f.cause)))))

-- the explanation: a line with the faulty line, a line with the sentence
abbrev pub explanation : List ℕ → List ℕ → LocatedFault → List ℕ
explanation formula trace f = heading f ++ quoted (faulty_line formula trace f) ++ codes "\n" ++ sentence f ++ codes "\n"
