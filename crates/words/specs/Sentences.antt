-- What each fault means, in plain words.
use Rattle.std.specs.Prelude.{ℕ, List, codes}
use Rattle.words.specs.declared.fault.DatabaseFault.{DatabaseFault}
use Rattle.words.specs.declared.fault.DatabaseFault.TheVariants as database
use Rattle.words.specs.declared.fault.StackFault.{StackFault}
use Rattle.words.specs.declared.fault.StackFault.TheVariants as stack
use Rattle.words.specs.declared.fault.SessionFault.{SessionFault}
use Rattle.words.specs.declared.fault.SessionFault.TheVariants as session
use Rattle.words.specs.declared.fault.FileFault.{FileFault}
use Rattle.words.specs.declared.fault.FileFault.TheVariants as file

-- of a clause database
abbrev pub database_meaning : DatabaseFault → List ℕ
database_meaning (database.Absent k) = codes "the clause that the database is to remove does not stand"
database_meaning database.NumberTaken = codes "a clause stands under this number already"
database_meaning database.VariableBeyond = codes "the clause has a variable beyond those that the database takes"
database_meaning database.TooWide = codes "the clause has more literals than the database takes in one clause"
database_meaning database.ClausesFull = codes "the database holds as many clauses as it can"
database_meaning database.LiteralsFull = codes "the database has no space for so many literals"

-- of the reconstruction stack
abbrev pub stack_meaning : StackFault → List ℕ
stack_meaning stack.EntriesFull = codes "the reconstruction stack has no space for so many clauses"
stack_meaning stack.LiteralsFull = codes "the reconstruction stack has no space for so many literals"

-- of a call of a session
abbrev pub session_meaning : SessionFault → List ℕ
session_meaning session.DatabaseNotEmpty = codes "the clause database that was handed in is not empty"
session_meaning session.StackNotEmpty = codes "the reconstruction stack that was handed in is not empty"
session_meaning session.TooManyVariables = codes "the formula has more than 512 variables"
session_meaning session.LoadedFull = codes "1024 lists are loaded already"
session_meaning (session.LiteralBeyond i) = codes "a literal is 0 or beyond the variables of the formula"
session_meaning (session.TooManyLiterals i) = codes "the list has more than 64 different literals"
session_meaning session.MarksDirty = codes "the literal marks are not 1024 zero bytes"
session_meaning (session.FieldWrong i) = codes "a field is 0 although the kind uses it, is filled although the kind does not use it, or is out of range"
session_meaning (session.NumberNotAbove k) = codes "the number for the resolvent is not above every number given so far"
session_meaning (session.Missing k) = codes "a clause that the line names does not stand"
session_meaning (session.Lacking k) = codes "a clause lacks the pivot, or the negation of the pivot where the rule needs that"
session_meaning (session.Tautology a b) = codes "the resolvent holds an opposite pair"
session_meaning (session.ResolventTooWide a b) = codes "the resolvent has more than 64 literals"
session_meaning (session.NotSubsumed c a) = codes "the clause is not subsumed by the other, which is the same clause or has a literal that it lacks"
session_meaning (session.NotBlocked k) = codes "the resolvent with a standing clause that holds the negation of the pivot has no opposite pair"
session_meaning (session.NotCovered p n) = codes "the resolvent of a clause with the pivot and one with its negation neither holds an opposite pair nor stands"
session_meaning (session.AssignmentLength n) = codes "the assignment has not one byte for each variable"
session_meaning (session.AssignmentByte i) = codes "a byte of the assignment is neither 0 nor 1"
session_meaning (session.Unmet k) = codes "the assignment does not meet a clause that stands"
session_meaning session.TextTooLong = codes "the formula has more than 1024 clauses, or its text more than 65536 bytes"
session_meaning session.BufferShort = codes "the buffer is shorter than the text"
session_meaning (session.Database f) = database_meaning f
session_meaning (session.Stack f) = stack_meaning f

-- of reading a file
abbrev pub file_meaning : FileFault → List ℕ
file_meaning file.TooManyBytes = codes "the file has more than 65536 bytes"
file_meaning file.HeaderMalformed = codes "the header is missing, or it is not exactly p cnf and the two counts with single spaces and a line feed"
file_meaning file.HeaderBeyond = codes "the header announces more than 512 variables or more than 1024 clauses"
file_meaning file.NotANumber = codes "a word is not a number"
file_meaning file.ClauseCount = codes "the number of clauses differs from the announced one, or the last 0 is missing"
file_meaning file.TooManyWords = codes "more than 1024 words come before a 0"
file_meaning file.NamesWrong = codes "the first line is not exactly kind clause pivot first second with a line feed"
file_meaning file.NotFiveValues = codes "the line has not five values with a single space between two, or no line feed ends it"
file_meaning file.ValueMalformed = codes "a value is malformed: the kind is R, S, B or E, the others are numbers, and only the pivot may have a minus"
file_meaning (file.Session f) = session_meaning f
