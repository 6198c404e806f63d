-- The values of a trace line, and the proof line that they are.
use Rattle.std.specs.Prelude.{ℕ, suc, ◌+◌, cond, List, [], ◌∷◌, take, drop, ℤ, Some, None, Ok, Err, Option, Result, ◌==◌}
use Rattle.words.specs.declared.line.Kind.{Kind}
use Rattle.words.specs.declared.line.Kind.TheVariants.{Resolve, Subsumed, Blocked, Eliminate}
use Rattle.words.specs.declared.line.Line.{Line}
use Rattle.words.specs.declared.fault.FileFault.{FileFault}
use Rattle.words.specs.declared.fault.FileFault.TheVariants.{NotFiveValues, ValueMalformed}
use Rattle.reader.specs.Numerals.{unsigned_numeral, numeral}
use Rattle.textlines.specs.Lines.{length_to}

-- how many spaces (byte 32): every space separates two values, so n spaces make n + 1 values
abbrev pub spaces : List ℕ → ℕ
spaces [] = 0
spaces (b ∷ bs) = cond (b == 32) (suc (spaces bs)) (spaces bs)

-- the first of several values: what stands before the first space
abbrev pub first_value : List ℕ → List ℕ
first_value bs = take (length_to 32 bs) bs

-- the values behind it
abbrev pub more_values : List ℕ → List ℕ
more_values bs = drop (length_to 32 bs + 1) bs

-- the kind of a line by its letter: R, S, B or E
abbrev pub letter_kind : ℕ → Option Kind
letter_kind b =
    cond (b == 82) (Some Resolve) (cond (b == 83) (Some Subsumed) (cond (b == 66) (Some Blocked) (cond (b == 69) (Some Eliminate) None)))

-- the kind that a value names: it is one letter
abbrev pub kind_value : List ℕ → Option Kind
kind_value [] = None
kind_value (b ∷ []) = letter_kind b
kind_value (b ∷ (x ∷ xs)) = None

-- the line of five values, where each is well formed
abbrev pub made_of : Option Kind → Option ℕ → Option ℤ → Option ℕ → Option ℕ → Option Line
made_of None c p a b = None
made_of (Some k) None p a b = None
made_of (Some k) (Some c) None a b = None
made_of (Some k) (Some c) (Some p) None b = None
made_of (Some k) (Some c) (Some p) (Some a) None = None
made_of (Some k) (Some c) (Some p) (Some a) (Some b) = Some (record { kind = k; clause = c; pivot = p; first = a; second = b })

-- the line whose values these are, from the second on: clause, pivot, first, second; only pivot may have a minus
abbrev pub line_behind_kind : Option Kind → List ℕ → Option Line
line_behind_kind k bs =
    made_of k (unsigned_numeral (first_value bs)) (numeral (first_value (more_values bs)))
    (unsigned_numeral (first_value (more_values (more_values bs))))
    (unsigned_numeral (first_value (more_values (more_values (more_values bs)))))

-- the line whose five values these are: kind, clause, pivot, first, second
abbrev pub line_of_values : List ℕ → Option Line
line_of_values bs = line_behind_kind (kind_value (first_value bs)) (more_values bs)

-- a line, or the fault of one that is none
abbrev pub well_formed : Option Line → Result Line FileFault
well_formed None = Err ValueMalformed
well_formed (Some line) = Ok line

-- a text without its line feed as a proof line: five values, and each well formed
abbrev pub parsed : List ℕ → Result Line FileFault
parsed bs = cond (spaces bs == 4) (well_formed (line_of_values bs)) (Err NotFiveValues)
