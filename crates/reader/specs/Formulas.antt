-- Reading a formula into a session.
use Rattle.std.specs.Prelude.{ℕ, ◌+◌, false, cond, ◌&&◌, List, [], ◌∷◌, ◌++◌, length, ℤ, Some, None, Option, ◌==◌, nat_le, nat_lt, unsigned_abs}
use Rattle.words.specs.declared.fault.File.TheVariants.{Formula}
use Rattle.words.specs.declared.fault.FileFault.{FileFault}
use Rattle.words.specs.declared.fault.FileFault.TheVariants.{TooManyBytes, HeaderMalformed, NotANumber, ClauseCount, TooManyWords, Session}
use Rattle.words.specs.declared.fault.LocatedFault.{LocatedFault}
use Rattle.words.specs.declared.fault.SessionFault.TheVariants.{LiteralBeyond}
use Rattle.words.specs.declared.limits.Limits.{Limits}
use Rattle.words.specs.Checks.{check, ◌then◌, inside, unless}
use Rattle.words.specs.Standing.{Entry}
use Rattle.rules.specs.Restoring.{Saved}
use Rattle.rules.specs.Loading.{open_fault, load_fault, load_adds}
use Rattle.reader.specs.declared.counts.Counts.{Counts}
use Rattle.reader.specs.Numerals.{numeral}
use Rattle.reader.specs.Tokens.{Part, last_line, line_before, words_on}
use Rattle.reader.specs.Headers.{uncommented, first_counts, header_fault, past_line}

-- what the words read so far have led to
pub record Reading : Type 0 where
  -- the literals since the last 0
  pub pending : List ℤ
  -- how many lists were accepted
  pub accepted : ℕ
  -- what stands
  pub entries : List Entry

-- why a number that is not 0 can't be put behind others in a formula of n variables: 1,024 words came since the last 0,
-- or its variable is beyond the formula's
abbrev pub literal_fault : ℕ → List ℤ → ℤ → Option FileFault
literal_fault n zs z =
    check (nat_lt (length zs) 1024) TooManyWords then
    check (nat_le (unsigned_abs z) n) (Session (LiteralBeyond (length zs + 1)))

-- why a number is refused: a 0 loads the list that it ends
abbrev pub number_fault : Limits → ℕ → Reading → ℤ → Option FileFault
number_fault l n r z =
    cond (unsigned_abs z == 0) (inside Session (load_fault n r.accepted l r.entries r.pending)) (literal_fault n r.pending z)

-- why a word is refused that is this number, or none
abbrev pub numeral_fault : Limits → ℕ → Reading → Option ℤ → Option FileFault
numeral_fault l n r None = Some NotANumber
numeral_fault l n r (Some z) = number_fault l n r z

-- why a word is refused: all clauses that the header announces are there, it is not a number, or the number is refused
abbrev pub word_fault : Limits → Counts → Reading → Option ℤ → Option FileFault
word_fault l c r o = check (nat_lt r.accepted c.clauses) ClauseCount then numeral_fault l c.variables r o

-- what an accepted number leaves
abbrev pub number_leaves : Reading → ℤ → Reading
number_leaves r z =
    cond (unsigned_abs z == 0)
    (record { pending = []; accepted = r.accepted + 1; entries = load_adds r.accepted r.entries r.pending })
    (record { pending = r.pending ++ z ∷ []; accepted = r.accepted; entries = r.entries })

-- what an accepted word leaves
abbrev pub word_leaves : Reading → Option ℤ → Reading
word_leaves r None = r
word_leaves r (Some z) = number_leaves r z

-- why a formula can't end here: clauses that the header announces are missing, or the last 0 is
abbrev pub end_fault : Counts → Reading → Option FileFault
end_fault c r = check (nat_le c.clauses r.accepted && length r.pending == 0) ClauseCount

-- how reading ended: the fault with its line, or none; the formula's variables; how many lists were accepted; what stands
pub record Outcome : Type 0 where
  pub fault : Option LocatedFault
  pub variables : ℕ
  pub accepted : ℕ
  pub entries : List Entry

-- a fault of the formula at a line
abbrev pub located : ℕ → FileFault → LocatedFault
located l f = record { file = Formula; line = l; cause = f }

-- reading ended at a line, with a fault or none
abbrev pub outcome : ℕ → ℕ → Reading → Option FileFault → Outcome
outcome l n r f = record { fault = inside (located l) f; variables = n; accepted = r.accepted; entries = r.entries }

-- reading words one after another, where e is the last line of the text
abbrev pub read_words : Limits → Counts → ℕ → Reading → List Part → Outcome
read_words l c e r [] = outcome e c.variables r (end_fault c r)
read_words l c e r (w ∷ ws) =
    unless (word_fault l c r (numeral w.bytes))
    (read_words l c e (word_leaves r (numeral w.bytes)) ws)
    (outcome w.line c.variables r (word_fault l c r (numeral w.bytes)))

-- nothing is read yet
abbrev pub unread : List Entry → Reading
unread s = record { pending = []; accepted = 0; entries = s }

-- reading what is left of a text behind its header: the session is opened first
abbrev pub read_rest : Limits → List Entry → List Saved → List ℕ → Counts → Part → Outcome
read_rest l s saved text c p =
    unless (open_fault c.variables s saved)
    (read_words l c (last_line text) (unread s) (words_on p.line [] p.bytes))
    (outcome 0 c.variables (unread s) (inside Session (open_fault c.variables s saved)))

-- reading what is left of a text behind its comments, which begins with a header of these counts, or of none
abbrev pub read_header : Limits → List Entry → List Saved → List ℕ → Part → Option Counts → Outcome
read_header l s saved text p None = outcome (line_before text p) 0 (unread s) (Some HeaderMalformed)
read_header l s saved text p (Some c) =
    unless (header_fault (Some c))
    (read_rest l s saved text c (past_line p.line p.bytes))
    (outcome (line_before text p) 0 (unread s) (header_fault (Some c)))

-- reading this part, what is left of a text, which begins with comments
abbrev pub read_part : Limits → List Entry → List Saved → List ℕ → Part → Outcome
read_part l s saved text p =
    read_header l s saved text (uncommented false p.line p.bytes) (first_counts (uncommented false p.line p.bytes).bytes)

-- reading a formula onto a database of these limits, where these entries stand and these clauses are saved
abbrev pub read_text : Limits → List Entry → List Saved → List ℕ → Outcome
read_text l s saved text =
    cond (nat_le (length text) 65536)
    (read_part l s saved text (record { line = 1; bytes = text }))
    (outcome 0 0 (unread s) (Some TooManyBytes))
