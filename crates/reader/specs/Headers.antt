-- Comments and the header of a formula.
use Rattle.std.specs.Prelude.{ℕ, ◌+◌, Bool, true, false, cond, not, ◌&&◌, List, [], ◌∷◌, length, take, drop, Some, None, codes, Option, ◌==◌, nat_le, nat_lt}
use Rattle.std.specs.Option.{option_map}
use Rattle.words.specs.declared.fault.FileFault.{FileFault}
use Rattle.words.specs.declared.fault.FileFault.TheVariants.{HeaderMalformed, HeaderBeyond}
use Rattle.words.specs.Checks.{check}
use Rattle.textlines.specs.Lines.{length_to}
use Rattle.reader.specs.declared.counts.Counts.{Counts}
use Rattle.reader.specs.Numerals.{unsigned_numeral}
use Rattle.reader.specs.Tokens.{Part, line_behind}

-- what is left of a text behind its first line l
abbrev pub past_line : ℕ → List ℕ → Part
past_line l [] = record { line = l; bytes = [] }
past_line l (b ∷ bs) = cond (b == 10) (record { line = l + 1; bytes = bs }) (past_line l bs)

-- what is left of a text in line l behind its comments, which are lines that begin with c (byte 99);
-- whether the text begins inside a comment
abbrev pub uncommented : Bool → ℕ → List ℕ → Part
uncommented inside l [] = record { line = l; bytes = [] }
uncommented true l (b ∷ bs) = uncommented (not (b == 10)) (line_behind b l) bs
uncommented false l (b ∷ bs) = cond (b == 99) (uncommented true l bs) (record { line = l; bytes = b ∷ bs })

-- whether a text begins with another
abbrev pub begins : List ℕ → List ℕ → Bool
begins [] bs = true
begins (p ∷ ps) [] = false
begins (p ∷ ps) (b ∷ bs) = b == p && begins ps bs

-- two counts, where both are there
abbrev pub both_counts : Option ℕ → Option ℕ → Option Counts
both_counts None c = None
both_counts (Some v) None = None
both_counts (Some v) (Some c) = Some (record { variables = v; clauses = c })

-- two numbers without sign, with a space (byte 32) between them
abbrev pub two_counts : List ℕ → Option Counts
two_counts bs = both_counts (unsigned_numeral (take (length_to 32 bs) bs)) (unsigned_numeral (drop (length_to 32 bs + 1) bs))

-- the counts of a header, a line without its line feed: `p cnf V C`
abbrev pub header_counts : List ℕ → Option Counts
header_counts bs = cond (begins (codes "p cnf ") bs) (two_counts (drop 6 bs)) None

-- the counts of the header with which a text begins, its first line; the line feed (byte 10) may not be missing
abbrev pub first_counts : List ℕ → Option Counts
first_counts bs = cond (nat_lt (length_to 10 bs) (length bs)) (header_counts (take (length_to 10 bs) bs)) None

-- how many clauses the header of a formula announces: none where the text, behind its comments, does not begin with a header, or
-- where it has more than 65,536 bytes
abbrev pub announced_clauses : List ℕ → Option ℕ
announced_clauses text = cond (nat_le (length text) 65536) (option_map (λ c. c.clauses) (first_counts (uncommented false 1 text).bytes)) None

-- why a header is refused: it is none, or announces too much
abbrev pub header_fault : Option Counts → Option FileFault
header_fault None = Some HeaderMalformed
header_fault (Some c) = check (nat_le c.variables 512 && nat_le c.clauses 1024) HeaderBeyond
