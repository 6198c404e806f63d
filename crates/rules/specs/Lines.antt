-- The four kinds of proof lines: the fields in range, the rule with its checks in order, the space, and what an accepted line changes.
use Rattle.std.specs.Prelude.{ℕ, ◌+◌, Bool, true, false, cond, not, ◌&&◌, ◌||◌, List, [], ◌∷◌, length, ℤ, neg_ℤ, Some, None, Option, ◌==◌, nat_le, nat_lt, unsigned_abs}
use Rattle.words.specs.declared.limits.Limits.{Limits}
use Rattle.words.specs.declared.line.Field.{Field}
use Rattle.words.specs.declared.line.Field.TheVariants as field
use Rattle.words.specs.declared.line.Kind.TheVariants.{Resolve, Subsumed, Blocked, Eliminate}
use Rattle.words.specs.declared.line.Line.{Line}
use Rattle.words.specs.declared.fault.SessionFault.{SessionFault}
use Rattle.words.specs.declared.fault.SessionFault.TheVariants.{FieldWrong, NumberNotAbove, Missing, Lacking, Tautology, ResolventTooWide, NotSubsumed, NotBlocked, NotCovered, Database, Stack}
use Rattle.words.specs.Checks.{check, ◌then◌, inside}
use Rattle.words.specs.Clauses.{has, opposed, subset, equal, resolvent}
use Rattle.words.specs.Literals.{literal_ok, number_ok, positive}
use Rattle.words.specs.Standing.{Entry, stands, under, inserted, without, put_fault}
use Rattle.rules.specs.Restoring.{Saved, Room, save_fault}

-- ── The fields ──

-- whether each of the five fields, in their order, is as its kind wants it: a field in use is in range, any other is 0
abbrev pub fields : Line → List Bool
fields line = elim line.kind [
  | Resolve ↦ true ∷ (number_ok line.clause ∷ (literal_ok 512 line.pivot ∷ (number_ok line.first ∷ (number_ok line.second ∷ []))))
  | Subsumed ↦ true ∷ (number_ok line.clause ∷ ((unsigned_abs line.pivot == 0) ∷ (number_ok line.first ∷ ((line.second == 0) ∷ []))))
  | Blocked ↦ true ∷ (number_ok line.clause ∷ (literal_ok 512 line.pivot ∷ ((line.first == 0) ∷ ((line.second == 0) ∷ []))))
  | Eliminate ↦ true ∷ ((line.clause == 0) ∷ ((literal_ok 512 line.pivot && positive line.pivot) ∷ ((line.first == 0) ∷ ((line.second == 0) ∷ []))))
]

-- the five fields, in their order
abbrev pub all_fields : List Field
all_fields = field.Kind ∷ (field.Clause ∷ (field.Pivot ∷ (field.First ∷ (field.Second ∷ []))))

-- the first of some fields whose test does not hold
abbrev pub first_wrong : List Field → List Bool → Option Field
first_wrong [] bs = None
first_wrong (f ∷ fs) [] = None
first_wrong (f ∷ fs) (b ∷ bs) = cond b (first_wrong fs bs) (Some f)

-- why the fields of a line are refused
abbrev pub field_fault : Line → Option SessionFault
field_fault line = inside FieldWrong (first_wrong all_fields (fields line))

-- ── The rules, on the standing clauses s ──

-- the literals of the clause under a number; none where it does not stand
abbrev pub clause_under : ℕ → List Entry → List ℤ
clause_under k s = elim (under k s) [ None ↦ [] | Some c ↦ c ]

-- the resolvent that an R line names
abbrev pub line_resolvent : List Entry → Line → List ℤ
line_resolvent s line = resolvent line.pivot (clause_under line.first s) (clause_under line.second s)

-- R: the number is above every one given so far; both parents stand and hold the pivot and its negation;
-- the resolvent holds no opposite pair and at most 64 literals
abbrev pub resolve_fault : ℕ → List Entry → Line → Option SessionFault
resolve_fault given s line =
    check (nat_lt given line.clause) (NumberNotAbove line.clause) then
    check (stands line.first s) (Missing line.first) then
    check (stands line.second s) (Missing line.second) then
    check (has line.pivot (clause_under line.first s)) (Lacking line.first) then
    check (has (neg_ℤ line.pivot) (clause_under line.second s)) (Lacking line.second) then
    check (not (opposed (line_resolvent s line))) (Tautology line.first line.second) then
    check (nat_le (length (line_resolvent s line)) 64) (ResolventTooWide line.first line.second)

-- S: both clauses stand, first is another clause, and all its literals are in clause
abbrev pub subsumed_fault : List Entry → Line → Option SessionFault
subsumed_fault s line =
    check (stands line.clause s) (Missing line.clause) then
    check (stands line.first s) (Missing line.first) then
    check (not (line.clause == line.first) && subset (clause_under line.first s) (clause_under line.clause s)) (NotSubsumed line.clause line.first)

-- the lowest number of a standing clause that holds -pivot and whose resolvent with c on pivot holds no opposite pair
abbrev pub first_unblocked : ℤ → List ℤ → List Entry → Option ℕ
first_unblocked pivot c [] = None
first_unblocked pivot c (e ∷ es) =
    cond (has (neg_ℤ pivot) e.lits && not (opposed (resolvent pivot c e.lits))) (Some e.number) (first_unblocked pivot c es)

-- B: the clause stands and holds the pivot, and no standing clause fails
abbrev pub blocked_fault : List Entry → Line → Option SessionFault
blocked_fault s line =
    check (stands line.clause s) (Missing line.clause) then
    check (has line.pivot (clause_under line.clause s)) (Lacking line.clause) then
    inside NotBlocked (first_unblocked line.pivot (clause_under line.clause s) s)

-- the standing clauses that hold a literal: P for the variable, N for its negation
abbrev pub side : ℤ → List Entry → List Entry
side z [] = []
side z (e ∷ es) = cond (has z e.lits) (e ∷ side z es) (side z es)

-- whether some standing clause has exactly these literals
abbrev pub some_equal : List ℤ → List Entry → Bool
some_equal c [] = false
some_equal c (e ∷ es) = equal e.lits c || some_equal c es

-- whether the resolvent of two clauses holds an opposite pair or stands
abbrev pub covered : ℤ → List Entry → List ℤ → List ℤ → Bool
covered v s a b = opposed (resolvent v a b) || some_equal (resolvent v a b) s

-- the first clause of N whose resolvent with a is not covered
abbrev pub uncovered_with : ℤ → List Entry → List ℤ → List Entry → Option ℕ
uncovered_with v s a [] = None
uncovered_with v s a (e ∷ es) = cond (covered v s a e.lits) (uncovered_with v s a es) (Some e.number)

-- the first pair of P and N, by rising number in P, then in N, that is not covered
abbrev pub first_uncovered : ℤ → List Entry → List Entry → List Entry → Option (ℕ × ℕ)
first_uncovered v s [] ns = None
first_uncovered v s (e ∷ es) ns = elim (uncovered_with v s e.lits ns) [ None ↦ first_uncovered v s es ns | Some k ↦ Some (e.number, k) ]

-- E: every pair is covered
abbrev pub eliminate_fault : List Entry → Line → Option SessionFault
eliminate_fault s line = inside (λ (p : ℕ × ℕ). NotCovered p.0 p.1) (first_uncovered line.pivot s (side line.pivot s) (side (neg_ℤ line.pivot) s))

-- the rule of the line's kind
abbrev pub rule_fault : ℕ → List Entry → Line → Option SessionFault
rule_fault given s line = elim line.kind [
  | Resolve ↦ resolve_fault given s line
  | Subsumed ↦ subsumed_fault s line
  | Blocked ↦ blocked_fault s line
  | Eliminate ↦ eliminate_fault s line
]

-- ── What an accepted line does ──

-- the clauses of a variable, by rising number, each with the literal that it holds as its pivot
abbrev pub eliminated : ℤ → List Entry → List Saved
eliminated v [] = []
eliminated v (e ∷ es) =
    cond (has v e.lits) (record { pivot = v; lits = e.lits } ∷ eliminated v es)
    (cond (has (neg_ℤ v) e.lits) (record { pivot = neg_ℤ v; lits = e.lits } ∷ eliminated v es) (eliminated v es))

-- the standing clauses that do not hold a variable
abbrev pub free_of : ℤ → List Entry → List Entry
free_of v [] = []
free_of v (e ∷ es) = cond (has v e.lits || has (neg_ℤ v) e.lits) (free_of v es) (e ∷ free_of v es)

-- what stands after the line
abbrev pub line_leaves : List Entry → Line → List Entry
line_leaves s line = elim line.kind [
  | Resolve ↦ inserted (record { number = line.clause; lits = line_resolvent s line }) s
  | Subsumed ↦ without line.clause s
  | Blocked ↦ without line.clause s
  | Eliminate ↦ free_of line.pivot s
]

-- what the line saves for restoring
abbrev pub line_saves : List Entry → Line → List Saved
line_saves s line = elim line.kind [
  | Resolve ↦ []
  | Subsumed ↦ []
  | Blocked ↦ record { pivot = line.pivot; lits = clause_under line.clause s } ∷ []
  | Eliminate ↦ eliminated line.pivot s
]

-- the highest number given, after the line
abbrev pub line_gives : ℕ → Line → ℕ
line_gives given line = elim line.kind [ Resolve ↦ line.clause | Subsumed ↦ given | Blocked ↦ given | Eliminate ↦ given ]

-- ── The space, and the whole line ──

-- why the space that the line needs is not there
abbrev pub space_fault : Limits → Room → List Entry → List Saved → Line → Option SessionFault
space_fault l room s saved line = elim line.kind [
  | Resolve ↦ inside Database (put_fault l s (record { number = line.clause; lits = line_resolvent s line }))
  | Subsumed ↦ None
  | Blocked ↦ inside Stack (save_fault room saved (line_saves s line))
  | Eliminate ↦ inside Stack (save_fault room saved (line_saves s line))
]

-- why a line is refused: its fields, its rule, the space
abbrev pub line_fault : Limits → Room → ℕ → List Entry → List Saved → Line → Option SessionFault
line_fault l room given s saved line = field_fault line then rule_fault given s line then space_fault l room s saved line

-- the count of accepted lines after one more, counted up to 1,000,000,000
abbrev pub one_more : ℕ → ℕ
one_more k = cond (nat_lt k 1000000000) (k + 1) k
