-- Where a refusal points: the place of each fault that a walk finds is the first one at fault, by number or by position.
use Rattle.std.specs.Prelude.{◌≡◌, ℕ, ◌-◌, ◌<◌, ◌≤◌, true, false, ◌⊎◌, List, length, take, ℤ, pos, neg_ℤ, Some, slice_index, slice_index_or}
use Rattle.words.specs.declared.limits.Limits.{Limits}
use Rattle.words.specs.declared.line.Field.{Field}
use Rattle.words.specs.declared.line.Kind.TheVariants.{Blocked, Eliminate}
use Rattle.words.specs.declared.line.Line.{Line}
use Rattle.words.specs.declared.fault.SessionFault.TheVariants.{FieldWrong, NotBlocked, NotCovered, LiteralBeyond, TooManyLiterals, AssignmentByte, Unmet}
use Rattle.words.specs.Assignments.{assignment, met}
use Rattle.words.specs.Conversions.{field_number}
use Rattle.words.specs.Standing.{Entry, ordered}
use Rattle.rules.specs.Satisfying.{Iff}
use Rattle.rules.specs.Restoring.{Saved, Room, restore_fault}
use Rattle.rules.specs.Loading.{load_fault}
use Rattle.rules.specs.Lines.{fields, line_fault}
use Rattle.rules.specs.Obeying.{In, Stands, Tautological, IsResolvent, IsLiteral, InRange, HoldsOppositePair, SameLiterals}

-- the lowest number with a property
abbrev pub Lowest : (ℕ → Type 0) → ℕ → Type 0
Lowest P k = P k × ((j : ℕ) → P j → k ≤ j)

-- the first pair with a property, by the first number, then by the second
abbrev pub FirstPair : (ℕ → ℕ → Type 0) → ℕ → ℕ → Type 0
FirstPair P i j = P i j × ((p q : ℕ) → P p q → (i < p) ⊎ ((i ≡ p) × (j ≤ q)))

-- a position in a list, counted from 1
abbrev pub Position : {X : Type 0} → List X → ℕ → Type 0
Position xs i = (1 ≤ i) × (i ≤ length xs)

-- ── Lines ──

-- a field is wrongly filled, wrongly zero or out of range
abbrev pub WrongField : Line → ℕ → Type 0
WrongField line i = Position (fields line) i × (slice_index_or (fields line) (i - 1) true ≡ false)

-- a standing clause holds the negated pivot, and its resolvent with c is not tautological
abbrev pub Unblocked : List Entry → ℤ → List ℤ → ℕ → Type 0
Unblocked s l c k = (d : List ℤ) × Stands s k d × In (neg_ℤ l) d × (Tautological l c d → ⊥)

-- a clause that holds the pivot and one that holds its negation stand, and their resolvent is neither tautological nor stands
abbrev pub Uncovered : List Entry → ℤ → ℕ → ℕ → Type 0
Uncovered s l i j =
    (c : List ℤ) × (d : List ℤ) × Stands s i c × In l c × Stands s j d × In (neg_ℤ l) d × (Tautological l c d → ⊥) ×
    ((k : ℕ) (r : List ℤ) → Stands s k r → IsResolvent l c d r → ⊥)

-- ── Lists ──

-- the number at a position is no literal of n variables
abbrev pub Beyond : ℕ → List ℤ → ℕ → Type 0
Beyond n zs i = Position zs i × (IsLiteral n (slice_index_or zs (i - 1) (pos 0)) → ⊥)

-- the numbers up to a position are more than 64 different literals: every list that has just these is longer
abbrev pub Crowded : List ℤ → ℕ → Type 0
Crowded zs i = (c : List ℤ) → SameLiterals c (take i zs) → 64 < length c

-- ── Assignments ──

-- the byte at a position is above 1
abbrev pub NoBit : List ℕ → ℕ → Type 0
NoBit a i = Position a i × (1 < slice_index a (i - 1))

-- the clause under a number is not met
abbrev pub UnmetUnder : List Entry → List ℕ → ℕ → Type 0
UnmetUnder s a k = (d : List ℤ) × Stands s k d × (met a d ≡ false)

-- ── The places ──

pub record RefusalPlaces : Type 0 where
  -- of a line, for each number: it is the lowest place of a wrong field exactly when the field of that number is told, so no sixth place is
  pub field_place :
      (l : Limits) (room : Room) (given : ℕ) (s : List Entry) (saved : List Saved) (line : Line) (i : ℕ) →
      Iff ((f : Field) × (field_number f ≡ i) × (line_fault l room given s saved line ≡ Some (FieldWrong f))) (Lowest (WrongField line) i)
  -- of a line: a field is told exactly when its place, from 1 to 5, is the lowest of a wrong field
  pub field_named :
      (l : Limits) (room : Room) (given : ℕ) (s : List Entry) (saved : List Saved) (line : Line) (f : Field) →
      Iff (line_fault l room given s saved line ≡ Some (FieldWrong f)) (Lowest (WrongField line) (field_number f))
  -- of a B line: the lowest number of a clause that is not blocked
  pub blocked_place :
      (n : ℕ) (l : Limits) (room : Room) (given : ℕ) (s : List Entry) (saved : List Saved) (line : Line) (k : ℕ) → ordered n 64 0 s ≡ true →
      Iff (line_fault l room given s saved line ≡ Some (NotBlocked k))
      ((line.kind ≡ Blocked) × InRange line ×
      ((c : List ℤ) × Stands s line.clause c × In line.pivot c × Lowest (Unblocked s line.pivot c) k))
  -- of an E line: the first pair that is not covered
  pub uncovered_place :
      (n : ℕ) (l : Limits) (room : Room) (given : ℕ) (s : List Entry) (saved : List Saved) (line : Line) (i j : ℕ) → ordered n 64 0 s ≡ true →
      Iff (line_fault l room given s saved line ≡ Some (NotCovered i j))
      ((line.kind ≡ Eliminate) × InRange line × FirstPair (Uncovered s line.pivot) i j)
  -- of a list: the first position that holds no literal of the formula
  pub beyond_place :
      (n k : ℕ) (l : Limits) (s : List Entry) (zs : List ℤ) (i : ℕ) →
      Iff (load_fault n k l s zs ≡ Some (LiteralBeyond i)) ((k < 1024) × Lowest (Beyond n zs) i)
  -- of a list: the position of the 65th different literal
  pub crowded_place :
      (n k : ℕ) (l : Limits) (s : List Entry) (zs : List ℤ) (i : ℕ) →
      Iff (load_fault n k l s zs ≡ Some (TooManyLiterals i))
      ((k < 1024) × ((z : ℤ) → In z zs → IsLiteral n z) × (HoldsOppositePair zs → ⊥) × Lowest (Crowded zs) i)
  pub crowded_count :
      (n k : ℕ) (l : Limits) (s : List Entry) (zs : List ℤ) (i : ℕ) → load_fault n k l s zs ≡ Some (TooManyLiterals i) →
      (c : List ℤ) × SameLiterals c (take i zs) × (length c ≡ 65)
  -- of an assignment: the first position of a byte above 1
  pub byte_place :
      (n : ℕ) (s : List Entry) (a : List ℕ) (i : ℕ) →
      Iff (restore_fault n s a ≡ Some (AssignmentByte i)) ((length a ≡ n) × Lowest (NoBit a) i)
  -- of an assignment: the lowest number of a clause that is not met
  pub unmet_place :
      (n m : ℕ) (s : List Entry) (a : List ℕ) (k : ℕ) → ordered n 64 0 s ≡ true →
      Iff (restore_fault m s a ≡ Some (Unmet k)) ((assignment m a ≡ true) × Lowest (UnmetUnder s a) k)
