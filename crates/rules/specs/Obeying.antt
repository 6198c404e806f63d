-- When a line or a list should be accepted, as relations: nothing here is a step of the checker.
use Rattle.std.specs.Prelude.{◌≡◌, ℕ, ◌+◌, ◌<◌, ◌≤◌, true, ◌⊎◌, List, [], length, ℤ, pos, neg_ℤ, Some, None, ◌≢◌, unsigned_abs}
use Rattle.words.specs.declared.limits.Limits.{Limits}
use Rattle.words.specs.declared.line.Kind.TheVariants.{Resolve, Subsumed, Blocked, Eliminate}
use Rattle.words.specs.declared.line.Line.{Line}
use Rattle.words.specs.Clauses.{has, gathered}
use Rattle.words.specs.Standing.{Entry, under, literals}
use Rattle.rules.specs.Restoring.{Saved, Room, saved_literals}
use Rattle.rules.specs.Lines.{line_saves, line_resolvent}

-- a literal is in a clause
abbrev pub In : ℤ → List ℤ → Type 0
In z c = has z c ≡ true

-- a clause stands under a number
abbrev pub Stands : List Entry → ℕ → List ℤ → Type 0
Stands s k c = under k s ≡ Some c

-- a literal of the resolvent of a and b on l
abbrev pub InResolvent : ℤ → List ℤ → List ℤ → ℤ → Type 0
InResolvent l a b z = (In z a × (z ≢ l)) ⊎ (In z b × (z ≢ neg_ℤ l))

-- the resolvent holds an opposite pair
abbrev pub Tautological : ℤ → List ℤ → List ℤ → Type 0
Tautological l a b = (z : ℤ) × InResolvent l a b z × InResolvent l a b (neg_ℤ z)

-- a clause has exactly the literals of the resolvent
abbrev pub IsResolvent : ℤ → List ℤ → List ℤ → List ℤ → Type 0
IsResolvent l a b c = (z : ℤ) → (In z c → InResolvent l a b z) × (InResolvent l a b z → In z c)

-- ── A line ──

-- a clause number; a literal
abbrev pub IsNumber : ℕ → Type 0
IsNumber k = (1 ≤ k) × (k ≤ 1000000)

abbrev pub IsLiteral : ℕ → ℤ → Type 0
IsLiteral n z = (1 ≤ unsigned_abs z) × (unsigned_abs z ≤ n)

-- the fields of a line are in range: those in use are a clause number or a literal, the others are 0
abbrev pub InRange : Line → Type 0
InRange line = elim line.kind [
  | Resolve ↦ IsNumber line.clause × IsLiteral 512 line.pivot × IsNumber line.first × IsNumber line.second
  | Subsumed ↦ IsNumber line.clause × (line.pivot ≡ pos 0) × IsNumber line.first × (line.second ≡ 0)
  | Blocked ↦ IsNumber line.clause × IsLiteral 512 line.pivot × (line.first ≡ 0) × (line.second ≡ 0)
  | Eliminate ↦ (line.clause ≡ 0) × ((v : ℕ) × (line.pivot ≡ pos v) × (1 ≤ v) × (v ≤ 512)) × (line.first ≡ 0) × (line.second ≡ 0)
]

-- R: the number is new and above all others, the parents stand and hold the pivot and its negation,
-- and the resolvent is a clause: no opposite pair, at most 64 literals
abbrev pub ObeysResolve : ℕ → List Entry → Line → Type 0
ObeysResolve given s line =
    (given < line.clause) ×
    ((a : List ℤ) × (b : List ℤ) × Stands s line.first a × Stands s line.second b ×
    In line.pivot a × In (neg_ℤ line.pivot) b × (Tautological line.pivot a b → ⊥) ×
    ((c : List ℤ) × IsResolvent line.pivot a b c × (length c ≤ 64)))

-- S: both stand, first is another clause, and its literals are all in clause
abbrev pub ObeysSubsumed : List Entry → Line → Type 0
ObeysSubsumed s line =
    (c : List ℤ) × (d : List ℤ) × Stands s line.clause c × Stands s line.first d ×
    (line.clause ≢ line.first) × ((z : ℤ) → In z d → In z c)

-- B: the clause stands and holds the pivot, and its resolvent with every standing clause that holds -pivot is tautological
abbrev pub ObeysBlocked : List Entry → Line → Type 0
ObeysBlocked s line =
    (c : List ℤ) × Stands s line.clause c × In line.pivot c ×
    ((k : ℕ) (d : List ℤ) → Stands s k d → In (neg_ℤ line.pivot) d → Tautological line.pivot c d)

-- E: the resolvent of every pair is tautological or stands
abbrev pub ObeysEliminate : List Entry → Line → Type 0
ObeysEliminate s line =
    (i j : ℕ) (c d : List ℤ) → Stands s i c → In line.pivot c → Stands s j d → In (neg_ℤ line.pivot) d →
    Tautological line.pivot c d ⊎ ((k : ℕ) × (r : List ℤ) × Stands s k r × IsResolvent line.pivot c d r)

abbrev pub Obeys : ℕ → List Entry → Line → Type 0
Obeys given s line = elim line.kind [
  | Resolve ↦ ObeysResolve given s line
  | Subsumed ↦ ObeysSubsumed s line
  | Blocked ↦ ObeysBlocked s line
  | Eliminate ↦ ObeysEliminate s line
]

-- the database has the space for a clause under a number
abbrev pub HasSpace : Limits → List Entry → ℕ → List ℤ → Type 0
HasSpace l s k c =
    (under k s ≡ None) × ((z : ℤ) → In z c → unsigned_abs z ≤ l.variables) × (length c ≤ l.width) ×
    (length s < l.clauses) × (literals s + length c ≤ l.literals)

-- the reconstruction stack has the space for what is saved
abbrev pub HasRoom : Room → List Saved → List Saved → Type 0
HasRoom room saved new = (length saved + length new ≤ room.entries) × (saved_literals saved + saved_literals new ≤ room.literals)

-- the space that a line needs is there
abbrev pub Space : Limits → Room → List Entry → List Saved → Line → Type 0
Space l room s saved line = elim line.kind [
  | Resolve ↦ HasSpace l s line.clause (line_resolvent s line)
  | Subsumed ↦ Unit {0}
  | Blocked ↦ HasRoom room saved (line_saves s line)
  | Eliminate ↦ HasRoom room saved (line_saves s line)
]

-- a line should be accepted
abbrev pub Acceptable : Limits → Room → ℕ → List Entry → List Saved → Line → Type 0
Acceptable l room given s saved line = InRange line × Obeys given s line × Space l room s saved line

-- ── A list ──

-- some literal and its negation are in the list
abbrev pub HoldsOppositePair : List ℤ → Type 0
HoldsOppositePair zs = (z : ℤ) × In z zs × In (neg_ℤ z) zs

-- two lists have the same literals
abbrev pub SameLiterals : List ℤ → List ℤ → Type 0
SameLiterals c zs = (z : ℤ) → (In z c → In z zs) × (In z zs → In z c)

-- a list should be accepted into a formula of n variables, as the one after k others: fewer than 1,024 were, its numbers are
-- literals of the formula, and it holds an opposite pair, or has at most 64 different literals and the database has the space
abbrev pub Loadable : ℕ → ℕ → Limits → List Entry → List ℤ → Type 0
Loadable n k l s zs =
    (k < 1024) × ((z : ℤ) → In z zs → IsLiteral n z) ×
    (HoldsOppositePair zs ⊎ ((c : List ℤ) × SameLiterals c zs × (length c ≤ 64) × HasSpace l s (k + 1) (gathered [] zs)))
