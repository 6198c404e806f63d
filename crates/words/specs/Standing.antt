-- The meaning of a clause database: the standing clauses, each under its number, by rising number; and four limits.
use Rattle.std.specs.Prelude.{◌≡◌, ℕ, ◌+◌, Bool, true, false, cond, not, ◌&&◌, ◌||◌, leb, List, [], ◌∷◌, length, ℤ, Some, None, Option, ◌==◌, nat_le, nat_lt}
use Rattle.words.specs.declared.limits.Limits.{Limits}
use Rattle.words.specs.declared.fault.DatabaseFault.{DatabaseFault}
use Rattle.words.specs.declared.fault.DatabaseFault.TheVariants.{NumberTaken, VariableBeyond, TooWide, ClausesFull, LiteralsFull}
use Rattle.words.specs.Clauses.{canonical, within}
use Rattle.words.specs.Literals.{number_ok}
use Rattle.words.specs.Checks.{check, ◌then◌}

-- a clause under its number
pub record Entry : Type 0 where
  pub number : ℕ
  pub lits : List ℤ

-- whether the numbers rise strictly above k, and every clause is canonical
abbrev pub ordered : ℕ → ℕ → ℕ → List Entry → Bool
ordered n w k [] = true
ordered n w k (e ∷ es) = nat_lt k e.number && (number_ok e.number && (canonical n w e.lits && ordered n w e.number es))

-- whether a number stands
abbrev pub stands : ℕ → List Entry → Bool
stands k [] = false
stands k (e ∷ es) = e.number == k || stands k es

-- the clause under a number, or none
abbrev pub under : ℕ → List Entry → Option (List ℤ)
under k [] = None
under k (e ∷ es) = cond (e.number == k) (Some e.lits) (under k es)

-- the lowest standing number above k, or none
abbrev pub next_above : ℕ → List Entry → Option ℕ
next_above k [] = None
next_above k (e ∷ es) = cond (nat_lt k e.number) (Some e.number) (next_above k es)

-- how many literals stand in all
abbrev pub literals : List Entry → ℕ
literals [] = 0
literals (e ∷ es) = length e.lits + literals es

-- an entry more, by its number
abbrev pub inserted : Entry → List Entry → List Entry
inserted x [] = x ∷ []
inserted x (e ∷ es) = cond (nat_lt x.number e.number) (x ∷ (e ∷ es)) (e ∷ inserted x es)

-- the entries without the one of a number
abbrev pub without : ℕ → List Entry → List Entry
without k [] = []
without k (e ∷ es) = cond (e.number == k) es (e ∷ without k es)

-- the clauses without their numbers
abbrev pub clauses : List Entry → List (List ℤ)
clauses [] = []
clauses (e ∷ es) = e.lits ∷ clauses es

-- what every database keeps: its limits are within those of the words, and what stands is within its limits
pub record Lawful (l : Limits) (s : List Entry) : Type 0 where
  pub variables_fit : leb l.variables 512 ≡ true
  pub width_fits : leb l.width 64 ≡ true
  pub in_order : ordered l.variables l.width 0 s ≡ true
  pub clauses_fit : leb (length s) l.clauses ≡ true
  pub literals_fit : leb (literals s) l.literals ≡ true

-- why a clause can't be put under a number: the number is taken, a variable is beyond V, the clause is wider than W,
-- M clauses stand, the literals would pass L
abbrev pub put_fault : Limits → List Entry → Entry → Option DatabaseFault
put_fault l s e =
    check (not (stands e.number s)) NumberTaken then
    check (within l.variables e.lits) VariableBeyond then
    check (nat_le (length e.lits) l.width) TooWide then
    check (nat_lt (length s) l.clauses) ClausesFull then
    check (nat_le (literals s + length e.lits) l.literals) LiteralsFull
