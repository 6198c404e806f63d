-- Worked cases: small histories with their answers, on a database and a reconstruction stack that are large enough.
use Rattle.std.specs.Prelude.{◌≡◌, ℕ, List, [], ◌∷◌, ℤ, pos, neg_ℤ, Some, None}
use Rattle.words.specs.declared.limits.Limits.{Limits}
use Rattle.words.specs.declared.line.Kind.TheVariants.{Resolve, Subsumed, Blocked, Eliminate}
use Rattle.words.specs.declared.line.Line.{Line}
use Rattle.words.specs.declared.fault.SessionFault.{SessionFault}
use Rattle.words.specs.declared.refusal.Place.{Place}
use Rattle.words.specs.declared.refusal.Place.TheVariants.{At, Pair}
use Rattle.words.specs.declared.refusal.Layer.TheVariants as layer
use Rattle.words.specs.Clauses.{resolvent}
use Rattle.words.specs.Refusals.{refusal, session_refusal}
use Rattle.rules.specs.Restoring.{Room}
use Rattle.rules.specs.Histories.{load, seal, submit, finish, restore, History, opened, after, standing_by}
use Rattle.rules.specs.Runs.{Run}

-- ── The setting ──

abbrev pub large_limits : Limits
large_limits = record { variables = 512; width = 64; clauses = 1024; literals = 16384 }

abbrev pub large_room : Room
large_room = record { entries = 2048; literals = 16384 }

-- every call of a history was answered as the definitions say
abbrev pub Happens : History → Type 0
Happens h = Run large_limits large_room h

-- the negation of a variable
abbrev pub minus : ℕ → ℤ
minus v = neg_ℤ (pos v)

-- a clause of two literals
abbrev pub both : ℤ → ℤ → List ℤ
both x y = x ∷ (y ∷ [])

-- the four kinds of lines
abbrev pub resolve_line : ℕ → ℤ → ℕ → ℕ → Line
resolve_line c p a b = record { kind = Resolve; clause = c; pivot = p; first = a; second = b }

abbrev pub subsumed_line : ℕ → ℕ → Line
subsumed_line c a = record { kind = Subsumed; clause = c; pivot = pos 0; first = a; second = 0 }

abbrev pub blocked_line : ℕ → ℤ → Line
blocked_line c p = record { kind = Blocked; clause = c; pivot = p; first = 0; second = 0 }

abbrev pub eliminate_line : ℕ → Line
eliminate_line v = record { kind = Eliminate; clause = 0; pivot = pos v; first = 0; second = 0 }

-- ── Answers ──

-- a line is accepted after a history
abbrev pub Accepts : History → Line → Type 0
Accepts h l = Happens (after h (submit l None))

-- a line is refused after a history, with a number and a place
abbrev pub Refuses : History → Line → ℕ → Place → Type 0
Refuses h l k p = (f : SessionFault) × Happens (after h (submit l (Some f))) × (session_refusal f ≡ refusal k p layer.Rule)

-- restoring turns an assignment into another
abbrev pub TurnsInto : History → List ℕ → List ℕ → Type 0
TurnsInto h a b = Happens (after h (restore a b None))

-- restoring refuses an assignment, with a number and a place, and leaves it as it is
abbrev pub RefusesRestoring : History → List ℕ → ℕ → Place → Type 0
RefusesRestoring h a k p = (f : SessionFault) × Happens (after h (restore a a (Some f))) × (session_refusal f ≡ refusal k p layer.Restore)

-- ── The histories ──

-- a formula of {1,2} and {-1,-2}, whose resolvent on 1 holds an opposite pair
abbrev pub opposite_formula : History
opposite_formula = after (after (after (opened 2) (load (both (pos 1) (pos 2)) None)) (load (both (minus 1) (minus 2)) None)) seal

-- a formula of {1,2} and {-1,3}, whose resolvent on 1 is {2,3}
abbrev pub resolvable_formula : History
resolvable_formula = after (after (after (opened 3) (load (both (pos 1) (pos 2)) None)) (load (both (minus 1) (pos 3)) None)) seal

-- variable 1 of the first formula eliminated
abbrev pub eliminated_one : History
eliminated_one = after opposite_formula (submit (eliminate_line 1) None)

abbrev pub eliminated_one_finished : History
eliminated_one_finished = after eliminated_one (finish 1 0 0)

-- p cnf 4 5, of {1,2} {-1,3} {-2,3} {-3,4} {2,-2}
abbrev pub listing_formula : History
listing_formula =
    after (after (after (after (after (after (opened 4)
    (load (both (pos 1) (pos 2)) None))
    (load (both (minus 1) (pos 3)) None))
    (load (both (minus 2) (pos 3)) None))
    (load (both (minus 3) (pos 4)) None))
    (load (both (pos 2) (minus 2)) None))
    seal

-- R 6 1 1 2 / E 0 1 0 0 / R 7 2 6 3 / S 6 0 7 0 / B 3 -2 0 0
abbrev pub listing : History
listing =
    after (after (after (after (after listing_formula
    (submit (resolve_line 6 (pos 1) 1 2) None))
    (submit (eliminate_line 1) None))
    (submit (resolve_line 7 (pos 2) 6 3) None))
    (submit (subsumed_line 6 7) None))
    (submit (blocked_line 3 (minus 2)) None)

-- five lines accepted, two clauses stand, the empty clause does not
abbrev pub listing_finished : History
listing_finished = after listing (finish 5 2 0)

-- ── The cases ──

pub record WorkedCases : Type 0 where
  -- {1,2} and {-1,3} on 1 give {2,3}
  pub resolvent_of_two : resolvent (pos 1) (both (pos 1) (pos 2)) (both (minus 1) (pos 3)) ≡ both (pos 2) (pos 3)
  -- {1,2} and {-1,-2}: the resolvent on 1 is refused, clause 1 is blocked on 1
  pub opposite_resolvent_refused : Refuses opposite_formula (resolve_line 3 (pos 1) 1 2) 44 (Pair 1 2)
  pub blocked_accepted : Accepts opposite_formula (blocked_line 1 (pos 1))
  -- {1,2} and {-1,3}: clause 1 is not blocked on 1, variable 1 can't be eliminated
  pub unblocked_refused : Refuses resolvable_formula (blocked_line 1 (pos 1)) 47 (At 2)
  pub uncovered_refused : Refuses resolvable_formula (eliminate_line 1) 48 (Pair 1 2)
  -- {1,2} and {-1,-2}: variable 1 can be eliminated, nothing stands, and either assignment below is restored
  pub elimination_accepted : Accepts opposite_formula (eliminate_line 1)
  pub nothing_stands : standing_by eliminated_one ≡ []
  pub zeros_restored : TurnsInto eliminated_one_finished (0 ∷ (0 ∷ [])) (1 ∷ (0 ∷ []))
  pub ones_restored : TurnsInto eliminated_one_finished (1 ∷ (1 ∷ [])) (0 ∷ (1 ∷ []))
  -- the listing is accepted, and {-3,4} and {3} stand after it
  pub listing_happens : Happens listing_finished
  pub listing_leaves : standing_by listing ≡ record { number = 4; lits = both (minus 3) (pos 4) } ∷ (record { number = 7; lits = pos 3 ∷ [] } ∷ [])
  -- an assignment that meets what stands is restored; one that does not is refused at the lowest clause not met
  pub listing_restored : TurnsInto listing_finished (0 ∷ (0 ∷ (1 ∷ (1 ∷ [])))) (1 ∷ (0 ∷ (1 ∷ (1 ∷ []))))
  pub listing_unmet : RefusesRestoring listing_finished (0 ∷ (0 ∷ (0 ∷ (0 ∷ [])))) 72 (At 7)
