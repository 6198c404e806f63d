-- Which check gives which fault.
use Rattle.std.proofs.Common.{◌≡◌, ℕ, ◌≤◌, Bool, true, false, not, ◌&&◌, eqb, ltb, leb, List, length, ℤ, neg_ℤ, Some, None, Option, sym, refl, ap, ◌∙◌, arith}
use Rattle.words.specs.declared.limits.Limits.{Limits}
use Rattle.words.specs.declared.line.Kind.{Kind}
use Rattle.words.specs.declared.line.Kind.TheVariants.{Resolve, Subsumed, Blocked, Eliminate}
use Rattle.words.specs.declared.line.Line.{Line}
use Rattle.words.specs.declared.fault.SessionFault.{SessionFault}
use Rattle.words.specs.declared.fault.SessionFault.TheVariants as fault
use Rattle.words.specs.Checks.{check, ◌then◌, inside}
use Rattle.words.specs.Clauses.{has, opposed, subset}
use Rattle.words.specs.Standing.{Entry, stands}
use Rattle.rules.specs.Restoring.{Saved, Room}
use Rattle.rules.specs.Lines.{clause_under, line_resolvent, resolve_fault, subsumed_fault, first_unblocked, blocked_fault, eliminate_fault, rule_fault, space_fault}
use Rattle.acceptance.proofs.Passing.{none_not_some, some_injective}
use Rattle.acceptance.proofs.Judged.{line_of}

-- the faults with a place that a walk finds, told apart
abbrev pub sort_of : SessionFault → ℕ
sort_of fault.DatabaseNotEmpty = 0
sort_of fault.StackNotEmpty = 0
sort_of fault.TooManyVariables = 0
sort_of fault.LoadedFull = 0
sort_of (fault.LiteralBeyond i) = 4
sort_of (fault.TooManyLiterals i) = 5
sort_of fault.MarksDirty = 0
sort_of (fault.FieldWrong i) = 1
sort_of (fault.NumberNotAbove k) = 0
sort_of (fault.Missing k) = 0
sort_of (fault.Lacking k) = 0
sort_of (fault.Tautology a b) = 0
sort_of (fault.ResolventTooWide a b) = 0
sort_of (fault.NotSubsumed c a) = 0
sort_of (fault.NotBlocked k) = 2
sort_of (fault.NotCovered p n) = 3
sort_of (fault.AssignmentLength n) = 0
sort_of (fault.AssignmentByte i) = 6
sort_of (fault.Unmet k) = 7
sort_of fault.TextTooLong = 0
sort_of fault.BufferShort = 0
sort_of (fault.Database f) = 0
sort_of (fault.Stack f) = 0

-- checks that never give a fault of a sort
abbrev pub Never : ℕ → Option SessionFault → Type 0
Never m o = (f : SessionFault) → o ≡ Some f → sort_of f ≡ m → ⊥

-- one check with those after it
pub never_check : (m : ℕ) (b : Bool) (g : SessionFault) (y : Option SessionFault) → (sort_of g ≡ m → ⊥) → Never m y → Never m (check b g then y)
never_check m true g y n k f e s = k f e s
never_check m false g y n k f e s = n (ap sort_of (some_injective g f e) ∙ s)

-- no check at all
pub never_none : (m : ℕ) → Never m None
never_none m f e s = none_not_some f e

-- the last check of a row
pub never_last : (m : ℕ) (b : Bool) (g : SessionFault) → (sort_of g ≡ m → ⊥) → Never m (check b g)
never_last m true g n f e s = none_not_some f e
never_last m false g n f e s = n (ap sort_of (some_injective g f e) ∙ s)

-- checks of a layer below
pub never_inside : {F : Type 0} (m : ℕ) (wrap : F → SessionFault) (o : Option F) → ((p : F) → sort_of (wrap p) ≡ m → ⊥) → Never m (inside wrap o)
never_inside m wrap None n f e s = none_not_some f e
never_inside m wrap (Some p) n f e s = n p (ap sort_of (some_injective (wrap p) f e) ∙ s)

-- one row of checks after another
pub never_then : (m : ℕ) (x y : Option SessionFault) → Never m x → Never m y → Never m (x then y)
never_then m None y a b f e s = b f e s
never_then m (Some g) y a b f e s = a f e s

-- the space gives faults of the layers below only
pub never_space : (m : ℕ) (l : Limits) (room : Room) (s : List Entry) (saved : List Saved) (k : Kind) (c : ℕ) (p : ℤ) (f g : ℕ) → 1 ≤ m → Never m (space_fault l room s saved (line_of k c p f g))
never_space m l room s saved Resolve c p f g h = never_inside m fault.Database _ (λ _ e. omega arith)
never_space m l room s saved Subsumed c p f g h = never_none m
never_space m l room s saved Blocked c p f g h = never_inside m fault.Stack _ (λ _ e. omega arith)
never_space m l room s saved Eliminate c p f g h = never_inside m fault.Stack _ (λ _ e. omega arith)

-- rules R and S give no fault with a place that a walk finds
never_resolve : (m given : ℕ) (s : List Entry) (line : Line) → 1 ≤ m → Never m (resolve_fault given s line)
never_resolve m given s line h =
    let a = clause_under line.first s in
    let b = clause_under line.second s in
    never_check m (ltb given line.clause) (fault.NumberNotAbove line.clause) _ (λ e. omega arith)
    (never_check m (stands line.first s) (fault.Missing line.first) _ (λ e. omega arith)
    (never_check m (stands line.second s) (fault.Missing line.second) _ (λ e. omega arith)
    (never_check m (has line.pivot a) (fault.Lacking line.first) _ (λ e. omega arith)
    (never_check m (has (neg_ℤ line.pivot) b) (fault.Lacking line.second) _ (λ e. omega arith)
    (never_check m (not (opposed (line_resolvent s line))) (fault.Tautology line.first line.second) _ (λ e. omega arith)
    (never_last m (leb (length (line_resolvent s line)) 64) (fault.ResolventTooWide line.first line.second) (λ e. omega arith)))))))

never_subsumed : (m : ℕ) (s : List Entry) (line : Line) → 1 ≤ m → Never m (subsumed_fault s line)
never_subsumed m s line h =
    let subsumes = not (eqb line.clause line.first) && subset (clause_under line.first s) (clause_under line.clause s) in
    never_check m (stands line.clause s) (fault.Missing line.clause) _ (λ e. omega arith)
    (never_check m (stands line.first s) (fault.Missing line.first) _ (λ e. omega arith)
    (never_last m subsumes (fault.NotSubsumed line.clause line.first) (λ e. omega arith)))

-- rule B gives its own only, and so does E
never_blocked : (m : ℕ) (s : List Entry) (line : Line) → 1 ≤ m → (m ≡ 2 → ⊥) → Never m (blocked_fault s line)
never_blocked m s line h n =
    let c = clause_under line.clause s in
    never_check m (stands line.clause s) (fault.Missing line.clause) _ (λ e. omega arith)
    (never_check m (has line.pivot c) (fault.Lacking line.clause) _ (λ e. omega arith)
    (never_inside m fault.NotBlocked (first_unblocked line.pivot c s) (λ _ e. n (sym e))))

never_eliminate : (m : ℕ) (s : List Entry) (line : Line) → (m ≡ 3 → ⊥) → Never m (eliminate_fault s line)
never_eliminate m s line n = never_inside m (λ (p : ℕ × ℕ). fault.NotCovered p.0 p.1) _ (λ _ e. n (sym e))

-- the rule of every kind
pub never_rule : (m given : ℕ) (s : List Entry) (k : Kind) (c : ℕ) (p : ℤ) (f g : ℕ) → 1 ≤ m → (m ≡ 2 → k ≡ Blocked → ⊥) → (m ≡ 3 → k ≡ Eliminate → ⊥) → Never m (rule_fault given s (line_of k c p f g))
never_rule m given s Resolve c p f g h x y = never_resolve m given s (line_of Resolve c p f g) h
never_rule m given s Subsumed c p f g h x y = never_subsumed m s (line_of Subsumed c p f g) h
never_rule m given s Blocked c p f g h x y = never_blocked m s (line_of Blocked c p f g) h (λ e. x e refl)
never_rule m given s Eliminate c p f g h x y = never_eliminate m s (line_of Eliminate c p f g) (λ e. y e refl)
