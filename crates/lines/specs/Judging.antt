-- What a judged line is: the fault that its rule gives, or the clause that it speaks of.
use Rattle.std.specs.Prelude.{◌≡◌, ℕ, List, ℤ, pos, Some, None, Ok, Err, Option, Result}
use Rattle.words.specs.declared.clause.Clause.{Clause}
use Rattle.words.specs.declared.fault.SessionFault.{SessionFault}
use Rattle.words.specs.declared.line.Kind.TheVariants.{Resolve, Subsumed, Blocked}
use Rattle.words.specs.declared.line.Line.{Line}
use Rattle.words.specs.Meanings.{lits_of}
use Rattle.words.specs.Standing.{Entry, put_fault}
use Rattle.words.specs.declared.limits.Limits.{Limits}
use Rattle.words.specs.declared.fault.SessionFault.TheVariants.{Database, Stack}
use Rattle.words.specs.Checks.{◌then◌, inside}
use Rattle.rules.specs.Restoring.{Saved, Room, save_fault}
use Rattle.lines.specs.declared.steps.Resolution.{Resolution}
use Rattle.rules.specs.Lines.{clause_under, line_resolvent, resolve_fault, blocked_fault, rule_fault, space_fault, line_saves}

-- the lines of the kinds R, S and B, by the fields that they use
abbrev pub r_line : ℕ → ℤ → ℕ → ℕ → Line
r_line k z a b = record { kind = Resolve; clause = k; pivot = z; first = a; second = b }

abbrev pub resolution_line : Resolution → Line
resolution_line r = r_line r.number.value r.pivot.value r.first.value r.second.value

abbrev pub s_line : ℕ → ℕ → Line
s_line k a = record { kind = Subsumed; clause = k; pivot = pos 0; first = a; second = 0 }

abbrev pub b_line : ℕ → ℤ → Line
b_line k z = record { kind = Blocked; clause = k; pivot = z; first = 0; second = 0 }

-- why a line whose fields are in range is refused: its rule, then the space
abbrev pub step_refused : Limits → Room → ℕ → List Entry → List Saved → Line → Option SessionFault
step_refused l room given s saved line = rule_fault given s line then space_fault l room s saved line

-- the same of an R line, which needs space on the database only, and of a B line, which needs it on the reconstruction stack only
abbrev pub resolve_refused : Limits → ℕ → List Entry → Line → Option SessionFault
resolve_refused l given s line = resolve_fault given s line then inside Database (put_fault l s (record { number = line.clause; lits = line_resolvent s line }))

abbrev pub blocked_refused : Room → List Entry → List Saved → Line → Option SessionFault
blocked_refused room s saved line = blocked_fault s line then inside Stack (save_fault room saved (line_saves s line))

-- an R line judged: its resolvent, or the fault of its rule
abbrev pub ResolveJudged : ℕ → List Entry → Line → Result Clause SessionFault → Type 0
ResolveJudged given s line (Ok c) = (resolve_fault given s line ≡ None) × (lits_of c ≡ line_resolvent s line)
ResolveJudged given s line (Err e) = resolve_fault given s line ≡ Some e

-- a B line judged: its clause, or the fault of its rule
abbrev pub BlockedJudged : List Entry → Line → Result Clause SessionFault → Type 0
BlockedJudged s line (Ok c) = (blocked_fault s line ≡ None) × (lits_of c ≡ clause_under line.clause s)
BlockedJudged s line (Err e) = blocked_fault s line ≡ Some e
