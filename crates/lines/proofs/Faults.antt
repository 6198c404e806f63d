-- Checks in order, followed one by one, and what a read clause tells of its number.
use Rattle.std.proofs.Common.{◌≡◌, ℕ, Bool, true, false, List, ℤ, Some, None, Ok, Err, Option, Result, sym, ap, ◌∙◌, arith}
use Rattle.std.proofs.lemmas.Bool.Decides.{nat_tests}
use Rattle.std.specs.Option.{option_map, ok_or}
use Rattle.words.specs.declared.clause.Clause.{Clause}
use Rattle.words.specs.declared.fault.SessionFault.{SessionFault}
use Rattle.words.specs.Meanings.{lits_of}
use Rattle.words.specs.Checks.{check, ◌then◌}
use Rattle.words.specs.Standing.{Entry, stands, under}
use Rattle.rules.specs.Lines.{clause_under}
use Rattle.acceptance.proofs.Entries.{stands_under, absent_under, clause_under_is}

-- a check that passes leaves those after it
pub on : {F : Type 0} (b : Bool) (f : F) (y : Option F) → b ≡ true → ◌≡◌ {A = Option F} (check b f then y) y
on b f y e = ap (λ x. check x f then y) e

-- one that fails decides
pub off : {F : Type 0} (b : Bool) (f : F) (y : Option F) → b ≡ false → ◌≡◌ {A = Option F} (check b f then y) (Some f)
off b f y e = ap (λ x. check x f then y) e

pub last_off : {F : Type 0} (b : Bool) (f : F) → b ≡ false → ◌≡◌ {A = Option F} (check b f) (Some f)
last_off b f e = ap (λ x. check x f) e

pub last_on : {F : Type 0} (b : Bool) (f : F) → b ≡ true → ◌≡◌ {A = Option F} (check b f) None
last_on b f e = ap (λ x. check x f) e

-- a number under which nothing is read does not stand
pub missing : (k : ℕ) (s : List Entry) → None ≡ under k s → stands k s ≡ false
missing k s e = let a = (absent_under k s).1 (sym e) in grind (arith, nat_tests)

pub there : (k : ℕ) (c : List ℤ) (s : List Entry) → Some c ≡ under k s → stands k s ≡ true
there k c s e = stands_under k c s (sym e)

pub read_is : (k : ℕ) (c : List ℤ) (s : List Entry) → Some c ≡ under k s → clause_under k s ≡ c
read_is k c s e = clause_under_is k c s (sym e)

-- a clause that is read, or the fault that tells that there is none
pub read : (o : Option Clause) (f : SessionFault) (x : Clause) (u : Option (List ℤ)) → ◌≡◌ {A = Result Clause SessionFault} (Ok x) (ok_or o f) → option_map lits_of o ≡ u → Some (lits_of x) ≡ u
read None f x u p q = absurd (let z : ◌≡◌ {A = ℕ} 0 1 = cc in omega arith)
read (Some y) f x u p q = let e : x ≡ y = cc in ap (λ c. Some (lits_of c)) e ∙ q

pub unread : (o : Option Clause) (f h : SessionFault) (u : Option (List ℤ)) → ◌≡◌ {A = Result Clause SessionFault} (Err h) (ok_or o f) → option_map lits_of o ≡ u → (None ≡ u) × (h ≡ f)
unread None f h u p q = (q, cc)
unread (Some y) f h u p q = absurd (let z : ◌≡◌ {A = ℕ} 0 1 = cc in omega arith)
