-- Why a clause is not put, case by case.
use Rattle.std.proofs.Common.{◌≡◌, ◌+◌, ◌<◌, ◌≤◌, true, false, List, length, Some, None}
use Rattle.std.proofs.lemmas.Bool.{le-leb, lt-ltb, le-ltb}
use Rattle.words.specs.declared.limits.Limits.{Limits}
use Rattle.words.specs.declared.fault.DatabaseFault.TheVariants.{NumberTaken, VariableBeyond, ClausesFull}
use Rattle.words.specs.Clauses.{within}
use Rattle.words.specs.Standing.{Entry, stands, literals, put_fault}

module _ (l : Limits) (s : List Entry) (x : Entry) where
  -- the number is taken
  pub fault_taken : stands x.number s ≡ true → Some NumberTaken ≡ put_fault l s x
  fault_taken a = cc

  -- else a variable is beyond the limit
  pub fault_beyond : stands x.number s ≡ false → within l.variables x.lits ≡ false → Some VariableBeyond ≡ put_fault l s x
  fault_beyond a b = cc

  -- else as many clauses stand as may
  pub fault_full : stands x.number s ≡ false → within l.variables x.lits ≡ true → length x.lits ≤ l.width → l.clauses ≤ length s → Some ClausesFull ≡ put_fault l s x
  fault_full a b h k =
      let c = le-leb (length x.lits) l.width h in
      let d = le-ltb (length s) l.clauses k in
      cc

  -- else nothing refuses the clause
  pub no_fault : stands x.number s ≡ false → within l.variables x.lits ≡ true → length x.lits ≤ l.width → length s < l.clauses → literals s + length x.lits ≤ l.literals → None ≡ put_fault l s x
  no_fault a b h k m =
      let c = le-leb (length x.lits) l.width h in
      let d = lt-ltb (length s) l.clauses k in
      let e = le-leb (literals s + length x.lits) l.literals m in
      cc
