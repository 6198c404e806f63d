use Rattle.std.proofs.Common.{◌≡◌, length, take, drop}
use Rattle.words.specs.Meanings.{lits_of}
use Rattle.rules.specs.Lines.{some_equal}
use Rattle.elimination.proofs.signatures.SignatureTable.lists.Given as goal

abbrev pub invariant-loop-record : goal.invariant-loop-record
invariant-loop-record g l =
    some_equal (lits_of l.clause) (drop l.record-index (take (length l.self.records.items) (g.D.ClauseDatabase.standing l.self.db.now))) ≡
    some_equal (lits_of l.clause) (take (length l.self.records.items) (g.D.ClauseDatabase.standing l.self.db.now))
