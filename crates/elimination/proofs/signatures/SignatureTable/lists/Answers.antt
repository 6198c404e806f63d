use Rattle.std.proofs.Common.{[], length, sym, ap, ◌∙◌, arith}
use Rattle.words.specs.Meanings.{lits_of}
use Rattle.words.specs.Standing.{Entry}
use Rattle.elimination.proofs.Signed.{record_number, record_hit, record_miss, record_apart, records_done}
use Rattle.elimination.proofs.signatures.SignatureTable.lists.Goals as goal
use Rattle.elimination.proofs.signatures.SignatureTable.lists.Goals.{then-record-sought+else-equal_at, else-record-sought}

-- an entry to read past the end
nothing : Entry
nothing = record { number = 0; lits = [] }

pub invariant_of-number : goal.invariant_of-number
invariant_of-number g c =
    let r = record_number _ _ _ (g.met.D.ClauseDatabase.lawful c.args.self.now.db.now).in_order c.as_slice-record-items.result.now c.args.self.now.records.items c.as_slice-record-items.ensures.value c.args.self.now.listed c.loop-record.record-index c.loop-record-test.true nothing _ in
    record { low = r.0; high = r.1 }

pub returns-then-equal_at : goal.returns-then-equal_at
returns-then-equal_at g c = record_hit _ _ _ (g.met.D.ClauseDatabase.lawful c.args.self.now.db.now).in_order c.as_slice-record-items.result.now c.args.self.now.records.items c.as_slice-record-items.ensures.value c.args.self.now.listed c.loop-record.record-index c.loop-record-test.true nothing _ (lits_of c.args.clause.now) _ (sym c.equal_at.ensures ∙ c.if-equal_at.true) c.loop-record.invariant

pub loop-record-preserved : goal.loop-record-preserved
loop-record-preserved g c =
    elim c.if-record-sought.branch [
      | then-record-sought+else-equal_at w ↦ record_miss _ _ _ (g.met.D.ClauseDatabase.lawful c.args.self.now.db.now).in_order c.as_slice-record-items.result.now c.args.self.now.records.items c.as_slice-record-items.ensures.value c.args.self.now.listed c.loop-record.record-index c.loop-record-test.true nothing _ (lits_of c.args.clause.now) _ (sym w.equal_at.ensures ∙ w.if-equal_at.false) c.loop-record.invariant
      | else-record-sought w ↦ record_apart _ _ _ (g.met.D.ClauseDatabase.lawful c.args.self.now.db.now).in_order c.as_slice-record-items.result.now c.args.self.now.records.items c.as_slice-record-items.ensures.value c.args.self.now.listed c.loop-record.record-index c.loop-record-test.true nothing _ (lits_of c.args.clause.now) _ c.signature-sought.result c.signature-sought.ensures w.if-record-sought.false c.loop-record.invariant
    ]

pub returns : goal.returns
returns g c =
    records_done (lits_of c.args.clause.now) _ (length c.args.self.now.records.items) c.loop-record.record-index _ (let e = ap length c.as_slice-record-items.ensures.value in let t = c.loop-record-test.false in omega arith) c.loop-record.invariant
