use Rattle.std.proofs.Common.{◌++◌, [], ◌∷◌, ap, ◌∙◌, rules}
use Rattle.database.specs.Walks.{entry_of}
use Rattle.elimination.proofs.Signed.{table_start, table_step}
use Rattle.elimination.proofs.signatures.SignatureTable.new.Goals as goal

pub loop-entry-init : goal.loop-entry-init
loop-entry-init g c =
    let t = table_start _ _ _ _ c.new-records.result.items (g.met.D.ClauseDatabase.lawful c.args.db.now).in_order c.new-records.ensures c.standing.ensures.all in
    search rules

pub loop-entry-preserved : goal.loop-entry-preserved
loop-entry-preserved g c =
    let r = ap (λ (k : _). c.loop-entry.records.items ++ record { number = c.in-Some.entry.number.value; signature = k } ∷ []) c.signature.ensures in
    let t =
    table_step _ _ _ _ _ c.loop-entry.records.items _ c.loop-entry.last (entry_of c.in-Some.entry) (g.met.D.ClauseDatabase.lawful c.args.db.now).in_order c.loop-entry.invariant.2 c.loop-entry.invariant.3
    c.in-Some.ensures.steps.0 (c.push.ensures.items ∙ r) in
    search rules
