use Rattle.std.proofs.Common.{◌∙◌}
use Rattle.words.specs.Meanings.{lits_of}
use Rattle.marking.proofs.Unions.{unopposed}
use Rattle.elimination.proofs.Covered.{cover_clash, cover_stands, cover_wide}
use Rattle.elimination.proofs.covering.pair_covered.Goals as goal

pub returns-then-opposes : goal.returns-then-opposes
returns-then-opposes g c =
    let o = c.opposes.ensures.tells c.requires in
    cover_clash c.args.pivot.value (g.D.ClauseDatabase.standing c.args.table.now.db.now) (lits_of c.args.marks.now.clause) (lits_of c.args.second.now) c.opposes.result o c.if-opposes.true

pub returns-in-Some : goal.returns-in-Some
returns-in-Some g c =
    let o = c.opposes.ensures.tells c.requires ∙ c.if-opposes.false in
    cover_stands c.args.pivot.value (g.D.ClauseDatabase.standing c.args.table.now.db.now) (lits_of c.args.marks.now.clause) (lits_of c.args.second.now) o (lits_of c.in-Some.clause) _ (c.in-Some.ensures ∙ unopposed c.args.pivot.value (lits_of c.args.marks.now.clause) (lits_of c.args.second.now) o) c.stands.ensures

pub returns-in-None : goal.returns-in-None
returns-in-None g c =
    let o = c.opposes.ensures.tells c.requires ∙ c.if-opposes.false in
    cover_wide c.args.pivot.value (g.D.ClauseDatabase.standing c.args.table.now.db.now) (lits_of c.args.marks.now.clause) (lits_of c.args.second.now) _ _ (g.met.D.ClauseDatabase.lawful c.args.table.now.db.now).in_order (g.met.D.ClauseDatabase.lawful c.args.table.now.db.now).width_fits o (c.in-None.ensures ∙ unopposed c.args.pivot.value (lits_of c.args.marks.now.clause) (lits_of c.args.second.now) o)
