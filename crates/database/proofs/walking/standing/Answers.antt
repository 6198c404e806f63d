use Rattle.std.proofs.Common.{◌∙◌}
use Rattle.database.proofs.Walks.{above_start}
use Rattle.database.proofs.walking.standing.Goals as goal

pub returns : goal.returns
returns g c = record { all = c.standing_above.ensures ∙ above_start _ _ _ (g.met.D.ClauseDatabase.lawful c.args.db.now).in_order }
