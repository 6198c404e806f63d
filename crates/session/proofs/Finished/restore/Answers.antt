use Rattle.words.specs.Checks.{fault_of}
use Rattle.reconstruction.specs.Meanings.{saved, room_of}
use Rattle.theory.proofs.Led.{restore_leads}
use Rattle.session.specs.Meanings.{finished_variables}
use Rattle.session.proofs.Finished.restore.Goals as goal

pub returns-clause-history : goal.returns-clause-history
returns-clause-history g c =
    λ h t. restore_leads (g.D.ClauseDatabase.limited c.args.db.now) (room_of c.args.stack.now) h (finished_variables c.args.self.now) (g.D.ClauseDatabase.standing c.args.db.now) (saved c.args.stack.now) c.args.assignment.now _ (fault_of c.restore.result) t c.restore.ensures.fault c.restore.ensures.after
