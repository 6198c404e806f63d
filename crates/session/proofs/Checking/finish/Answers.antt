use Rattle.std.proofs.Common.{refl}
use Rattle.theory.proofs.Led.{finish_leads}
use Rattle.session.specs.Meanings.{checking_variables, given_number, accepted_count}
use Rattle.session.proofs.Checking.finish.Goals as goal

pub returns-clause-history : goal.returns-clause-history
returns-clause-history g c =
    let me = c.args.self in
    let l = g.D.ClauseDatabase.limited c.args.db.now in
    let s = g.D.ClauseDatabase.standing c.args.db.now in
    λ room saves h t. finish_leads l room h (checking_variables me) s saves (given_number me) (accepted_count me) _ _ _ t refl c.count.ensures c.empty_stands.ensures
