use Rattle.theory.proofs.Follow.{resolvents_follow}
use Rattle.theory.proofs.resolvents_follow.Goals as goal

pub returns : goal.returns
returns c = resolvents_follow
