use Rattle.theory.proofs.Follow.{subsumed_follow}
use Rattle.theory.proofs.subsumed_follow.Goals as goal

pub returns : goal.returns
returns c = subsumed_follow
