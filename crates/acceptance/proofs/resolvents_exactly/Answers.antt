use Rattle.acceptance.proofs.Sets.{has_resolvent}
use Rattle.acceptance.proofs.resolvents_exactly.Goals as goal

pub returns : goal.returns
returns c = has_resolvent
