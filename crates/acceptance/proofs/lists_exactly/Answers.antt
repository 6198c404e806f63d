use Rattle.acceptance.proofs.Loaded.{lists_exactly}
use Rattle.acceptance.proofs.lists_exactly.Goals as goal

pub returns : goal.returns
returns c = lists_exactly
