use Rattle.acceptance.proofs.Judged.{empty_exactly}
use Rattle.acceptance.proofs.empty_exactly.Goals as goal

pub returns : goal.returns
returns c = empty_exactly
