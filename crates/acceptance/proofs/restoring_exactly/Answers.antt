use Rattle.acceptance.proofs.Loaded.{restoring_exactly}
use Rattle.acceptance.proofs.restoring_exactly.Goals as goal

pub returns : goal.returns
returns c = restoring_exactly
