use Rattle.acceptance.proofs.Judged.{lines_exactly}
use Rattle.acceptance.proofs.lines_exactly.Goals as goal

pub returns : goal.returns
returns c = lines_exactly
