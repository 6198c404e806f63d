use Rattle.theory.proofs.Repair.{blocked_repairs}
use Rattle.theory.proofs.blocked_repairs.Goals as goal

pub returns : goal.returns
returns c = blocked_repairs
