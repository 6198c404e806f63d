use Rattle.acceptance.proofs.Cases.{all_cases}
use Rattle.acceptance.proofs.worked_cases.Goals as goal

pub returns : goal.returns
returns c = all_cases
