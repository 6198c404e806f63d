use Rattle.theory.proofs.Eliminate.{elimination_restores}
use Rattle.theory.proofs.elimination_restores.Goals as goal

pub returns : goal.returns
returns c = elimination_restores
