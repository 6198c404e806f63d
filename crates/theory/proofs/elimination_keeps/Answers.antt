use Rattle.theory.proofs.Eliminate.{elimination_keeps}
use Rattle.theory.proofs.elimination_keeps.Goals as goal

pub returns : goal.returns
returns c = elimination_keeps
