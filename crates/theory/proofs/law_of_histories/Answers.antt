use Rattle.theory.proofs.Keeping.{law_of_histories}
use Rattle.theory.proofs.law_of_histories.Goals as goal

pub returns : goal.returns
returns c = law_of_histories
