use Rattle.roundtrip.proofs.Whole.{writes_the_same}
use Rattle.roundtrip.proofs.read_formula_writes_the_same.Goals as goal

pub returns : goal.returns
returns c = writes_the_same
