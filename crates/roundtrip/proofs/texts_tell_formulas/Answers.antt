use Rattle.roundtrip.proofs.Whole.{texts_tell}
use Rattle.roundtrip.proofs.texts_tell_formulas.Goals as goal

pub returns : goal.returns
returns c = texts_tell
