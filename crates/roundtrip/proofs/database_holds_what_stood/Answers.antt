use Rattle.roundtrip.proofs.Whole.{holds_what_stood}
use Rattle.roundtrip.proofs.database_holds_what_stood.Goals as goal

pub returns : goal.returns
returns c = holds_what_stood
