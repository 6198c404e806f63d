use Rattle.acceptance.proofs.Placed.{all_places}
use Rattle.acceptance.proofs.refusal_places.Goals as goal

pub returns : goal.returns
returns c = all_places
