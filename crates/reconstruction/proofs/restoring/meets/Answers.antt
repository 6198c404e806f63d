use Rattle.std.proofs.Common.{◌∙◌, ap}
use Rattle.std.proofs.lemmas.List.{map-id}
use Rattle.words.specs.Assignments.{met}
use Rattle.reconstruction.proofs.restoring.meets.Goals as goal

pub returns : goal.returns
returns c = c.is_met.ensures ∙ ap (met c.args.assignment.now) (map-id _ ∙ c.literals.ensures)
