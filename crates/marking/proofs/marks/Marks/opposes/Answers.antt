use Rattle.words.specs.Meanings.{lits_of}
use Rattle.marking.proofs.Looking.{marked_clean}
use Rattle.marking.proofs.Clashes.{clash_tells}
use Rattle.marking.proofs.marks.Marks.opposes.Goals as goal

pub returns-clause-tells : goal.returns-clause-tells
returns-clause-tells c = λ h.
    clash_tells c.args.pivot.value c.negated.result.value (lits_of c.args.self.now.clause) (lits_of c.args.other.now) c.args.self.now.bytes.now c.clash.result c.args.self.now.clause.rises c.args.other.now.rises c.negated.ensures
    (marked_clean c.args.self.now.bytes.now (lits_of c.args.self.now.clause) c.args.self.now.clause.rises h) c.clash.ensures
