use Rattle.std.proofs.Common.{◌≡◌, false, true, ◌∙◌, rules}
use Rattle.words.specs.Meanings.{lits_of}
use Rattle.marking.specs.Marking.{marks_cover}
use Rattle.marking.proofs.Looking.{marked_clean}
use Rattle.marking.proofs.Clashes.{marks_cover_is}
use Rattle.marking.proofs.marks.Marks.cover.Goals as goal

pub returns-then-not-has-clause-tells : goal.returns-then-not-has-clause-tells
returns-then-not-has-clause-tells c = λ h.
    let e : false ≡ marks_cover c.args.self.now.bytes.now (lits_of c.args.other.now) = search rules in
    e ∙ marks_cover_is 0 c.args.self.now.bytes.now (lits_of c.args.self.now.clause) (lits_of c.args.other.now) (marked_clean c.args.self.now.bytes.now (lits_of c.args.self.now.clause) c.args.self.now.clause.rises h) c.args.other.now.rises

pub returns-clause-tells : goal.returns-clause-tells
returns-clause-tells c = λ h.
    let e : true ≡ marks_cover c.args.self.now.bytes.now (lits_of c.args.other.now) = search rules in
    e ∙ marks_cover_is 0 c.args.self.now.bytes.now (lits_of c.args.self.now.clause) (lits_of c.args.other.now) (marked_clean c.args.self.now.bytes.now (lits_of c.args.self.now.clause) c.args.self.now.clause.rises h) c.args.other.now.rises
