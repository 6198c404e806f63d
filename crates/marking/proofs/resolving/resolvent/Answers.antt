use Rattle.std.proofs.Common.{◌≡◌, neg_ℤ, None, Option, ap, ◌∙◌, refl, rules}
use Rattle.std.specs.Option.{option_map}
use Rattle.words.specs.declared.clause.Clause.{Clause}
use Rattle.words.specs.Meanings.{lits_of}
use Rattle.marking.proofs.Unions.{first_refused, second_added}
use Rattle.marking.proofs.resolving.resolvent.Goals as goal

pub returns-in_err-without_pivot : goal.returns-in_err-without_pivot
returns-in_err-without_pivot c =
    let e : ◌≡◌ {A = Option Clause} c.from_residual.result None = search rules in
    ap (option_map lits_of) e ∙
    first_refused 512 c.args.pivot.value (lits_of c.args.first.now) (lits_of c.args.second.now) c.args.first.now.rises c.args.second.now.rises (lits_of c.empty.result) (lits_of c.empty.result) (neg_ℤ c.args.pivot.value) c.empty.ensures refl c.in_err-without_pivot.ensures

pub returns : goal.returns
returns c =
    second_added c.args.pivot.value (lits_of c.args.first.now) (lits_of c.args.second.now) c.args.first.now.rises c.args.second.now.rises (lits_of c.empty.result) (lits_of c.in_ok-without_pivot.without_pivot) c.negated.result.value c.empty.ensures c.negated.ensures c.in_ok-without_pivot.ensures c.with_all-2.result c.with_all-2.ensures
