use Rattle.std.proofs.Common.{◌≡◌, sym, rules}
use Rattle.words.specs.Meanings.{lits_of}
use Rattle.marking.proofs.Unions.{adds_too_many}
use Rattle.marking.proofs.resolving.with_all.Goals as goal

pub returns-then-not-insert : goal.returns-then-not-insert
returns-then-not-insert c p =
    let other : c.in-Some.l.value ≡ c.args.except.value → ⊥ = search rules in
    adds_too_many c.args.except.value c.in-Some.l.value (lits_of c.loop-l.clause) _ _ _ c.in-Some.ensures.steps c.loop-l.invariant.2 other p (sym c.if-not-insert.ensures.there)
