use Rattle.std.proofs.Common.{◌≡◌, ◌+◌, length, take, ap, ◌∙◌, arith, w16, SFits, rules}
use Rattle.std.proofs.lemmas.Int.{to_z-of_z}
use Rattle.words.specs.Clauses.{rising}
use Rattle.words.proofs.Swaps.{placed}
use Rattle.words.proofs.clause.Clause.put_at.Goals as goal

pub invariant_of-self : goal.invariant_of-self
invariant_of-self c =
    let s = c.args.self.now in
    let n : length s.lits ≡ 64 = search rules in
    let g : SFits w16 c.args.l.value = search rules in
    let p = placed s.lits s.len c.args.at c.args.l.value _ (to_z-of_z w16 c.args.l.value g) (omega arith) (omega arith) in
    record { few = omega arith; rises = ap (λ l. rising 512 0 (take (s.len + 1) l)) c.exchange.ensures ∙ ap (rising 512 0) p ∙ c.requires.rises }

pub returns : goal.returns
returns c =
    let s = c.args.self.now in
    let n : length s.lits ≡ 64 = search rules in
    let g : SFits w16 c.args.l.value = search rules in
    ap (take (s.len + 1)) c.exchange.ensures ∙
    placed s.lits s.len c.args.at c.args.l.value _ (to_z-of_z w16 c.args.l.value g) (omega arith) (omega arith)
