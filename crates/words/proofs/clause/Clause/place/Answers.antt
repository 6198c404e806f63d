use Rattle.std.proofs.Common.{◌≡◌, ◌<◌, ◌-◌, true, ltb, nat_abs, length, get_or, pos, refl, ap, ◌∙◌, rules}
use Rattle.std.specs.List.{prefix_len}
use Rattle.words.specs.Clauses.{rising}
use Rattle.words.proofs.Locating.{read_variable, behind_last, at_last}
use Rattle.words.proofs.clause.Clause.place.Goals as goal

pub returns-in-len1-up-2 : goal.returns-in-len1-up-2
returns-in-len1-up-2 c =
    let s = c.args.self.now in
    let xs = c.literals.result.now in
    let e = c.literals.ensures in
    let r : rising 512 0 xs ≡ true = ap (rising 512 0) e ∙ s.rises in
    let some : 0 < length xs = search rules in
    let v = c.unsigned_abs-2.ensures.value in
    let n : s.len ≡ length xs = search rules in
    let l : read_variable (get_or xs (length xs - 1) (pos 0)) < c.args.variable = search rules in
    n ∙ behind_last xs r c.args.variable (get_or xs (length xs - 1) (pos 0)) some refl l ∙ ap (prefix_len (λ z. ltb (nat_abs z) c.args.variable)) e

pub returns-in-len1-up-3 : goal.returns-in-len1-up-3
returns-in-len1-up-3 c =
    let s = c.args.self.now in
    let xs = c.literals.result.now in
    let e = c.literals.ensures in
    let r : rising 512 0 xs ≡ true = ap (rising 512 0) e ∙ s.rises in
    let some : 0 < length xs = search rules in
    let v = c.unsigned_abs-3.ensures.value in
    let n : s.len ≡ length xs = search rules in
    let l : c.args.variable ≡ read_variable (get_or xs (length xs - 1) (pos 0)) = search rules in
    ap (λ k. k - 1) n ∙ at_last xs r c.args.variable (get_or xs (length xs - 1) (pos 0)) some refl l ∙ ap (prefix_len (λ z. ltb (nat_abs z) c.args.variable)) e
