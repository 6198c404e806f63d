use Rattle.std.proofs.Common.{◌≡◌, ◌<◌, ◌≤◌, true, length, ltb, pos, nat_abs, sym, ap, ◌∙◌, w16, of_z, arith, rules}
use Rattle.std.specs.List.{prefix_len}
use Rattle.words.specs.Clauses.{rising}
use Rattle.words.proofs.Locating.{read_variable, placed_present, placed_opposite, placed_free, placed_front}
use Rattle.words.proofs.clause.Clause.locate.Goals as goal

pub returns-in-Some-get-clause-spot : goal.returns-in-Some-get-clause-spot
returns-in-Some-get-clause-spot c =
    let s = c.args.self.now in
    let xs = c.literals-literals.result.now in
    let e = c.literals-literals.ensures in
    let r : rising 512 0 xs ≡ true = ap (rising 512 0) e ∙ s.rises in
    let n = c.place-at.ensures ∙ ap (prefix_len (λ z. ltb (nat_abs z) c.unsigned_abs-variable.result)) (sym e) in
    let k = c.in-Some-get.ensures.lookup.3 in
    let q : c.in-Some-get.x.now ≡ c.args.l.value = search rules in
    let g = placed_present xs r c.args.l.value c.args.l.low c.args.l.high c.unsigned_abs-variable.result c.unsigned_abs-variable.ensures.value c.place-at.result n k.0 (sym (k.1 (pos 0)) ∙ q) in
    search rules

pub returns-in-Some-2-clause-spot : goal.returns-in-Some-2-clause-spot
returns-in-Some-2-clause-spot c =
    let s = c.args.self.now in
    let xs = c.literals-literals.result.now in
    let e = c.literals-literals.ensures in
    let r : rising 512 0 xs ≡ true = ap (rising 512 0) e ∙ s.rises in
    let n = c.place-at.ensures ∙ ap (prefix_len (λ z. ltb (nat_abs z) c.unsigned_abs-variable.result)) (sym e) in
    let k = c.in-Some-get.ensures.lookup.3 in
    let u : read_variable c.in-Some-get.x.now ≡ c.unsigned_abs-variable.result = search rules in
    let g = placed_opposite xs r c.args.l.value c.args.l.low c.args.l.high c.unsigned_abs-variable.result c.unsigned_abs-variable.ensures.value c.place-at.result n k.0 (ap read_variable (sym (k.1 (pos 0))) ∙ u) (λ q. c.if-x-l.false (ap (of_z w16) (k.1 (pos 0) ∙ q))) in
    search rules

pub returns-in_default-clause-spot : goal.returns-in_default-clause-spot
returns-in_default-clause-spot c =
    let s = c.args.self.now in
    let xs = c.literals-literals.result.now in
    let e = c.literals-literals.ensures in
    let r : rising 512 0 xs ≡ true = ap (rising 512 0) e ∙ s.rises in
    let n = c.place-at.ensures ∙ ap (prefix_len (λ z. ltb (nat_abs z) c.unsigned_abs-variable.result)) (sym e) in
    let k = c.in-Some-get.ensures.lookup.3 in
    let u : read_variable c.in-Some-get.x.now ≡ c.unsigned_abs-variable.result → ⊥ = λ q. search rules in
    let g = placed_free xs r c.args.l.value c.args.l.low c.args.l.high c.unsigned_abs-variable.result c.unsigned_abs-variable.ensures.value c.place-at.result n (λ h q. u (ap read_variable (k.1 (pos 0)) ∙ q)) in
    search rules

pub returns-in_default-2-clause-spot : goal.returns-in_default-2-clause-spot
returns-in_default-2-clause-spot c =
    let s = c.args.self.now in
    let xs = c.literals-literals.result.now in
    let e = c.literals-literals.ensures in
    let r : rising 512 0 xs ≡ true = ap (rising 512 0) e ∙ s.rises in
    let n = c.place-at.ensures ∙ ap (prefix_len (λ z. ltb (nat_abs z) c.unsigned_abs-variable.result)) (sym e) in
    let k : length xs ≤ c.place-at.result = search rules in
    let g = placed_free xs r c.args.l.value c.args.l.low c.args.l.high c.unsigned_abs-variable.result c.unsigned_abs-variable.ensures.value c.place-at.result n (λ h q. absurd (omega arith)) in
    search rules

pub returns-clause-spot : goal.returns-clause-spot
returns-clause-spot c =
    let s = c.args.self.now in
    let xs = c.literals-literals.result.now in
    let e = c.literals-literals.ensures in
    let r : rising 512 0 xs ≡ true = ap (rising 512 0) e ∙ s.rises in
    let some : 0 < length xs = search rules in
    let l : c.unsigned_abs-variable.result < read_variable c.in-Some.first.now = search rules in
    let g = placed_front xs r c.args.l.value c.args.l.low c.args.l.high c.unsigned_abs-variable.result c.unsigned_abs-variable.ensures.value c.in-Some.first.now some (search rules) l in
    search rules
