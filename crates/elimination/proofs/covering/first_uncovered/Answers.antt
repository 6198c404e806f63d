use Rattle.std.proofs.Common.{◌≡◌, length, replicate, ap, ◌∙◌, rules}
use Rattle.elimination.proofs.covering.first_uncovered.Goals as goal

pub pair_covered-requires : goal.pair_covered-requires
pair_covered-requires g c = c.of-marks.ensures.held c.loop-first.invariant.3

pub returns-then-not-pair_covered-clause-marks : goal.returns-then-not-pair_covered-clause-marks
returns-then-not-pair_covered-clause-marks g c =
    let n = c.of-marks.ensures.same in
    let d : c.drop-marks.new.self.0 ≡ replicate 1024 0 = c.drop-marks.ensures ∙ ap (λ n. replicate n 0) (c.of-marks.ensures.len ∙ ap length c.loop-first.invariant.3) in
    search rules

pub loop-first-preserved : goal.loop-first-preserved
loop-first-preserved g c =
    let n = c.of-marks.ensures.same in
    let d : c.drop-marks-in-loop-first.new.self.0 ≡ replicate 1024 0 = c.drop-marks-in-loop-first.ensures ∙ ap (λ n. replicate n 0) (c.of-marks.ensures.len ∙ ap length c.loop-first.invariant.3) in
    search rules
