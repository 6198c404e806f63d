use Rattle.std.proofs.Common.{◌≡◌, ◌+◌, true, false, [], ◌∷◌, get_or, drop, sym, ap, subst, ◌∙◌}
use Rattle.std.proofs.lemmas.Bool.{cond-true, cond-false}
use Rattle.std.proofs.lemmas.List.{drop_more, drop_all}
use Rattle.textlines.specs.Lines.{blank}
use Rattle.output.specs.Puts.{Puts}
use Rattle.output.proofs.Putting.{puts_none, puts_more, puts_all}
use Rattle.positions.specs.Values.{position_values}
use Rattle.positions.proofs.read.put_values.Goals as goal
use Rattle.positions.proofs.read.put_values.Goals.{then-not-is_blank, else-not-is_blank}

pub loop-byte-preserved : goal.loop-byte-preserved
loop-byte-preserved c =
    let bs = c.args.text.now in
    let i = c.loop-byte.byte-index in
    let test = blank (get_or bs i 0) in
    let next = drop_more bs i 0 c.loop-byte-test.true in
    elim c.if-not-is_blank.branch [
      | then-not-is_blank w ↦
          let t : test ≡ false = sym c.is_blank.ensures ∙ w.if-not-is_blank.true in
          let v = w.value_of.result in
          puts_more position_values bs (v ∷ []) next (cond-false test _ _ t ∙ ap (λ u. u ∷ position_values (drop (i + 1) bs)) (sym w.value_of.ensures))
          (subst (Puts (v ∷ []) c.loop-byte.out) (sym w.out-is) w.push.ensures) c.loop-byte.invariant
      | else-not-is_blank w ↦
          let t : test ≡ true = sym c.is_blank.ensures ∙ w.if-not-is_blank.false in
          puts_more position_values bs [] next (cond-true test _ _ t) (subst (Puts [] c.loop-byte.out) (sym w.out-is) (puts_none c.loop-byte.out)) c.loop-byte.invariant
    ]

pub returns : goal.returns
returns c = puts_all position_values c.args.text.now (drop_all c.loop-byte.byte-index c.args.text.now c.loop-byte-test.false) (puts_none _) c.loop-byte.invariant
