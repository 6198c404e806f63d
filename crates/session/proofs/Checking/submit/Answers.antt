use Rattle.std.proofs.Common.{◌≡◌, ◌++◌, None, Option, refl, ◌∙◌, rules}
use Rattle.words.specs.declared.fault.SessionFault.{SessionFault}
use Rattle.words.specs.Checks.{fault_of, unless}
use Rattle.rules.specs.Histories.{after, submit}
use Rattle.rules.specs.Lines.{line_gives, line_leaves, line_saves, one_more}
use Rattle.reconstruction.specs.Meanings.{saved, room_of}
use Rattle.theory.proofs.Led.{submit_leads, same_checking}
use Rattle.lines.specs.Submitting.{submit_fault}
use Rattle.lines.proofs.Submits.{line_judged}
use Rattle.session.specs.Meanings.{checking_variables, given_number, accepted_count}
use Rattle.session.proofs.Checking.submit.Goals as goal

-- a refused line
pub returns-in_err-carry_out-clause-history : goal.returns-in_err-carry_out-clause-history
returns-in_err-carry_out-clause-history g c =
    let v = checking_variables c.args.self.now in
    let k = given_number c.args.self.now in
    let n = accepted_count c.args.self.now in
    let l = g.D.ClauseDatabase.limited c.args.db.now in
    let s = g.D.ClauseDatabase.standing c.args.db.now in
    let s' = g.D.ClauseDatabase.standing c.carry_out.new.db in
    let room = room_of c.args.stack.now in
    let saves = saved c.args.stack.now in
    let saves' = saved c.carry_out.new.stack in
    let line = c.args.line.now in
    let f = fault_of c.from_residual.result in
    let e : f ≡ submit_fault c.args.marks.now l room k s saves line = search rules in
    let ek : k ≡ unless f (line_gives k line) k = search rules in
    let en : n ≡ unless f (one_more n) n = search rules in
    let es : s' ≡ unless f (line_leaves s line) s = search rules in
    let ew : saves' ≡ unless f (saves ++ line_saves s line) saves = search rules in
    λ clean h t. same_checking l _ room _ (after h (submit line f)) v v k n s' saves' c.carry_out.ensures.limits c.carry_out.ensures.room refl
    (submit_leads l room h v s saves k n k n s' saves' line f t (e ∙ line_judged c.args.marks.now l room k s saves line clean) ek en es ew)

-- an accepted one
pub returns-clause-history : goal.returns-clause-history
returns-clause-history g c =
    let v = checking_variables c.args.self.now in
    let k = given_number c.args.self.now in
    let n = accepted_count c.args.self.now in
    let l = g.D.ClauseDatabase.limited c.args.db.now in
    let s = g.D.ClauseDatabase.standing c.args.db.now in
    let s' = g.D.ClauseDatabase.standing c.carry_out.new.db in
    let room = room_of c.args.stack.now in
    let saves = saved c.args.stack.now in
    let saves' = saved c.carry_out.new.stack in
    let line = c.args.line.now in
    let e : ◌≡◌ {A = Option SessionFault} None (submit_fault c.args.marks.now l room k s saves line) = search rules in
    let es : s' ≡ line_leaves s line = search rules in
    let ew : saves' ≡ saves ++ line_saves s line = search rules in
    λ clean h t. same_checking l _ room _ (after h (submit line None)) v v c.given_after-self.result c.one_more-self.result s' saves' c.carry_out.ensures.limits c.carry_out.ensures.room refl
    (submit_leads l room h v s saves k n c.given_after-self.result c.one_more-self.result s' saves' line None t (e ∙ line_judged c.args.marks.now l room k s saves line clean) c.given_after-self.ensures c.one_more-self.ensures.value es ew)
