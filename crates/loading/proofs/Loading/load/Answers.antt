use Rattle.std.proofs.Common.{◌≡◌, ◌+◌, None, Option, refl, rules}
use Rattle.words.specs.declared.fault.SessionFault.{SessionFault}
use Rattle.words.specs.Checks.{fault_of, unless}
use Rattle.rules.specs.Loading.{load_fault, load_adds}
use Rattle.rules.specs.Histories.{after, load}
use Rattle.theory.proofs.Led.{load_leads, same_loading}
use Rattle.loading.specs.Meanings.{formula_variables, loaded_count}
use Rattle.loading.proofs.Loading.load.Goals as goal

pub returns-in_err-clause-clause-history : goal.returns-in_err-clause-clause-history
returns-in_err-clause-clause-history g c =
    let v = formula_variables c.args.self.now in
    let k = loaded_count c.args.self.now in
    let l = g.D.ClauseDatabase.limited c.args.db.now in
    let s = g.D.ClauseDatabase.standing c.args.db.now in
    let zs = c.args.list.now in
    let f = fault_of c.from_residual.result in
    let e : f ≡ load_fault v k l s zs = search rules in
    let n : k ≡ unless f (k + 1) k = search rules in
    let m : s ≡ unless f (load_adds k s zs) s = search rules in
    λ room saves h t. load_leads l room h v s saves k k s zs f t e n m

pub returns-in_err-put-clause-history : goal.returns-in_err-put-clause-history
returns-in_err-put-clause-history g c =
    let v = formula_variables c.args.self.now in
    let k = loaded_count c.args.self.now in
    let l = g.D.ClauseDatabase.limited c.args.db.now in
    let s = g.D.ClauseDatabase.standing c.args.db.now in
    let s' = g.D.ClauseDatabase.standing c.put.new.self in
    let zs = c.args.list.now in
    let f = fault_of c.from_residual-in_err-put.result in
    let e : f ≡ load_fault v k l s zs = search rules in
    let n : k ≡ unless f (k + 1) k = search rules in
    let m : s' ≡ unless f (load_adds k s zs) s = search rules in
    λ room saves h t. same_loading l _ room (after h (load zs f)) v v k s' saves c.put.ensures.limits refl (load_leads l room h v s saves k k s' zs f t e n m)

pub returns-clause-history : goal.returns-clause-history
returns-clause-history g c =
    let v = formula_variables c.args.self.now in
    let k = loaded_count c.args.self.now in
    let l = g.D.ClauseDatabase.limited c.args.db.now in
    let s = g.D.ClauseDatabase.standing c.args.db.now in
    let s' = g.D.ClauseDatabase.standing c.match-branch-2.db in
    let zs = c.args.list.now in
    let e : ◌≡◌ {A = Option SessionFault} None (load_fault v k l s zs) = search rules in
    let m : s' ≡ load_adds k s zs = search rules in
    let i : g.D.ClauseDatabase.limited c.match-branch-2.db ≡ l = search rules in
    λ room saves h t. same_loading l _ room (after h (load zs None)) v v (k + 1) s' saves i refl (load_leads l room h v s saves k (k + 1) s' zs None t e refl m)
