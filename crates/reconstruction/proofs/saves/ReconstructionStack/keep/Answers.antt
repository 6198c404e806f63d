use Rattle.std.proofs.Common.{◌≡◌, ◌++◌, length, ap, ◌∙◌, arith, w16, SFits, rules}
use Rattle.std.proofs.lemmas.Int.{to_z-of_z}
use Rattle.words.specs.Meanings.{lits_of}
use Rattle.reconstruction.specs.Stacks.{items}
use Rattle.reconstruction.specs.Saves.{numbers}
use Rattle.reconstruction.specs.Meanings.{room_of}
use Rattle.reconstruction.proofs.Shares.{zs_fit, one_fits, adds_up, saved_more}
use Rattle.reconstruction.proofs.saves.ReconstructionStack.keep.Goals as goal

pub push_literals-requires : goal.push_literals-requires
push_literals-requires c =
    let s = c.args.self.now in
    let z = ap length c.literals.ensures in
    let f = zs_fit (items s.entries) (items s.literals) c.args.pivot.value (lits_of c.args.clause.now) (room_of s) s.adds_up c.requires in
    omega arith

pub add-requires : goal.add-requires
add-requires c =
    let s = c.args.self.now in
    one_fits (items s.entries) (items s.literals) c.args.pivot.value (lits_of c.args.clause.now) (room_of s) s.adds_up c.requires

pub invariant_of-self : goal.invariant_of-self
invariant_of-self c =
    let s = c.args.self.now in
    let n : c.args.clause.now.len ≡ length (lits_of c.args.clause.now) = search rules in
    let f : SFits w16 c.args.pivot.value = search rules in
    let m = c.push_literals.ensures.items ∙ ap (λ zs. numbers (items s.literals) ++ zs) c.literals.ensures in
    record { adds_up = adds_up (items s.entries) (items s.literals) c.args.pivot.value (lits_of c.args.clause.now) (room_of s) s.adds_up c.requires _ _ _ c.add.ensures.items m (to_z-of_z w16 _ f) n }

pub returns : goal.returns
returns c =
    let s = c.args.self.now in
    let n : c.args.clause.now.len ≡ length (lits_of c.args.clause.now) = search rules in
    let f : SFits w16 c.args.pivot.value = search rules in
    let m = c.push_literals.ensures.items ∙ ap (λ zs. numbers (items s.literals) ++ zs) c.literals.ensures in
    record {
      saved = saved_more (items s.entries) (items s.literals) c.args.pivot.value (lits_of c.args.clause.now) (room_of s) s.adds_up c.requires _ _ _ c.add.ensures.items m (to_z-of_z w16 _ f) n;
      room = cc (c.add.ensures.capacity, c.push_literals.ensures.capacity);
    }
