use Rattle.std.proofs.Common.{arith}
use Rattle.std.proofs.lemmas.Bool.Decides.{nat_tests}
use Rattle.reconstruction.specs.Stacks.{items}
use Rattle.reconstruction.specs.Saves.{numbers}
use Rattle.reconstruction.proofs.Places.{items_fit}
use Rattle.reconstruction.proofs.Shares.{length_saved, literals_saved}
use Rattle.reconstruction.proofs.saves.ReconstructionStack.fits.Goals as goal

pub returns-then-entries-room : goal.returns-then-entries-room
returns-then-entries-room c =
    let s = c.args.self.now in
    let n = length_saved (items s.entries) (numbers (items s.literals)) in
    let f = items_fit s.entries in
    grind (arith, nat_tests)

pub returns-then-literals-room : goal.returns-then-literals-room
returns-then-literals-room c =
    let s = c.args.self.now in
    let n = length_saved (items s.entries) (numbers (items s.literals)) in
    let m = literals_saved (items s.entries) (items s.literals) s.adds_up in
    let f = items_fit s.entries in
    let g = items_fit s.literals in
    grind (arith, nat_tests)

pub returns : goal.returns
returns c =
    let s = c.args.self.now in
    let n = length_saved (items s.entries) (numbers (items s.literals)) in
    let m = literals_saved (items s.entries) (items s.literals) s.adds_up in
    let f = items_fit s.entries in
    let g = items_fit s.literals in
    grind (arith, nat_tests)
