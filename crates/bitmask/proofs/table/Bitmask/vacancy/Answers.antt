use Rattle.std.proofs.Common.{◌<◌, ◌≤◌, length, sym, ◌∙◌, eqb-true, arith, rules}
use Rattle.bitmask.specs.Meanings.{mask_limits, standing_in}
use Rattle.database.proofs.Bounds.{literals_bound}
use Rattle.database.proofs.Places.{found, missing}
use Rattle.bitmask.proofs.Faults.{fault_taken, fault_beyond, fault_full, no_fault}
use Rattle.bitmask.proofs.Tables.{as_many, put_entry, clause_width}
use Rattle.bitmask.proofs.table.Bitmask.vacancy.Goals as goal

pub returns-in_default-clause-fault : goal.returns-in_default-clause-fault
returns-in_default-clause-fault c =
    let s = standing_in c.args.self.now in
    fault_taken mask_limits s (put_entry c.args.number c.args.clause.now) (found c.args.number.value _ s c.in_default.ensures.place).present

pub returns-then-not-fits-clause-fault : goal.returns-then-not-fits-clause-fault
returns-then-not-fits-clause-fault c =
    let s = standing_in c.args.self.now in
    let free = (missing 64 64 0 c.args.number.value _ s c.args.self.now.kept c.in-Err.ensures.place).absent in
    fault_beyond mask_limits s (put_entry c.args.number c.args.clause.now) free (sym c.if-not-fits.ensures)

pub returns-then-is_full-clause-fault : goal.returns-then-is_full-clause-fault
returns-then-is_full-clause-fault c =
    let s = standing_in c.args.self.now in
    let free = (missing 64 64 0 c.args.number.value _ s c.args.self.now.kept c.in-Err.ensures.place).absent in
    let full : 256 ≤ length s = omega (arith, as_many c.args.self.now.slots.items, eqb-true (length c.args.self.now.slots.items) 256 (sym c.is_full.ensures.value ∙ c.if-is_full.true)) in
    fault_full mask_limits s (put_entry c.args.number c.args.clause.now) free (sym c.fits.ensures ∙ c.if-not-fits.false) (clause_width c.args.clause.now) full

pub returns-clause-fault : goal.returns-clause-fault
returns-clause-fault c =
    let s = standing_in c.args.self.now in
    let free = (missing 64 64 0 c.args.number.value _ s c.args.self.now.kept c.in-Err.ensures.place).absent in
    let b = literals_bound 64 64 0 s c.args.self.now.kept in
    let w = clause_width c.args.clause.now in
    let room : length s < 256 = let n : length c.args.self.now.slots.items < 256 = search rules in omega (arith, as_many c.args.self.now.slots.items) in
    no_fault mask_limits s (put_entry c.args.number c.args.clause.now) free (sym c.fits.ensures ∙ c.if-not-fits.false) w room (omega arith)
