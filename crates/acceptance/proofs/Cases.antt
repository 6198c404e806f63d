-- The worked cases: each history is gone through call by call, and every answer computes.
use Rattle.std.proofs.Common.{refl, arith}
use Rattle.words.specs.declared.fault.SessionFault.TheVariants.{Tautology, NotBlocked, NotCovered, Unmet}
use Rattle.acceptance.specs.Worked.{Happens, opposite_formula, resolvable_formula, eliminated_one_finished, listing_formula, listing_finished, WorkedCases}

-- the two formulas load
opposite_happens : Happens opposite_formula
opposite_happens = (((omega arith, (refl, refl)), (refl, refl)), refl)

resolvable_happens : Happens resolvable_formula
resolvable_happens = (((omega arith, (refl, refl)), (refl, refl)), refl)

-- variable 1 is eliminated, and the session finished
elimination_happens : Happens eliminated_one_finished
elimination_happens = ((opposite_happens, (refl, refl)), (refl, refl, refl, refl))

-- the listing loads, and its lines are accepted one by one
listing_formula_happens : Happens listing_formula
listing_formula_happens = ((((((omega arith, (refl, refl)), (refl, refl)), (refl, refl)), (refl, refl)), (refl, refl)), refl)

lines_happen : Happens listing_finished
lines_happen = ((((((listing_formula_happens, (refl, refl)), (refl, refl)), (refl, refl)), (refl, refl)), (refl, refl)), (refl, refl, refl, refl))

-- all cases
pub all_cases : WorkedCases
all_cases = record {
  resolvent_of_two = refl;
  opposite_resolvent_refused = (Tautology 1 2, (opposite_happens, (refl, refl)), refl);
  blocked_accepted = (opposite_happens, (refl, refl));
  unblocked_refused = (NotBlocked 2, (resolvable_happens, (refl, refl)), refl);
  uncovered_refused = (NotCovered 1 2, (resolvable_happens, (refl, refl)), refl);
  elimination_accepted = (opposite_happens, (refl, refl));
  nothing_stands = refl;
  zeros_restored = (elimination_happens, (refl, refl, refl));
  ones_restored = (elimination_happens, (refl, refl, refl));
  listing_happens = lines_happen;
  listing_leaves = refl;
  listing_restored = (lines_happen, (refl, refl, refl));
  listing_unmet = (Unmet 7, (lines_happen, (refl, refl, refl)), refl);
}
