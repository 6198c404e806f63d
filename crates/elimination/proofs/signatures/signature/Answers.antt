use Rattle.std.proofs.Common.{ℕ, ◌+◌, ◌*◌, ◌%◌, ◌^◌, ℤ, ◌∙◌, rules}
use Rattle.std.proofs.lemmas.Iterator.Consumers.{YieldsList-from_first, fold_from_yields_List}
use Rattle.words.specs.Marks.{mark_place}
use Rattle.words.specs.Meanings.{lits_of}
use Rattle.elimination.proofs.Signed.{signature_folded}
use Rattle.elimination.proofs.signatures.signature.Goals as goal

pub returns : goal.returns
returns c =
    fold_from_yields_List _ (λ (h : ℕ) (x : ℤ). (h * 1000003 % 2 ^ 64 + mark_place 512 x) % 2 ^ 64) 1 c.fold.result c.fold.ensures.ran
    (YieldsList-from_first (λ l. l.value) (λ s. s.rest.now) (lits_of c.args.clause.now) c.into_iter.ensures.into_iter_gives) (λ a x b q k. search rules) ∙ signature_folded 1 (lits_of c.args.clause.now)
