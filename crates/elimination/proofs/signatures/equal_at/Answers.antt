use borrow.Author.Tests.{tests}
use Rattle.std.proofs.Common.{rules}
use Rattle.words.specs.Meanings.{lits_of}
use Rattle.elimination.proofs.Signed.{equal_option, equal_told}
use Rattle.elimination.proofs.signatures.equal_at.Goals as goal

pub returns : goal.returns
returns g c = equal_option (lits_of c.args.clause.now) c.clause.result _ c.is_some_and.result _ c.clause.ensures c.is_some_and.ensures (λ x k. search (rules, tests, equal_told))
