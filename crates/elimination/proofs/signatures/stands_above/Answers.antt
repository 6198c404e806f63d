use Rattle.std.proofs.lemmas.Iterator.Consumers.{YieldsList-from_first}
use Rattle.std.proofs.lemmas.Iterator.Search.{any_from_yields_List}
use borrow.Author.Tests.{tests}
use Rattle.std.proofs.Common.{◌∙◌, rules}
use Rattle.words.specs.Clauses.{equal}
use Rattle.words.specs.Meanings.{lits_of}
use Rattle.words.specs.Standing.{Entry}
use Rattle.database.specs.Walks.{above, entry_of}
use Rattle.elimination.proofs.Signed.{equal_told, equal_among}
use Rattle.elimination.proofs.signatures.stands_above.Goals as goal

pub returns : goal.returns
returns g c =
    let z = lits_of c.args.clause.now in
    let s = above c.args.after (g.D.ClauseDatabase.standing c.args.db.now) in
    any_from_yields_List (λ (e : Entry). equal e.lits z) c.any.new.self _ c.any.result c.any.ensures.ran
    (YieldsList-from_first entry_of (λ w. above w.above (g.D.ClauseDatabase.standing w.db.now)) s c.standing_above.ensures)
    (λ x b q k. search (rules, tests, equal_told)) ∙ equal_among z s
