use Rattle.std.proofs.Common.{eqb, length, [], ap, ◌∙◌, rules}
use Rattle.std.proofs.lemmas.Iterator.Consumers.{YieldsList-from_first}
use Rattle.std.proofs.lemmas.Iterator.Search.{any_from_yields_List}
use Rattle.std.specs.Int.{from_bool}
use borrow.Author.Tests.{tests}
use Rattle.words.specs.Standing.{Entry}
use Rattle.rules.specs.Lines.{some_equal}
use Rattle.database.specs.Walks.{above, entry_of}
use Rattle.session.proofs.Empties.{empty_among, as_number}
use Rattle.session.proofs.emptiness.empty_stands.Goals as goal

pub returns : goal.returns
returns g c =
    let s = g.D.ClauseDatabase.standing c.args.db.now in
    let e = any_from_yields_List (λ (e : Entry). eqb (length e.lits) 0) c.any-empty.new.self _ c.any-empty.result c.any-empty.ensures.ran
    (YieldsList-from_first entry_of (λ w. above w.above (g.D.ClauseDatabase.standing w.db.now)) s c.standing.ensures.all) (λ x b q k. search (rules, tests)) in
    c.from.ensures ∙ ap from_bool (e ∙ empty_among s) ∙ as_number (some_equal [] s)
