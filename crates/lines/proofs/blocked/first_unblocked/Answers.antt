use Rattle.std.proofs.Common.{◌≡◌, not, ◌&&◌, neg_ℤ, ◌∙◌, ap, rules}
use Rattle.std.proofs.lemmas.Iterator.Consumers.{YieldsList-from_first}
use Rattle.std.proofs.lemmas.Iterator.Search.{find_from_yields_List}
use Rattle.std.specs.Option.{option_map}
use borrow.Author.Tests.{tests}
use Rattle.words.specs.Clauses.{has, opposed, resolvent}
use Rattle.words.specs.Meanings.{lits_of}
use Rattle.words.specs.Standing.{Entry}
use Rattle.database.specs.Walks.{above, entry_of}
use Rattle.lines.proofs.Judges.{unblocked_found}
use Rattle.lines.proofs.blocked.first_unblocked.Goals as goal

pub returns : goal.returns
returns g c =
    let z = c.args.pivot.value in
    let a = lits_of c.args.marks.now.clause in
    let s = g.D.ClauseDatabase.standing c.args.db.now in
    let f = find_from_yields_List (λ (e : Entry). has (neg_ℤ z) e.lits && not (opposed (resolvent z a e.lits))) c.find.new.self _ c.find.result c.find.ensures.ran
    (YieldsList-from_first entry_of (λ w. above w.above (g.D.ClauseDatabase.standing w.db.now)) s c.standing.ensures.all) (λ x b q k. search (rules, tests)) in
    let m : c.map.result ≡ option_map (λ (e : Entry). e.number) (option_map entry_of c.find.result) = search rules in
    m ∙ ap (option_map (λ (e : Entry). e.number)) f ∙ unblocked_found z a s
