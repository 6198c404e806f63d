use Rattle.std.proofs.Common.{◌≡◌, true, ltb, leb, nat_abs, ap, ◌∙◌, rules}
use Rattle.std.proofs.lemmas.Iterator.{YieldsList-from_slice}
use Rattle.std.proofs.lemmas.Iterator.Search.{position_from_yields_List}
use Rattle.std.proofs.lemmas.List.Sorted.{IsPartitionPoint-from_clause}
use Rattle.std.specs.List.{prefix_len}
use borrow.Author.Tests.{tests}
use Rattle.words.specs.Clauses.{rising}
use Rattle.words.proofs.Locating.{read_variable, walked, searched}
use Rattle.words.proofs.clause.Clause.place_inside.Goals as goal

pub returns-then-literals-le8 : goal.returns-then-literals-le8
returns-then-literals-le8 c =
    let s = c.args.self.now in
    let xs = c.literals-literals.result.now in
    let e = c.literals-literals.ensures in
    let r : rising 512 0 xs ≡ true = ap (rising 512 0) e ∙ s.rises in
    let p = position_from_yields_List (λ z. leb c.args.variable (read_variable z)) _ _ c.position.result c.position.ensures.ran (YieldsList-from_slice xs cc) (λ x b q k. (search (rules, tests), search (rules, tests))) in
    let w = walked xs r c.args.variable c.position.result p in
    let q = ap (prefix_len (λ z. ltb (nat_abs z) c.args.variable)) e in
    search rules

pub returns-else-literals-le8 : goal.returns-else-literals-le8
returns-else-literals-le8 c =
    let s = c.args.self.now in
    let xs = c.literals-literals.result.now in
    let e = c.literals-literals.ensures in
    let r : rising 512 0 xs ≡ true = ap (rising 512 0) e ∙ s.rises in
    let w = searched xs r c.args.variable c.partition_point.result c.partition_point.ensures.bound
    (λ q. IsPartitionPoint-from_clause (λ z. ltb (read_variable z) c.args.variable) _ _ c.partition_point.ensures.partitioned q (λ a r q k. search (rules, tests))) in
    w ∙ ap (prefix_len (λ z. ltb (nat_abs z) c.args.variable)) e
