use Rattle.std.proofs.Common.{sym, ◌∙◌, length}
use Rattle.elimination.proofs.Signed.{listed_hit, listed_miss}
use Rattle.elimination.proofs.signatures.SignatureTable.stands.Goals as goal

pub returns-then-lists : goal.returns-then-lists
returns-then-lists g c = c.if-lists.true ∙ listed_hit _ (length c.args.self.now.records.items) _ (sym c.lists.ensures ∙ c.if-lists.true)

pub returns-else-lists : goal.returns-else-lists
returns-else-lists g c =
    c.stands_above.ensures ∙ listed_miss _ (length c.args.self.now.records.items) c.args.self.now.last _ c.args.self.now.beyond (sym c.lists.ensures ∙ c.if-lists.false)
