use Rattle.std.proofs.Common.{◌≡◌, map, ap, ◌∙◌, rules}
use Rattle.std.proofs.lemmas.List.Sorted.{answers_always}
use Rattle.database.specs.Places.{numbers}
use Rattle.database.proofs.Places.{search_is, searched}
use Rattle.arena.specs.Contents.{live_records, live_literals, contents}
use Rattle.arena.proofs.Entries.{same_numbers}
use Rattle.arena.proofs.arena.Arena.place.Goals as goal

-- the closure gives a record's number
pub returns : goal.returns
returns c =
    let s = c.args.self.now in
    let f = c.binary_search_by_key.ensures in
    let xs = c.live.result.now in
    let same : map (λ x. x.number) xs ≡ numbers (contents s.memory) = ap (map (λ x. x.number)) c.live.ensures ∙ same_numbers (live_records s.memory) (live_literals s.memory) in
    let p = search_is (λ x. x.number) 512 64 xs (contents s.memory) same s.kept c.args.number.value c.binary_search_by_key.result f.bound (f.position (λ x. x.number) (answers_always _ _ _ (λ f a r g called. search rules))) in
    let k = searched 512 64 0 c.args.number.value (contents s.memory) _ s.kept p in
    record { place = p; within = k.within; known = k.known; lits = k.lits; rest = k.rest }
