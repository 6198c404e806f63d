use Rattle.std.proofs.Common.{◌≡◌, map, ap, ◌∙◌, rules}
use Rattle.std.proofs.lemmas.List.Sorted.{answers_always}
use Rattle.bitmask.specs.Meanings.{standing_in}
use Rattle.database.specs.Places.{numbers}
use Rattle.database.proofs.Places.{search_is, searched}
use Rattle.bitmask.proofs.Tables.{same_numbers}
use Rattle.bitmask.proofs.table.Bitmask.place.Goals as goal

-- the closure gives a slot's number
pub returns : goal.returns
returns c =
    let s = c.args.self.now in
    let f = c.binary_search_by_key.ensures in
    let xs = c.as_slice-slots.result.now in
    let same : map (λ x. x.number) xs ≡ numbers (standing_in s) = ap (map (λ x. x.number)) c.as_slice-slots.ensures.value ∙ same_numbers s.slots.items in
    let p = search_is (λ x. x.number) 64 64 xs (standing_in s) same s.kept c.args.number.value c.binary_search_by_key.result f.bound (f.position (λ x. x.number) (answers_always _ _ _ (λ f a r g called. search rules))) in
    let k = searched 64 64 0 c.args.number.value (standing_in s) _ s.kept p in
    record { place = p; within = k.within; known = k.known; rest = k.rest }
