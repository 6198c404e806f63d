-- What the memories mean after a clause is put in or taken out.
use Rattle.std.proofs.Common.{◌≡◌, ℕ, ◌+◌, ◌-◌, ◌<◌, ◌≤◌, true, List, [], ◌∷◌, ◌++◌, length, get_or, take, drop, ℤ, sym, ap, ◌∙◌, arith}
use borrow.Rule.Slice.PartMut.{put_mid}
use Rattle.std.specs.List.{between}
use Rattle.std.proofs.lemmas.List.{take_all, take_at, drop_at, take_more, take-append-drop, length-append, length-take, length-drop, length-take-le, get_or-take, take-take}
use Rattle.std.proofs.lemmas.List.Edits.{length-between}
use Rattle.std.proofs.lemmas.Slice.{take-put_mid}
use Rattle.arena.specs.Splices.{opened, closed}
use Rattle.arena.specs.Layout.{entries, total, packed, repacked}
use Rattle.arena.specs.Contents.{live_records, live_literals, contents, limits_over}
use Rattle.arena.specs.declared.memory.Memory.{Memory}
use Rattle.arena.specs.declared.records.Record.{Record}
use Rattle.arena.proofs.Packs.{blank}
use Rattle.arena.proofs.Entries.{entries_append, entries_drop, total_append, packed_start, Changed, changed, between_live, length_repacked}

-- what the record at i adds to the sum of the widths
pub total_more : (rs : List Record) (i : ℕ) (d : Record) → i < length rs → total (take (i + 1) rs) ≡ total (take i rs) + (get_or rs i d).len
total_more rs i d h = ap total (take_more rs i d h) ∙ total_append (take i rs) (get_or rs i d ∷ []) ∙ omega arith

-- the sum of the widths up to i and from there on
pub total_split : (rs : List Record) (i : ℕ) → total rs ≡ total (take i rs) + total (drop i rs)
total_split rs i = ap total (sym (take-append-drop i rs)) ∙ total_append (take i rs) (drop i rs)

-- the live part z behind the first i records
pub tail_is : (live z rs : List Record) (i e : ℕ) → i ≤ length live → i ≤ e → take e rs ≡ take i live ++ z → between i e rs ≡ z
tail_is live z rs i e h k w =
    let l = length-take-le i live h in
    between_live rs i e k ∙ ap (drop i) w ∙ drop_at (take i live) z i l

-- the same with its beginnings written anew
pub tail_repacked : (live z rs ys : List Record) (i e at : ℕ) → i ≤ length live → i ≤ e → e ≤ length rs → take e rs ≡ take i live ++ z →
    ys ≡ repacked at (between i e rs) → take e (put_mid i (e - i) rs ys) ≡ take i live ++ repacked at z
tail_repacked live z rs ys i e at h k m w y =
    let b = tail_is live z rs i e h k w in
    let l = length-take-le i live h in
    let t = sym (take-take i e rs k) ∙ ap (take i) w ∙ take_at (take i live) z i l in
    let n : e ≡ i + length ys = omega (arith, ap length y, length_repacked at (between i e rs), length-between rs i e m) in
    let p = take-put_mid i (e - i) rs ys e n (omega arith) in
    cc

-- nothing else changes, nor their count
pub written_length : (rs ys : List Record) (i e at : ℕ) → i ≤ e → e ≤ length rs → ys ≡ repacked at (between i e rs) → length (put_mid i (e - i) rs ys) ≡ length rs
written_length rs ys i e at h k y =
    let n : length ys ≡ e - i = ap length y ∙ length_repacked at (between i e rs) ∙ length-between rs i e k in
    simp (length-append, length-take, length-drop) (omega arith)

-- a clause is put in
pub put_in : (rs : List Record) (ls lc : List ℤ) (i : ℕ) (r : Record) (rs' : List Record) (ls' : List ℤ) → total rs ≡ length ls → packed 0 rs ≡ true → r.len ≡ length lc →
    rs' ≡ take i rs ++ repacked (total (take i rs)) (r ∷ drop i rs) → ls' ≡ opened ls (total (take i rs)) lc →
    Changed rs' ls' (total rs + r.len) (opened (entries rs ls) i (record { number = r.number; lits = lc } ∷ []))
put_in rs ls lc i r rs' ls' s p w er el =
    let at = total (take i rs) in
    let g = changed rs (r ∷ drop i rs) rs' ls (lc ++ drop at ls) ls' i s p er el in
    let w1 : total (r ∷ []) ≡ length lc = omega arith in
    let e1 = entries_append (r ∷ []) (drop i rs) lc (drop at ls) w1 in
    let e2 = entries_drop i rs ls in
    let e3 = take_all r.len lc (omega arith) in
    let gm = g.means in
    let gs = g.sum in
    record { means = cc; packs = g.packs; sum = omega (arith, total_split rs i) }

-- a clause is taken out
pub take_out : (rs : List Record) (ls : List ℤ) (i : ℕ) (d : Record) (rs' : List Record) (ls' : List ℤ) → total rs ≡ length ls → packed 0 rs ≡ true → i < length rs →
    rs' ≡ take i rs ++ repacked (total (take i rs)) (drop (i + 1) rs) → ls' ≡ closed ls (total (take i rs)) (get_or rs i d).len →
    Changed rs' ls' (total rs - (get_or rs i d).len) (closed (entries rs ls) i 1)
take_out rs ls i d rs' ls' s p h er el =
    let at = total (take i rs) in
    let m = total_more rs i d h in
    let g = changed rs (drop (i + 1) rs) rs' ls (drop (at + (get_or rs i d).len) ls) ls' i s p er el in
    let e1 = entries_drop (i + 1) rs ls in
    let e2 = ap (λ n. drop n ls) m in
    let gm = g.means in
    let gs = g.sum in
    record { means = cc; packs = g.packs; sum = omega (arith, total_split rs (i + 1)) }

-- memories that are as long have the same limits
pub same_limits : (rs ls rs' ls' : ℕ) → rs ≡ rs' → ls ≡ ls' → limits_over rs ls ≡ limits_over rs' ls'
same_limits rs ls rs' ls' e f = cc

-- the same of the memories of an arena
module _ (m : Memory) (i : ℕ) where
  -- no beginning is past the literals in use
  pub start_inside : total (take i (live_records m)) ≤ m.used
  start_inside = omega (arith, total_split (live_records m) i, m.sum)

  -- the beginnings that are written after a record r is put in
  pub put_fits : (r : Record) (rs : List Record) → i ≤ m.count → take (m.count + 1) rs ≡ opened (live_records m) i (r ∷ []) →
      total (take i (live_records m)) + total (between i (m.count + 1) rs) ≡ m.used + r.len
  put_fits r rs h w =
      let l = length-take-le m.count m.records.now m.few in
      let b = ap total (tail_is (live_records m) (r ∷ drop i (live_records m)) rs i (m.count + 1) (omega arith) (omega arith) w) in
      omega (arith, total_split (live_records m) i, m.sum)

  -- what they mean then
  pub put_done : (lc : List ℤ) (r : Record) (rs ys : List Record) (ls : List ℤ) (n : ℕ) → i ≤ m.count → m.count < length m.records.now → length rs ≡ length m.records.now →
      length lc ≡ n → r.len ≡ n → take (m.count + 1) rs ≡ opened (live_records m) i (r ∷ []) →
      ys ≡ repacked (total (take i (live_records m))) (between i (m.count + 1) rs) →
      take (m.used + length lc) ls ≡ opened (live_literals m) (total (take i (live_records m))) lc →
      Changed (take (m.count + 1) (put_mid i (m.count + 1 - i) rs ys)) (take (m.used + n) ls) (m.used + n) (opened (contents m) i (record { number = r.number; lits = lc } ∷ []))
  put_done lc r rs ys ls n h k e c w f g q =
      let l = length-take-le m.count m.records.now m.few in
      let u = length-take-le m.used m.literals.now m.room in
      let t = tail_repacked (live_records m) (r ∷ drop i (live_records m)) rs ys i (m.count + 1) (total (take i (live_records m))) (omega arith) (omega arith) (omega arith) f g in
      let v = ap (λ k. take (m.used + k) ls) (sym c) ∙ q in
      let p = put_in (live_records m) (live_literals m) lc i r _ _ (m.sum ∙ sym u) m.packs (w ∙ sym c) t v in
      record { means = p.means; packs = p.packs; sum = p.sum ∙ omega (arith, m.sum) }

  module _ (h : i < m.count) where
    -- where the record at i begins
    pub start_is : (get_or m.records.now i blank).start ≡ total (take i (live_records m))
    start_is =
        let l = length-take-le m.count m.records.now m.few in
        let s = packed_start 0 i (live_records m) blank m.packs (omega arith) in
        let g = ap (λ (r : Record). r.start) (get_or-take m.count m.records.now i blank h) in
        omega arith

    -- its literals are among those in use
    pub row_inside : (get_or m.records.now i blank).start + (get_or m.records.now i blank).len ≤ m.used
    row_inside =
        let l = length-take-le m.count m.records.now m.few in
        let s = start_is in
        let t = total_more (live_records m) i blank (omega arith) in
        let g = ap (λ (r : Record). r.len) (get_or-take m.count m.records.now i blank h) in
        omega (arith, total_split (live_records m) (i + 1), m.sum)

    -- the beginnings that are written after the record is taken out
    pub cut_fits : (rs : List Record) → take (m.count - 1) rs ≡ closed (live_records m) i 1 → (get_or m.records.now i blank).start + total (between i (m.count - 1) rs) ≤ m.used
    cut_fits rs w =
        let l = length-take-le m.count m.records.now m.few in
        let s = start_is in
        let t = total_more (live_records m) i blank (omega arith) in
        let b = ap total (tail_is (live_records m) (drop (i + 1) (live_records m)) rs i (m.count - 1) (omega arith) (omega arith) w) in
        omega (arith, total_split (live_records m) (i + 1), m.sum)

    -- what they mean then
    pub cut_done : (rs ys : List Record) (ls : List ℤ) (b n : ℕ) → b ≡ (get_or m.records.now i blank).start → n ≡ (get_or m.records.now i blank).len →
        take (m.count - 1) rs ≡ closed (live_records m) i 1 → length rs ≡ length m.records.now →
        ys ≡ repacked (get_or m.records.now i blank).start (between i (m.count - 1) rs) →
        take (m.used - n) ls ≡ closed (live_literals m) b n →
        Changed (take (m.count - 1) (put_mid i (m.count - 1 - i) rs ys)) (take (m.used - n) ls) (m.used - n) (closed (contents m) i 1)
    cut_done rs ys ls b n eb en f e g q =
        let live = live_records m in
        let l = length-take-le m.count m.records.now m.few in
        let u = length-take-le m.used m.literals.now m.room in
        let few = m.few in
        let s = start_is in
        let w : n ≡ (get_or live i blank).len = en ∙ ap (λ (r : Record). r.len) (sym (get_or-take m.count m.records.now i blank h)) in
        let y : ys ≡ repacked (total (take i live)) (between i (m.count - 1) rs) = g ∙ ap (λ a. repacked a (between i (m.count - 1) rs)) s in
        let t = tail_repacked live (drop (i + 1) live) rs ys i (m.count - 1) (total (take i live)) (omega arith) (omega arith) (omega arith) f y in
        let v : take (m.used - n) ls ≡ closed (live_literals m) (total (take i live)) (get_or live i blank).len =
        q ∙ ap (λ a. closed (live_literals m) a n) (eb ∙ s) ∙ ap (closed (live_literals m) (total (take i live))) w in
        let p = take_out live (live_literals m) i blank _ _ (m.sum ∙ sym u) m.packs (omega arith) t v in
        record { means = p.means; packs = p.packs; sum = p.sum ∙ omega (arith, m.sum) }
