-- Records whose beginnings are written anew.
use Rattle.std.proofs.Common.{◌≡◌, ℕ, ◌+◌, ◌<◌, ◌≤◌, List, [], ◌∷◌, ◌++◌, length, get_or, take, drop, set, ap, arith}
use Rattle.std.proofs.lemmas.List.{append_assoc, append-nil, drop_more, drop-set-lt, take_more_set, take_all, drop_all}
use Rattle.arena.specs.Layout.{total, repacked}
use Rattle.arena.specs.declared.records.Record.{Record}

-- what a read past the end would give
abbrev pub blank : Record
blank = record { number = 0; start = 0; len = 0 }

module _ (rs : List Record) (i at : ℕ) (h : i < length rs) where
  -- the record at i with its beginning written
  abbrev pub rewritten : Record
  rewritten = record { number = (get_or rs i blank).number; start = at; len = (get_or rs i blank).len }

  -- one record more is written
  pub repack_step : (n : ℕ) → n ≡ (get_or rs i blank).len → take (i + 1) (set rs i rewritten) ++ repacked (at + n) (drop (i + 1) (set rs i rewritten)) ≡ take i rs ++ repacked at (drop i rs)
  repack_step n e =
      let t = take_more_set rs i rewritten h in
      let d = drop-set-lt (i + 1) rs i rewritten (omega arith) in
      let q = drop_more rs i blank h in
      let a = append_assoc (take i rs) (rewritten ∷ []) (repacked (at + n) (drop (i + 1) rs)) in
      cc

  -- its literals fit
  pub fits_now : (most : ℕ) → at + total (drop i rs) ≤ most → at + (get_or rs i blank).len ≤ most
  fits_now most f = omega (arith, ap total (drop_more rs i blank h))

  -- and those to come
  pub fits_step : (n most : ℕ) → n ≡ (get_or rs i blank).len → at + total (drop i rs) ≤ most → at + n + total (drop (i + 1) (set rs i rewritten)) ≤ most
  fits_step n most e f = omega (arith, ap total (drop_more rs i blank h), ap total (drop-set-lt (i + 1) rs i rewritten (omega arith)))

-- at the end all are
pub repack_end : (rs : List Record) (i at : ℕ) → length rs ≤ i → take i rs ++ repacked at (drop i rs) ≡ rs
repack_end rs i at h =
    let t = take_all i rs h in
    let d = drop_all i rs h in
    let n = append-nil rs in
    cc
