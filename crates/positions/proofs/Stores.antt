-- Bytes stored in a memory from its front on.
use Rattle.std.proofs.Common.{◌≡◌, ℕ, suc, ◌^◌, ◌<◌, List, [], ◌∷◌, length, set, refl, ap, ◌∙◌}
use lib.Seq.{sets}
use Rattle.output.specs.declared.Output.{Output}
use Rattle.output.specs.Puts.{Puts}
use Rattle.output.proofs.Putting.{put_stored}
use Rattle.positions.specs.Values.{fronted}

-- from the second place on, the first byte stays
sets_behind : (o : ℕ) (old : List ℕ) (i : ℕ) (bs : List ℕ) → sets (o ∷ old) (suc i) bs ≡ o ∷ sets old i bs
sets_behind o old i [] = refl
sets_behind o old i (b ∷ bs) = sets_behind o (set old i b) (suc i) bs

-- nothing is stored in a memory without a byte
sets_nowhere : (i : ℕ) (bs : List ℕ) → sets [] i bs ≡ []
sets_nowhere i [] = refl
sets_nowhere i (b ∷ bs) = sets_nowhere (suc i) bs

-- stored one after another from the first place on, they are its front
pub sets_fronted : (bs old : List ℕ) → sets old 0 bs ≡ fronted bs old
sets_fronted [] old = refl
sets_fronted (b ∷ bs) [] = sets_nowhere 1 bs
sets_fronted (b ∷ bs) (o ∷ old) = sets_behind b old 0 bs ∙ ap (◌∷◌ b) (sets_fronted bs old)

-- a text that was put from the start on stands at the front
pub put_fronted : (text : List ℕ) → length text < 2 ^ 64 → {o p : Output} → o.len ≡ 0 → Puts text o p → p.bytes.now ≡ fronted text o.bytes.now
put_fronted text short {o = o} start puts = put_stored text short start puts ∙ sets_fronted text o.bytes.now
