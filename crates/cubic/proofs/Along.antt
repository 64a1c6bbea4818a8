-- The positions of a stretch along the rows of the frame: as many, and the same values.
use mathlib.Core.Path.{◌≡◌, refl, ◌∙◌, ap, subst}
use mathlib.Core.Bool.{Bool, true, false, cond}
use mathlib.Core.List.{List}
use Prim.Native.Nat.{ℕ}
use lib.ListN.{length}
use Rattle.arithmetic.proofs.Tests.{cond_both}
use Rattle.cubemap.specs.declared.Sampler.{Sampler}
use Rattle.strides.specs.declared.Strides.{Strides}
use Rattle.strides.specs.FaceStrides.{exchanged, runs_along}
use Rattle.cubic.specs.declared.stretch.Stretch.{Stretch}
use Rattle.cubic.specs.declared.stretch.AlongRows.{AlongRows}
use Rattle.cubic.specs.InsideTaps.{Stored, StoredInside}
use Rattle.cubic.specs.Stretches.{value_in, strides_of, IsAlong}
use Rattle.cubic.proofs.CubicValues.{stored-exchanged, stored-on-face}

pub along-count : {s : Stretch} {r : AlongRows} → IsAlong s r → length r.columns.now ≡ length s.columns.now
along-count {s} {r} e =
    ap length e.columns-are
    ∙ cond_both (λ l. length l ≡ length s.columns.now) (runs_along (strides_of s)) s.columns.now s.rows.now (λ t. refl)
    (λ f. s.positions.same_count)

pub stored-in : {s : Stretch} {r : AlongRows} {from to : ℕ} {before after : List ℕ} → IsAlong s r
    → StoredInside r.face.size r.depth r.face.bytes.now r.face.strides r.columns.now r.rows.now from to before after
    → Stored (value_in Sampler.Cubic s) from to before after
stored-in {s} {r} {from} {to} {before} {after} e w =
    go (runs_along g) (subst (λ X. X) (λ i. StoredInside (e.same_size i) (e.same_depth i) (e.same_bytes i)
    (e.strides-are i) (e.columns-are i) (e.rows-are i) from to before after) w)
  where
    g : Strides
    g = strides_of s

    go : (b : Bool)
        → StoredInside s.source.plane.size s.source.depth s.source.plane.bytes.now (cond b g (exchanged g))
        (cond b s.columns.now s.rows.now) (cond b s.rows.now s.columns.now) from to before after
        → Stored (value_in Sampler.Cubic s) from to before after
    go true w = stored-on-face s.face s.source.plane.strides.now refl w
    go false w = stored-on-face s.face s.source.plane.strides.now refl (stored-exchanged refl w)
