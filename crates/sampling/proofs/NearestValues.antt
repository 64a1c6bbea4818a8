-- The indices of the nearest samples, and the nearest samples of a stretch.
use mathlib.Core.Path.{◌≡◌, refl, sym, ◌∙◌, ap, subst}
use mathlib.Core.Bool.{Bool, true, false, cond}
use mathlib.Core.List.{List}
use Prim.Native.Nat.{ℕ, ◌+◌, ◌*◌, ◌<◌, ◌≤◌}
use native.Mathlib.Omega.{arith}
use lib.IntN.{ℤ}
use lib.ListN.{length, get_or}
use Rattle.cubemap.specs.declared.Located.{Located}
use Rattle.cubemap.specs.declared.Sampler.{Sampler}
use Rattle.cubemap.specs.RayToPlace.{located}
use Rattle.cubemap.specs.Samplers.{nearest_column, nearest_place}
use Rattle.cubemap.proofs.Nearest.{nearest-shifted, nearest-below, nearest_place-columns}
use Rattle.cubemap.proofs.Samplers.{nearest-value}
use Rattle.strides.specs.declared.Strides.{Strides}
use Rattle.strides.specs.FaceStrides.{strides_in, exchanged, runs_along, StridedFace, sample_by}
use Rattle.strides.proofs.StrideIndices.{exchanged-sample}
use Rattle.cubic.specs.declared.stretch.Stretch.{Stretch}
use Rattle.cubic.specs.declared.stretch.AlongRows.{AlongRows}
use Rattle.cubic.specs.PositionTables.{position_of, position_in, Reached, Positions, Filled}
use Rattle.cubic.specs.Stretches.{value_in, strides_of, IsAlong}
use Rattle.sampling.specs.NearestIndices.{nearest_index, nearest_on}

-- the nearest column is one of the face
nearest-ok : (A q : ℕ) → 1 ≤ A → Reached A q → nearest_column A (position_of q) < A
nearest-ok A q a h = subst (λ c. c < A) (sym (nearest-shifted A q (position_of q) refl)) (nearest-below A q a h)

-- so the indices are those of samples of the plane
pub in-plane : {A : ℕ} {plane : List ℕ} {s : Strides} {columns rows indices : List ℕ} → StridedFace A plane s → 1 ≤ A
    → Positions A columns rows → Filled (nearest_index A s) columns rows (length columns) indices
    → (j : ℕ) → j < length columns → 2 * get_or indices j 0 + 1 < length plane
in-plane {A} {columns = columns} {rows} p a q w j l =
    let x = nearest-ok A (get_or columns j 0) a (q.column-ok j l) in
    let y = nearest-ok A (get_or rows j 0) a (q.row_ok j l) in
    omega (arith, w.entry-is j l, p.leads.below _ _ x y, p.whole)

-- the nearest sample by the strides of face f in a table
module _ (A f : ℕ) (plane : List ℕ) (table : List Strides) (s : Strides) (e : s ≡ strides_in table f) (x y : ℤ) where
  pub nearest-on-face : nearest_on plane s A x y ≡ sample_by plane table (nearest_place A (located f x y))
  nearest-on-face =
      ap (λ s. nearest_on plane s A x y) e ∙ ap (sample_by plane table) (nearest_place-columns A (located f x y))

  -- with columns and rows exchanged
  pub nearest-exchanged : {t : Strides} → t ≡ exchanged s
      → nearest_on plane t A y x ≡ sample_by plane table (nearest_place A (located f x y))
  nearest-exchanged d =
      ap (λ t. nearest_on plane t A y x) d
      ∙ exchanged-sample plane s (nearest_column A y) (nearest_column A x) ∙ nearest-on-face

-- the nearest sample along the rows of the frame is that of the stretch
pub nearest-along : {s : Stretch} {r : AlongRows} (j : ℕ) → IsAlong s r
    → nearest_on r.face.bytes.now r.face.strides r.face.size (position_in r.columns.now j) (position_in r.rows.now j)
    ≡ value_in Sampler.Nearest s j
nearest-along {s} {r} j e =
    (λ i. nearest_on (e.same_bytes i) (e.strides-are i) (e.same_size i) (position_in (e.columns-are i) j)
    (position_in (e.rows-are i) j))
    ∙ go (runs_along g)
    ∙ nearest-value A s.source.depth (sample_by plane table) position
  where
    g : Strides
    g = strides_of s

    A : ℕ
    A = s.source.plane.size

    plane : List ℕ
    plane = s.source.plane.bytes.now

    table : List Strides
    table = s.source.plane.strides.now

    position : Located
    position = located s.face (position_in s.columns.now j) (position_in s.rows.now j)

    x : ℤ
    x = position_in s.columns.now j

    y : ℤ
    y = position_in s.rows.now j

    go : (b : Bool)
        → nearest_on plane (cond b g (exchanged g)) A (position_in (cond b s.columns.now s.rows.now) j)
        (position_in (cond b s.rows.now s.columns.now) j)
        ≡ sample_by plane table (nearest_place A position)
    go true = nearest-on-face A s.face plane table g refl x y
    go false = nearest-exchanged A s.face plane table g refl x y refl
