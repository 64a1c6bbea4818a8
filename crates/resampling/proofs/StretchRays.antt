-- The rays of a stretch: on the one face that they meet, the numbers of Table 4 are ratios of at most 1 that change
-- evenly, and the positions that these give are where the rays fall.
use mathlib.Core.Path.{◌≡◌, sym, ◌∙◌, ap, ap₂, subst}
use mathlib.Core.List.{List}
use Prim.Native.Nat.{ℕ, ◌*◌, ◌≤◌, ◌<◌}
use native.Mathlib.Omega.{arith}
use lib.IntN.{ℤ, pos, nat_abs}
use lib.ListN.{length, take, get_or}
use lib.Seq.{get_or-take}
use Rattle.cubemap.specs.declared.Format.{Format}
use Rattle.cubemap.specs.declared.Ray.{Ray}
use Rattle.cubemap.specs.RayToPlace.{chosen_size, across, down, position64, located, locate}
use Rattle.cubemap.proofs.Ranges.{ray-range}
use Rattle.cubemap.proofs.Faces.{toward, Chosen, chosen, chosen-toward, Ratios, chosen-ratios, RowWithin, row_within}
use Rattle.cubemap.proofs.Locate.{locate-is}
use Rattle.cubemap.proofs.Positions.{position-fits}
use Rattle.cubemap.proofs.Regions.{toward-along, across-along, down-along}
use Rattle.positions.specs.RayLines.{line_at, coordinate_at, LineInRange, Stretch, Positioned}
use Rattle.positions.specs.Ratios.{Ratio}
use Rattle.cubic.specs.PositionTables.{position_of, position_in, Positions}
use Rattle.cubic.proofs.PositionTables.{reached-on-face}
use Rattle.resampling.specs.declared.RowRays.{RowRays}
use Rattle.resampling.specs.RowOfRays.{ray_at, RowReady, OneFace, line_of}

module _ (A : ℕ) (a : A ≤ 512) {r : RowRays} {coordinates : List ℤ} (row : RowReady r coordinates)
    {face : ℕ} (one : OneFace r coordinates face 0 (length coordinates)) where
  abbrev count : ℕ
  count = length coordinates

  abbrev coordinate : ℕ → ℤ
  coordinate j = coordinate_at coordinates j

  abbrev ray : ℕ → Ray
  ray j = ray_at r (coordinate j)

  -- a number of the rays, and the distance, along the stretch
  abbrev Stretched : (Ray → ℤ) → Type 0
  Stretched number = Stretch A (line_of r number) (line_of r (toward face)) coordinates

  -- what is known at a column
  module _ (j : ℕ) (h : j < count) where
    on-face : Chosen face (ray j)
    on-face = subst (λ f. Chosen f (ray j)) (one.meets j (omega arith) h) (chosen (ray j) (row.leads j h).nonzero)

    ratios : Ratios 536870911 face (ray j)
    ratios = chosen-ratios (ray-range (ray j) (row.leads j h).in-range) on-face

    distance_is : nat_abs (line_at (line_of r (toward face)) (coordinate j)) ≡ chosen_size face (ray j)
    distance_is = ap nat_abs (sym (toward-along face r.start (coordinate j) r.slope)) ∙ chosen-toward face (ray j)

    ratio : (number : Ray → ℤ) → number (ray j) ≡ line_at (line_of r number) (coordinate j)
        → nat_abs (number (ray j)) ≤ chosen_size face (ray j)
        → Ratio A (line_at (line_of r number) (coordinate j)) (nat_abs (line_at (line_of r (toward face)) (coordinate j)))
    ratio number even b = record {
      size-most = a;
      positive = rw distance_is ratios.positive;
      bounded = rw distance_is ratios.bounded;
      at-most-1 = rw (distance_is, sym even) b;
    }

    ahead : pos (nat_abs (line_at (line_of r (toward face)) (coordinate j))) ≡ line_at (line_of r (toward face))
        (coordinate j)
    ahead = ap pos distance_is ∙ sym on-face.ahead ∙ toward-along face r.start (coordinate j) r.slope

  -- both numbers of a line are those of a ray within question 13
  in-range : (number : Ray → ℤ) → nat_abs (number r.start) ≤ 536870911 → nat_abs (number r.slope) ≤ 536870911
      → LineInRange (line_of r number)
  in-range number h k = record { start_small = h; slope-small = k }

  s : RowWithin 536870911 face r.start
  s = row_within face r.start (ray-range r.start row.in-range.start-ok)

  t : RowWithin 536870911 face r.slope
  t = row_within face r.slope (ray-range r.slope row.in-range.slope-ok)

  stretched : (number : Ray → ℤ) → LineInRange (line_of r number)
      → ((j : ℕ) → j < count
      → Ratio A (line_at (line_of r number) (coordinate j)) (nat_abs (line_at (line_of r (toward face)) (coordinate j))))
      → Stretched number
  stretched number e each = record {
    size-most = a;
    few = row.few;
    line_ok = e;
    distance-ok = in-range (toward face) s.toward-in t.toward-in;
    small = row.small;
    ahead = ahead;
    ratio = each;
  }

  pub across-stretch : Stretched (across face)
  across-stretch = stretched (across face) (in-range (across face) s.across-in t.across-in)
      (λ j h. ratio j h (across face) (across-along face r.start (coordinate j) r.slope) (ratios j h).across-ok)

  pub down-stretch : Stretched (down face)
  down-stretch = stretched (down face) (in-range (down face) s.down-in t.down-in)
      (λ j h. ratio j h (down face) (down-along face r.start (coordinate j) r.slope) (ratios j h).down-ok)

  -- the positions found along it, the first numbers of a table of columns and of one of rows
  module _ {format : Format} {across-table down-table columns rows : List ℕ}
      (across-found : Positioned format A (line_of r (across face)) (line_of r (toward face)) coordinates across-table)
      (down-found : Positioned format A (line_of r (down face)) (line_of r (toward face)) coordinates down-table)
      {n : ℕ} (all : n ≡ count)
      (c : (columns ≡ take n across-table) × (length columns ≡ n))
      (d : (rows ≡ take n down-table) × (length rows ≡ n)) where
    module _ (j : ℕ) (h : j < count) where
      column-is : position_in columns j ≡ position64 format A (across face (ray j)) (chosen_size face (ray j))
      column-is =
          ap position_of (ap (λ l. get_or l j 0) c.0 ∙ get_or-take n across-table j 0 (omega (arith, h, all)))
          ∙ sym (across-found.entry j h)
          ∙ ap₂ (position64 format A) (sym (across-along face r.start (coordinate j) r.slope)) (distance_is j h)

      row_is : position_in rows j ≡ position64 format A (down face (ray j)) (chosen_size face (ray j))
      row_is =
          ap position_of (ap (λ l. get_or l j 0) d.0 ∙ get_or-take n down-table j 0 (omega (arith, h, all)))
          ∙ sym (down-found.entry j h)
          ∙ ap₂ (position64 format A) (sym (down-along face r.start (coordinate j) r.slope)) (distance_is j h)

      pub located-at : located face (position_in columns j) (position_in rows j) ≡ locate format A (ray j)
      located-at =
          ap₂ (located face) column-is row_is ∙ sym (locate-is format A (ray j) face (one.meets j (omega arith) h))

      column_fits : get_or columns j 0 ≤ 64 * A
      column_fits = position-fits format A (across face (ray j)) (chosen_size face (ray j)) (get_or columns j 0)
          (ratios j h).across-ok (ratios j h).positive (sym column-is)

      row_fits : get_or rows j 0 ≤ 64 * A
      row_fits = position-fits format A (down face (ray j)) (chosen_size face (ray j)) (get_or rows j 0)
          (ratios j h).down-ok (ratios j h).positive (sym row_is)

    pub positions : Positions A columns rows
    positions = record {
      column-ok = λ j h. reached-on-face A (get_or columns j 0) (column_fits j (omega (arith, h, c.1, all)));
      row_ok = λ j h. reached-on-face A (get_or rows j 0) (row_fits j (omega (arith, h, c.1, all)));
      same_count = d.1 ∙ sym c.1;
      few = omega (arith, c.1, all, row.few);
    }
