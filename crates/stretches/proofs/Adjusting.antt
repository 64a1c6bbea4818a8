-- The tables of a stretch's numbers: what the crates of ACP ask of them holds, and what they give is T + 32 of the
-- stretch.
use mathlib.Core.Path.{◌≡◌, sym, ◌∙◌, ap₂}
use mathlib.Core.List.{List}
use Prim.Native.Nat.{ℕ, ◌<◌}
use native.Mathlib.Omega.{arith}
use lib.IntN.{ℤ, pos, ◌-ℤ◌}
use lib.ListN.{length, get_or}
use Rattle.adjusted.specs.Adjusted.{Sums, Adjusted}
use Rattle.cubemap.specs.declared.Format.{Format}
use Rattle.cubemap.specs.RayToPlace.{position64}
use Rattle.positions.specs.declared.Line.{Line}
use Rattle.positions.specs.RayLines.{line_at, sum_line, coordinate_at, Stretch, Positioned}
use Rattle.stretches.specs.Numbers.{Numbers}
use Rattle.stretches.proofs.Walking.{sum-most, less-distance, sum-ahead}

module _ {A : ℕ} {line distance : Line} {coordinates : List ℤ} (s : Stretch A line distance coordinates)
    {distances : List ℕ} (d : Numbers distance coordinates distances) where
  module _ {sums : List ℕ} (n : Numbers (sum_line line distance) coordinates sums)
      (e : length sums ≡ length coordinates) where
    pub sums-are : Sums sums distances
    sums-are = record {
      ratio = λ j q. rw (n.entry j (omega arith), d.entry j (omega arith)) (sum-most s j (omega arith));
    }

    pub adjusted-positioned : {table : List ℕ} → Adjusted A sums distances table
        → Positioned Format.Acp A line distance coordinates table
    adjusted-positioned a = record {
      entry = λ j q. ap₂ (position64 Format.Acp A) (sym (x-is j q)) (sym (d.entry j q)) ∙ a.entry j (omega arith);
    }
      where
        -- x is what the sum has more than the distance
        x-is : (j : ℕ) → j < length coordinates
            → pos (get_or sums j 0) -ℤ pos (get_or distances j 0) ≡ line_at line (coordinate_at coordinates j)
        x-is j q =
            ap₂ (λ s d. pos s -ℤ pos d) (n.entry j q) (d.entry j q)
            ∙ ap₂ ◌-ℤ◌ ((sum-ahead s).ahead j q) (s.ahead j q) ∙ less-distance s j q
