-- The weight of a place by the sizes of p and q, and the weights of a row in a table.
use Rattle.std.specs.Prelude.{◌≡◌, List, ℕ, ◌≤◌, ◌<◌, nat_abs, get_or}
use Rattle.cubemap.specs.declared.Format.{Format}
use Rattle.cubemap.specs.PlaceToRay.{from_centre}
use Rattle.cubemap.specs.Score.{weight}

-- W is the weight of each place whose p and q have these sizes
pub record WeightAt (format : Format) (A p q W : ℕ) : Type 0 where
  pub place : (m n : ℕ) → p ≡ nat_abs (from_centre A m) → q ≡ nat_abs (from_centre A n) → W ≡ weight format A m n

-- the table has the weights of row n of faces of size A. Nothing is said of the entries from A on.
pub record Weighed (format : Format) (A n : ℕ) (weights : List ℕ) : Type 0 where
  pub entry : (m : ℕ) → m < A → get_or weights m 0 ≡ weight format A m n

-- its first A entries are at most B
abbrev pub AtMost : ℕ → ℕ → List ℕ → Type 0
AtMost A B table = (m : ℕ) → m < A → get_or table m 0 ≤ B
