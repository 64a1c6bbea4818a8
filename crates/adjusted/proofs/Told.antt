-- T + 32 told column by column in the place of its sum, and the flags that are gathered on the way.
use mathlib.Core.Path.{◌≡◌}
use mathlib.Core.Bool.{Bool, true}
use mathlib.Core.List.{List}
use Prim.Native.Nat.{ℕ, ◌≤◌, ◌<◌}
use native.Mathlib.Omega.{arith}
use lib.ListN.{length, get_or}
use Rattle.adjusted.specs.Adjusted.{IsPosition, Adjusted}

module _ (A : ℕ) (sums distances : List ℕ) where
  -- where the flags are low, the entries before j are there; from j on, the sums are
  pub record Reached (brackets sizes j : ℕ) (table : List ℕ) : Type 0 where
    pub whole : length table ≡ length sums
    pub kept : (i : ℕ) → j ≤ i → get_or table i 0 ≡ get_or sums i 0
    pub told : brackets < 4611686018427387904 → sizes < 536870912 → (i : ℕ) → i < j
        → IsPosition A (get_or sums i 0) (get_or distances i 0) (get_or table i 0)

  -- at the end all are there, where a test tells that the flags are low
  pub reached-end : {brackets sizes j : ℕ} {table : List ℕ} {test : Bool} → Reached brackets sizes j table
      → length sums ≤ j → (test ≡ true → (brackets < 4611686018427387904) × (sizes < 536870912))
      → (test ≡ true → Adjusted A sums distances table) × (length table ≡ length sums)
  reached-end r h low =
      ((λ e. record { entry = λ i l. r.told (low e).0 (low e).1 i (omega arith) }), r.whole)
