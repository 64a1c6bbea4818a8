-- A table filled entry by entry.
use mathlib.Core.Path.{sym, subst}
use mathlib.Core.Logic.{inl, inr}
use mathlib.Core.List.{List}
use Prim.Native.Nat.{ℕ, ◌+◌, ◌≤◌, ◌<◌}
use native.Mathlib.Nat.{eq-or-lt_of_le}
use native.Mathlib.Omega.{arith}
use lib.ListN.{length, get_or, set}
use lib.Seq.{get_or-set_same, get_or-set_other}

module _ {X : Type 0} {from j : ℕ} (table : List X) (v d : X) where
  -- an entry more: what holds of each entry from number `from` up to number j holds up to j + 1 where it holds of the new one
  pub entries_next : (P : ℕ → X → Type 0) → j < length table → ((i : ℕ) → from ≤ i → i < j → P i (get_or table i d)) → P j v
      → (i : ℕ) → from ≤ i → i < j + 1 → P i (get_or (set table j v) i d)
  entries_next P inside before is i h k =
      let at_most : i ≤ j = omega (arith, k) in
      elim (eq-or-lt_of_le at_most) [
        | inl e ↦ subst (λ i. P i (get_or (set table j v) i d)) (sym e) (subst (P j) (sym (get_or-set_same table j v d inside)) is)
        | inr u ↦ subst (P i) (sym (get_or-set_other table j i v d (λ e. absurd (omega (arith, u, e))))) (before i h u)
      ]
