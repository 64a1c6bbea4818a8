-- The sum of the first entries of a table, as std and as the paper's sums have it.
use mathlib.Core.Path.{◌≡◌, refl, sym, ◌∙◌, ap}
use mathlib.Core.List.{List}
use Prim.Native.Nat.{ℕ, zero, suc, ◌+◌, ◌*◌, ◌≤◌, ◌<◌}
use native.Mathlib.Numerals.{add-one}
use native.Mathlib.Omega.{arith}
use lib.ListN.{length, get_or, take}
use Rattle.std.specs.List.{sum}
use Rattle.std.proofs.lemmas.List.Sums.{sum_by_more}
use Rattle.arithmetic.specs.Sums.{sum_below}
use Rattle.arithmetic.proofs.Sums.{sum-bounded}

pub sum-taken : (xs : List ℕ) (n : ℕ) → n ≤ length xs → sum (take n xs) ≡ sum_below (λ m. get_or xs m 0) n
unfolding sum_below
sum-taken xs zero h = refl
sum-taken xs (suc n) h =
    ap (λ k. sum (take k xs)) (sym (add-one n)) ∙ sum_by_more (λ x. x) xs n 0 (omega arith)
    ∙ ap (λ s. s + get_or xs n 0) (sum-taken xs n (omega arith))

pub sum-taken-most : (xs : List ℕ) (n b : ℕ) → n ≤ length xs → ((m : ℕ) → m < n → get_or xs m 0 ≤ b)
    → sum (take n xs) ≤ n * b
sum-taken-most xs n b h most = omega (arith, sum-taken xs n h, sum-bounded n b (λ m. get_or xs m 0) most)
