-- The brackets: T + 32 lies between two numbers, and where these have one quotient by 2^48, that is it.
use mathlib.Core.Path.{◌≡◌, ◌∙◌, ap, ap₂}
use Prim.Native.Nat.{ℕ, suc, ◌+◌, ◌*◌, ◌-◌, ◌/◌, ◌%◌, ◌≤◌, ◌<◌}
use native.Mathlib.Nat.{div-add-mod', div-eq_of_lt-le, mul-pos, mul-le-mul_left, mul-le-mul_right, le_of_mul-le-mul_right}
use native.Mathlib.Omega.{arith}
use lib.IntN.{ℤ, pos, nat_abs, ◌-ℤ◌}
use Rattle.arithmetic.proofs.Sizes.{Difference, below, above, difference-cases, difference-small, pos-sub}
use Rattle.cubemap.specs.declared.Format.{Format}
use Rattle.cubemap.specs.RayToPlace.{position64}
use Rattle.cubemap.proofs.Curves.{bent, bent-most}
use Rattle.cubemap.proofs.Positions.{acp_lift, acp_lifted, position-acp-lifted}
use Rattle.adjusted.specs.Adjusted.{Column}
use Rattle.adjusted.specs.Bends.{PartNear, BendOf}

-- T + 32, on a scale of 2^48, lies between v and v + slack
record Bracket (A : ℕ) (x : ℤ) (d slack v : ℕ) : Type 0 where
  least : v * (50 * d * d) ≤ 281474976710656 * acp_lifted A x d
  most : 281474976710656 * acp_lifted A x d ≤ (v + slack) * (50 * d * d)

-- where both have one quotient, that is T + 32
bracket-told : {A d slack v : ℕ} {x : ℤ} → 0 < d → nat_abs x ≤ d → Bracket A x d slack v → v % 281474976710656 + slack < 281474976710656
    → position64 Format.Acp A x d ≡ pos (v / 281474976710656) -ℤ pos 32
bracket-told {A} {d} {slack} {v} {x} p h n t =
    position-acp-lifted A x d h p
    ∙ ap (λ q. pos q -ℤ pos 32)
    (go (v / 281474976710656) (v % 281474976710656) (acp_lifted A x d) (div-add-mod' v 281474976710656) t n.least n.most)
  where
    go : (q r L : ℕ) → q * 281474976710656 + r ≡ v → r + slack < 281474976710656 → v * (50 * d * d) ≤ 281474976710656 * L
        → 281474976710656 * L ≤ (v + slack) * (50 * d * d) → L / (50 * d * d) ≡ q
    go q r L e t l u =
        let s = ap (λ m. m * (d * d)) e in
        let m = mul-le-mul_right (d * d) t in
        let o : 0 < d * d = mul-pos p p in
        div-eq_of_lt-le (50 * d * d) (omega arith) (omega arith)

-- ---- equation 14's numerator where x is s − d, with 25·d² added

module _ (s d k : ℕ) where
  lift-above : k + d ≡ s → acp_lift (pos s -ℤ pos d) d ≡ bent d k + 25 * d * d
  lift-above e = ap (λ x. acp_lift x d) (pos-sub s d (omega arith)) ∙ ap (λ m. bent d m + 25 * d * d) there
    where
      there : s - d ≡ k
      there = omega arith

  lift-below : k ≤ d → k + s ≡ d → acp_lift (pos s -ℤ pos d) d + bent d k ≡ 25 * d * d
  lift-below h e = go (difference-cases s d)
    where
      whole : 25 * d * d - bent d k + bent d k ≡ 25 * d * d
      whole = omega (arith, bent-most d k h)

      -- where x is 0, either way gives the same
      go : Difference s d → acp_lift (pos s -ℤ pos d) d + bent d k ≡ 25 * d * d
      go (below l f) = ap (λ x. acp_lift x d + bent d k) f ∙ ap (λ m. 25 * d * d - bent d m + bent d k) there ∙ whole
        where
          there : suc (d - suc s) ≡ k
          there = omega arith
      go (above l f) = ap (λ x. acp_lift x d + bent d k) f ∙ ap₂ (λ m n. bent d m + 25 * d * d + bent d n) none none' ∙ omega arith
        where
          none : s - d ≡ 0
          none = omega arith

          none' : k ≡ 0
          none' = omega arith

-- ---- a column

module _ {A slope bend slack middle : ℕ} (o : BendOf A slope bend slack middle) {shift s d r : ℕ} (c : Column shift s d r)
    {k part : ℕ} (h : k ≤ d) (near : PartNear A k d part) where
  slack-times : (134217728000 + 1283457024 * A) * (d * d) ≤ 25 * slack * (d * d)
  slack-times = mul-le-mul_right (d * d) o.slack-least

  -- the part is at most that of k = d, and 2^31
  part_small : part ≤ 9007199254740992 * A + 2147483648
  part_small = le_of_mul-le-mul_right {n = 9007199254740992 * A + 2147483648}
      (go (bent d k) near.least (mul-le-mul_left A (bent-most d k h))) (mul-pos c.positive c.positive)
    where
      go : (B : ℕ) → 25 * part * (d * d) ≤ 9007199254740992 * A * B + 53687091200 * (d * d) → A * B ≤ A * (25 * d * d)
          → part * (d * d) ≤ (9007199254740992 * A + 2147483648) * (d * d)
      go B l m = omega arith

  ratio-small : nat_abs (pos s -ℤ pos d) ≤ d
  ratio-small = difference-small s d d (omega (arith, c.ratio)) (omega arith)

  bracket-above : (v : ℕ) → k + d ≡ s → v + 2147483648 ≡ (64 * A + 1) * 140737488355328 + part → Bracket A (pos s -ℤ pos d) d slack v
  bracket-above v e f = record {
    least = low (bent d k) (acp_lift (pos s -ℤ pos d) d) (lift-above s d k e) near.least;
    most = high (bent d k) (acp_lift (pos s -ℤ pos d) d) (lift-above s d k e) near.most;
  }
    where
      times : (v + 2147483648) * (d * d) ≡ ((64 * A + 1) * 140737488355328 + part) * (d * d)
      times = ap (λ m. m * (d * d)) f

      low : (B L : ℕ) → L ≡ B + 25 * d * d → 25 * part * (d * d) ≤ 9007199254740992 * A * B + 53687091200 * (d * d)
          → v * (50 * d * d) ≤ 281474976710656 * (64 * A * L + 25 * d * d)
      low B L t l = let u : A * L ≡ A * (B + 25 * d * d) = ap (λ m. A * m) t in omega (arith, times)

      high : (B L : ℕ) → L ≡ B + 25 * d * d → 9007199254740992 * A * B ≤ (25 * part + 80530636800 + 1283457024 * A) * (d * d)
          → 281474976710656 * (64 * A * L + 25 * d * d) ≤ (v + slack) * (50 * d * d)
      high B L t l = let u : A * L ≡ A * (B + 25 * d * d) = ap (λ m. A * m) t in omega (arith, times, slack-times)

  bracket-below : (v : ℕ) → k + s ≡ d → v + slack + part ≡ (64 * A + 1) * 140737488355328 + 2147483648
      → Bracket A (pos s -ℤ pos d) d slack v
  bracket-below v e f = record {
    least = low (bent d k) (acp_lift (pos s -ℤ pos d) d) (lift-below s d k h e) near.most;
    most = high (bent d k) (acp_lift (pos s -ℤ pos d) d) (lift-below s d k h e) near.least;
  }
    where
      times : (v + slack + part) * (d * d) ≡ ((64 * A + 1) * 140737488355328 + 2147483648) * (d * d)
      times = ap (λ m. m * (d * d)) f

      low : (B L : ℕ) → L + B ≡ 25 * d * d → 9007199254740992 * A * B ≤ (25 * part + 80530636800 + 1283457024 * A) * (d * d)
          → v * (50 * d * d) ≤ 281474976710656 * (64 * A * L + 25 * d * d)
      low B L t l = let u : A * (L + B) ≡ A * (25 * d * d) = ap (λ m. A * m) t in omega (arith, times, slack-times)

      high : (B L : ℕ) → L + B ≡ 25 * d * d → 25 * part * (d * d) ≤ 9007199254740992 * A * B + 53687091200 * (d * d)
          → 281474976710656 * (64 * A * L + 25 * d * d) ≤ (v + slack) * (50 * d * d)
      high B L t l = let u : A * (L + B) ≡ A * (25 * d * d) = ap (λ m. A * m) t in omega (arith, times)

  -- the entry of a column with x = k, and of one with x = −k
  pub told-above : (v : ℕ) → k + d ≡ s → v ≡ middle - 2147483648 + part → v % 281474976710656 + slack < 281474976710656
      → position64 Format.Acp A (pos s -ℤ pos d) d ≡ pos (v / 281474976710656) -ℤ pos 32
  told-above v e f = bracket-told c.positive ratio-small (bracket-above v e (omega (arith, o.middle-is)))

  pub told_below : (v : ℕ) → A ≤ 512 → k + s ≡ d → v ≡ middle + 9223372039002259456 - slack - part → v % 281474976710656 + slack < 281474976710656
      → position64 Format.Acp A (pos s -ℤ pos d) d ≡ pos (v / 281474976710656 % 32768) -ℤ pos 32
  told_below v a e f t = go (v - 9223372036854775808) (omega (arith, o.middle-is, o.slack-most, part_small))
    where
      go : (w : ℕ) → w + 9223372036854775808 ≡ v → position64 Format.Acp A (pos s -ℤ pos d) d ≡ pos (v / 281474976710656 % 32768) -ℤ pos 32
      go w i =
          bracket-told c.positive ratio-small (bracket-below w e (omega (arith, o.middle-is, o.slack-most, part_small))) (omega arith)
          ∙ ap (λ q. pos q -ℤ pos 32) quotient
        where
          quotient : w / 281474976710656 ≡ v / 281474976710656 % 32768
          quotient = omega (arith, o.middle-is)
