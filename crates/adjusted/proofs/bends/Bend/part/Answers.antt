-- `part` meets its contract: both factors have 32 bits, so that nothing is cut off, and t is within 9 of 2^31·k / d.
use mathlib.Core.Path.{◌≡◌}
use Prim.Native.Nat.{ℕ, ◌+◌, ◌*◌, ◌-◌, ◌/◌, ◌%◌, ◌^◌, ◌≤◌, ◌<◌}
use native.Mathlib.Nat.{mod-eq_of_lt, mul-le-mul}
use native.Mathlib.Omega.{arith}
use Rattle.reciprocals.specs.Reciprocals.{Reciprocal}
use Rattle.adjusted.specs.Bends.{PartNear}
use Rattle.adjusted.specs.declared.bends.Bend.{Bend}
use Rattle.adjusted.proofs.Nearly.{factors-fit, bend-part, ratio-near, part-near}
use Rattle.adjusted.proofs.bends.Bend.part.Goals as goal

module _ (b : Bend) (shift k r : ℕ) where
  abbrev t : ℕ
  t = k * r / 2 ^ shift % 2147483648

  abbrev f : ℕ
  f = (b.slope - b.bend * t / 4294967296) % 4294967296

  f-is : f + b.bend * t / 4294967296 ≡ b.slope
  f-is =
      let fit = factors-fit b.size_most b.of_size.factors in
      omega (arith, fit, bend-part b.slope b.bend t (omega arith) fit.1)

  product_small : t * f ≤ 2147483647 * 4294967295
  product_small = mul-le-mul {n₂ = 2147483647} {m₂ = 4294967295} (omega arith) (omega arith)

  near : (d : ℕ) → k ≤ d → 0 < d → Reciprocal shift d r → PartNear b.size k d (t * f)
  near d h p n =
      let q = ratio-near shift k d r h p n in
      part-near b.size k d b.slope b.bend t f b.of_size.factors h (rw (mod-eq_of_lt q.small) q) f-is

pub returns : goal.returns
returns c = let a = c.args in (
  omega (arith, product_small a.self a.shift a.k a.reciprocal),
  near a.self a.shift a.k a.reciprocal,
)
