-- `numerator` meets its contract: every number on the way fits.
use native.Mathlib.Nat.{le_trans}
use Prim.Native.Nat.{ℕ, ◌+◌, ◌*◌}
use lib.Dec.{lit≤}
use lib.IntN.{pos, ◌+ℤ◌, ◌*ℤ◌}
use mir.Syntax.{w64}
use mir.Val.{to_z, of_z}
use Rattle.arithmetic.proofs.Held.{Held, held, held-nat, held-literal, mul, add, read_small}
use Rattle.plain.proofs.numerator.Goals.{Start}
use Rattle.plain.proofs.numerator.Goals as goal

module _ (c : Start) where
  held-size : Held c.args.size (pos c.args.size) 512
  held-size = held-nat c.requires.0 tt

  held-s : Held (of_z w64 c.args.s) c.args.s 2147483644
  held-s = held c.args.s c.requires.1 tt

  held-d : Held (of_z w64 c.args.d) c.args.d 2147483644
  held-d = held c.args.d c.requires.2 tt

  abbrev factor-bits : ℕ
  factor-bits = of_z w64 (to_z w64 64 *ℤ to_z w64 c.args.size)

  factor : Held factor-bits (pos 64 *ℤ pos c.args.size) (64 * 512)
  factor = mul (held-literal 64 tt) held-size tt

  abbrev product-bits : ℕ
  product-bits = of_z w64 (to_z w64 factor-bits *ℤ to_z w64 (of_z w64 c.args.s))

  product : Held product-bits (pos 64 *ℤ pos c.args.size *ℤ c.args.s) (64 * 512 * 2147483644)
  product = mul factor held-s tt

  whole : Held (of_z w64 (to_z w64 product-bits +ℤ to_z w64 (of_z w64 c.args.d)))
      (pos 64 *ℤ pos c.args.size *ℤ c.args.s +ℤ c.args.d) (64 * 512 * 2147483644 + 2147483644)
  whole = add product held-d tt

pub returns : goal.returns
returns c = ((whole c).is, le_trans (read_small (whole c)) (lit≤ tt))
