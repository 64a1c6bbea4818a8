-- `remainder_bits` meets its contract: with 2^62 added, a remainder below 0 is below 2^62, and one of four distances or
-- more is no less than 2^62 and these.
use native.Mathlib.Omega.{arith}
use Rattle.arithmetic.proofs.Bits.{or_left, or_right}
use Rattle.reciprocals.proofs.remainder_bits.Goals as goal

pub returns : goal.returns
returns c h = (omega (arith, h, or_left), omega (arith, h, or_right))
