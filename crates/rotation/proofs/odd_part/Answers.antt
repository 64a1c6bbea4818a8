-- `odd_part` meets its contract: a shift by the trailing zeros divides by all factors of two, and by nothing else.
use native.Mathlib.Nat.{div-le_self}
use Prim.Native.Nat.{◌^◌}
use lib.Count.{count_trailing_zeros}
use Rattle.arithmetic.proofs.Divisors.{trailing_zeros}
use Rattle.rotation.proofs.odd_part.Goals as goal

pub returns : goal.returns
returns c =
    let s = (trailing_zeros 64 c.args.n c.requires c.ranges.n.fits).stripped in
    (s.odd, s.whole, div-le_self c.args.n (2 ^ count_trailing_zeros 64 c.args.n))
