-- `face_coordinate` meets its contract: the curve is at most N.
use native.Mathlib.Omega.{arith}
use Rattle.cubemap.proofs.Curves.{curve-is}
use Rattle.geometry.proofs.face_coordinate.Goals as goal

pub with_sign_of-requires : goal.with_sign_of-requires
with_sign_of-requires c = omega (arith, c.curve.ensures, (curve-is c.args.size c.unsigned_abs.result).bounded)
