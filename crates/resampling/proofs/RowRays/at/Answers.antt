-- `at` meets its contract, axis by axis.
use mir.Syntax.{w64}
use mir.Val.{of_z}
use Rattle.arithmetic.proofs.Held.{Held, held, mul, add, mul_ok, add_ok}
use Rattle.cubemap.proofs.Ranges.{ray-range}
use Rattle.cubemap.proofs.HeldNumbers.{HeldRay, held-ray}
use Rattle.cubemap.proofs.Rotations.{ray-eq}
use Rattle.resampling.proofs.RowRays.at.Goals.{Start}
use Rattle.resampling.proofs.RowRays.at.Goals as goal

module _ (s : Start) where
  start : HeldRay 536870911 s.args.self.start
  start = held-ray s.args.self.start (ray-range s.args.self.start s.requires.0.start-ok) tt

  slope : HeldRay 536870911 s.args.self.slope
  slope = held-ray s.args.self.slope (ray-range s.args.self.slope s.requires.0.slope-ok) tt

  a : Held (of_z w64 s.args.a) s.args.a 65536
  a = held s.args.a s.requires.1 tt

pub returns : goal.returns
returns c =
    let s = (goal.at.returns c).Start in
    ray-eq
    (add (start s).x (mul (a s) (slope s).x tt) tt).is
    (add (start s).y (mul (a s) (slope s).y tt) tt).is
    (add (start s).z (mul (a s) (slope s).z tt) tt).is

pub overflow_mul-result : goal.overflow_mul-result
overflow_mul-result c = let s = (goal.at.overflow_mul-result c).Start in mul_ok (a s) (slope s).x tt

pub overflow_add-result : goal.overflow_add-result
overflow_add-result c =
    let s = (goal.at.overflow_add-result c).Start in add_ok (start s).x (mul (a s) (slope s).x tt) tt

pub overflow_mul-result-2 : goal.overflow_mul-result-2
overflow_mul-result-2 c = let s = (goal.at.overflow_mul-result-2 c).Start in mul_ok (a s) (slope s).y tt

pub overflow_add-result-2 : goal.overflow_add-result-2
overflow_add-result-2 c =
    let s = (goal.at.overflow_add-result-2 c).Start in add_ok (start s).y (mul (a s) (slope s).y tt) tt

pub overflow_mul-result-3 : goal.overflow_mul-result-3
overflow_mul-result-3 c = let s = (goal.at.overflow_mul-result-3 c).Start in mul_ok (a s) (slope s).z tt

pub overflow_add-result-3 : goal.overflow_add-result-3
overflow_add-result-3 c =
    let s = (goal.at.overflow_add-result-3 c).Start in add_ok (start s).z (mul (a s) (slope s).z tt) tt
