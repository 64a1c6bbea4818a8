-- `dot` meets its contract: three products of bounded numbers, whose sum stays inside 64 bits.
use lib.Dec.{T}
use Rattle.arithmetic.proofs.Held.{mul, add, mul_ok, add_ok}
use Rattle.cubemap.specs.declared.Ray.{Ray}
use Rattle.cubemap.specs.Checks.{ray_in_range}
use Rattle.cubemap.proofs.Ranges.{RayWithin, ray-range}
use Rattle.cubemap.proofs.HeldNumbers.{HeldRay, held-ray}
use Rattle.rotation.proofs.dot.Goals as goal

row : {r : Ray} → RayWithin 3844 r → HeldRay 3844 r
row {r} h = held-ray r h tt

ray : {v : Ray} → T (ray_in_range v) → HeldRay 536870911 v
ray {v} h = held-ray v (ray-range v h) tt

pub overflow_mul-result : goal.overflow_mul-result
overflow_mul-result c = mul_ok (row c.requires.0).x (ray c.requires.1).x tt

pub overflow_mul-result-2 : goal.overflow_mul-result-2
overflow_mul-result-2 c = mul_ok (row c.requires.0).y (ray c.requires.1).y tt

pub overflow_add-result : goal.overflow_add-result
overflow_add-result c = add_ok (mul (row c.requires.0).x (ray c.requires.1).x tt) (mul (row c.requires.0).y (ray c.requires.1).y tt) tt

pub overflow_mul-result-3 : goal.overflow_mul-result-3
overflow_mul-result-3 c = mul_ok (row c.requires.0).z (ray c.requires.1).z tt

pub overflow_add-result-2 : goal.overflow_add-result-2
overflow_add-result-2 c = add_ok (add (mul (row c.requires.0).x (ray c.requires.1).x tt) (mul (row c.requires.0).y (ray c.requires.1).y tt) tt) (mul (row c.requires.0).z (ray c.requires.1).z tt) tt

pub returns : goal.returns
returns c = (add (add (mul (row c.requires.0).x (ray c.requires.1).x tt) (mul (row c.requires.0).y (ray c.requires.1).y tt) tt) (mul (row c.requires.0).z (ray c.requires.1).z tt) tt).is
