-- What the machine holds of rotations and rays.
use mathlib.Core.Path.{◌≡◌}
use Prim.Native.Nat.{ℕ, ◌^◌}
use lib.Dec.{T, ltb}
use lib.IntN.{ℤ}
use mir.Syntax.{w64}
use mir.Val.{of_z, to_z}
use Rattle.arithmetic.proofs.Held.{Held, held, read_small}
use Rattle.cubemap.specs.declared.Ray.{Ray}
use Rattle.cubemap.specs.declared.Rotation.{Rotation}
use Rattle.cubemap.specs.PlaceToRay.{ray}
use Rattle.cubemap.specs.Checks.{rotation_in_range}
use Rattle.cubemap.proofs.Ranges.{RayWithin, rotation-range}
use Rattle.cubemap.proofs.Rotations.{ray-eq}

pub record HeldRotation (t : Rotation) : Type 0 where
  pub h0 : Held (of_z w64 t.e0) t.e0 31
  pub h1 : Held (of_z w64 t.e1) t.e1 31
  pub h2 : Held (of_z w64 t.e2) t.e2 31
  pub h3 : Held (of_z w64 t.e3) t.e3 31

pub held-rotation : (t : Rotation) → T (rotation_in_range t) → HeldRotation t
held-rotation t h =
    let w = rotation-range t h in
    record { h0 = held t.e0 w.s0 tt; h1 = held t.e1 w.s1 tt; h2 = held t.e2 w.s2 tt; h3 = held t.e3 w.s3 tt }

pub record HeldRay (B : ℕ) (v : Ray) : Type 0 where
  pub x : Held (of_z w64 v.x) v.x B
  pub y : Held (of_z w64 v.y) v.y B
  pub z : Held (of_z w64 v.z) v.z B

pub held-ray : {B : ℕ} (v : Ray) → RayWithin B v → T (ltb B (2 ^ 63)) → HeldRay B v
held-ray v w t = record { x = held v.x w.x t; y = held v.y w.y t; z = held v.z w.z t }

-- a ray of three numbers that the machine holds
pub ray-of-held : {B a b c : ℕ} {x y z : ℤ} → Held a x B → Held b y B → Held c z B
    → (ray (to_z w64 a) (to_z w64 b) (to_z w64 c) ≡ ray x y z) × RayWithin B (ray (to_z w64 a) (to_z w64 b) (to_z w64 c))
ray-of-held {B} p q r = (
  ray-eq p.is q.is r.is,
  record { x = read_small p; y = read_small q; z = read_small r },
)
