-- Checks 6, 7, 13 and 14 as facts about the sizes of a rotation's and a ray's numbers.
use mathlib.Core.Path.{◌≡◌, subst}
use mathlib.Core.Bool.{Bool, ◌&&◌, not}
use Prim.Native.Nat.{ℕ, ◌≤◌}
use native.Mathlib.Nat.{le_trans}
use lib.Dec.{T, eqb, eqb→eq, leb, leb→le, le→leb, not_T}
use lib.IntN.{ℤ, nat_abs}
use Rattle.arithmetic.proofs.Tests.{All3, and3, all3, All4, and4, all4}
use Rattle.cubemap.specs.declared.Ray.{Ray}
use Rattle.cubemap.specs.declared.Rotation.{Rotation}
use Rattle.cubemap.specs.Checks.{rotation_in_range, ray_in_range, ray_nonzero}

-- the four numbers of a rotation have sizes of at most B
pub record Within (B : ℕ) (t : Rotation) : Type 0 where
  pub s0 : nat_abs t.e0 ≤ B
  pub s1 : nat_abs t.e1 ≤ B
  pub s2 : nat_abs t.e2 ≤ B
  pub s3 : nat_abs t.e3 ≤ B

-- and the three of a ray
pub record RayWithin (B : ℕ) (v : Ray) : Type 0 where
  pub x : nat_abs v.x ≤ B
  pub y : nat_abs v.y ≤ B
  pub z : nat_abs v.z ≤ B

pub within_more : {A B : ℕ} (t : Rotation) → A ≤ B → Within A t → Within B t
within_more t h w = record { s0 = le_trans w.s0 h; s1 = le_trans w.s1 h; s2 = le_trans w.s2 h; s3 = le_trans w.s3 h }

abbrev small : ℕ → ℤ → Bool
small B x = leb (nat_abs x) B

-- 6
pub rotation-range : (t : Rotation) → T (rotation_in_range t) → Within 31 t
unfolding rotation_in_range
rotation-range t h = go (and4 (small 31 t.e0) (small 31 t.e1) (small 31 t.e2) (small 31 t.e3) h)
  where
    go : All4 (small 31 t.e0) (small 31 t.e1) (small 31 t.e2) (small 31 t.e3) → Within 31 t
    go w = record {
      s0 = leb→le (nat_abs t.e0) 31 w.first;
      s1 = leb→le (nat_abs t.e1) 31 w.second;
      s2 = leb→le (nat_abs t.e2) 31 w.third;
      s3 = leb→le (nat_abs t.e3) 31 w.fourth;
    }

pub in-range-rotation : (t : Rotation) → Within 31 t → T (rotation_in_range t)
unfolding rotation_in_range
in-range-rotation t w = all4 (small 31 t.e0) (small 31 t.e1) (small 31 t.e2) (small 31 t.e3)
    (le→leb (nat_abs t.e0) 31 w.s0) (le→leb (nat_abs t.e1) 31 w.s1)
    (le→leb (nat_abs t.e2) 31 w.s2) (le→leb (nat_abs t.e3) 31 w.s3)

-- 7
abbrev is_zero : ℤ → Bool
is_zero x = eqb (nat_abs x) 0

-- 13
abbrev farthest : ℕ
farthest = 536870911

pub ray-range : (v : Ray) → T (ray_in_range v) → RayWithin 536870911 v
unfolding ray_in_range
ray-range v h = go (and3 (small farthest v.x) (small farthest v.y) (small farthest v.z) h)
  where
    go : All3 (small farthest v.x) (small farthest v.y) (small farthest v.z) → RayWithin farthest v
    go w = record {
      x = leb→le (nat_abs v.x) farthest w.first;
      y = leb→le (nat_abs v.y) farthest w.second;
      z = leb→le (nat_abs v.z) farthest w.third;
    }

pub in-range-ray : (v : Ray) → RayWithin 536870911 v → T (ray_in_range v)
unfolding ray_in_range
in-range-ray v w = all3 (small farthest v.x) (small farthest v.y) (small farthest v.z)
    (le→leb (nat_abs v.x) farthest w.x) (le→leb (nat_abs v.y) farthest w.y) (le→leb (nat_abs v.z) farthest w.z)

pub ray-not-zero : (v : Ray) → T (ray_nonzero v) → nat_abs v.x ≡ 0 → nat_abs v.y ≡ 0 → nat_abs v.z ≡ 0 → ⊥
unfolding ray_nonzero
ray-not-zero v t p q w = subst (λ (b : Bool). T (not b)) (λ i. eqb (p i) 0 && eqb (q i) 0 && eqb (w i) 0) t

pub nonzero-ray : (v : Ray) → (nat_abs v.x ≡ 0 → nat_abs v.y ≡ 0 → nat_abs v.z ≡ 0 → ⊥) → T (ray_nonzero v)
unfolding ray_nonzero
nonzero-ray v f = not_T (is_zero v.x && is_zero v.y && is_zero v.z) (λ t. go (and3 (is_zero v.x) (is_zero v.y) (is_zero v.z) t))
  where
    go : All3 (is_zero v.x) (is_zero v.y) (is_zero v.z) → ⊥
    go w = f (eqb→eq (nat_abs v.x) 0 w.first) (eqb→eq (nat_abs v.y) 0 w.second) (eqb→eq (nat_abs v.z) 0 w.third)
