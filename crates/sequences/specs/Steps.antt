-- The paper, "Runs of whole-cube turns", the step: "With R the matrix of t and S the sum of its four squares, the sample at the place with ray r
-- is the old frame's at the place with ray R·r/S; exactly one place has that ray."
use Rattle.std.specs.Prelude.{◌≡◌, Bool, ◌&&◌}
use Rattle.arithmetic.specs.Integers.{equalℤ}
use Rattle.arithmetic.specs.Searches.{lowest}
use Rattle.cubemap.specs.declared.Place.{Place}
use Rattle.cubemap.specs.declared.Ray.{Ray}
use Rattle.cubemap.specs.declared.Rotation.{Rotation}
use Rattle.cubemap.specs.declared.Shape.{Shape}
use Rattle.cubemap.specs.Frames.{IsPlace, plane_samples, place_numbered}
use Rattle.cubemap.specs.PlaceToRay.{times, ray_in}
use Rattle.cubemap.specs.Rotations.{sum_of_squares, rotated}

-- the step by t leads from P to the place Q: R·r/S, where r is the ray of P, is the ray of Q; so R·r is S times the ray of Q
pub record Leads (z : Shape) (t : Rotation) (P Q : Place) : Type 0 where
  pub is-place : IsPlace z.size Q
  pub same-ray : rotated t (ray_in z P) ≡ times (sum_of_squares t) (ray_in z Q)

abbrev pub same_ray : Ray → Ray → Bool
same_ray u v = equalℤ u.x v.x && equalℤ u.y v.y && equalℤ u.z v.z

-- the equation of `Leads` as a test
abbrev pub leads : Shape → Rotation → Place → Place → Bool
leads z t P Q = same_ray (rotated t (ray_in z P)) (times (sum_of_squares t) (ray_in z Q))

-- the place that the step by t leads to from P: "the place with ray R·r/S". (Exactly one has it where P is a place, the size is at most 512 and t is a
-- whole-cube turn that is not all zero.)
unfoldable pub led_to : Shape → Rotation → Place → Place
led_to z t P = place_numbered z.size (lowest (λ k. leads z t P (place_numbered z.size k)) (plane_samples z.size))

-- "exactly one place has that ray"
pub record ExactlyOne (z : Shape) (t : Rotation) (P : Place) : Type 0 where
  pub lands : Leads z t P (led_to z t P)
  pub only : (Q : Place) → Leads z t P Q → Q ≡ led_to z t P

-- "Two folds give the same places when their steps lead from each place to the same one."
abbrev pub SamePlaces : Shape → Rotation → Rotation → Type 0
SamePlaces z t u = (P : Place) → IsPlace z.size P → led_to z t P ≡ led_to z u P
