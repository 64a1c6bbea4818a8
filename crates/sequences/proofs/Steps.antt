-- The step of the model: from each place to exactly one, and back by the inverse rotation, so one to one.
use mathlib.Core.Path.{◌≡◌, sym, ◌∙◌, ap, subst}
use mathlib.Core.Bool.{Bool}
use Prim.Native.Nat.{ℕ, ◌≤◌, ◌<◌}
use lib.Dec.{T}
use Rattle.arithmetic.specs.Integers.{equalℤ}
use Rattle.arithmetic.specs.Searches.{lowest}
use Rattle.arithmetic.proofs.Searches.{lowest-only}
use Rattle.arithmetic.proofs.Sizes.{equalℤ→eq, equalℤ-refl}
use Rattle.arithmetic.proofs.Tests.{same_test, and3, all3}
use Rattle.cubemap.specs.declared.Place.{Place}
use Rattle.cubemap.specs.declared.Ray.{Ray}
use Rattle.cubemap.specs.declared.Rotation.{Rotation}
use Rattle.cubemap.specs.declared.Shape.{Shape}
use Rattle.cubemap.specs.Frames.{IsPlace, plane_samples, place_numbered}
use Rattle.cubemap.specs.PlaceToRay.{times, ray_in}
use Rattle.cubemap.specs.Rotations.{sum_of_squares, rotated, identity, CubeRotation, same_rotation}
use Rattle.cubemap.specs.Checks.{rotation_nonzero}
use Rattle.cubemap.proofs.Indices.{number_of, number-below, numbered-ok, numbered-number, number-numbered}
use Rattle.cubemap.proofs.Rotations.{ray-eq, LeadsTo, sum-positive, inverse, sum-inverse, inverse-inverse, inverse-leads, identity-leads}
use Rattle.cubemap.proofs.Reduction.{same-is, same_of, same-leads}
use Rattle.cubemap.proofs.CubeRotations.{CubeMatrix, cube-matrix, inverse-matrix}
use Rattle.cubemap.proofs.Conversion.{Step, matrix-step, led-only}
use Rattle.cubemap.proofs.Places.{OneToOne}
use Rattle.sequences.specs.Steps.{Leads, same_ray, leads, led_to, ExactlyOne, SamePlaces}

-- ---- the test is the equation

same-ray-is : (v w : Ray) → T (same_ray v w) → v ≡ w
same-ray-is v w t =
    let h = and3 (equalℤ v.x w.x) (equalℤ v.y w.y) (equalℤ v.z w.z) t in
    ray-eq (equalℤ→eq v.x w.x h.first) (equalℤ→eq v.y w.y h.second) (equalℤ→eq v.z w.z h.third)

same-ray-own : (v : Ray) → T (same_ray v v)
same-ray-own v = all3 (equalℤ v.x v.x) (equalℤ v.y v.y) (equalℤ v.z v.z)
    (equalℤ-refl v.x) (equalℤ-refl v.y) (equalℤ-refl v.z)

-- ---- (1,0,0,0) leads from each place to itself

pub identity-keeps : (z : Shape) (P : Place) → IsPlace z.size P → Leads z identity P P
identity-keeps z P p = record { is-place = p; same-ray = identity-leads (ray_in z P) }

-- ---- a rotation leads from a place to at most one, and `led_to` finds it

module _ (z : Shape) (a : z.size ≤ 512) (t : Rotation) (h : 0 < sum_of_squares t) where
  pub led-is : (P Q : Place) → Leads z t P Q → led_to z t P ≡ Q
  unfolding led_to
  led-is P Q l = ap (place_numbered A) (lowest-only test (plane_samples A) (number_of A Q) (number-below A Q l.is-place) found only)
      ∙ numbered-number A Q l.is-place
    where
      A : ℕ
      A = z.size

      test : ℕ → Bool
      test k = leads z t P (place_numbered z.size k)

      found : T (test (number_of A Q))
      found = subst (λ v. T (same_ray (rotated t (ray_in z P)) v))
          (l.same-ray ∙ ap (λ R. times (sum_of_squares t) (ray_in z R)) (sym (numbered-number A Q l.is-place)))
          (same-ray-own (rotated t (ray_in z P)))

      only : (k : ℕ) → k < plane_samples A → T (test k) → k ≡ number_of A Q
      only k b e =
          sym (number-numbered A k)
          ∙ ap (number_of A) (led-only z t P (place_numbered A k) Q a h (numbered-ok A k b) l.is-place (same-ray-is _ _ e) l.same-ray)

  pub leads-led : (P : Place) → Step z t P → Leads z t P (led_to z t P)
  leads-led P s = subst (λ Q. Leads z t P Q) (sym (led-is P s.to there)) there
    where
      there : Leads z t P s.to
      there = record { is-place = s.ok; same-ray = s.leads }

-- ---- a map of places that follows a rotation, one to one

pub record Matched (z : Shape) (t : Rotation) (to back : Place → Place) : Type 0 where
  pub leads : (P : Place) → IsPlace z.size P → Leads z t P (to P)
  pub one-to-one : OneToOne z.size to back

module _ (z : Shape) (a : z.size ≤ 512) (t : Rotation) (h : 0 < sum_of_squares t) (w : CubeMatrix t) where
  -- the step by t, and the step by its inverse
  abbrev to : Place → Place
  to P = led_to z t P

  abbrev back : Place → Place
  back Q = led_to z (inverse t) Q

  inverse-sum : 0 < sum_of_squares (inverse t)
  inverse-sum = subst (λ n. 0 < n) (sym (sum-inverse t)) h

  there : (P : Place) → IsPlace z.size P → Leads z t P (to P)
  there P p = leads-led z a t h P (matrix-step z t P h w p)

  again : (Q : Place) → IsPlace z.size Q → Leads z (inverse t) Q (back Q)
  again Q q = leads-led z a (inverse t) inverse-sum Q (matrix-step z (inverse t) Q inverse-sum (inverse-matrix t w) q)

  back_to : (P : Place) → IsPlace z.size P → back (to P) ≡ P
  back_to P p = led-is z a (inverse t) inverse-sum (to P) P
      (record { is-place = p; same-ray = inverse-leads t (ray_in z P) (ray_in z (to P)) h (there P p).same-ray })

  to_back : (Q : Place) → IsPlace z.size Q → to (back Q) ≡ Q
  to_back Q q = led-is z a t h (back Q) Q (record { is-place = q; same-ray = forth })
    where
      forth : LeadsTo t (ray_in z (back Q)) (ray_in z Q)
      forth = subst (λ u. LeadsTo u (ray_in z (back Q)) (ray_in z Q)) (inverse-inverse t)
          (inverse-leads (inverse t) (ray_in z Q) (ray_in z (back Q)) inverse-sum (again Q q).same-ray)

  pub cube-matched : Matched z t (led_to z t) (led_to z (inverse t))
  cube-matched = record {
    leads = there;
    one-to-one = record {
      to-ok = λ P p. (there P p).is-place;
      back-ok = λ Q q. (again Q q).is-place;
      back_to = back_to;
      to_back = to_back;
    };
  }

-- ---- "exactly one place has that ray"

pub led-exactly : (z : Shape) (t : Rotation) (P : Place) → z.size ≤ 512 → 0 < sum_of_squares t → Leads z t P (led_to z t P) → ExactlyOne z t P
led-exactly z t P a h l = record { lands = l; only = λ Q m. sym (led-is z a t h P Q m) }

pub step : (z : Shape) (t : Rotation) (P : Place) → z.size ≤ 512 → T (rotation_nonzero t) → CubeRotation t → IsPlace z.size P → ExactlyOne z t P
step z t P a n c p = led-exactly z t P a h ((cube-matched z a t h (cube-matrix t c)).leads P p)
  where
    h : 0 < sum_of_squares t
    h = sum-positive t n

-- ---- turns that are equal, as the call that compares them has it, give the same places

same-led : (z : Shape) (t u : Rotation) (P Q : Place) → T (same_rotation t u) → T (leads z t P Q) → T (leads z u P Q)
same-led z t u P Q e a =
    subst (λ v. T (same_ray (rotated u (ray_in z P)) v)) (same-leads t u (ray_in z P) (ray_in z Q) e (same-ray-is _ _ a)) (same-ray-own (rotated u (ray_in z P)))

pub equal-places : (z : Shape) (t u : Rotation) → T (same_rotation t u) → SamePlaces z t u
unfolding led_to
equal-places z t u e P p = ap (λ test. place_numbered A (lowest test (plane_samples A))) (λ i k. alike (place_numbered A k) i)
  where
    A : ℕ
    A = z.size

    alike : (Q : Place) → leads z t P Q ≡ leads z u P Q
    alike Q = same_test (leads z t P Q) (leads z u P Q) (same-led z t u P Q e) (same-led z u t P Q (same_of u t (sym (same-is t u e))))
