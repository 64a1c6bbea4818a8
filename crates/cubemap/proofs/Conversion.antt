-- A conversion at one place: where it reads, that look-up answers with the very same position, that its value is within the depth, that the value
-- stands there in the target and which samples decide it, that a nonzero multiple of a rotation reads the same, that a cube rotation leads from each
-- place to one, and that a frame of the same shape then gets the sample there.
use mathlib.Core.Path.{◌≡◌, refl, sym, ◌∙◌, ap, subst}
use mathlib.Core.List.{List}
use Prim.Native.Nat.{ℕ, ◌*◌, ◌^◌, ◌≤◌, ◌<◌}
use native.Mathlib.Nat.{mul-pos}
use lib.Dec.{T}
use lib.ListN.{length}
use lib.IntN.{ℤ, nat_abs}
use Rattle.arithmetic.proofs.Tests.{cond-true}
use Rattle.cubemap.specs.declared.Format.{Format}
use Rattle.cubemap.specs.declared.Place.{Place}
use Rattle.cubemap.specs.declared.Ray.{Ray}
use Rattle.cubemap.specs.declared.Rotation.{Rotation}
use Rattle.cubemap.specs.declared.Shape.{Shape}
use Rattle.cubemap.specs.Interface.{format_of, sampler_of, Answer, accepted, is_accepted}
use Rattle.cubemap.specs.Frames.{IsPlace, plane_samples, sample_at_place, plane_of}
use Rattle.cubemap.specs.PlaceToRay.{times, ray_of, ray_in}
use Rattle.cubemap.specs.Rotations.{sum_of_squares, rotated}
use Rattle.cubemap.specs.RayToPlace.{locate}
use Rattle.cubemap.specs.Samplers.{sample_from}
use Rattle.cubemap.specs.Checks.{ConvertSettings, target_shape, samples_ok}
use Rattle.cubemap.specs.Outcomes.{result, if_accepted, look_up_values, look_up_result}
use Rattle.cubemap.specs.Outcomes.{source_position, value_at, converted_sample, converted_bytes, convert_answer, convert_outcome}
use Rattle.cubemap.proofs.Locate.{OnFace, locate-on-face, locate-times, middle_of, locate-own-times, ray-apart}
use Rattle.cubemap.proofs.Layouts.{LayoutHolds, layout-holds}
use Rattle.cubemap.proofs.Framed.{plane-bytes, place-below, sample-plane_of, depth-fits}
use Rattle.cubemap.proofs.Passed.{size-range, ConvertPassed, convert-passed, look-up-accepted}
use Rattle.cubemap.proofs.ConvertChecks.{outcome-is}
use Rattle.cubemap.proofs.Samplers.{tapped_place, value-cong, value-within, value-own}
use Rattle.cubemap.proofs.Rotations.{sum-positive, multiple, rotated-multiple, LeadsTo, leads-only}
use Rattle.cubemap.proofs.RotatedRays.{RotatedRay, rotated-ray, place-ray}
use Rattle.cubemap.proofs.CubeRays.{PlaceOf, ray-cube, cube-place}
use Rattle.cubemap.proofs.CubeRotations.{permuted, cube-permuted, CubeMatrix, Permutes, matrix-permutes}

-- ---- a nonzero multiple of a rotation leads to the same positions

pub multiple-position : (z : Shape) (k : ℤ) (t : Rotation) (r : Ray) → 0 < nat_abs k → source_position z (multiple k t) r ≡ source_position z t r
unfolding source_position
multiple-position z k t r h =
    ap (locate (format_of z.format) z.size) (rotated-multiple k t r)
    ∙ locate-times (format_of z.format) z.size (nat_abs k * nat_abs k) (rotated t r) (mul-pos h h)

-- ---- what a conversion writes, sample by sample

pub converted-frame : (s : ConvertSettings) (source : List ℕ)
    → converted_bytes s source ≡ plane_of s.target_size s.target_layout (converted_sample s source)
unfolding converted_bytes
converted-frame s source = refl

pub converted-value : (s : ConvertSettings) (source : List ℕ) (P : Place)
    → converted_sample s source P
    ≡ sample_from (sampler_of s.sampler) s.source_shape.size s.source_shape.depth
    (sample_at_place source s.source_shape.size s.source_layout)
    (locate (format_of s.source_shape.format) s.source_shape.size
    (rotated s.rotation (ray_of (format_of s.target_format) s.target_size P)))
unfolding converted_sample value_at source_position
converted-value s source P = refl

-- ---- a conversion that has passed its checks: the lengths of its frames

pub source-bytes : {s : ConvertSettings} {n m : ℕ} {source : List ℕ} → ConvertPassed s n m source → n ≡ 2 * plane_samples s.source_shape.size
source-bytes {s} {n} c = plane-bytes s.source_shape n c.source-length

pub target-bytes : {s : ConvertSettings} {n m : ℕ} {source : List ℕ} → ConvertPassed s n m source → m ≡ 2 * plane_samples s.target_size
unfolding target_shape
target-bytes {s} {m = m} c = plane-bytes (target_shape s) m c.target-length

-- ---- and what it reads for a place of the target

module _ (s : ConvertSettings) (n m : ℕ) (source : List ℕ) (c : ConvertPassed s n m source) (P : Place) (p : IsPlace s.target_size P) where
  -- the target's ray at the place
  abbrev target_ray : Ray
  target_ray = ray_of (format_of s.target_format) s.target_size P

  -- its rotated ray is not zero and within check 13
  pub rotated-target-ray : RotatedRay (rotated s.rotation target_ray)
  rotated-target-ray =
      let z = size-range s.target_size c.target-size in
      rotated-ray s.rotation target_ray c.rotation-in-range c.rotation-nonzero
      (place-ray (format_of s.target_format) s.target_size P z.at_least z.at_most p)

  -- so look-up of that ray answers 0, with the very position that the conversion reads
  pub looked-up : look_up_result s.source_shape.size s.source_shape.format (rotated s.rotation target_ray)
      ≡ result accepted (look_up_values (source_position s.source_shape s.rotation target_ray))
  unfolding look_up_result source_position
  looked-up = ap (λ a. if_accepted a (look_up_values (source_position s.source_shape s.rotation target_ray)))
      (look-up-accepted s.source_shape.size s.source_shape.format (rotated s.rotation target_ray)
      (record {
        size = c.source-size;
        format-code = c.source-format;
        in-range = rotated-target-ray.in-range;
        nonzero = rotated-target-ray.nonzero;
      }))

  -- it lies on a face of the source
  pub position-on-face : OnFace s.source_shape.size (source_position s.source_shape s.rotation target_ray)
  unfolding source_position
  position-on-face =
      locate-on-face (format_of s.source_shape.format) s.source_shape.size (rotated s.rotation target_ray) rotated-target-ray.nonzero

  -- and the value there is within the depth
  pub converted-within : converted_sample s source P < 2 ^ s.source_shape.depth
  unfolding converted_sample value_at
  converted-within =
      value-within (sampler_of s.sampler) s.source_shape.size s.source_shape.depth
      (sample_at_place source s.source_shape.size s.source_layout) (source_position s.source_shape s.rotation target_ray)
      (size-range s.source_shape.size c.source-size).at_least position-on-face
      (λ Q q. place-below s.source_shape s.source_layout source Q (layout-holds s.source_layout c.source-layout) c.samples q)

-- ---- so, for every rotation, what stands at a place of the target of an accepted conversion

pub converted-at : (s : ConvertSettings) (source target : List ℕ) → T (is_accepted (convert_outcome s source target).answered)
    → (P : Place) → IsPlace s.target_size P
    → sample_at_place (convert_outcome s source target).bytes s.target_size s.target_layout P ≡ converted_sample s source P
converted-at s source target t P p =
    ap (λ b. sample_at_place b s.target_size s.target_layout P)
    (ap (λ o. o.bytes) (sym (outcome-is s source target a refl)) ∙ cond-true (is_accepted a) (converted_bytes s source) target u ∙ converted-frame s source)
    ∙ sample-plane_of s.target_size s.target_layout (layout-holds s.target_layout c.target-layout) (converted_sample s source) P
    (λ Q q. depth-fits s.source_shape.depth (converted_sample s source Q) c.depth (converted-within s n m source c Q q)) p
  where
    n : ℕ
    n = length source

    m : ℕ
    m = length target

    a : Answer
    a = convert_answer s n m source

    u : T (is_accepted a)
    u = subst (λ o. T (is_accepted o.answered)) (sym (outcome-is s source target a refl)) t

    c : ConvertPassed s n m source
    c = convert-passed s n m source u

-- and what decides it: the samples at the places that the sampler taps around the position, and nothing else of the source
pub converted-reads : (s : ConvertSettings) (one two : List ℕ) (P : Place)
    → (let A = s.source_shape.size in
    let p = source_position s.source_shape s.rotation (ray_of (format_of s.target_format) s.target_size P) in
    (i j : ℕ) → i < 4 → j < 4
    → sample_at_place one A s.source_layout (tapped_place (sampler_of s.sampler) A p i j)
    ≡ sample_at_place two A s.source_layout (tapped_place (sampler_of s.sampler) A p i j))
    → converted_sample s one P ≡ converted_sample s two P
unfolding converted_sample value_at
converted-reads s one two P h =
    let A = s.source_shape.size in
    value-cong (sampler_of s.sampler) A s.source_shape.depth (sample_at_place one A s.source_layout) (sample_at_place two A s.source_layout)
    (source_position s.source_shape s.rotation (ray_of (format_of s.target_format) s.target_size P)) h

-- ---- cube rotations at one shape

-- the place to which a rotation leads: R·r is S times its ray
pub record Step (z : Shape) (t : Rotation) (P : Place) : Type 0 where
  pub to : Place
  pub ok : IsPlace z.size to
  pub leads : LeadsTo t (ray_in z P) (ray_in z to)

-- a cube rotation leads from each place to one
pub matrix-step : (z : Shape) (t : Rotation) (P : Place) → 0 < sum_of_squares t → CubeMatrix t → IsPlace z.size P → Step z t P
matrix-step z t P h w p = record { to = q.place; ok = q.ok; leads = m.leads (ray_in z P) ∙ ap (times (sum_of_squares t)) (sym q.ray) }
  where
    f : Format
    f = format_of z.format

    m : Permutes t
    m = matrix-permutes t h w

    q : PlaceOf f z.size (permuted m.by (ray_in z P))
    q = cube-place f z.size (permuted m.by (ray_in z P)) (cube-permuted f z.size m.by (ray_in z P) (ray-cube f z.size P p))

-- "exactly one place has that ray"
pub led-only : (z : Shape) (t : Rotation) (P Q R : Place) → z.size ≤ 512 → 0 < sum_of_squares t → IsPlace z.size Q → IsPlace z.size R
    → LeadsTo t (ray_in z P) (ray_in z Q) → LeadsTo t (ray_in z P) (ray_in z R) → Q ≡ R
led-only z t P Q R a h q r e f =
    ray-apart (format_of z.format) z.size Q R a q r
    (leads-only t (ray_in z P) (ray_in z Q) (ray_in z R) h e f)

-- where a rotation leads to the place Q, the position that is read is its middle
pub led-position : (z : Shape) (t : Rotation) (P Q : Place) → z.size ≤ 512 → 0 < sum_of_squares t → IsPlace z.size Q
    → LeadsTo t (ray_in z P) (ray_in z Q) → source_position z t (ray_in z P) ≡ middle_of Q
unfolding source_position
led-position z t P Q a h q e =
    ap (locate (format_of z.format) z.size) e ∙ locate-own-times (format_of z.format) z.size (sum_of_squares t) Q a h q

-- and the value is the sample there, with either sampler
pub led-value : (z : Shape) (L bytes : List ℕ) (sampler : ℕ) (t : Rotation) (P Q : Place) → z.size ≤ 512 → 0 < sum_of_squares t → LayoutHolds L
    → T (samples_ok z bytes) → IsPlace z.size Q → LeadsTo t (ray_in z P) (ray_in z Q)
    → value_at z L bytes sampler (source_position z t (ray_in z P)) ≡ sample_at_place bytes z.size L Q
unfolding value_at
led-value z L bytes sampler t P Q a h o b q e =
    ap (sample_from (sampler_of sampler) z.size z.depth (sample_at_place bytes z.size L)) (led-position z t P Q a h q e)
    ∙ value-own (sampler_of sampler) z.size z.depth (sample_at_place bytes z.size L) Q q (place-below z L bytes Q o b q)

-- of a conversion that has passed its checks, to a frame of the source's shape
pub converted-own : (s : ConvertSettings) (n m : ℕ) (source : List ℕ) (P Q : Place) → ConvertPassed s n m source → target_shape s ≡ s.source_shape
    → IsPlace s.source_shape.size Q → LeadsTo s.rotation (ray_in s.source_shape P) (ray_in s.source_shape Q)
    → converted_sample s source P ≡ sample_at_place source s.source_shape.size s.source_layout Q
unfolding converted_sample target_shape
converted-own s n m source P Q c same q e =
    ap (λ z. value_at s.source_shape s.source_layout source s.sampler (source_position s.source_shape s.rotation (ray_in z P))) same
    ∙ led-value s.source_shape s.source_layout source s.sampler s.rotation P Q
    (size-range s.source_shape.size c.source-size).at_most (sum-positive s.rotation c.rotation-nonzero)
    (layout-holds s.source_layout c.source-layout) c.samples q e
