-- The worked examples hold, each by computation from the definitions.
-- Assumes nothing.
use mathlib.Core.Path.{◌≡◌, refl, ap, ap₂}
use mathlib.Core.List.{List}
use Prim.Native.Nat.{ℕ, ◌*◌}
use native.Mathlib.Omega.{arith}
use lib.IntN.{pos}
use Rattle.arithmetic.specs.Integers.{with_sign_of}
use Rattle.arithmetic.specs.Searches.{largest, lowest_from, all_below}
use Rattle.arithmetic.specs.Sums.{sum_below}
use Rattle.cubemap.specs.declared.Format.{Format}
use Rattle.cubemap.specs.declared.Place.{Place}
use Rattle.cubemap.specs.declared.Shape.{Shape}
use Rattle.cubemap.specs.Interface.{format_of, put_at, put_all}
use Rattle.cubemap.specs.Frames.{place, shape_of, IsPlace, usual_layout, sample_at_place}
use Rattle.cubemap.specs.Frames.{framed, samples_in, bytes_in, slot_of, quarter_turns, index_in_slot, index, place_numbered, place_at}
use Rattle.cubemap.specs.PlaceToRay.{N, from_centre, table3, ray_of}
use Rattle.cubemap.specs.Rotations.{sum_of_squares, rotated, is_cube_rotation, product, common_divisor, divided, sign_normalized}
use Rattle.cubemap.specs.Rotations.{compose, compose_from, same_rotation}
use Rattle.cubemap.specs.RayToPlace.{face_of, chosen_size, across, down, adjusted, position64, locate}
use Rattle.cubemap.specs.Samplers.{nearest_column, nearest_place, base, phase, tap_place, tap_weight, cubic_sum, rounded, sample_from}
use Rattle.cubemap.specs.Score.{weight, squared_difference, over_places, error_sum, weight_sum}
use Rattle.cubemap.specs.Checks.{first_failed, size_ok, depth_ok, code_ok, layout_ok, rotation_in_range, rotation_nonzero}
use Rattle.cubemap.specs.Checks.{length_ok, samples_ok, lowest_beyond, ray_in_range, ray_nonzero}
use Rattle.cubemap.specs.Checks.{target_shape, size_checks, setting_checks, length_checks, before_samples, convert_checks}
use Rattle.cubemap.specs.Checks.{score_checks, equal_checks, fold_checks, look_up_checks}
use Rattle.cubemap.specs.Outcomes.{source_position, value_at, converted_sample, converted_bytes, convert_answer, convert_outcome}
use Rattle.cubemap.specs.Outcomes.{if_accepted, score_values, score_result, fold_result, equal_result, look_up_result}
use Rattle.cubemap.specs.Listing.{is_whole, is_ray_record, record_checks, record_result, digits, spaced, line, lines_of, listing}
use Rattle.cubemap.specs.Marked.{cmp, acp, rotationℕ}
use Rattle.cubemap.specs.Examples.{other_layout, source_of_size2, second_of_size2, to_acp, score_of_size2, Examples}
use Rattle.cubemap.proofs.Marked.{marked}
use Rattle.cubemap.proofs.Places.{over-cong}

frame-bytes : (z : Shape) → bytes_in z ≡ 12 * z.size * z.size
unfolding samples_in bytes_in
frame-bytes z = omega arith

-- the ray of a place of an ACP face of size 2 has P5's number, 27,049
to-acp : (source : List ℕ) → converted_sample to_acp source (place 0 0 1) ≡ sample_at_place source 512 usual_layout (place 5 70 324)
unfolding lowest_from slot_of quarter_turns index_in_slot index table3 ray_of rotated
    face_of chosen_size across down adjusted position64 locate nearest_column nearest_place sample_from source_position value_at converted_sample
to-acp source = ap read marked.P5
  where
    -- by the curve's number
    read : ℕ → ℕ
    read c = value_at (shape_of 512 8 cmp) usual_layout source 0
        (source_position (shape_of 512 8 cmp) (rotationℕ 3 1 2 0) (table3 0 (pos N) (with_sign_of (from_centre 2 0) c) (with_sign_of (from_centre 2 1) c)))

-- every place of size 2 has P7's weight, 35,673, in either format
weight-2 : (format : Format) (P : Place) → IsPlace 2 P → weight format 2 P.column P.row ≡ 35673
unfolding weight
weight-2 format P p = marked.P7.0 P.column P.row p.column-ok p.row_ok

scored-2 : (format : ℕ) (first second : List ℕ) → score_result (score_of_size2 format) first second
    ≡ if_accepted (first_failed (score_checks (score_of_size2 format) first second))
    (score_values
    (over_places 2 (λ P. 35673 * squared_difference (sample_at_place first 2 usual_layout P) (sample_at_place second 2 other_layout P)))
    (over_places 2 (λ P. 35673)))
unfolding score_result error_sum weight_sum
scored-2 format first second = ap₂ (λ e w. if_accepted (first_failed (score_checks (score_of_size2 format) first second)) (score_values e w))
    (over-cong 2 _ (λ P. 35673 * squared_difference (sample_at_place first 2 usual_layout P) (sample_at_place second 2 other_layout P))
    (λ P p. ap (λ w. w * squared_difference (sample_at_place first 2 usual_layout P) (sample_at_place second 2 other_layout P)) (weight-2 (format_of format) P p)))
    (over-cong 2 _ (λ P. 35673) (weight-2 (format_of format)))

pub examples : Examples
unfolding largest lowest_from all_below sum_below put_at put_all
    framed samples_in bytes_in slot_of quarter_turns index_in_slot index place_numbered place_at
    table3 ray_of sum_of_squares rotated is_cube_rotation product common_divisor divided sign_normalized compose compose_from same_rotation
    face_of chosen_size across down adjusted position64 locate
    nearest_column nearest_place base phase tap_place tap_weight cubic_sum rounded sample_from
    first_failed size_ok depth_ok code_ok layout_ok rotation_in_range rotation_nonzero length_ok samples_ok lowest_beyond ray_in_range ray_nonzero
    target_shape size_checks setting_checks length_checks before_samples convert_checks
    source_position value_at converted_sample converted_bytes convert_answer convert_outcome
    squared_difference over_places score_checks equal_checks fold_checks look_up_checks score_result fold_result equal_result look_up_result
    is_whole is_ray_record record_checks record_result digits spaced line lines_of listing
examples = record {
  frame-bytes = frame-bytes;
  converted-nearest = refl;
  converted-cubic = refl;
  converted-smaller = refl;
  converted-to-acp = to-acp;
  convert-refused = λ source target. refl;
  left-rim = (refl, refl);
  position-halves = refl;
  nearest-halves = refl;
  nearest-rims = refl;
  cubic-halves = (refl, refl);
  cubic-clipped = refl;
  clipped = refl;
  sign = refl;
  lowest-terms = refl;
  fold-of-none = refl;
  fold-of-two = refl;
  cube-turns = (tt, tt, (λ t. absurd t));
  equal-by-sign = refl;
  equal-by-factor = refl;
  not_equal = refl;
  not-equal-in-one = refl;
  scored-layouts = scored-2 cmp source_of_size2 second_of_size2;
  scored-acp = scored-2 acp source_of_size2 second_of_size2;
  short-answer = refl;
  lowest-index = λ buffer. refl;
  returned = refl;
  listed = refl;
  listed-refusals = refl;
  listed-fields = refl;
  listed-one-byte = refl;
  listed-empty = refl;
}
