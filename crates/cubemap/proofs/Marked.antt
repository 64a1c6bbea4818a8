-- The thirteen marked cases hold, each by computation from the definitions.
-- Assumes nothing.
use mathlib.Core.Path.{◌≡◌, refl}
use Prim.Native.Nat.{ℕ, zero, suc, ◌<◌}
use native.Mathlib.Omega.{arith}
use Rattle.arithmetic.specs.Searches.{largest, lowest_from, all_below}
use Rattle.arithmetic.specs.Sums.{sum_below}
use Rattle.cubemap.specs.declared.Format.{Format}
use Rattle.cubemap.specs.Interface.{put_at, put_all}
use Rattle.cubemap.specs.Frames.{framed, samples_in, bytes_in, slot_of, quarter_turns, index_in_slot, index}
use Rattle.cubemap.specs.PlaceToRay.{curve, table3, ray_of}
use Rattle.cubemap.specs.Rotations.{rotated, product, common_divisor, divided, sign_normalized, compose}
use Rattle.cubemap.specs.RayToPlace.{face_of, chosen_size, across, down, adjusted, position64, locate}
use Rattle.cubemap.specs.Samplers.{nearest_column, nearest_place, tap_weight, sample_from}
use Rattle.cubemap.specs.Score.{weight_of, weight, squared_difference, over_places, error_sum, weight_sum}
use Rattle.cubemap.specs.Checks.{first_failed, size_ok, depth_ok, code_ok, layout_ok, rotation_in_range, rotation_nonzero}
use Rattle.cubemap.specs.Checks.{length_ok, samples_ok, lowest_beyond, ray_in_range, ray_nonzero}
use Rattle.cubemap.specs.Checks.{score_checks, equal_checks, fold_checks, look_up_checks}
use Rattle.cubemap.specs.Outcomes.{score_result, fold_result, look_up_result, source_position, value_at, converted_sample}
use Rattle.cubemap.specs.Marked.{Marked}

-- p and q of all four places of a face of size 2 have size 1
weight-2 : weight_of 2 1 1 ≡ 35673
unfolding weight_of largest
weight-2 = refl

weights-2 : (m n : ℕ) → m < 2 → n < 2 → weight Format.Cmp 2 m n ≡ 35673
unfolding weight
weights-2 zero zero h k = weight-2
weights-2 zero (suc zero) h k = weight-2
weights-2 (suc zero) zero h k = weight-2
weights-2 (suc zero) (suc zero) h k = weight-2
weights-2 zero (suc (suc n)) h k = absurd (omega arith)
weights-2 (suc zero) (suc (suc n)) h k = absurd (omega arith)
weights-2 (suc (suc m)) n h k = absurd (omega arith)

pub marked : Marked
unfolding largest lowest_from all_below sum_below
    put_at put_all framed samples_in bytes_in slot_of quarter_turns index_in_slot index
    curve table3 ray_of rotated product common_divisor divided sign_normalized compose
    face_of chosen_size across down adjusted position64 locate
    nearest_column nearest_place tap_weight sample_from
    weight_of weight squared_difference over_places error_sum weight_sum
    first_failed size_ok depth_ok code_ok layout_ok rotation_in_range rotation_nonzero length_ok samples_ok lowest_beyond ray_in_range ray_nonzero
    score_checks equal_checks fold_checks look_up_checks
    score_result fold_result look_up_result source_position value_at converted_sample
marked = record {
  P1 = refl;
  P2 = refl;
  P3 = refl;
  P4 = refl;
  P5 = refl;
  P6 = refl;
  P7 = (weights-2, refl, refl);
  P8 = refl;
  P9 = refl;
  P10 = refl;
  P11 = λ buffer. refl;
  P12 = (refl, refl, λ source. refl);
  P13 = refl;
}
