-- The examples of the step and of the model hold, and the list of calls is a run, each by computation from the definitions.
-- Assumes nothing.
use mathlib.Core.Path.{refl}
use Rattle.arithmetic.specs.Searches.{largest, lowest_from, all_below}
use Rattle.arithmetic.specs.Sums.{sum_below}
use Rattle.cubemap.specs.Frames.{framed, samples_in, bytes_in, slot_of, quarter_turns, index_in_slot, index}
use Rattle.cubemap.specs.Frames.{place_numbered, place_at}
use Rattle.cubemap.specs.PlaceToRay.{times, table3, ray_of}
use Rattle.cubemap.specs.Rotations.{sum_of_squares, rotated, is_cube_rotation, product, common_divisor, divided, sign_normalized, compose, compose_from}
use Rattle.cubemap.specs.RayToPlace.{face_of, chosen_size, across, down, adjusted, position64, locate}
use Rattle.cubemap.specs.Samplers.{base, phase, tap_place, tap_weight, cubic_sum, rounded, sample_from}
use Rattle.cubemap.specs.Checks.{target_shape, first_failed, size_ok, depth_ok, code_ok, layout_ok, rotation_in_range, rotation_nonzero}
use Rattle.cubemap.specs.Checks.{length_ok, samples_ok, lowest_beyond}
use Rattle.cubemap.specs.Checks.{size_checks, setting_checks, length_checks, before_samples, convert_checks}
use Rattle.cubemap.specs.Outcomes.{source_position, value_at, converted_sample, converted_bytes, convert_answer, convert_outcome}
use Rattle.sequences.specs.Steps.{led_to}
use Rattle.sequences.specs.Model.{told_all, moved_frame, after_call, after_calls, accepted_rotations}
use Rattle.sequences.specs.Runs.{left_by, Each, Keeping}
use Rattle.sequences.specs.ListExamples.{calls, Exists, Examples}
use Rattle.sequences.proofs.Histories.{all_among, reads_whole, made-keeps}

pub examples : Examples
unfolding largest lowest_from all_below sum_below
    framed samples_in bytes_in slot_of quarter_turns index_in_slot index place_numbered place_at
    times table3 ray_of sum_of_squares rotated is_cube_rotation product common_divisor divided sign_normalized compose compose_from
    face_of chosen_size across down adjusted position64 locate base phase tap_place tap_weight cubic_sum rounded sample_from
    target_shape first_failed size_ok depth_ok code_ok layout_ok rotation_in_range rotation_nonzero
    length_ok samples_ok lowest_beyond size_checks setting_checks length_checks before_samples convert_checks
    source_position value_at converted_sample converted_bytes convert_answer convert_outcome
    led_to told_all moved_frame after_call after_calls accepted_rotations left_by Each Keeping
examples = record {
  step = refl;
  refused = λ bytes. refl;
  turns = refl;
  fold = refl;
  folds = refl;
  moved = refl;
  led = refl;
  layout = refl;
  told-alike = λ c d s m n. λ i. record { settings = s i; source_length = m i; target_length = n i };
  says-0 = λ after. refl;
  says-1 = λ after. refl;
  beyond = refl;
  exists = record {
    run = record {
      history = calls;
      made = (made-keeps _ _ _, (made-keeps _ _ _, (made-keeps _ _ _, tt)));
      among = all_among calls;
      reads = (reads_whole _ _ refl, (record { whole = λ t. absurd t; part = λ t. absurd t }, (reads_whole _ _ refl, tt)));
      own = (
        (λ t. record { own-shape = refl; own-layout = refl; same_shape = refl; cube = tt }),
        ((λ t. absurd t), ((λ t. record { own-shape = refl; own-layout = refl; same_shape = refl; cube = tt }), tt)),
      );
    };
    answers = (refl, refl, refl);
  };
}

-- runs exist
pub exists : Exists
exists = examples.exists
