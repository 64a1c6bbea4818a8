-- The numbers and limits of the questions, each by computation from the definitions.
-- Assumes nothing.
use mathlib.Core.Path.{refl}
use Rattle.arithmetic.specs.Searches.{largest, lowest_from, all_below}
use Rattle.arithmetic.specs.Sums.{sum_below}
use Rattle.cubemap.specs.Frames.{framed, samples_in, bytes_in}
use Rattle.cubemap.specs.Rotations.{product, common_divisor, divided, sign_normalized, compose}
use Rattle.cubemap.specs.Checks.{target_shape, first_failed, size_ok, depth_ok, code_ok, layout_ok, rotation_in_range, rotation_nonzero}
use Rattle.cubemap.specs.Checks.{length_ok, samples_ok, lowest_beyond, ray_in_range, ray_nonzero}
use Rattle.cubemap.specs.Checks.{size_checks, setting_checks, length_checks, before_samples, convert_checks}
use Rattle.cubemap.specs.Checks.{score_checks, equal_checks, fold_checks, look_up_checks}
use Rattle.cubemap.specs.Outcomes.{convert_answer, score_result, fold_result, equal_result, look_up_result}
use Rattle.cubemap.specs.Listing.{record_checks}
use Rattle.cubemap.specs.Limits.{Limits}

pub limits : Limits
unfolding largest lowest_from all_below sum_below
    framed samples_in bytes_in product common_divisor divided sign_normalized compose
    target_shape first_failed size_ok depth_ok code_ok layout_ok rotation_in_range rotation_nonzero length_ok samples_ok lowest_beyond ray_in_range ray_nonzero
    size_checks setting_checks length_checks before_samples convert_checks score_checks equal_checks fold_checks look_up_checks record_checks
    convert_answer score_result fold_result equal_result look_up_result
limits = record {
  convert-puts = λ s n m source. refl;
  score-puts = λ s first second. refl;
  fold-puts = λ t u. refl;
  equal-puts = λ t u. refl;
  look-up-puts = λ A format v. refl;
  record-puts = λ b. refl;
  sizes = refl;
  score-sizes = refl;
  look-up-sizes = refl;
  depths = refl;
  score-depths = refl;
  codes = refl;
  score-codes = refl;
  look-up-codes = refl;
  layouts = refl;
  score-layouts = refl;
  convert-turns = record { inside = refl; beyond = refl; zeros = refl };
  fold-turns = (record { inside = refl; beyond = refl; zeros = refl }, record { inside = refl; beyond = refl; zeros = refl });
  equal-turns = (record { inside = refl; beyond = refl; zeros = refl }, record { inside = refl; beyond = refl; zeros = refl });
  lengths = refl;
  score-lengths = λ second. refl;
  samples = refl;
  score-samples = refl;
  folded = refl;
  rays-inside = refl;
  rays-beyond = refl;
  zero-ray = refl;
}
