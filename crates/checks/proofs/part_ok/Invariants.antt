-- `part_ok` meets its contract: the bits so far are below 2^D exactly where each sample so far is.
use mathlib.Core.Path.{◌≡◌}
use mathlib.Core.List.{List}
use mathlib.Core.Bool.{Bool}
use Prim.Native.Nat.{ℕ, ◌+◌, ◌^◌}
use lib.Dec.{ltb}
use Rattle.arithmetic.specs.Searches.{all_below}
use Rattle.cubemap.specs.declared.Shape.{Shape}
use Rattle.cubemap.specs.Checks.{sample_ok}
use Rattle.checks.proofs.part_ok.Given as goal

-- is sample i of the part within the depth?
abbrev pub sample_from_ok : Shape → List ℕ → ℕ → ℕ → Bool
sample_from_ok shape bytes from i = sample_ok shape bytes (from + i)

abbrev pub invariant-loop-i : goal.invariant-loop-i
invariant-loop-i l = ltb l.bits (2 ^ l.shape.depth) ≡ all_below (sample_from_ok l.shape l.bytes l.from) l.i
