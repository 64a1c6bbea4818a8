-- `part_ok` meets its contract: the bits so far are below 2^D exactly where each sample so far is.
use mathlib.Core.Path.{sym, ◌∙◌, ap, ap₂}
use mathlib.Core.Bool.{◌&&◌}
use Prim.Native.Nat.{◌^◌}
use native.Mathlib.Omega.{arith}
use lib.Dec.{ltb}
use lib.Pow.{pow_pos}
use borrow.Author.Tests.{lt-ltb}
use Rattle.arithmetic.proofs.Bits.{or-below}
use Rattle.arithmetic.proofs.Searches.{asked-none, all_pass, all-next}
use Rattle.checks.proofs.part_ok.Invariants.{sample_from_ok}
use Rattle.checks.proofs.part_ok.Goals as goal

pub loop-i-init : goal.loop-i-init
loop-i-init c = lt-ltb _ _ (pow_pos c.args.shape.depth) ∙ sym (all_pass (asked-none _ _ 0) (omega arith))

pub loop-i-preserved : goal.loop-i-preserved
loop-i-preserved c =
    let s = c.args in
    or-below s.shape.depth c.loop-i.bits c.sample.result
    ∙ ap₂ ◌&&◌ c.loop-i.invariant (ap (λ v. ltb v (2 ^ s.shape.depth)) c.sample.ensures.0)
    ∙ sym (all-next (sample_from_ok s.shape s.bytes.now s.from) c.loop-i.i)
