-- `samples_within` meets its contract: no sample before this one is beyond the depth.
use mathlib.Core.Path.{ap}
use mathlib.Core.Bool.{not}
use native.Mathlib.Omega.{arith}
use borrow.Author.Tests.{lt-ltb, le-ltb}
use Rattle.arithmetic.proofs.Searches.{asked-all, asked-next}
use Rattle.cubemap.proofs.Framed.{bytes-number}
use Rattle.cubemap.specs.Checks.{sample_ok}
use Rattle.checks.proofs.Chain.{found-here, found-none}
use Rattle.checks.proofs.samples_within.Goals as goal

pub loop-index-init : goal.loop-index-init
loop-index-init c =
    let a = c.args in
    asked-all (sample_ok a.shape a.bytes.now) _ _ c.blocks_ok-index.ensures.1 c.blocks_ok-index.ensures.0

pub loop-index-preserved : goal.loop-index-preserved
loop-index-preserved c =
    let h = lt-ltb _ _ (rw (c.sample.ensures.0, c.sample_bound-bound.ensures.0) at c.if-bound-sample.false) in
    asked-next c.loop-index.invariant (omega (arith, c.samples_in-index-end.ensures.0)) (ap not h)

pub sample-requires : goal.sample-requires
sample-requires c = omega (arith, bytes-number c.args.shape, c.samples_in-index-end.ensures.0)

pub returns-then-bound-sample : goal.returns-then-bound-sample
returns-then-bound-sample c =
    let h = le-ltb _ _ (rw (c.sample.ensures.0, c.sample_bound-bound.ensures.0) at c.if-bound-sample.true) in
    found-here _ _ c.loop-index.invariant (omega (arith, c.samples_in-index-end.ensures.0)) (ap not h)

pub returns : goal.returns
returns c = found-none _ _ c.loop-index.invariant (omega (arith, c.samples_in-index-end.ensures.0))
