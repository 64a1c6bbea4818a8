-- `corner_sample` meets its contract: what is read behind the three tests is a place of a frame.
use Rattle.std.proofs.Common.{◌≡◌, arith, sym, ◌∙◌, subst, Bool, true, ◌&&◌}
use mathlib.Core.Path.{ap₂}
use lib.Dec.{T}
use Rattle.arithmetic.proofs.Tests.{passes, All3, and3}
use Rattle.cubemap.specs.Checks.{layout_ok}
use Rattle.cubemap.proofs.Framed.{length-is}
use Rattle.cubemap.proofs.Layouts.{layout-holds}
use Rattle.cubemap.proofs.Passed.{size-range}
use Rattle.conformance.proofs.samples.corner_sample.Goals as goal

-- behind the tests: x, y and z are what they ask, a, b and c what they answered
tests : {a b c x y z : Bool} → a ≡ x → b ≡ y → c ≡ z → (a && b && c) ≡ true → All3 x y z
tests p q r whole = and3 _ _ _ (passes (sym (ap₂ ◌&&◌ (ap₂ ◌&&◌ p q) r) ∙ whole))

pub overflow_sub-corner : goal.overflow_sub-corner
overflow_sub-corner c =
    let t = tests c.size_ok-size.ensures c.layout_ok.ensures c.length_ok.ensures c.if-not-whole.false in
    (size-range _ t.first).at_least

pub layout_of-requires : goal.layout_of-requires
layout_of-requires c =
    let t = tests c.size_ok-size.ensures c.layout_ok.ensures c.length_ok.ensures c.if-not-whole.false in
    (layout-holds _ t.second).twelve_bytes

pub read_sample-requires : goal.read_sample-requires
read_sample-requires c =
    let t = tests c.size_ok-size.ensures c.layout_ok.ensures c.length_ok.ensures c.if-not-whole.false in
    let s = size-range _ t.first in (
      record {
        size-most = s.at_most;
        layout-ok = subst (λ L. T (layout_ok L)) (sym c.layout_of.ensures) t.second;
        whole = length-is _ _ t.third;
      },
      record { face-ok = c.requires; column-ok = s.at_least; row_ok = omega (arith, s.at_least) },
    )
