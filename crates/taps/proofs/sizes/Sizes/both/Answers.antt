-- `both` meets its contract: both sums fit, and neither field borrows.
use native.Mathlib.Omega.{arith}
use Rattle.taps.proofs.Fields.{added-fits, fields-are}
use Rattle.taps.proofs.sizes.Sizes.both.Goals.{Start}
use Rattle.taps.proofs.sizes.Sizes.both.Goals as goal

pub returns : goal.returns
returns c =
    let s = c.args.self in
    let r = c.requires in
    fields-are s s.is_sizes _ _ _ _ r.0 r.1 r.2 r.3

pub overflow_mul-result : goal.overflow_mul-result
overflow_mul-result c =
    let s = c.args.self in
    let r = c.requires in
    omega (arith, added-fits s s.is_sizes _ _ _ _ r.0 r.1 r.2 r.3)

pub overflow_add-result : goal.overflow_add-result
overflow_add-result c =
    let s = c.args.self in
    let r = c.requires in
    omega (arith, added-fits s s.is_sizes _ _ _ _ r.0 r.1 r.2 r.3)

pub overflow_mul-result-2 : goal.overflow_mul-result-2
overflow_mul-result-2 c =
    let s = c.args.self in
    let r = c.requires in
    omega (arith, added-fits s s.is_sizes _ _ _ _ r.0 r.1 r.2 r.3)
