-- Products of numbers of size at most 31, and their sums, stay far inside 64 bits.
use mathlib.Core.Path.{sym, ◌∙◌}
use Rattle.arithmetic.proofs.Held.{mul, add, sub, mul_ok, add_ok, sub-ok}
use Rattle.cubemap.proofs.Rotations.{product-first}
use Rattle.cubemap.proofs.HeldNumbers.{held-rotation}
use Rattle.rotation.proofs.product_e1.Goals as goal

pub returns : goal.returns
returns c =
    (sub (add (add (mul (held-rotation _ c.requires.0).h0 (held-rotation _ c.requires.1).h1 tt) (mul (held-rotation _ c.requires.0).h1 (held-rotation _ c.requires.1).h0 tt) tt) (mul (held-rotation _ c.requires.0).h2 (held-rotation _ c.requires.1).h3 tt) tt) (mul (held-rotation _ c.requires.0).h3 (held-rotation _ c.requires.1).h2 tt) tt).is ∙ sym (product-first c.args.a c.args.b)

pub overflow_mul-result : goal.overflow_mul-result
overflow_mul-result c = mul_ok (held-rotation _ c.requires.0).h0 (held-rotation _ c.requires.1).h1 tt

pub overflow_mul-result-2 : goal.overflow_mul-result-2
overflow_mul-result-2 c = mul_ok (held-rotation _ c.requires.0).h1 (held-rotation _ c.requires.1).h0 tt

pub overflow_add-result : goal.overflow_add-result
overflow_add-result c = add_ok
    (mul (held-rotation _ c.requires.0).h0 (held-rotation _ c.requires.1).h1 tt)
    (mul (held-rotation _ c.requires.0).h1 (held-rotation _ c.requires.1).h0 tt) tt

pub overflow_mul-result-3 : goal.overflow_mul-result-3
overflow_mul-result-3 c = mul_ok (held-rotation _ c.requires.0).h2 (held-rotation _ c.requires.1).h3 tt

pub overflow_add-result-2 : goal.overflow_add-result-2
overflow_add-result-2 c = add_ok
    (add (mul (held-rotation _ c.requires.0).h0 (held-rotation _ c.requires.1).h1 tt) (mul (held-rotation _ c.requires.0).h1 (held-rotation _ c.requires.1).h0 tt) tt)
    (mul (held-rotation _ c.requires.0).h2 (held-rotation _ c.requires.1).h3 tt) tt

pub overflow_mul-result-4 : goal.overflow_mul-result-4
overflow_mul-result-4 c = mul_ok (held-rotation _ c.requires.0).h3 (held-rotation _ c.requires.1).h2 tt

pub overflow_sub-result : goal.overflow_sub-result
overflow_sub-result c = sub-ok
    (add (add (mul (held-rotation _ c.requires.0).h0 (held-rotation _ c.requires.1).h1 tt) (mul (held-rotation _ c.requires.0).h1 (held-rotation _ c.requires.1).h0 tt) tt) (mul (held-rotation _ c.requires.0).h2 (held-rotation _ c.requires.1).h3 tt) tt)
    (mul (held-rotation _ c.requires.0).h3 (held-rotation _ c.requires.1).h2 tt) tt
