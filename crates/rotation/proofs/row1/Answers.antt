-- Products of numbers of size at most 31 have sizes of at most 961, and an entry adds up four of them.
use Rattle.arithmetic.proofs.Held.{held-literal, mul, add, sub, mul_ok, add_ok, sub-ok}
use Rattle.cubemap.proofs.HeldNumbers.{held-rotation, ray-of-held}
use Rattle.rotation.proofs.row1.Goals as goal

pub returns : goal.returns
returns c = ray-of-held
    (sub (sub (add (mul (held-rotation _ c.requires).h0 (held-rotation _ c.requires).h0 tt) (mul (held-rotation _ c.requires).h1 (held-rotation _ c.requires).h1 tt) tt) (mul (held-rotation _ c.requires).h2 (held-rotation _ c.requires).h2 tt) tt) (mul (held-rotation _ c.requires).h3 (held-rotation _ c.requires).h3 tt) tt)
    (mul (held-literal 2 tt) (sub (mul (held-rotation _ c.requires).h1 (held-rotation _ c.requires).h2 tt) (mul (held-rotation _ c.requires).h0 (held-rotation _ c.requires).h3 tt) tt) tt)
    (mul (held-literal 2 tt) (add (mul (held-rotation _ c.requires).h1 (held-rotation _ c.requires).h3 tt) (mul (held-rotation _ c.requires).h0 (held-rotation _ c.requires).h2 tt) tt) tt)

pub overflow_mul-result : goal.overflow_mul-result
overflow_mul-result c = mul_ok (held-rotation _ c.requires).h0 (held-rotation _ c.requires).h0 tt

pub overflow_mul-result-2 : goal.overflow_mul-result-2
overflow_mul-result-2 c = mul_ok (held-rotation _ c.requires).h1 (held-rotation _ c.requires).h1 tt

pub overflow_add-result : goal.overflow_add-result
overflow_add-result c = add_ok (mul (held-rotation _ c.requires).h0 (held-rotation _ c.requires).h0 tt) (mul (held-rotation _ c.requires).h1 (held-rotation _ c.requires).h1 tt) tt

pub overflow_mul-result-3 : goal.overflow_mul-result-3
overflow_mul-result-3 c = mul_ok (held-rotation _ c.requires).h2 (held-rotation _ c.requires).h2 tt

pub overflow_sub-result : goal.overflow_sub-result
overflow_sub-result c = sub-ok (add (mul (held-rotation _ c.requires).h0 (held-rotation _ c.requires).h0 tt) (mul (held-rotation _ c.requires).h1 (held-rotation _ c.requires).h1 tt) tt) (mul (held-rotation _ c.requires).h2 (held-rotation _ c.requires).h2 tt) tt

pub overflow_mul-result-4 : goal.overflow_mul-result-4
overflow_mul-result-4 c = mul_ok (held-rotation _ c.requires).h3 (held-rotation _ c.requires).h3 tt

pub overflow_sub-result-2 : goal.overflow_sub-result-2
overflow_sub-result-2 c = sub-ok
    (sub (add (mul (held-rotation _ c.requires).h0 (held-rotation _ c.requires).h0 tt) (mul (held-rotation _ c.requires).h1 (held-rotation _ c.requires).h1 tt) tt) (mul (held-rotation _ c.requires).h2 (held-rotation _ c.requires).h2 tt) tt)
    (mul (held-rotation _ c.requires).h3 (held-rotation _ c.requires).h3 tt) tt

pub overflow_mul-result-5 : goal.overflow_mul-result-5
overflow_mul-result-5 c = mul_ok (held-rotation _ c.requires).h1 (held-rotation _ c.requires).h2 tt

pub overflow_mul-result-6 : goal.overflow_mul-result-6
overflow_mul-result-6 c = mul_ok (held-rotation _ c.requires).h0 (held-rotation _ c.requires).h3 tt

pub overflow_sub-result-3 : goal.overflow_sub-result-3
overflow_sub-result-3 c = sub-ok (mul (held-rotation _ c.requires).h1 (held-rotation _ c.requires).h2 tt) (mul (held-rotation _ c.requires).h0 (held-rotation _ c.requires).h3 tt) tt

pub overflow_mul-result-7 : goal.overflow_mul-result-7
overflow_mul-result-7 c = mul_ok (held-literal 2 tt) (sub (mul (held-rotation _ c.requires).h1 (held-rotation _ c.requires).h2 tt) (mul (held-rotation _ c.requires).h0 (held-rotation _ c.requires).h3 tt) tt) tt

pub overflow_mul-result-8 : goal.overflow_mul-result-8
overflow_mul-result-8 c = mul_ok (held-rotation _ c.requires).h1 (held-rotation _ c.requires).h3 tt

pub overflow_mul-result-9 : goal.overflow_mul-result-9
overflow_mul-result-9 c = mul_ok (held-rotation _ c.requires).h0 (held-rotation _ c.requires).h2 tt

pub overflow_add-result-2 : goal.overflow_add-result-2
overflow_add-result-2 c = add_ok (mul (held-rotation _ c.requires).h1 (held-rotation _ c.requires).h3 tt) (mul (held-rotation _ c.requires).h0 (held-rotation _ c.requires).h2 tt) tt

pub overflow_mul-result-10 : goal.overflow_mul-result-10
overflow_mul-result-10 c = mul_ok (held-literal 2 tt) (add (mul (held-rotation _ c.requires).h1 (held-rotation _ c.requires).h3 tt) (mul (held-rotation _ c.requires).h0 (held-rotation _ c.requires).h2 tt) tt) tt
