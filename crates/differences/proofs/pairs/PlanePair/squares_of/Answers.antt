-- `squares_of` meets its contract: after f faces the sums have the squares of the first f.
use mathlib.Core.Path.{◌≡◌, sym, ◌∙◌, ap, ap₂}
use Prim.Native.Nat.{ℕ, ◌+◌, ◌<◌}
use native.Mathlib.Omega.{arith}
use lib.ListN.{get_or-replicate}
use Rattle.arithmetic.specs.Sums.{sum_below}
use Rattle.arithmetic.proofs.Sums.{sum-empty, sum-next, both-cong, sum_both}
use Rattle.differences.specs.PairSquares.{face_pair_squares}
use Rattle.differences.proofs.Squares.{square_on, part, parts-small}
use Rattle.differences.proofs.pairs.PlanePair.squares_of.Goals as goal

pub loop-face-init : goal.loop-face-init
loop-face-init c = λ m h. get_or-replicate {A = ℕ} 512 m 0 0 (omega arith) ∙ sym (sum-empty _)

pub add_both-requires-clause-room : goal.add_both-requires-clause-room
add_both-requires-clause-room c = record {
  most = λ m h.
      let inside : m < c.args.self.first.plane.size = omega (arith, c.face.ensures.size) in
      omega (
        arith,
        c.loop-face.invariant m inside,
        parts-small c.args.self c.args.row c.args.mirror m c.loop-face.face c.requires.0 c.requires.1 inside
            (omega arith),
      );
}

pub loop-face-preserved : goal.loop-face-preserved
loop-face-preserved c = λ m h.
    c.add_both.ensures.entry m (omega (arith, c.face.ensures.size))
    ∙ ap₂ ◌+◌ (c.loop-face.invariant m h)
    (both-cong (λ n. face_pair_squares c.face.result n m) (λ n. square_on c.args.self m n c.loop-face.face)
    c.args.row c.args.mirror (c.face.ensures.squares c.args.row m) (c.face.ensures.squares c.args.mirror m))
    ∙ sym (sum-next (part c.args.self c.args.row c.args.mirror m) c.loop-face.face)

pub returns : goal.returns
returns c =
    let p = c.args.self in
    let all : c.loop-face.face ≡ 6 = omega arith in
    record {
      entry = λ m h.
          c.loop-face.invariant m h ∙ ap (sum_below (part p c.args.row c.args.mirror m)) all
          ∙ sum_both 6 (square_on p m) c.args.row c.args.mirror;
      most = λ m h. omega (
        arith,
        c.loop-face.invariant m h,
        parts-small p c.args.row c.args.mirror m c.loop-face.face c.requires.0 c.requires.1 h (omega arith),
      );
    }
