-- How large squares are.
use mathlib.Core.Path.{sym, subst}
use Prim.Native.Nat.{ℕ, ◌*◌, ◌≤◌, ◌<◌}
use native.Mathlib.Nat.{mul-le-mul}
use native.Mathlib.Omega.{arith}
use Rattle.arithmetic.proofs.Sizes.{difference-small}
use Rattle.cubemap.specs.Score.{difference, squared_difference}
use Rattle.cubemap.proofs.Scores.{squared-is}
use Rattle.arithmetic.specs.Sums.{sum_below, both_terms}
use Rattle.arithmetic.proofs.Sums.{sum-bounded, both-bounded}
use Rattle.strides.specs.FaceStrides.{strides_in}
use Rattle.strides.proofs.StrideIndices.{face-of}
use Rattle.differences.specs.declared.pairs.FacePair.{FacePair}
use Rattle.differences.specs.declared.pairs.PlanePair.{PlanePair}
use Rattle.differences.specs.RowSquares.{face_squares}
use Rattle.differences.specs.PairSquares.{face_pair_squares}

-- the square of the difference of two samples
pub squared-small : (x y : ℕ) → x < 4096 → y < 4096 → squared_difference x y ≤ 16769025
squared-small x y p q = subst (λ n. n ≤ 16769025) (sym (squared-is x y)) (mul-le-mul apart apart)
  where
    apart : difference x y ≤ 4095
    apart = difference-small x y 4095 (omega arith) (omega arith)

-- of two faces
pub pair-small : (p : FacePair) (n m : ℕ) → n < p.first.face.size → m < p.first.face.size
    → face_pair_squares p n m ≤ 16769025
pair-small p n m h l = squared-small _ _ (p.first.shallow.within _ (p.first.face.strided.leads.below m n l h))
    (p.second.shallow.within _ (p.second.face.strided.leads.below m n
    (omega (arith, p.one_size)) (omega (arith, p.one_size))))

-- ---- of two planes

-- the square at column m and row n of face f
abbrev pub square_on : PlanePair → ℕ → ℕ → ℕ → ℕ
square_on p m n f = face_squares p.first.plane.bytes.now (strides_in p.first.plane.strides.now f)
    p.second.plane.bytes.now (strides_in p.second.plane.strides.now f) n m

-- those of the rows i and j
abbrev pub part : PlanePair → ℕ → ℕ → ℕ → ℕ → ℕ
part p i j m f = both_terms (λ n. square_on p m n f) i j

-- the parts of k faces
pub parts-small : (p : PlanePair) (i j m k : ℕ) → i < p.first.plane.size → j < p.first.plane.size
    → m < p.first.plane.size → k ≤ 6 → sum_below (part p i j m) k ≤ k * 33538050
parts-small p i j m k h l o q = sum-bounded k 33538050 (part p i j m) (λ f u.
    both-bounded (λ n. square_on p m n f) i j 16769025 (small i f h (omega arith)) (small j f l (omega arith)))
  where
    small : (n f : ℕ) → n < p.first.plane.size → f < 6 → square_on p m n f ≤ 16769025
    small n f b u = squared-small _ _
        (p.first.shallow.within _ ((face-of p.first.plane.strided f u).leads.below m n o b))
        (p.second.shallow.within _ ((face-of p.second.plane.strided f u).leads.below m n
        (omega (arith, p.one_size)) (omega (arith, p.one_size))))
