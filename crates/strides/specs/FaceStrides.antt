-- The index of a place by the base and the two strides of its face: base + m·column + n·row.
use Rattle.std.specs.Prelude.{◌≡◌, Bool, cond, List, ℕ, ◌*◌, ◌-◌, ◌≤◌, ◌<◌, T, eqb, ℤ, pos, neg_ℤ, nat_abs, ◌+ℤ◌}
use Rattle.std.specs.Prelude.{◌*ℤ◌, length, get_or}
use Rattle.std.specs.Int.Signed.{non_neg}
use Rattle.arithmetic.specs.Integers.{natural, is_positive}
use Rattle.cubemap.specs.declared.Place.{Place}
use Rattle.cubemap.specs.Frames.{place, plane_samples, index, sample_at}
use Rattle.strides.specs.declared.Strides.{Strides}

-- the number that the strides of a face give for a column and a row
abbrev pub index_by : Strides → ℕ → ℕ → ℤ
index_by s m n = s.base +ℤ pos m *ℤ s.column +ℤ pos n *ℤ s.row

-- the rows of a face run along the rows of the frame, ahead or back
abbrev pub Contiguous : Strides → Type 0
Contiguous s = nat_abs s.column ≡ 1

-- for each column m and row n of a face of size A the strides give the index `at m n`; a frame has at most 6·512²
-- samples, and a row of it 3·512. The rows of the face run along the rows of the frame, or its columns do
pub record StridesTo (A : ℕ) (s : Strides) (at : ℕ → ℕ → ℕ) : Type 0 where
  pub base-small : nat_abs s.base ≤ 1572864
  pub column-small : nat_abs s.column ≤ 1536
  pub row_small : nat_abs s.row ≤ 1536
  pub gives : (m n : ℕ) → m < A → n < A → index_by s m n ≡ pos (at m n)
  pub below : (m n : ℕ) → m < A → n < A → at m n < plane_samples A
  pub either : (Contiguous s → ⊥) → nat_abs s.row ≡ 1

-- a face may be asked at column m and row n: its base and strides are those of a frame, and lead to an index there
pub record Askable (s : Strides) (m n : ℕ) : Type 0 where
  pub base-small : nat_abs s.base ≤ 1572864
  pub column-small : nat_abs s.column ≤ 1536
  pub row_small : nat_abs s.row ≤ 1536
  pub column-below : m < 512
  pub row_below : n < 512
  pub not-below-0 : T (non_neg (index_by s m n))

-- the strides of a face lead from each of its columns and rows to a sample of a plane
abbrev pub FaceLeads : ℕ → Strides → Type 0
FaceLeads A s = StridesTo A s (λ m n. natural (index_by s m n))

-- the strides of a face in a table of all six
abbrev pub strides_in : List Strides → ℕ → Strides
strides_in table f = get_or table f (record { base = pos 0; column = pos 0; row = pos 0 })

-- a table that leads to the index of each place in the layout L
abbrev pub LeadsTo : ℕ → List ℕ → List Strides → Type 0
LeadsTo A L table = (f : ℕ) → f < 6 → StridesTo A (strides_in table f) (λ m n. index A L (place f m n))

-- the strides of each face lead to samples of a plane
abbrev pub StrideTable : ℕ → List Strides → Type 0
StrideTable A table = (f : ℕ) → f < 6 → FaceLeads A (strides_in table f)

-- ---- ahead along the rows of a frame

-- columns and rows exchanged
abbrev pub exchanged : Strides → Strides
exchanged s = record { base = s.base; column = s.row; row = s.column }

-- the columns of a face of size A in the other order
abbrev pub mirrored : ℕ → Strides → Strides
mirrored A s = record { base = s.base +ℤ pos (A - 1) *ℤ s.column; column = neg_ℤ s.column; row = s.row }

-- does a row of the face run along a row of the frame, by these strides?
abbrev pub runs_along : Strides → Bool
runs_along s = eqb (nat_abs s.column) 1

-- and does it run ahead?
abbrev pub runs_ahead : Strides → Bool
runs_ahead s = is_positive s.column

-- the strides s, with columns and rows exchanged where a row by the strides g runs down the frame
abbrev pub along : Strides → Strides → Strides
along g s = cond (runs_along g) s (exchanged s)

-- the strides s, with the columns in the other order where a row by the strides g runs back
abbrev pub ahead : ℕ → Strides → Strides → Strides
ahead A g s = cond (runs_ahead g) s (mirrored A s)

-- both, one after the other: by its own strides a row then runs ahead along a row of the frame
abbrev pub aligned : ℕ → Strides → Strides → Strides
aligned A g s = ahead A (along g g) (along g s)

-- a table with the strides of each face so aligned
abbrev pub Aligned : ℕ → List Strides → List Strides → List Strides → Type 0
Aligned A guide table r = (f : ℕ) → f < 6 → strides_in r f ≡ aligned A (strides_in guide f) (strides_in table f)

-- the rows of each face run ahead along the rows of the frame
abbrev pub RowsAhead : List Strides → Type 0
RowsAhead table = (f : ℕ) → f < 6 → (strides_in table f).column ≡ pos 1

-- ---- the bytes of a plane of face size A, and strides to its samples

-- each sample is within the greatest depth
pub record Shallow (A : ℕ) (plane : List ℕ) : Type 0 where
  pub within : (i : ℕ) → i < plane_samples A → sample_at plane i < 4096

-- those of a face
pub record StridedFace (A : ℕ) (plane : List ℕ) (s : Strides) : Type 0 where
  pub size-most : A ≤ 512
  pub whole : length plane ≡ 2 * plane_samples A
  pub leads : FaceLeads A s

-- those of all six
pub record StridedPlane (A : ℕ) (plane : List ℕ) (table : List Strides) : Type 0 where
  pub size-least : 1 ≤ A
  pub size-most : A ≤ 512
  pub whole : length plane ≡ 2 * plane_samples A
  pub leads : StrideTable A table

-- the sample at a column and a row of a face
abbrev pub sample_on_face : List ℕ → Strides → ℕ → ℕ → ℕ
sample_on_face plane s m n = sample_at plane (natural (index_by s m n))

-- and at a place
abbrev pub sample_by : List ℕ → List Strides → Place → ℕ
sample_by plane table P = sample_on_face plane (strides_in table P.face) P.column P.row

-- the bytes of row n of a face, from its first column on
pub record RowOf (A : ℕ) (plane : List ℕ) (s : Strides) (n : ℕ) (row : List ℕ) : Type 0 where
  pub whole : length row ≡ 2 * A
  pub sample : (m : ℕ) → m < A → sample_at row m ≡ sample_on_face plane s m n
