-- The paper, "Frames": samples, layouts, the index of a place and the place at an index.
use Rattle.std.specs.Prelude.{Bool, List, [], ◌∷◌, ◌++◌, ℕ, zero, suc, ◌+◌, ◌*◌, ◌-◌, ◌/◌, ◌%◌, ◌^◌, ◌<◌, ltb, eqb, get_or}
use Rattle.arithmetic.specs.Searches.{lowest}
use Rattle.cubemap.specs.declared.Layout.{Layout}
use Rattle.cubemap.specs.declared.Place.{Place}
use Rattle.cubemap.specs.declared.Shape.{Shape}
use Rattle.cubemap.specs.Interface.{little_endian}

-- "A frame travels as one thing: its bytes with face size, depth, format and layout beside them."
pub record Frame : Type 0 where
  pub shape : Shape
  pub layout : List ℕ
  pub bytes : List ℕ

abbrev pub shape_of : ℕ → ℕ → ℕ → Shape
shape_of A D format = record { size = A; depth = D; format = format }

abbrev pub place : ℕ → ℕ → ℕ → Place
place f m n = record { face = f; column = m; row = n }

-- "A place is (f, m, n), with face f 0 to 5, column m and row n 0 to A−1"
pub record IsPlace (A : ℕ) (P : Place) : Type 0 where
  pub face-ok : P.face < 6
  pub column-ok : P.column < A
  pub row_ok : P.row < A

-- ---- samples

-- "A sample is .. two bytes, little-endian": the sample at index i
abbrev pub sample_at : List ℕ → ℕ → ℕ
sample_at bytes i = get_or bytes (2 * i) 0 + 256 * get_or bytes (2 * i + 1) 0

-- "A sample is 0 to 2^D − 1"
abbrev pub within_depth : ℕ → ℕ → Bool
within_depth D v = ltb v (2 ^ D)

-- the bytes of n numbers of w bytes each, f i at index i; a sample is a number of two bytes
unfoldable pub framed : ℕ → (ℕ → ℕ) → ℕ → List ℕ
framed w f zero = []
framed w f (suc n) = framed w f n ++ little_endian w (f n)

-- "A frame is 3A columns by 2A rows": its samples
abbrev pub plane_samples : ℕ → ℕ
plane_samples A = 2 * A * (3 * A)

-- "One plane of samples per frame"
unfoldable pub samples_in : Shape → ℕ
samples_in z = plane_samples z.size

-- two bytes a sample: "12·A² bytes"
unfoldable pub bytes_in : Shape → ℕ
bytes_in z = 2 * samples_in z

-- ---- layouts: "12 bytes, the six faces and then the six turns"

-- "A layout names for each slot a face and a count of clockwise quarter turns"
abbrev pub face_in : List ℕ → ℕ → ℕ
face_in L slot = get_or L slot 0

abbrev pub quarter_turns_in : List ℕ → ℕ → ℕ
quarter_turns_in L slot = get_or L (6 + slot) 0

-- the bytes of a layout that has been taken apart
abbrev pub layout_bytes : Layout → List ℕ
layout_bytes l = l.faces ++ l.turns

-- the slot that holds the face f
unfoldable pub slot_of : List ℕ → ℕ → ℕ
slot_of L f = lowest (λ slot. eqb (face_in L slot) f) 6

-- "The usual layout has faces 4, 0, 5, 3, 1, 2 with turns 0, 0, 0, 1, 1, 1."
abbrev pub usual_layout : List ℕ
usual_layout = 4 ∷ 0 ∷ 5 ∷ 3 ∷ 1 ∷ 2 ∷ 0 ∷ 0 ∷ 0 ∷ 1 ∷ 1 ∷ 1 ∷ []

-- ---- quarter turns

-- a column and a row, of a face or of a slot
pub record Spot : Type 0 where
  pub column : ℕ
  pub row : ℕ

abbrev pub spot : ℕ → ℕ → Spot
spot m n = record { column = m; row = n }

-- "One quarter turn puts face sample (column m, row n) at column A−1−n, row m of its slot."
abbrev pub quarter_turn : ℕ → Spot → Spot
quarter_turn A s = spot (A - 1 - s.row) s.column

-- k quarter turns
unfoldable pub quarter_turns : ℕ → ℕ → Spot → Spot
quarter_turns A zero s = s
quarter_turns A (suc k) s = quarter_turn A (quarter_turns A k s)

-- ---- indices: "Slots 0 to 5 run left to right, top row first"; "a sample's index is row × 3A + column"

-- the index of a spot of a slot
unfoldable pub index_in_slot : ℕ → ℕ → Spot → ℕ
index_in_slot A slot s = (slot / 3 * A + s.row) * (3 * A) + (slot % 3 * A + s.column)

-- the index at which the layout L puts the place P
unfoldable pub index : ℕ → List ℕ → Place → ℕ
index A L P =
    let slot = slot_of L P.face in
    index_in_slot A slot (quarter_turns A (quarter_turns_in L slot) (spot P.column P.row))

-- the places of a face size by number: face after face, row after row
unfoldable pub place_numbered : ℕ → ℕ → Place
place_numbered A k = place (k / A / A) (k % A) (k / A % A)

-- the place that the layout L has at the index i: the one that it puts there
unfoldable pub place_at : ℕ → List ℕ → ℕ → Place
place_at A L i = place_numbered A (lowest (λ k. eqb (index A L (place_numbered A k)) i) (plane_samples A))

-- the plane of bytes in the layout L whose sample at each place P is g P
abbrev pub plane_of : ℕ → List ℕ → (Place → ℕ) → List ℕ
plane_of A L g = framed 2 (λ i. g (place_at A L i)) (plane_samples A)

-- the sample that a plane of bytes has at a place, and that a frame has there
abbrev pub sample_at_place : List ℕ → ℕ → List ℕ → Place → ℕ
sample_at_place bytes A L P = sample_at bytes (index A L P)

abbrev pub frame_sample : Frame → Place → ℕ
frame_sample F P = sample_at_place F.bytes F.shape.size F.layout P
