-- The planes of a frame in its bytes: luma comes first.
use Rattle.std.specs.Prelude.{List, ℕ, ◌*◌, take}
use Rattle.cubemap.specs.Frames.{plane_samples}

-- the bytes of luma, of a frame of face size A
abbrev pub luma_of : ℕ → List ℕ → List ℕ
luma_of A bytes = take (2 * plane_samples A) bytes
