-- What a question answers, and what a search of a frame's samples finds.
use Rattle.std.specs.Prelude.{◌≡◌, Bool, cond, List, ℕ, ◌≤◌, T, length, Result as Returned, Ok, Err}
use Rattle.cubemap.specs.declared.Refusal.{Refusal}
use Rattle.cubemap.specs.declared.Shape.{Shape}
use Rattle.cubemap.specs.Frames.{bytes_in}
use Rattle.cubemap.specs.Checks.{depth_ok, samples_ok, lowest_beyond}

-- one question: "yes", or its refusal
abbrev pub asked : Bool → Refusal → Returned Unit Refusal
asked holds refused = cond holds (Ok tt) (Err refused)

-- one question more, behind the `?` of those before it: it is asked only where they came to "yes"
abbrev pub asked_after : Returned Unit Refusal → Bool → Refusal → Returned Unit Refusal
asked_after (Ok done) holds refused = asked holds refused
asked_after (Err earlier) holds refused = Err earlier

-- what code asks of a frame before it looks at its samples
pub record Readable (z : Shape) (bytes : List ℕ) : Type 0 where
  pub size-most : z.size ≤ 512
  pub depth-ok : T (depth_ok z.depth)
  pub whole : length bytes ≡ bytes_in z

-- what a search of all samples finds: each is within the depth, or the lowest index of one that is not
abbrev pub searched : Shape → List ℕ → Returned Unit ℕ
searched z bytes = cond (samples_ok z bytes) (Ok tt) (Err (lowest_beyond z bytes))
