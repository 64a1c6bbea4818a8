-- Numbers of w bytes placed into bytes, one after the other; a sample is a number of two bytes.
use Rattle.std.specs.Prelude.{List, ◌++◌, ℕ, ◌+◌, ◌*◌, take, drop}
use Rattle.cubemap.specs.Frames.{framed}

-- bytes in which n numbers from the index `from` on are those of g, and every other byte stays
abbrev pub placed : ℕ → List ℕ → ℕ → (ℕ → ℕ) → ℕ → List ℕ
placed w bytes from g n = take (w * from) bytes ++ framed w g n ++ drop (w * (from + n)) bytes
