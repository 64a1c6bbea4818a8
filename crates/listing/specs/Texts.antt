-- What a function that puts text into a lent buffer gives: the buffer with `more` stored from byte `at` on, every other byte as it was, and
-- where that text ends.
use Rattle.std.specs.Prelude.{◌≡◌, List, ℕ, ◌+◌, length}
use Rattle.std.proofs.lemmas.List.Edits.{sets}

pub record Put (before : List ℕ) (at : ℕ) (more : List ℕ) (end : ℕ) (after : List ℕ) : Type 0 where
  pub ends : end ≡ at + length more
  pub holds : after ≡ sets before at more
