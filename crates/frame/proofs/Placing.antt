-- Numbers of w bytes placed into bytes one after the other, and run after run, in the order of their indices.
use mathlib.Core.Path.{◌≡◌, sym, ◌∙◌, ap, ap₂}
use mathlib.Core.List.{List, ◌++◌, append_assoc, append-nil}
use Prim.Native.Nat.{ℕ, zero, suc, ◌+◌, ◌*◌, ◌-◌, ◌≤◌, ◌<◌}
use native.Mathlib.Omega.{arith}
use native.Mathlib.Nat.{zero-add, add-zero, add-suc, mul-le-mul_left}
use native.Mathlib.Numerals.{add-one}
use lib.ListN.{length, take, drop, length-append, length-drop, take-append-drop, drop_of_length-le}
use lib.Seq.{sets, sets-eq, length-take-le, take_at, drop_at, drop-drop}
use borrow.Rule.Slice.PartMut.{put_mid}
use Rattle.cubemap.specs.Interface.{little_endian}
use Rattle.cubemap.specs.Frames.{framed}
use Rattle.cubemap.proofs.Framed.{framed-none, framed-next, framed-length, framed-cong, little_endian-length}
use Rattle.frame.specs.Placing.{placed}

-- where all bytes were lent, they are those that come back
pub put_whole : (bytes new : List ℕ) (n : ℕ) → length bytes ≡ n → put_mid 0 n bytes new ≡ new
put_whole bytes new n e = ap (λ x. new ++ x) (drop_of_length-le bytes {i = n} (omega arith)) ∙ append-nil new

module _ (w : ℕ) where
  -- the bytes up to the n-th number placed
  abbrev front : List ℕ → ℕ → (ℕ → ℕ) → ℕ → List ℕ
  front bytes from g n = take (w * from) bytes ++ framed w g n

  front_length : (bytes : List ℕ) (from : ℕ) (g : ℕ → ℕ) (n : ℕ) → w * (from + n) ≤ length bytes
      → length (front bytes from g n) ≡ w * (from + n)
  front_length bytes from g n h =
      length-append (take (w * from) bytes) (framed w g n)
      ∙ omega (arith, length-take-le (w * from) bytes (omega arith), framed-length w g n)

  pub placed-length : (bytes : List ℕ) (from : ℕ) (g : ℕ → ℕ) (n : ℕ) → w * (from + n) ≤ length bytes
      → length (placed w bytes from g n) ≡ length bytes
  placed-length bytes from g n h =
      length-append (front bytes from g n) (drop (w * (from + n)) bytes)
      ∙ omega (arith, front_length bytes from g n h, length-drop (w * (from + n)) bytes)

  -- none yet
  pub placed-none : (bytes : List ℕ) (from : ℕ) (g : ℕ → ℕ) → placed w bytes from g 0 ≡ bytes
  placed-none bytes from g =
      ap₂ (λ x n. take (w * from) bytes ++ x ++ drop (w * n) bytes) (framed-none w g) (add-zero from)
      ∙ ap (λ x. x ++ drop (w * from) bytes) (append-nil (take (w * from) bytes))
      ∙ take-append-drop (w * from) bytes

  -- n numbers of at most so many are placed
  pub record Placed (from : ℕ) (g : ℕ → ℕ) (before now : List ℕ) (most n : ℕ) : Type 0 where
    pub bounded : n ≤ most
    pub holds : now ≡ placed w before from g n

  pub kept : {from most n : ℕ} {g : ℕ → ℕ} {before now : List ℕ} → Placed from g before now most n
      → w * (from + most) ≤ length before → length now ≡ length before
  kept {from} {most} {n} {g} {before} p h =
      ap length p.holds ∙ placed-length before from g n (fits (mul-le-mul_left w p.bounded))
    where
      fits : w * n ≤ w * most → w * (from + n) ≤ length before
      fits b = omega arith

  pub none-placed : (bytes : List ℕ) (from most : ℕ) (g : ℕ → ℕ) → Placed from g bytes bytes most 0
  none-placed bytes from most g = record { bounded = omega arith; holds = sym (placed-none bytes from g) }

  -- one more
  pub placed-next : (bytes : List ℕ) (from : ℕ) (g : ℕ → ℕ) (n : ℕ) → w * (from + n) + w ≤ length bytes
      → sets (placed w bytes from g n) (w * (from + n)) (little_endian w (g n)) ≡ placed w bytes from g (n + 1)
  placed-next bytes from g n h =
      sets-eq (little_endian w (g n)) (placed w bytes from g n) (w * (from + n))
      (omega (arith, placed-length bytes from g n (omega arith), little_endian-length w (g n)))
      ∙ ap₂ (λ x y. x ++ little_endian w (g n) ++ y) (take_at (front bytes from g n) rest (w * (from + n)) whole) behind
      ∙ ap (λ x. x ++ drop (w * (from + (n + 1))) bytes)
      (append_assoc (take (w * from) bytes) (framed w g n) (little_endian w (g n))
      ∙ ap (λ x. take (w * from) bytes ++ x) one_more)
    where
      rest : List ℕ
      rest = drop (w * (from + n)) bytes

      whole : length (front bytes from g n) ≡ w * (from + n)
      whole = front_length bytes from g n (omega arith)

      behind : drop (w * (from + n) + length (little_endian w (g n))) (placed w bytes from g n)
          ≡ drop (w * (from + (n + 1))) bytes
      behind =
          ap (λ k. drop (w * (from + n) + k) (placed w bytes from g n)) (little_endian-length w (g n))
          ∙ sym (drop-drop w (w * (from + n)) (placed w bytes from g n))
          ∙ ap (drop w) (drop_at (front bytes from g n) rest (w * (from + n)) whole)
          ∙ drop-drop w (w * (from + n)) bytes
          ∙ ap (λ k. drop k bytes) (one_width from n)
        where
          one_width : (k n : ℕ) → w * (k + n) + w ≡ w * (k + (n + 1))
          one_width k n = omega arith

      one_more : framed w g n ++ little_endian w (g n) ≡ framed w g (n + 1)
      one_more = sym (framed-next w g n) ∙ ap (framed w g) (sym (add-one n))

  -- ---- run after run

  framed-add : (f : ℕ → ℕ) (m n : ℕ) → framed w f (m + n) ≡ framed w f m ++ framed w (λ j. f (m + j)) n
  framed-add f m zero =
      ap (framed w f) (add-zero m) ∙ sym (append-nil (framed w f m))
      ∙ ap (λ x. framed w f m ++ x) (sym (framed-none w (λ j. f (m + j))))
  framed-add f m (suc n) =
      ap (framed w f) (add-suc m n) ∙ framed-next w f (m + n)
      ∙ ap (λ x. x ++ little_endian w (f (m + n))) (framed-add f m n)
      ∙ append_assoc (framed w f m) (framed w (λ j. f (m + j)) n) (little_endian w (f (m + n)))
      ∙ ap (λ x. framed w f m ++ x) (sym (framed-next w (λ j. f (m + j)) n))

  pub placed-run : (bytes : List ℕ) (from : ℕ) (f : ℕ → ℕ) (m n : ℕ) → w * (from + (m + n)) ≤ length bytes
      → placed w (placed w bytes from f m) (from + m) (λ j. f (m + j)) n ≡ placed w bytes from f (m + n)
  placed-run bytes from f m n h =
      ap₂ (λ x y. x ++ framed w (λ j. f (m + j)) n ++ y) (take_at (front bytes from f m) rest (w * (from + m)) whole) behind
      ∙ ap (λ x. x ++ drop (w * (from + (m + n))) bytes)
      (append_assoc (take (w * from) bytes) (framed w f m) (framed w (λ j. f (m + j)) n)
      ∙ ap (λ x. take (w * from) bytes ++ x) (sym (framed-add f m n)))
    where
      rest : List ℕ
      rest = drop (w * (from + m)) bytes

      whole : length (front bytes from f m) ≡ w * (from + m)
      whole = front_length bytes from f m (omega arith)

      behind : drop (w * (from + m + n)) (placed w bytes from f m) ≡ drop (w * (from + (m + n))) bytes
      behind =
          ap (λ k. drop k (placed w bytes from f m)) (split from m n)
          ∙ sym (drop-drop (w * n) (w * (from + m)) (placed w bytes from f m))
          ∙ ap (drop (w * n)) (drop_at (front bytes from f m) rest (w * (from + m)) whole)
          ∙ drop-drop (w * n) (w * (from + m)) bytes
          ∙ ap (λ k. drop k bytes) (joined from m n)
        where
          split : (k m n : ℕ) → w * (k + m + n) ≡ w * (k + m) + w * n
          split k m n = omega arith

          joined : (k m n : ℕ) → w * (k + m) + w * n ≡ w * (k + (m + n))
          joined k m n = omega arith

  -- n more, behind those from the first index on
  pub placed-more : {f : ℕ → ℕ} {before now after : List ℕ} {most m : ℕ} (n k : ℕ) → Placed 0 f before now most m
      → m + n ≡ k → k ≤ most → w * most ≤ length before → after ≡ placed w now m (λ j. f (m + j)) n
      → Placed 0 f before after most k
  placed-more {f} {before} {most = most} {m} n k p all bounded room e = record {
    bounded = bounded;
    holds = e
        ∙ ap (λ bytes. placed w bytes m (λ j. f (m + j)) n) p.holds
        ∙ ap (λ i. placed w (placed w before 0 f m) i (λ j. f (m + j)) n) (sym (zero-add m))
        ∙ placed-run before 0 f m n (fits (mul-le-mul_left w bounded))
        ∙ ap (placed w before 0 f) all;
  }
    where
      fits : w * k ≤ w * most → w * (0 + (m + n)) ≤ length before
      fits b = omega (arith, ap (λ i. w * i) all)

  -- a part that was lent, and comes back with the numbers of g
  pub put-placed : (bytes : List ℕ) (from to first last : ℕ) (g : ℕ → ℕ) → first ≡ w * from → last ≡ w * to → from ≤ to
      → put_mid first (last - first) bytes (framed w g (to - from)) ≡ placed w bytes from g (to - from)
  put-placed bytes from to first last g e d h =
      ap (λ x. take first bytes ++ (framed w g (to - from) ++ x)) (drop-drop (last - first) first bytes)
      ∙ ap₂ (λ a k. take a bytes ++ (framed w g (to - from) ++ drop k bytes)) e behind
      ∙ sym (append_assoc (take (w * from) bytes) (framed w g (to - from)) (drop (w * (from + (to - from))) bytes))
    where
      behind : first + (last - first) ≡ w * (from + (to - from))
      behind = ends (mul-le-mul_left w h) ∙ ap (λ k. w * k) (whole from to h)
        where
          ends : w * from ≤ w * to → first + (last - first) ≡ w * to
          ends l = omega (arith, e, d)

          whole : (a b : ℕ) → a ≤ b → b ≡ a + (b - a)
          whole a b l = omega arith

  -- all of them
  pub placed-all : (bytes : List ℕ) (f : ℕ → ℕ) (n : ℕ) → length bytes ≡ w * n → placed w bytes 0 f n ≡ framed w f n
  placed-all bytes f n e =
      ap₂ (λ x y. x ++ framed w f n ++ y) (ap (λ k. take k bytes) none)
      (drop_of_length-le bytes {i = w * (0 + n)} (omega arith))
      ∙ append-nil (framed w f n)
    where
      none : w * 0 ≡ 0
      none = omega arith

  -- with other numbers that are the same
  pub placed-cong : (bytes : List ℕ) (from : ℕ) (f g : ℕ → ℕ) (n : ℕ) → ((j : ℕ) → j < n → f j ≡ g j)
      → placed w bytes from f n ≡ placed w bytes from g n
  placed-cong bytes from f g n h =
      ap (λ x. take (w * from) bytes ++ x ++ drop (w * (from + n)) bytes) (framed-cong w f g n h)
