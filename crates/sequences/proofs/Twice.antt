-- Two calls, one after the other, are a run: what `turn_twice` draws from the theorem.
use mathlib.Core.Path.{◌≡◌, refl, sym, ◌∙◌, ap, subst}
use mathlib.Core.Bool.{Bool, true, false, cond}
use mathlib.Core.List.{List, [], ◌∷◌}
use Prim.Native.Nat.{ℕ, ◌≤◌}
use lib.Dec.{T, eqb, eqb→eq}
use lib.ListN.{length}
use Rattle.arithmetic.proofs.Tests.{cond-true}
use Rattle.cubemap.specs.declared.Rotation.{Rotation}
use Rattle.cubemap.specs.declared.Shape.{Shape}
use Rattle.cubemap.specs.Frames.{Frame}
use Rattle.cubemap.specs.Rotations.{compose_all, CubeRotation}
use Rattle.cubemap.specs.Checks.{convert_settings, target_shape}
use Rattle.cubemap.specs.Promises.{ConvertCall, ConvertPromise}
use Rattle.cubemap.proofs.Answers.{returned-0}
use Rattle.cubemap.proofs.Passed.{size-range, convert-passed}
use Rattle.sequences.specs.declared.Codes.{Codes}
use Rattle.sequences.specs.Model.{told, told_all, answer_to, accepts, Model, at_start, after_call, accepted_rotations}
use Rattle.sequences.specs.Runs.{left_by, last_frame, Each, OwnCubeTurn, Keeping}
use Rattle.sequences.specs.Demand3.{Answered, Moved, Kept}
use Rattle.sequences.specs.Twice.{frame_of, turn_call, TurnedTwice}
use Rattle.sequences.proofs.Histories.{all_among, reads_whole}
use Rattle.sequences.proofs.Calls.{answers-0}
use Rattle.sequences.proofs.Permanence.{permanence}

-- a turn to a frame of the same shape and layout
own_turn : (z : Shape) (sampler : ℕ) (L : List ℕ) (t : Rotation) (bytes : List ℕ) → CubeRotation t
    → OwnCubeTurn (frame_of z L bytes) (convert_settings z z.size z.format sampler L L t)
unfolding target_shape
own_turn z sampler L t bytes c = record { own-shape = refl; own-layout = refl; same_shape = refl; cube = c }

module _ (z : Shape) (sampler : ℕ) (L : List ℕ) (t u : Rotation) (source middle target : List ℕ) (r : Codes)
    (layout_after source_after middle_after target_after : List ℕ) where
  abbrev F : Frame
  F = frame_of z L source

  -- what the second call reads
  abbrev read : List ℕ
  read = cond (eqb r.first 0) middle_after source

  abbrev call1 : ConvertCall
  call1 = turn_call z sampler L t source middle r.first layout_after source_after middle_after

  abbrev call2 : ConvertCall
  call2 = turn_call z sampler L u read target r.later layout_after (cond (eqb r.first 0) middle_after source_after) target_after

  abbrev calls : List ConvertCall
  calls = call1 ∷ call2 ∷ []

  module _ (p : ConvertPromise call1) (q : ConvertPromise call2) where
    left : left_by F call1 ≡ frame_of z L read
    unfolding left_by target_shape
    left = ap (λ b. cond b (frame_of z L middle_after) F) (answers-0 call1 p) ∙ either (eqb r.first 0)
      where
        either : (b : Bool) → cond b (frame_of z L middle_after) (frame_of z L source) ≡ frame_of z L (cond b middle_after source)
        either true = refl
        either false = refl

    made : Keeping ConvertPromise calls
    unfolding Keeping
    made = (p, (q, tt))

    -- an accepted call answered 0
    says-0 : (code : ℕ) {b : Bool} → b ≡ eqb code 0 → T b → code ≡ 0
    says-0 code e h = eqb→eq code 0 (subst T e h)

    kept : (r.first ≡ 0 → CubeRotation t) → (r.later ≡ 0 → CubeRotation u) → Kept F calls
    unfolding Each
    kept c d = permanence.kept F calls (record {
      history = calls;
      made = made;
      among = all_among calls;
      reads = (reads_whole F call1 refl, (reads_whole (left_by F call1) call2 (ap (λ G. G.bytes) (sym left)), tt));
      own = (
        (λ a. own_turn z sampler L t source (c (says-0 r.first (answers-0 call1 p) a))),
        (
          (λ a. subst (λ G. OwnCubeTurn G call2.settings) (sym left) (own_turn z sampler L u read (d (says-0 r.later (answers-0 call2 q) a)))),
          tt,
        ),
      );
    })

    -- ---- where both answer 0

    module _ (c : CubeRotation t) (d : CubeRotation u) (e : r.first ≡ 0) (f : r.later ≡ 0) where
      whole : Kept F calls
      whole = kept (λ a. c) (λ a. d)

      accepts1 : T (accepts (told call1) source)
      accepts1 = subst T (sym (answers-0 call1 p)) (subst (λ n. T (eqb n 0)) (sym e) tt)

      accepts2 : T (accepts (told call2) read)
      accepts2 = subst T (sym (answers-0 call2 q)) (subst (λ n. T (eqb n 0)) (sym f) tt)

      last : last_frame F calls ≡ frame_of z L target_after
      unfolding last_frame left_by target_shape
      last = cond-true (accepts (told call2) read) (frame_of z L target_after) (left_by F call1) accepts2

      turns : accepted_rotations (at_start F) (told_all calls) ≡ t ∷ u ∷ []
      unfolding accepted_rotations told_all Answered
      turns =
          cond-true (accepts (told call1) source) _ _ accepts1
          ∙ ap (λ us. t ∷ us) (cond-true (accepts (told call2) after.frame.bytes) (u ∷ []) []
          (returned-0 (answer_to (told call2) after.frame.bytes) (sym whole.answered.1.0.returns ∙ f)))
        where
          after : Model
          after = after_call (at_start (frame_of z L source)) (told call1)

      size : z.size ≤ 512
      size = (size-range z.size (convert-passed call1.settings (length source) (length middle) source accepts1).source-size).at_most

      moved : Moved F (frame_of z L target_after) (compose_all (t ∷ u ∷ []))
      moved = subst (λ G. Moved F G (compose_all (t ∷ u ∷ []))) last
          (subst (λ x. Moved F (last_frame F calls) x) (whole.fold ∙ ap compose_all turns) (whole.moved size))

  -- by what the first call answered
  pub turned-twice : (b : Bool) → eqb r.first 0 ≡ b → ConvertPromise call1
      → ConvertPromise (turn_call z sampler L u (cond b middle_after source) target r.later layout_after (cond b middle_after source_after) target_after)
      → TurnedTwice z sampler L t u source middle target r layout_after source_after middle_after target_after
  turned-twice b e p k = record { made = made p q; kept = kept p q; moved = moved p q }
    where
      q : ConvertPromise call2
      q = subst
          (λ b. ConvertPromise (turn_call z sampler L u (cond b middle_after source) target r.later layout_after (cond b middle_after source_after) target_after))
          (sym e) k
