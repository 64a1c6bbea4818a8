-- Runs exist: each whole-cube turn of a frame that passes its own questions is accepted and leaves such a frame, so a list of turns is one of calls.
-- Assumes nothing.
use mathlib.Core.Path.{◌≡◌, refl, sym, ◌∙◌, ap, subst}
use mathlib.Core.Logic.{inr}
use mathlib.Core.List.{List, [], ◌∷◌, ◌++◌}
use Prim.Native.Nat.{ℕ, ◌≤◌}
use native.Mathlib.Nat.{zero-add}
use native.Mathlib.Omega.{arith}
use lib.Dec.{T}
use lib.ListN.{length, take, replicate}
use Rattle.arithmetic.specs.Searches.{largest, lowest_from, all_below}
use Rattle.arithmetic.specs.Sums.{sum_below}
use Rattle.arithmetic.proofs.Tests.{cond-true}
use Rattle.cubemap.specs.declared.Rotation.{Rotation}
use Rattle.cubemap.specs.Interface.{is_accepted}
use Rattle.cubemap.specs.Frames.{Frame, sample_at, framed, samples_in, bytes_in}
use Rattle.cubemap.specs.Rotations.{sum_of_squares, is_cube_rotation, product, common_divisor, divided, sign_normalized, compose, compose_from, compose_all}
use Rattle.cubemap.specs.Checks.{target_shape, first_failed, size_ok, depth_ok, code_ok, layout_ok, rotation_in_range, rotation_nonzero, length_ok, samples_ok}
use Rattle.cubemap.specs.Checks.{lowest_beyond, size_checks, setting_checks, length_checks, before_samples, convert_checks}
use Rattle.cubemap.specs.Outcomes.{convert_answer, convert_outcome}
use Rattle.cubemap.specs.Promises.{ConvertCall, ConvertPromise}
use Rattle.cubemap.specs.Marked.{rotationℕ}
use Rattle.cubemap.proofs.Passed.{ConvertPassed, convert-accepted}
use Rattle.cubemap.proofs.Framed.{sample-front, sample-part}
use Rattle.cubemap.proofs.Rotations.{sum-positive}
use Rattle.cubemap.proofs.CubeRotations.{cube-matrix}
use Rattle.sequences.specs.Steps.{led_to}
use Rattle.sequences.specs.Model.{told, told_all, accepts, Model, at_start, after_call, model_of, accepted_rotations}
use Rattle.sequences.specs.Runs.{left_by, last_frame, Each, Reads, OwnCubeTurn, AcceptedAreOwn, Keeping}
use Rattle.sequences.specs.Demand3.{frame_ok}
use Rattle.sequences.specs.Existence.{turning, turned, CubeTurn, CubeTurns, Turned, one, two, TwoLists}
use Rattle.sequences.specs.Existence.{deep, names_smaller, names_larger, OtherSizes, Existence}
use Rattle.sequences.proofs.Histories.{all_among, reads_whole, made-keeps}
use Rattle.sequences.proofs.ListedFrames.{FrameHolds, frame-holds, moved_holds}
use Rattle.sequences.proofs.Calls.{Accepted, accepted-case}
use Rattle.sequences.proofs.Runs.{leaves-model, kept}

-- ---- one turn

module _ (b : Model) (t : Rotation) (g : FrameHolds b.frame) (o : CubeTurn t) where
  abbrev c : ConvertCall
  c = turning b.frame t

  own : OwnCubeTurn b.frame (turning b.frame t).settings
  unfolding target_shape
  own = record { own-shape = refl; own-layout = refl; same_shape = refl; cube = o.cube }

  passed : ConvertPassed (turning b.frame t).settings (length b.frame.bytes) (length b.frame.bytes) b.frame.bytes
  unfolding target_shape code_ok
  passed = record {
    source-size = g.size;
    target-size = g.size;
    depth = g.depth;
    source-format = g.format;
    target-format = g.format;
    sampler = tt;
    source-layout = g.layout-ok;
    target-layout = g.layout-ok;
    rotation-in-range = o.in-range;
    rotation-nonzero = o.nonzero;
    source-length = g.length-ok;
    target-length = g.length-ok;
    samples = g.samples;
  }

  takes : T (accepts (told (turning b.frame t)) b.frame.bytes)
  takes = subst (λ a. T (is_accepted a)) (sym (convert-accepted c.settings _ _ b.frame.bytes passed)) tt

  pub next : Accepted b (turning b.frame t)
  next = accepted-case b c (record { keeps = made-keeps _ _ _; reads = reads_whole b.frame c refl; own = λ t. own }) takes

  -- the frame that is left passes its own questions, too
  pub next-holds : FrameHolds (after_call b (told (turning b.frame t))).frame
  next-holds = subst (λ m. FrameHolds m.frame) (sym next.after)
      (moved_holds b.frame c.settings g (sum-positive t o.nonzero) (cube-matrix t o.cube) g.layout-ok)

-- ---- a list of turns

record Follow (b : Model) (ts : List Rotation) : Type 0 where
  keeps : Keeping ConvertPromise (turned b.frame ts)
  reads : Each Reads b.frame (turned b.frame ts)
  own : Each AcceptedAreOwn b.frame (turned b.frame ts)
  accepted : accepted_rotations b (told_all (turned b.frame ts)) ≡ ts

follow-next : (b : Model) (t : Rotation) (ts : List Rotation) → FrameHolds b.frame → CubeTurn t
    → Follow (after_call b (told (turning b.frame t))) ts → Follow b (t ∷ ts)
unfolding turned Keeping Each told_all accepted_rotations
follow-next b t ts g o ih = record {
  keeps = (made-keeps _ _ _, subst (λ F. Keeping ConvertPromise (turned F ts)) (sym left) ih.keeps);
  reads = (reads_whole b.frame c refl, subst (λ F. Each Reads F (turned F ts)) (sym left) ih.reads);
  own = ((λ u. (next b t g o).own), subst (λ F. Each AcceptedAreOwn F (turned F ts)) (sym left) ih.own);
  accepted = cond-true (accepts (told c) b.frame.bytes) _ _ (takes b t g o)
      ∙ ap (λ us. t ∷ us) (ap (λ F. accepted_rotations (after_call b (told c)) (told_all (turned F ts))) left ∙ ih.accepted);
}
  where
    c : ConvertCall
    c = turning b.frame t

    left : left_by b.frame (turning b.frame t) ≡ (after_call b (told (turning b.frame t))).frame
    left = leaves-model b (turning b.frame t) (inr (next b t g o))

follow : (b : Model) (ts : List Rotation) → FrameHolds b.frame → CubeTurns ts → Follow b ts
unfolding turned CubeTurns Keeping Each told_all accepted_rotations
follow b [] g os = record { keeps = tt; reads = tt; own = tt; accepted = refl }
follow b (t ∷ ts) g (o, os) = follow-next b t ts g o (follow (after_call b (told (turning b.frame t))) ts (next-holds b t g o) os)

turns : (F : Frame) (ts : List Rotation) → T (frame_ok F) → CubeTurns ts → Turned F ts
turns F ts ok os = record {
  run = record { history = turned F ts; made = f.keeps; among = all_among (turned F ts); reads = f.reads; own = f.own };
  accepted = f.accepted;
}
  where
    f : Follow (at_start F) ts
    f = follow (at_start F) ts (frame-holds F ok) os

-- ---- two lists

-- the fold of such a run
turned-fold : (F : Frame) (ts : List Rotation) → Turned F ts → (model_of F (turned F ts)).fold ≡ compose_all ts
turned-fold F ts r = (kept F (turned F ts) r.run).fold ∙ ap compose_all r.accepted

twice-turned : Turned one (rotationℕ 1 0 1 0 ∷ rotationℕ 1 0 1 0 ∷ [])
unfolding all_below sum_below framed samples_in bytes_in size_ok depth_ok code_ok layout_ok length_ok samples_ok frame_ok
    rotation_in_range rotation_nonzero sum_of_squares is_cube_rotation CubeTurns
twice-turned = turns one (rotationℕ 1 0 1 0 ∷ rotationℕ 1 0 1 0 ∷ []) tt
    (record { in-range = tt; nonzero = tt; cube = tt }, (record { in-range = tt; nonzero = tt; cube = tt }, tt))

once-turned : Turned two (rotationℕ 0 0 1 0 ∷ [])
unfolding all_below sum_below framed samples_in bytes_in size_ok depth_ok code_ok layout_ok length_ok samples_ok frame_ok
    rotation_in_range rotation_nonzero sum_of_squares is_cube_rotation CubeTurns
once-turned = turns two (rotationℕ 0 0 1 0 ∷ []) tt (record { in-range = tt; nonzero = tt; cube = tt }, tt)

-- both fold to (0,0,1,0)
same_fold : compose_all (rotationℕ 1 0 1 0 ∷ rotationℕ 1 0 1 0 ∷ []) ≡ compose_all (rotationℕ 0 0 1 0 ∷ [])
unfolding largest product common_divisor divided sign_normalized compose compose_from
same_fold = refl

two-lists : TwoLists
two-lists = record {
  first = twice-turned;
  second = once-turned;
  same_shape = refl;
  same-places = λ P p. ap (λ t. led_to one.shape t P) (turned-fold one _ twice-turned ∙ same_fold ∙ sym (turned-fold two _ once-turned));
}

-- ---- other sizes

-- of the frame's bytes, the first 12, and with others behind them, have the frame's first four samples
smaller-part : (i : ℕ) → i ≤ 3 → sample_at (take 12 deep.bytes) i ≡ sample_at deep.bytes i
smaller-part i l = sample-part deep.bytes 0 12 i (omega arith) ∙ ap (sample_at deep.bytes) (zero-add i)

larger-part : (i : ℕ) → i ≤ 3 → sample_at (deep.bytes ++ replicate 60 255) i ≡ sample_at deep.bytes i
unfolding framed
larger-part i l = sample-front deep.bytes (replicate 60 255) 24 i refl (omega arith)

other-sizes : OtherSizes
unfolding lowest_from all_below sum_below framed samples_in bytes_in
    target_shape first_failed size_ok depth_ok code_ok layout_ok rotation_in_range rotation_nonzero length_ok samples_ok lowest_beyond
    size_checks setting_checks length_checks before_samples convert_checks convert_answer convert_outcome
    left_by last_frame Each Keeping
other-sizes = record {
  run = record {
    history = names_smaller ∷ names_larger ∷ [];
    made = (made-keeps _ _ _, (made-keeps _ _ _, tt));
    among = all_among (names_smaller ∷ names_larger ∷ []);
    reads = (record { whole = λ t. absurd t; part = λ t. smaller-part }, (record { whole = λ t. absurd t; part = λ t. larger-part }, tt));
    own = ((λ t. absurd t), ((λ t. absurd t), tt));
  };
  returned = (refl, refl);
  model = (refl, refl);
  last = refl;
}

pub existence : Existence
existence = record { turns = turns; two-lists = two-lists; other-sizes = other-sizes }
