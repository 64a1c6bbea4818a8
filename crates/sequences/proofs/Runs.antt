-- The whole list, by induction over its calls: demand 3's `kept`.
use mathlib.Core.Path.{◌≡◌, refl, sym, ◌∙◌, ap, subst}
use mathlib.Core.Logic.{◌⊎◌, inl, inr, ⊎_elim}
use mathlib.Core.Bool.{Bool, true, false, cond, not}
use mathlib.Core.List.{List, [], ◌∷◌}
use Prim.Native.Nat.{◌≤◌, ◌<◌}
use lib.Dec.{T, T_not}
use lib.ListN.{length}
use Rattle.arithmetic.proofs.Tests.{cond_both}
use Rattle.cubemap.specs.declared.Place.{Place}
use Rattle.cubemap.specs.declared.Rotation.{Rotation}
use Rattle.cubemap.specs.declared.Shape.{Shape}
use Rattle.cubemap.specs.Interface.{format_of}
use Rattle.cubemap.specs.Frames.{Frame, IsPlace, frame_sample}
use Rattle.cubemap.specs.Rotations.{sum_of_squares, compose, compose_from, CubeRotation}
use Rattle.cubemap.specs.Checks.{ConvertSettings, layout_ok}
use Rattle.cubemap.specs.Promises.{ConvertCall, ConvertPromise}
use Rattle.cubemap.proofs.Rotations.{sum-positive, identity-positive, inverse}
use Rattle.cubemap.proofs.Reduction.{compose-positive, compose-leads}
use Rattle.cubemap.proofs.CubeRotations.{cube-matrix}
use Rattle.cubemap.proofs.Weights.{Level, led-level}
use Rattle.cubemap.proofs.Places.{OneToOne, same-places, one-after}
use Rattle.cubemap.specs.PlaceToRay.{ray_in}
use Rattle.sequences.specs.Steps.{Leads, led_to}
use Rattle.sequences.specs.Model.{Told, told, told_all, accepts, Model, at_start, moved_frame, after_accepted, after_call, after_calls, model_of}
use Rattle.sequences.specs.Model.{accepted_rotations}
use Rattle.sequences.specs.Runs.{left_by, last_frame, Each, Keeping, Run}
use Rattle.sequences.specs.Demand3.{Answered, Moved, frame_ok, Kept}
use Rattle.sequences.proofs.Histories.{among-keeping}
use Rattle.sequences.proofs.Steps.{identity-keeps, led-is, Matched, cube-matched, led-exactly}
use Rattle.sequences.proofs.ListedFrames.{FrameHolds, frame-ok, source-holds, moved-sample, moved_holds}
use Rattle.sequences.proofs.Calls.{Fair, each-fair, answers, Refused, Accepted, cases}

-- ---- the model alone: its frame keeps its shape, and its fold is that of the accepted turns

after-shape : (b : Model) (c : Told) → (after_call b c).frame.shape ≡ b.frame.shape
unfolding after_call moved_frame
after-shape b c =
    cond_both (λ m. m.frame.shape ≡ b.frame.shape) (accepts c b.frame.bytes) (after_accepted b c.settings) b (λ t. refl) (λ f. refl)

model-shape : (b : Model) (cs : List Told) → (after_calls b cs).frame.shape ≡ b.frame.shape
unfolding after_calls
model-shape b [] = refl
model-shape b (c ∷ cs) = model-shape (after_call b c) cs ∙ after-shape b c

model-folds : (b : Model) (cs : List Told) → (after_calls b cs).fold ≡ compose_from b.fold (accepted_rotations b cs)
unfolding after_call after_calls accepted_rotations compose_from
model-folds b [] = refl
model-folds b (c ∷ cs) = model-folds (after_call b c) cs ∙ next (accepts c b.frame.bytes) (accepted_rotations (after_call b c) cs)
  where
    next : (x : Bool) (us : List Rotation)
        → compose_from (cond x (after_accepted b c.settings) b).fold us ≡ compose_from b.fold (cond x (c.settings.rotation ∷ us) us)
    next true us = refl
    next false us = refl

-- ---- what holds all along: the model's frame and fold beside the first frame

pub record Follows (first : Frame) (b : Model) : Type 0 where
  pub shape : b.frame.shape ≡ first.shape
  pub sum : 0 < sum_of_squares b.fold
  -- the fold leads from each place to `to` of it, one to one, and to one of the same weight
  pub to : Place → Place
  pub back : Place → Place
  pub matched : Matched first.shape b.fold to back
  pub level : (P : Place) → IsPlace first.shape.size P → Level first.shape.size P (to P)
  -- where the first frame has the sample that stands here
  pub stands : (P : Place) → IsPlace first.shape.size P → frame_sample b.frame P ≡ frame_sample first (to P)
  -- a frame that was moved passes the questions of its own, and so did the first
  pub holds : (b.frame ≡ first) ⊎ (FrameHolds first × FrameHolds b.frame)

pub follows-start : (first : Frame) → Follows first (at_start first)
follows-start first = record {
  shape = refl;
  sum = identity-positive;
  to = λ P. P;
  back = λ P. P;
  matched = record {
    leads = identity-keeps first.shape;
    one-to-one = same-places first.shape.size;
  };
  level = λ P p w s. refl;
  stands = λ P p. refl;
  holds = inl refl;
}

-- an accepted call keeps it
module _ (first : Frame) (b : Model) (s : ConvertSettings) (a : first.shape.size ≤ 512) (v : Follows first b) (g : FrameHolds b.frame)
    (h : 0 < sum_of_squares s.rotation) (c : CubeRotation s.rotation) (o : T (layout_ok s.target_layout)) where
  abbrev z : Shape
  z = first.shape

  -- the step of the call, and back
  abbrev step : Place → Place
  step P = led_to first.shape s.rotation P

  abbrev step_back : Place → Place
  step_back Q = led_to first.shape (inverse s.rotation) Q

  m : Matched first.shape s.rotation (led_to first.shape s.rotation) (led_to first.shape (inverse s.rotation))
  m = cube-matched z a s.rotation h (cube-matrix s.rotation c)

  on : (P : Place) → IsPlace first.shape.size P → IsPlace first.shape.size (led_to first.shape s.rotation P)
  on P p = (m.leads P p).is-place

  both-leads : (P : Place) → IsPlace first.shape.size P → Leads first.shape (compose b.fold s.rotation) P (v.to (step P))
  both-leads P p = record {
    is-place = (v.matched.leads (step P) (on P p)).is-place;
    same-ray = compose-leads b.fold s.rotation (ray_in z P) (ray_in z (step P)) (ray_in z (v.to (step P)))
        (m.leads P p).same-ray (v.matched.leads (step P) (on P p)).same-ray;
  }

  both-level : (P : Place) → IsPlace first.shape.size P → Level first.shape.size P (v.to (step P))
  both-level P p w y =
      led-level (format_of z.format) z.size a s.rotation P (step P) h c p (on P p)
      (m.leads P p).same-ray w y
      ∙ v.level (step P) (on P p) w y

  both-stands : (P : Place) → IsPlace first.shape.size P → frame_sample (moved_frame b.frame s) P ≡ frame_sample first (v.to (step P))
  both-stands P p =
      moved-sample b.frame s g h (cube-matrix s.rotation c) o P (subst (λ z. IsPlace z.size P) (sym v.shape) p)
      ∙ ap (λ z. frame_sample b.frame (led_to z s.rotation P)) v.shape ∙ v.stands (step P) (on P p)

  first_holds : FrameHolds first
  first_holds = ⊎_elim (λ e. subst FrameHolds e g) (λ y. y.0) v.holds

  follows-accepted : Follows first (after_accepted b s)
  unfolding moved_frame
  follows-accepted = record {
    shape = v.shape;
    sum = compose-positive b.fold s.rotation v.sum h;
    to = λ P. v.to (step P);
    back = λ Q. step_back (v.back Q);
    matched = record { leads = both-leads; one-to-one = one-after z.size m.one-to-one v.matched.one-to-one };
    level = both-level;
    stands = both-stands;
    holds = inr (first_holds, moved_holds b.frame s g h (cube-matrix s.rotation c) o);
  }

follows-call : (first : Frame) (b : Model) (c : ConvertCall) → first.shape.size ≤ 512 → Refused b c ⊎ Accepted b c → Follows first b
    → Follows first (after_call b (told c))
follows-call first b c a (inl r) v = subst (Follows first) (sym r.after) v
follows-call first b c a (inr r) v = subst (Follows first) (sym r.after)
    (follows-accepted first b c.settings a v (source-holds b.frame c.settings (length c.target) r.own r.passes-all)
    (sum-positive c.settings.rotation r.passes-all.rotation-nonzero) r.own.cube r.passes-all.target-layout)

-- ---- the induction

pub record Synced (b : Model) (cs : List ConvertCall) : Type 0 where
  pub answered : Answered b cs
  pub frame : last_frame b.frame cs ≡ (after_calls b (told_all cs)).frame
  pub follows : (first : Frame) → first.shape.size ≤ 512 → Follows first b → Follows first (after_calls b (told_all cs))

-- the frame that a call leaves is the model's
pub leaves-model : (b : Model) (c : ConvertCall) → Refused b c ⊎ Accepted b c → left_by b.frame c ≡ (after_call b (told c)).frame
leaves-model b c (inl r) = r.left ∙ ap (λ m. m.frame) (sym r.after)
leaves-model b c (inr r) = r.left ∙ ap (λ m. m.frame) (sym r.after)

synced-next : (b : Model) (c : ConvertCall) (cs : List ConvertCall) → Fair b.frame c → Synced (after_call b (told c)) cs → Synced b (c ∷ cs)
unfolding Answered last_frame told_all after_calls
synced-next b c cs f ih = record {
  answered = (answers b.frame c f, ih.answered);
  frame = ap (λ F. last_frame F cs) (leaves-model b c (cases b c f)) ∙ ih.frame;
  follows = λ first a v. ih.follows first a (follows-call first b c a (cases b c f) v);
}

synced : (b : Model) (cs : List ConvertCall) → Each Fair b.frame cs → Synced b cs
unfolding Each Answered last_frame told_all after_calls
synced b [] fs = record { answered = tt; frame = refl; follows = λ first a v. v }
synced b (c ∷ cs) (f, fs) =
    synced-next b c cs f (synced (after_call b (told c)) cs (subst (λ F. Each Fair F cs) (leaves-model b c (cases b c f)) fs))

-- ---- a first frame that fails a question of its own

record Unmoved (b : Model) (cs : List ConvertCall) : Type 0 where
  refused : Each (λ F c. c.returned ≡ 0 → ⊥) b.frame cs
  frame : last_frame b.frame cs ≡ b.frame
  model : after_calls b (told_all cs) ≡ b

unmoved-next : (b : Model) (c : ConvertCall) (cs : List ConvertCall) → Refused b c → Unmoved b cs → Unmoved b (c ∷ cs)
unfolding Each last_frame told_all after_calls
unmoved-next b c cs r ih = record {
  refused = (r.answer-not-0, subst (λ F. Each (λ F c. c.returned ≡ 0 → ⊥) F cs) (sym r.left) ih.refused);
  frame = ap (λ F. last_frame F cs) r.left ∙ ih.frame;
  model = ap (λ m. after_calls m (told_all cs)) r.after ∙ ih.model;
}

unmoved : (b : Model) (cs : List ConvertCall) → T (not (frame_ok b.frame)) → Each Fair b.frame cs → Unmoved b cs
unfolding Each last_frame told_all after_calls
unmoved b [] n fs = record { refused = tt; frame = refl; model = refl }
unmoved b (c ∷ cs) n (f, fs) = go (cases b c f) (λ e. unmoved b cs n (subst (λ F. Each Fair F cs) e fs))
  where
    go : Refused b c ⊎ Accepted b c → (left_by b.frame c ≡ b.frame → Unmoved b cs) → Unmoved b (c ∷ cs)
    go (inl r) ih = unmoved-next b c cs r (ih r.left)
    go (inr r) ih = absurd (T_not (frame_ok b.frame) n
        (frame-ok b.frame (source-holds b.frame c.settings (length c.target) r.own r.passes-all)))

-- ---- the law

pub follows-led : (first : Frame) (b : Model) → first.shape.size ≤ 512 → (v : Follows first b) (P : Place) → IsPlace first.shape.size P
    → led_to first.shape b.fold P ≡ v.to P
follows-led first b a v P p = led-is first.shape a b.fold v.sum P (v.to P) (v.matched.leads P p)

follows-moved : (first : Frame) (b : Model) → first.shape.size ≤ 512 → Follows first b → Moved first b.frame b.fold
follows-moved first b a v = record {
  step = λ P p. led-exactly first.shape b.fold P a v.sum (subst (λ Q. Leads first.shape b.fold P Q) (sym (led P p)) (v.matched.leads P p));
  stands = λ P p. v.stands P p ∙ ap (frame_sample first) (sym (led P p));
  from = v.back;
  from-ok = u.back-ok;
  reached = λ Q q. led (v.back Q) (u.back-ok Q q) ∙ u.to_back Q q;
  once = λ P p. ap v.back (led P p) ∙ u.back_to P p;
  arrives = λ Q q. v.stands (v.back Q) (u.back-ok Q q) ∙ ap (frame_sample first) (u.to_back Q q);
}
  where
    u : OneToOne first.shape.size v.to v.back
    u = v.matched.one-to-one

    led : (P : Place) → IsPlace first.shape.size P → led_to first.shape b.fold P ≡ v.to P
    led = follows-led first b a v

module _ (first : Frame) (cs : List ConvertCall) (r : Run (Keeping ConvertPromise) first cs) where
  fair : Each Fair first cs
  fair = each-fair first cs (among-keeping ConvertPromise cs r.history r.among r.made) r.reads r.own

  run-synced : Synced (at_start first) cs
  run-synced = synced (at_start first) cs fair

  pub last-is : last_frame first cs ≡ (model_of first cs).frame
  last-is = run-synced.frame

  pub run-follows : first.shape.size ≤ 512 → Follows first (model_of first cs)
  run-follows a = run-synced.follows first a (follows-start first)

  pub kept : Kept first cs
  kept = record {
    answered = run-synced.answered;
    frame = last-is;
    shape = ap (λ F. F.shape) last-is ∙ model-shape (at_start first) (told_all cs);
    fold = model-folds (at_start first) (told_all cs);
    moved = λ a. subst (λ F. Moved first F (model_of first cs).fold) (sym last-is) (follows-moved first (model_of first cs) a (run-follows a));
    stays = λ n. let u = unmoved (at_start first) cs n fair in record {
      refused = u.refused;
      frame = u.frame;
      fold = ap (λ m. m.fold) u.model;
      places = identity-keeps first.shape;
    };
  }
