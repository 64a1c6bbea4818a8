-- Demand 3 is false of each wrong converter and scorer, and the promise of those that are wrong call by call: a quarter turn of a frame of six samples
-- tells them apart.
-- Assumes nothing.
use mathlib.Core.Path.{◌≡◌, refl, sym, ◌∙◌, ap, subst}
use mathlib.Core.Bool.{not}
use mathlib.Core.Logic.{inl, inr}
use mathlib.Core.List.{List, [], ◌∷◌}
use Prim.Native.Nat.{ℕ}
use native.Mathlib.Omega.{arith}
use lib.Dec.{T}
use lib.ListN.{get_or, replicate}
use Rattle.arithmetic.specs.Searches.{largest, lowest_from, all_below}
use Rattle.arithmetic.specs.Sums.{sum_below}
use Rattle.arithmetic.proofs.Tests.{cond-true, cond-false}
use Rattle.cubemap.specs.Interface.{answer, is_accepted, return_code, put_at, put_all}
use Rattle.cubemap.specs.Frames.{Frame, shape_of, framed, samples_in, bytes_in, usual_layout, slot_of, quarter_turns, index_in_slot, index}
use Rattle.cubemap.specs.Frames.{place_numbered, place_at}
use Rattle.cubemap.specs.PlaceToRay.{times, table3, ray_of}
use Rattle.cubemap.specs.Rotations.{sum_of_squares, rotated, is_cube_rotation}
use Rattle.cubemap.specs.RayToPlace.{face_of, chosen_size, across, down, adjusted, position64, locate}
use Rattle.cubemap.specs.Samplers.{nearest_column, nearest_place, sample_from}
use Rattle.cubemap.specs.Score.{weight_of, weight, squared_difference, over_places, error_sum, weight_sum}
use Rattle.cubemap.specs.Checks.{ConvertSettings, convert_settings, target_shape, first_failed, size_ok, depth_ok, code_ok, layout_ok, rotation_in_range}
use Rattle.cubemap.specs.Checks.{rotation_nonzero, length_ok, samples_ok, lowest_beyond}
use Rattle.cubemap.specs.Checks.{size_checks, setting_checks, length_checks, before_samples, convert_checks, score_checks}
use Rattle.cubemap.specs.Outcomes.{written, source_position, value_at, converted_sample, converted_bytes, convert_answer, convert_outcome, score_result}
use Rattle.cubemap.specs.Promises.{ConvertCall, convert_call, ConvertPromise, ScoreCall, score_call}
use Rattle.cubemap.specs.Marked.{cmp, rotationℕ}
use Rattle.sequences.specs.Steps.{led_to}
use Rattle.sequences.specs.Model.{told, told_all, answer_to, accepts, moved_frame, after_call, after_calls, model_of}
use Rattle.sequences.specs.Runs.{left_by, last_frame, Each, passes_before_samples, OwnCubeTurn, Converter, Among, Keeping, Run}
use Rattle.sequences.specs.Demand3.{Answers, Answered, Scorer, scoring, paper_score, Given, Demand3}
use Rattle.sequences.proofs.Histories.{all_among, reads_whole}
use Rattle.sequences.specs.Excluded.{Leaves, LeavesTarget, code_of, Writes, Copies, TurnsFirst, TurnsOnly, TurnsUntilAnother, Grey, WritesNothing, Answers1}
use Rattle.sequences.specs.Excluded.{BlanksSource, BlanksSourceLayout, BlanksTargetLayout, BlanksRefused}
use Rattle.sequences.specs.Excluded.{ScoreLeaves, Invents, BlanksFirst, BlanksSecond, BlanksFirstLayout, BlanksSecondLayout}
use Rattle.sequences.specs.Excluded.{Excluded, BreakPromises}

-- ---- a frame of six samples, turned once and twice by a quarter, (1,0,1,0)

abbrev settings : ConvertSettings
settings = convert_settings (shape_of 1 8 cmp) 1 cmp 0 usual_layout usual_layout (rotationℕ 1 0 1 0)

abbrev frame : List ℕ → Frame
frame bytes = record { shape = shape_of 1 8 cmp; layout = usual_layout; bytes = bytes }

abbrev first : List ℕ
first = 10 ∷ 0 ∷ 11 ∷ 0 ∷ 12 ∷ 0 ∷ 13 ∷ 0 ∷ 14 ∷ 0 ∷ 15 ∷ 0 ∷ []

abbrev once : List ℕ
once = 11 ∷ 0 ∷ 12 ∷ 0 ∷ 14 ∷ 0 ∷ 13 ∷ 0 ∷ 10 ∷ 0 ∷ 15 ∷ 0 ∷ []

abbrev twice : List ℕ
twice = 12 ∷ 0 ∷ 14 ∷ 0 ∷ 10 ∷ 0 ∷ 13 ∷ 0 ∷ 11 ∷ 0 ∷ 15 ∷ 0 ∷ []

-- another frame
abbrev another : List ℕ
another = framed 2 (λ i. 20) 6

abbrev room : List ℕ
room = replicate 12 7

-- 12 bytes 0
abbrev blanked : List ℕ
blanked = replicate 12 0

-- a call of a wrong converter: what it returned, and what it left in the target, the source and the two layouts
abbrev leaving-all : List ℕ → ℕ → List ℕ → List ℕ → List ℕ → List ℕ → ConvertCall
leaving-all source returned after source_after source_layout_after target_layout_after =
    convert_call settings source room returned source_layout_after target_layout_after source_after after

-- and of one that keeps what it only reads
abbrev call : List ℕ → ℕ → List ℕ → ConvertCall
call source returned after = leaving-all source returned after source usual_layout usual_layout

head : List ℕ → ℕ
head bytes = get_or bytes 0 0

abbrev both : List ConvertCall
both = call first 0 once ∷ call once 0 once ∷ []

-- what the definitions make of these calls
record Computed : Type 0 where
  -- one call on the first frame is accepted, and the model turns the frame, whatever the call returned and left
  accepted-once : (returned : ℕ) (after : List ℕ) → T (accepts (told (call first returned after)) first)
  answer-once : (returned : ℕ) (after : List ℕ) → return_code (answer_to (told (call first returned after)) first) ≡ 0
  left-once : (returned : ℕ) (after source_after L M : List ℕ)
      → last_frame (frame first) (leaving-all first returned after source_after L M ∷ []) ≡ frame after
  model-once : (returned : ℕ) (after source_after L M : List ℕ)
      → (model_of (frame first) (leaving-all first returned after source_after L M ∷ [])).frame ≡ frame once
  -- a call that keeps the promise, and one behind it that copies
  keeps : ConvertPromise (call first 0 once)
  copies : Copies (call once 0 once)
  copies-another : Copies (call another 0 another)
  between : left_by (frame first) (call first 0 once) ≡ frame once
  left-twice : last_frame (frame first) both ≡ frame once
  model-twice : (model_of (frame first) both).frame ≡ frame twice

computed : Computed
unfolding lowest_from all_below sum_below
    framed samples_in bytes_in slot_of quarter_turns index_in_slot index place_numbered place_at times table3 ray_of sum_of_squares rotated
    face_of chosen_size across down adjusted position64 locate nearest_column nearest_place sample_from
    target_shape first_failed size_ok depth_ok code_ok layout_ok rotation_in_range rotation_nonzero length_ok samples_ok lowest_beyond
    size_checks setting_checks length_checks before_samples convert_checks
    source_position value_at converted_sample converted_bytes convert_answer convert_outcome
    led_to told_all moved_frame after_call after_calls left_by last_frame
computed = record {
  accepted-once = λ returned after. tt;
  answer-once = λ returned after. refl;
  left-once = λ returned after source_after L M. refl;
  model-once = λ returned after source_after L M. refl;
  keeps = record { gives = record { returns = refl; holds = refl }; source_stays = refl; source-layout-stays = refl; target-layout-stays = refl };
  copies = record { returns = refl; target-holds = refl; source-holds = refl; source-layout-holds = refl; target-layout-holds = refl };
  copies-another = record { returns = refl; target-holds = refl; source-holds = refl; source-layout-holds = refl; target-layout-holds = refl };
  between = refl;
  left-twice = refl;
  model-twice = refl;
}

-- ---- what demand 3 makes of a converter's call on the first frame

quarter : (bytes : List ℕ) → OwnCubeTurn (frame bytes) settings
unfolding is_cube_rotation sum_of_squares target_shape
quarter bytes = record { own-shape = refl; own-layout = refl; same_shape = refl; cube = tt }

module _ (M : Converter) (S : Scorer) (D : Demand3 M S) (returned : ℕ) (after source_after source_layout_after target_layout_after : List ℕ)
    (made : M (leaving-all first returned after source_after source_layout_after target_layout_after ∷ [])) where
  abbrev made-call : ConvertCall
  made-call = leaving-all first returned after source_after source_layout_after target_layout_after

  run : Run M (frame first) (leaving-all first returned after source_after source_layout_after target_layout_after ∷ [])
  unfolding Each
  run = record {
    history = made-call ∷ [];
    made = made;
    among = all_among (made-call ∷ []);
    reads = (reads_whole (frame first) made-call refl, tt);
    own = ((λ t. quarter first), tt);
  }

  must-answer : Answers first (leaving-all first returned after source_after source_layout_after target_layout_after)
  unfolding Answered
  must-answer = (D.kept (frame first) (made-call ∷ []) run).answered.0

  must-return : returned ≡ 0
  must-return = must-answer.returns ∙ computed.answer-once returned after

  must-leave : after ≡ once
  must-leave = ap (λ F. F.bytes)
      (sym (computed.left-once returned after source_after source_layout_after target_layout_after) ∙ (D.kept (frame first) (made-call ∷ []) run).frame
      ∙ computed.model-once returned after source_after source_layout_after target_layout_after)

-- a call on the first frame that answers as it must
writes : (bytes : List ℕ) → Writes bytes (call first 0 bytes)
writes bytes = record {
  returns = sym (computed.answer-once 0 bytes);
  target-holds = sym (cond-true (accepts (told (call first 0 bytes)) first) bytes room (computed.accepted-once 0 bytes));
  source-holds = refl;
  source-layout-holds = refl;
  target-layout-holds = refl;
}

-- ---- the converters

no_copies : (S : Scorer) → Demand3 (Keeping Copies) S → ⊥
unfolding head Keeping
no_copies S D = absurd (omega (arith, ap head (must-leave (Keeping Copies) S D 0 first first usual_layout usual_layout (writes first, tt))))

abbrev grey : List ℕ
grey = framed 2 (λ i. 128) 6

no-grey : (S : Scorer) → Demand3 (Keeping Grey) S → ⊥
unfolding head Keeping framed
no-grey S D = absurd (omega (arith, ap head (must-leave (Keeping Grey) S D 0 grey first usual_layout usual_layout (writes grey, tt))))

-- a call that leaves the target as it was
nothing : (code : ℕ) → LeavesTarget code room (call first code room)
nothing code = record { returns = refl; target-holds = refl; source-holds = refl; source-layout-holds = refl; target-layout-holds = refl }

writes-something : (S : Scorer) → Demand3 (Keeping WritesNothing) S → ⊥
unfolding head Keeping
writes-something S D = absurd (omega (arith, ap head (must-leave (Keeping WritesNothing) S D 0 room first usual_layout usual_layout (writes room, tt))))

not-always-1 : (S : Scorer) → Demand3 (Keeping Answers1) S → ⊥
unfolding Keeping
not-always-1 S D = absurd (omega (arith, must-return (Keeping Answers1) S D 1 room first usual_layout usual_layout (nothing 1, tt)))

-- ---- those that blank what they only read, or the target of a refused call

no-blank-frame : blanked ≡ first → ⊥
unfolding head
no-blank-frame e = absurd (omega (arith, ap head e))

no-blank-layout : blanked ≡ usual_layout → ⊥
unfolding head
no-blank-layout e = absurd (omega (arith, ap head e))

-- a call that answers and writes as it must
writing-once : (source_after source_layout_after target_layout_after : List ℕ)
    → Leaves (code_of (call first 0 once)) (convert_outcome settings first room).bytes source_after source_layout_after target_layout_after
    (leaving-all first 0 once source_after source_layout_after target_layout_after)
writing-once source_after source_layout_after target_layout_after = record {
  returns = sym (computed.answer-once 0 once);
  target-holds = computed.keeps.gives.holds;
  source-holds = refl;
  source-layout-holds = refl;
  target-layout-holds = refl;
}

no-blanks-source : (S : Scorer) → Demand3 (Keeping BlanksSource) S → ⊥
unfolding Keeping
no-blanks-source S D = no-blank-frame
    (must-answer (Keeping BlanksSource) S D 0 once blanked usual_layout usual_layout (writing-once blanked usual_layout usual_layout, tt)).source_stays

no-blanks-source-layout : (S : Scorer) → Demand3 (Keeping BlanksSourceLayout) S → ⊥
unfolding Keeping
no-blanks-source-layout S D = no-blank-layout
    (must-answer (Keeping BlanksSourceLayout) S D 0 once first blanked usual_layout (writing-once first blanked usual_layout, tt)).source-layout-stays

no-blanks-target-layout : (S : Scorer) → Demand3 (Keeping BlanksTargetLayout) S → ⊥
unfolding Keeping
no-blanks-target-layout S D = no-blank-layout
    (must-answer (Keeping BlanksTargetLayout) S D 0 once first usual_layout blanked (writing-once first usual_layout blanked, tt)).target-layout-stays

-- a call that names face size 0
abbrev refused-call : ConvertCall
refused-call =
    convert_call (convert_settings (shape_of 0 8 cmp) 1 cmp 0 usual_layout usual_layout (rotationℕ 1 0 1 0)) first room 1 usual_layout usual_layout first blanked

refused-1 : (bytes : List ℕ) → answer_to (told refused-call) bytes ≡ answer 1 0
unfolding first_failed size_ok size_checks setting_checks length_checks before_samples convert_checks convert_answer
refused-1 bytes = refl

not_taken : (bytes : List ℕ) → T (accepts (told refused-call) bytes) → ⊥
not_taken bytes t = subst (λ a. T (is_accepted a)) (refused-1 bytes) t

refused-before : T (passes_before_samples (told refused-call)) → ⊥
unfolding first_failed size_ok size_checks setting_checks length_checks before_samples
refused-before t = t

no-blanks-refused : (S : Scorer) → Demand3 (Keeping BlanksRefused) S → ⊥
unfolding head Keeping Each Answered
no-blanks-refused S D = absurd (omega (
  arith,
  ap head ((D.kept (frame first) (refused-call ∷ []) (record {
    history = refused-call ∷ [];
    made = (
      record {
        returns = sym (ap return_code (refused-1 first));
        target-holds = sym (cond-false (accepts (told refused-call) first) _ blanked (not_taken first));
        source-holds = refl;
        source-layout-holds = refl;
        target-layout-holds = refl;
      },
      tt,
    );
    among = all_among (refused-call ∷ []);
    reads = (record { whole = λ t. absurd (not_taken first t); part = λ t. absurd (refused-before t) }, tt);
    own = ((λ t. absurd (not_taken first t)), tt);
  })).answered.0.target-stays (subst (λ a. T (not (is_accepted a))) (sym (refused-1 first)) tt)),
))

-- ---- those that copy later: a second quarter turn

module _ (M : Converter) (S : Scorer) (D : Demand3 M S) (history : List ConvertCall) (made : M history) (among : Among both history) where
  run-both : Run M (frame first) both
  unfolding Each
  run-both = record {
    history = history;
    made = made;
    among = among;
    reads = (reads_whole (frame first) (call first 0 once) refl, (reads_whole _ (call once 0 once) (ap (λ F. F.bytes) (sym computed.between)), tt));
    own = ((λ t. quarter first), ((λ t. subst (λ F. OwnCubeTurn F settings) (sym computed.between) (quarter once)), tt));
  }

  must-turn-twice : ⊥
  unfolding head
  must-turn-twice = absurd (omega (
    arith,
    ap (λ F. head F.bytes)
        (sym computed.left-twice ∙ (D.kept (frame first) both run-both).frame ∙ computed.model-twice),
  ))

no-turns-first : (S : Scorer) → Demand3 TurnsFirst S → ⊥
unfolding TurnsFirst Keeping
no-turns-first S D = must-turn-twice TurnsFirst S D both (computed.keeps, (computed.copies, tt)) (all_among both)

-- another frame comes between
abbrev with-another : List ConvertCall
with-another = call first 0 once ∷ call another 0 another ∷ call once 0 once ∷ []

is-another : another ≡ (left_by (frame first) (call first 0 once)).bytes → ⊥
unfolding head framed
is-another e = absurd (omega (arith, ap head (e ∙ ap (λ F. F.bytes) computed.between)))

no-turns-until-another : (S : Scorer) → Demand3 TurnsUntilAnother S → ⊥
unfolding TurnsUntilAnother TurnsOnly Keeping Among
no-turns-until-another S D = must-turn-twice TurnsUntilAnother S D with-another
    (inl (refl, (computed.keeps, inr (is-another, (computed.copies-another, (computed.copies, tt))))))
    (inl (refl, inr (inl (refl, tt))))

-- ---- the scorers, on the first frame against itself, which has no error

abbrev sums : List ℕ
sums = replicate 16 0

-- what the call left in its buffer, in the two frames and in the two layouts
abbrev scoring-first : List ℕ → List ℕ → List ℕ → List ℕ → List ℕ → ScoreCall
scoring-first after first_after second_after first_layout_after second_layout_after =
    score_call (scoring (frame first) (frame first)) first first sums 0 first_layout_after second_layout_after first_after second_after after

-- the first number of the buffer, as the paper has it and as it is invented
record Scored : Type 0 where
  true-answer : return_code (paper_score (frame first) (frame first)).answered ≡ 0
  true-head : head (written (paper_score (frame first) (frame first)) sums).bytes ≡ 0
  after : List ℕ
  invents : Invents (scoring-first after first first usual_layout usual_layout)
  heads : head after ≡ 1

scored : Scored
unfolding largest lowest_from all_below sum_below put_at put_all head
    framed samples_in bytes_in slot_of quarter_turns index_in_slot index
    weight_of weight squared_difference over_places error_sum weight_sum
    first_failed size_ok depth_ok code_ok layout_ok length_ok samples_ok lowest_beyond score_checks score_result
scored = record {
  true-answer = refl;
  true-head = refl;
  after = _;
  invents = record {
    gives = record { returns = refl; holds = refl };
    first_holds = refl;
    second_holds = refl;
    first-layout-holds = refl;
    second-layout-holds = refl;
  };
  heads = refl;
}

-- what demand 3 makes of a scorer's call
module _ (M : Converter) (S : Scorer) (D : Demand3 M S) (after first_after second_after first_layout_after second_layout_after : List ℕ) where
  must-give : S (scoring-first after first_after second_after first_layout_after second_layout_after)
      → Given (frame first) (frame first) (scoring-first after first_after second_after first_layout_after second_layout_after)
  must-give made = D.given (frame first) (frame first) (scoring-first after first_after second_after first_layout_after second_layout_after) refl
      (record { settings-are = refl; first-is = refl; second_is = refl }) made

no-invents : (M : Converter) → Demand3 M Invents → ⊥
no-invents M D = absurd (omega (
  arith,
  sym scored.heads ∙ ap head (must-give M Invents D scored.after first first usual_layout usual_layout scored.invents).gives.holds
      ∙ scored.true-head,
))

-- a call with the paper's score, and its frames and layouts as they are given here
abbrev paper-sums : List ℕ
paper-sums = (written (paper_score (frame first) (frame first)) sums).bytes

leaving : (first_after second_after first_layout_after second_layout_after : List ℕ)
    → ScoreLeaves (paper_score (frame first) (frame first)) first_after second_after first_layout_after second_layout_after
    (scoring-first paper-sums first_after second_after first_layout_after second_layout_after)
leaving first_after second_after first_layout_after second_layout_after = record {
  gives = record { returns = sym scored.true-answer; holds = refl };
  first_holds = refl;
  second_holds = refl;
  first-layout-holds = refl;
  second-layout-holds = refl;
}

no-blanks-first : (M : Converter) → Demand3 M BlanksFirst → ⊥
no-blanks-first M D = no-blank-frame
    (must-give M BlanksFirst D paper-sums blanked first usual_layout usual_layout (leaving blanked first usual_layout usual_layout)).first-stays

no-blanks-second : (M : Converter) → Demand3 M BlanksSecond → ⊥
no-blanks-second M D = no-blank-frame
    (must-give M BlanksSecond D paper-sums first blanked usual_layout usual_layout (leaving first blanked usual_layout usual_layout)).second-stays

no-blanks-first-layout : (M : Converter) → Demand3 M BlanksFirstLayout → ⊥
no-blanks-first-layout M D = no-blank-layout
    (must-give M BlanksFirstLayout D paper-sums first first blanked usual_layout (leaving first first blanked usual_layout)).first-layout-stays

no-blanks-second-layout : (M : Converter) → Demand3 M BlanksSecondLayout → ⊥
no-blanks-second-layout M D = no-blank-layout
    (must-give M BlanksSecondLayout D paper-sums first first usual_layout blanked (leaving first first usual_layout blanked)).second-layout-stays

pub excluded : Excluded
excluded = record {
  copies = no_copies;
  turns-first = no-turns-first;
  turns-until-another = no-turns-until-another;
  grey = no-grey;
  writes_nothing = writes-something;
  answers-1 = not-always-1;
  blanks-source = no-blanks-source;
  blanks-source-layout = no-blanks-source-layout;
  blanks-target-layout = no-blanks-target-layout;
  blanks-refused = no-blanks-refused;
  invents = no-invents;
  blanks-first = no-blanks-first;
  blanks-second = no-blanks-second;
  blanks-first-layout = no-blanks-first-layout;
  blanks-second-layout = no-blanks-second-layout;
}

-- ---- demand 2: the promise itself, of the same calls

-- what the promise says of a call on the first frame
promised : (returned : ℕ) (after : List ℕ) → ConvertPromise (call first returned after) → (returned ≡ 0) × (after ≡ once)
promised returned after p = (p.gives.returns ∙ sym computed.keeps.gives.returns, p.gives.holds ∙ sym computed.keeps.gives.holds)

pub break-promises : BreakPromises
unfolding head framed
break-promises = record {
  copies = λ h. absurd (omega (arith, ap head (promised 0 first (h _ (writes first))).1));
  grey = λ h. absurd (omega (arith, ap head (promised 0 grey (h _ (writes grey))).1));
  writes_nothing = λ h. absurd (omega (arith, ap head (promised 0 room (h _ (writes room))).1));
  answers-1 = λ h. absurd (omega (arith, (promised 1 room (h _ (nothing 1))).0));
  invents = λ h. absurd (omega (
    arith,
    sym scored.heads ∙ ap head (h _ scored.invents).gives.holds ∙ scored.true-head,
  ));
}
