-- The order theorem with any columns that get yes, at each end of a replay others (2026-09).
use Prim.Native.Nat.{ℕ}
use mathlib.Core.Path.{◌≡◌, refl, sym, ap, subst, ◌∙◌}
use mathlib.Core.Logic.{◌≢◌, inl, inr}
use mathlib.Core.Bool.{Bool, true, false, not, ◌&&◌, true≢false}
use mathlib.Core.List.{List, [], ◌∷◌, ◌++◌}
use mathlib.Core.Option.{Option, none, some}
use native.Mathlib.Decide.{ℕ_discrete}
use lib.Dec.{eqb}
use borrow.Author.Tests.{eq-eqb, ne_eqb}
use Rattle.basics.specs.Bools.{both_true, neither_true}
use Rattle.plan.specs.Plan.{Plan, plan_of, channel_at}
use Rattle.plan.specs.Lawful.{Each, Bytes}
use Rattle.marking.specs.Mark.{gets_yes}
use Rattle.marking.proofs.RightLaws.{yes_keeps}
use Rattle.rules.specs.Lists.{is_empty, all_of}
use Rattle.rules.specs.Line.{Message, replay, Line, initial_line, node_at, receiver_of, counted, is_replay}
use Rattle.rules.specs.Frame.{Frame, feed, send, take, crash, recover, trim, ask, commit, frame_console, frame_of}
use Rattle.rules.specs.Recover.{high_of, targets_of, conflict, rows_complete, recovered}
use Rattle.rules.specs.Replay.{table_of, is_held, placing, placed_at, replay_end, ended_if_complete}
use Rattle.rules.specs.Step.{replaying, taken_lane, taken_replaying, effect, refusal, Answer, accepted, step}
use Rattle.rules.specs.Damaged.{damaged}
use Rattle.rules.specs.Claim.{Story, start_of, told, told_by, feed_of, receipt_of, crash_of}
use Rattle.rules.specs.Order.{OneRun}
use Rattle.rules.specs.Proposed.{Ending, ending_take, ending_of, agreed, answer_with, step_with, ChosenIsStep, ProposedUndamaged, Proposal, story_with, InOrderProposed}
use Rattle.rules.proofs.Lists.Options.{some_same, none_some}
use Rattle.rules.proofs.Ending.Ends.{EndsAs, ends-beside, ends_with, ended_as}
use Rattle.rules.proofs.Theorem.Accepted.{Passed, passed, CanTake, can_take, can_recover, step-accepted, step_refused}
use Rattle.rules.proofs.Lists.ListLaws.{nil_right}
use Rattle.rules.proofs.Invariant.Limits.{counted_steady}
use Rattle.rules.proofs.Steps.CountedInv.{counted_inv}
use Rattle.rules.proofs.Theorem.StepInv.{up_or_replay, kept_same, take_again_step}
use Rattle.rules.proofs.Theorem.SteadyKept.{take_again_steady}
use Rattle.rules.proofs.Theorem.Unmoved.{effect-plan, effect-steps, step-plan}
use Rattle.rules.proofs.Order.{Told, one_run, told_more, told_start}
use Rattle.rules.proofs.Undamaged.Standing.{restored_complete, stuck, Sound}
use Rattle.rules.proofs.Undamaged.Restored.{restored_complete_lem, recovers_to}
use Rattle.rules.proofs.Undamaged.Undamaged.{ordered_fit, undamaged_sound, sound_undamaged}
use Rattle.rules.proofs.Undamaged.HoldSound.{taken_is, again_sound}
use Rattle.rules.proofs.Undamaged.StepSound.{step_undamaged}

-- A Recover that is accepted ends no replay: nothing is held yet.
recover_waits : (l : Line) → Sound l → (n : ℕ) {who : ℕ} → Passed l who (recover n) → is_empty (targets_of l n) ≡ false → rows_complete (recovered n l) n ≡ false
unfolding effect stuck
recover_waits l sound n p some_targets =
    let s = sound.standing in
    let ordered = ordered_fit l.plan s.plan_fits_lem in
    let here = (can_recover p).here in
    let goes = (recovers_to l ordered s.shape n here p.leads).0 in
    let waits = (neither_true (conflict (targets_of l n)) (not (is_empty (targets_of l n)) && restored_complete l n) goes).1 in
    restored_complete_lem l n ordered s.shape here ∙ sym (ap (λ (t : Bool). not t && restored_complete l n) some_targets) ∙ waits

-- The line in which a Take of a replaying node asks whether its rows are complete.
abbrev waiting : (l : Line) (b : ℕ) → CanTake l b → Line
waiting l b can = taken_replaying b can.message (taken_lane b can.message can.rest l)

-- An accepted Take of a replaying node, at whose end the columns stand.
record Instead (columns : List ℕ) (l : Line) (f : List ℕ) : Type 0 where
  accepts : refusal l f ≡ 0
  channel : ℕ
  takes : frame_of f ≡ take channel
  can : CanTake l channel
  again : (node_at l (receiver_of l channel)).status ≡ replay
  ending : ending_of l (frame_of f) ≡ some (record { node = receiver_of l channel; line = waiting l channel can })
  complete : rows_complete (waiting l channel can) (receiver_of l channel) ≡ true
  ends : EndsAs (receiver_of l channel) (waiting l channel can) (placed_at columns (receiver_of l channel) (waiting l channel can))
  beside : ((placed_at columns (receiver_of l channel) (waiting l channel can)).plan ≡ l.plan) × ((placed_at columns (receiver_of l channel) (waiting l channel can)).steps ≡ l.steps)

-- What comes of columns: Step's own answer, or that of such a Take.
data Comes (columns : List ℕ) (l : Line) (f : List ℕ) : Answer → Type 0 where
  own : Comes columns l f (step l f)
  instead : (x : Instead columns l f) → Comes columns l f (record { number = 0; line = counted (frame_console f) (placed_at columns (receiver_of l x.channel) (waiting l x.channel x.can)) })

module _ (columns : List ℕ) (l : Line) (f : List ℕ) where
  abbrev answer : Option Ending → Answer
  answer o = answer_with columns (frame_console f) o (step l f)

  refused_own : refusal l f ≢ 0 → (o : Option Ending) → answer_with columns (frame_console f) o (step l f) ≡ step l f
  refused_own d none = refl
  refused_own d (some e) = rw (ne_eqb (step l f).number 0 (step_refused l f d).0, answer_with)

  disagreed_own : (e : Ending) → agreed columns e ≡ false → answer_with columns (frame_console f) (some e) (step l f) ≡ step l f
  disagreed_own e d = go (eqb (step l f).number 0)
    where
      go : (t : Bool) → ◌≡◌ {A = Answer} (elim (t && agreed columns e) [ true ↦ record { number = 0; line = counted (frame_console f) (placed_at columns e.node e.line) } | false ↦ step l f ]) (step l f)
      go true = rw d
      go false = refl

  agreed_instead : (e : Ending) → refusal l f ≡ 0 → agreed columns e ≡ true → answer_with columns (frame_console f) (some e) (step l f) ≡ record { number = 0; line = counted (frame_console f) (placed_at columns e.node e.line) }
  agreed_instead e z a = rw (eq-eqb (step l f).number 0 (step-accepted l f z).0, answer_with, a, answer_with)

  module _ (sound : Sound l) (z : refusal l f ≡ 0) where
    owned : answer (ending_of l (frame_of f)) ≡ step l f → Comes columns l f (answer_with columns (frame_console f) (ending_of l (frame_of f)) (step l f))
    owned e = subst (Comes columns l f) (sym e) own

    -- The same with the frame's kind known.
    at_kind : {k : Frame} → frame_of f ≡ k → {o : Option Ending} → ending_of l k ≡ o → {a : Answer} → answer o ≡ a → answer (ending_of l (frame_of f)) ≡ a
    at_kind q r e = ap (λ (k : Frame). answer (ending_of l k)) q ∙ ap answer r ∙ e

    take_comes : (b : ℕ) → frame_of f ≡ take b → Passed l (frame_console f) (take b) → Comes columns l f (answer_with columns (frame_console f) (ending_of l (frame_of f)) (step l f))
    unfolding agreed
    take_comes b q p = elim (up_or_replay (node_at l n).status can.receiver) [
      | inl alive ↦ owned (at_kind q (ending false (ap is_replay alive)) refl)
      | inr again ↦ go again (agreed columns e) refl
    ]
      where
        n : ℕ
        n = (channel_at l.plan b).receiver

        can : CanTake l b
        can = can_take p

        left : Line
        left = taken_replaying b can.message (taken_lane b can.message can.rest l)

        e : Ending
        e = record { node = n; line = left }

        ending : (t : Bool) → replaying l n ≡ t → ending_of l (take b) ≡ elim t [ true ↦ some e | false ↦ none ]
        ending t r = ap (λ (queue : List Message). ending_take b queue l) can.first ∙ rw (r, ending_take)

        go : (node_at l n).status ≡ replay → (t : Bool) → agreed columns e ≡ t → Comes columns l f (answer_with columns (frame_console f) (ending_of l (frame_of f)) (step l f))
        go again false d = owned (at_kind q (ending true (ap is_replay again)) (disagreed_own e d))
        go again true a =
            let low = (node_at left n).time in
            let (complete, agree) = both_true (rows_complete left n) (gets_yes low (high_of left n) (table_of left n) columns) a in
            let chosen = ended_as n left p.next (sym (taken_is l sound b p can again) ∙ p.leads) in
            let ends = ends_with chosen complete columns (yes_keeps low (high_of left n) (table_of left n) columns agree) in
            let is = ending true (ap is_replay again) in
            subst (Comes columns l f) (sym (at_kind q is (agreed_instead e z a)))
            (instead
            (record {
              accepts = z;
              channel = b;
              takes = q;
              can = can;
              again = again;
              ending = ap (ending_of l) q ∙ is;
              complete = complete;
              ends = ends;
              beside = ((ends-beside ends).0 ∙ sym (ends-beside chosen).0 ∙ effect-plan l (take b) p.leads, (ends-beside ends).1 ∙ sym (ends-beside chosen).1 ∙ effect-steps l (take b) p.leads);
            }))

    recover_comes : (n : ℕ) → frame_of f ≡ recover n → Passed l (frame_console f) (recover n) → Comes columns l f (answer_with columns (frame_console f) (ending_of l (frame_of f)) (step l f))
    unfolding agreed
    recover_comes n q p = go (is_empty (targets_of l n)) refl
      where
        e : Ending
        e = record { node = n; line = recovered n l }

        by : Bool → Option Ending
        by t = elim t [ true ↦ none | false ↦ some e ]

        go : (t : Bool) → is_empty (targets_of l n) ≡ t → Comes columns l f (answer_with columns (frame_console f) (ending_of l (frame_of f)) (step l f))
        go true r = owned (at_kind q (ap by r) refl)
        go false r = owned (at_kind q (ap by r) (disagreed_own e (rw (recover_waits l sound n p r))))

    comes_of : (k : Frame) → frame_of f ≡ k → Passed l (frame_console f) k → Comes columns l f (answer_with columns (frame_console f) (ending_of l (frame_of f)) (step l f))
    comes_of (feed n r) q p = owned (at_kind q refl refl)
    comes_of (send b) q p = owned (at_kind q refl refl)
    comes_of (take b) q p = take_comes b q p
    comes_of (crash n) q p = owned (at_kind q refl refl)
    comes_of (recover n) q p = recover_comes n q p
    comes_of (trim n) q p = owned (at_kind q refl refl)
    comes_of (ask n) q p = owned (at_kind q refl refl)
    comes_of (commit n) q p = owned (at_kind q refl refl)

  comes : Sound l → Comes columns l f (step_with columns l f)
  unfolding step_with
  comes sound = elim (ℕ_discrete (refusal l f) 0) [
    | yes z ↦ comes_of sound z (frame_of f) refl (passed l f z)
    | no d ↦ subst (Comes columns l f) (sym (refused_own d (ending_of l (frame_of f)))) own
  ]

-- With the chosen columns the replay ends as in Step.
chosen_end : (n : ℕ) (l : Line) (columns : List ℕ) {k : Line} → rows_complete l n ≡ true → placing (node_at l n).time (high_of l n) (table_of l n) ≡ some columns → ended_if_complete n l ≡ some k → placed_at columns n l ≡ k
unfolding ended_if_complete replay_end
chosen_end n l columns {k} complete p e = go (rows_complete l n) (all_of (is_held (node_at l n).held) (node_at l n).targets) (placing (node_at l n).time (high_of l n) (table_of l n)) complete p e
  where
    go : (t held : Bool) (o : Option (List ℕ)) → t ≡ true → o ≡ some columns
        → (elim t [ true ↦ elim held [ false ↦ none | true ↦ elim o [ none ↦ none | some c ↦ some (placed_at c n l) ] ] | false ↦ some l ]) ≡ some k → placed_at columns n l ≡ k
    go false held o c q z = absurd (true≢false (sym c))
    go true false o c q z = none_some z
    go true true none c q z = none_some q
    go true true (some x) c q z = ap (λ (y : List ℕ). placed_at y n l) (sym (some_same q)) ∙ some_same z

pub chosen_is_step : ChosenIsStep
chosen_is_step l columns f e whole is chosen = go (comes columns l f (undamaged_sound l whole))
  where
    go : {a : Answer} → Comes columns l f a → a ≡ step l f
    go own = refl
    go (instead x) =
        let b = x.channel in
        let n = receiver_of l b in
        let p = passed l f x.accepts in
        let took = subst (Passed l (frame_console f)) x.takes p in
        let same : e ≡ record { node = n; line = waiting l b x.can } = some_same (sym is ∙ x.ending) in
        let ended = sym (taken_is l (undamaged_sound l whole) b took x.can x.again) ∙ ap (effect l) (sym x.takes) ∙ p.leads in
        let next = chosen_end n (waiting l b x.can) columns x.complete (subst (λ (y : Ending). placing (node_at y.line y.node).time (high_of y.line y.node) (table_of y.line y.node) ≡ some columns) same chosen) ended in
        let (zero, line) = step-accepted l f x.accepts in
        let led = ap (counted (frame_console f)) next ∙ sym (line ∙ ap (accepted (frame_console f) l) p.leads) in
        λ i. record { number = sym zero i; line = led i }

comes_undamaged : (columns : List ℕ) (l : Line) (f : List ℕ) → Bytes f → damaged l ≡ false → {a : Answer} → Comes columns l f a → damaged a.line ≡ false
comes_undamaged columns l f bytes whole own = step_undamaged l f bytes whole
comes_undamaged columns l f bytes whole (instead x) = sound_undamaged _ (again_sound l (undamaged_sound l whole) x.channel (subst (Passed l (frame_console f)) x.takes (passed l f x.accepts)) x.can x.again x.ends)

pub proposed_undamaged : ProposedUndamaged
proposed_undamaged l columns f bytes whole = comes_undamaged columns l f bytes whole (comes columns l f (undamaged_sound l whole))

-- Demand 3 of the story so far, on one plan.
abbrev ToldOn : Plan → Story → Type 0
ToldOn p s = (s.line.plan ≡ p) × Told s

told_with : (p : Plan) (s : Story) (columns f : List ℕ) → Bytes f → ToldOn p s → ToldOn p (told_by (step_with columns s.line f) s f)
unfolding told counted
told_with p s columns f bytes (plan, h) = go (comes columns s.line f (undamaged_sound s.line h.2))
  where
    l : Line
    l = s.line

    go : {a : Answer} → Comes columns s.line f a → ToldOn p (told_by a s f)
    go own = (step-plan l f ∙ plan, told_more s f bytes h)
    go (instead x) =
        let ((g, cut, base, inv), steady, whole) = h in
        let passes = subst (Passed l (frame_console f)) x.takes (passed l f x.accepts) in
        let (g', cut', base', inv') = take_again_step l g cut base s.fed_acts s.receipts s.crashes inv x.channel x.can x.again x.ends in (
          x.beside.0 ∙ plan,
          (
            kept_same refl (ap (λ (k : Frame). s.fed_acts ++ feed_of k) x.takes ∙ nil_right s.fed_acts) (ap (λ (k : Frame). s.receipts ++ receipt_of l k) x.takes) (ap (λ (k : Frame). s.crashes ++ crash_of k) x.takes ∙ nil_right s.crashes)
                (g', cut', base', counted_inv (frame_console f) inv'),
            counted_steady (frame_console f) passes.console (rw x.beside.1 passes.steps_left) (take_again_steady l g cut base s.fed_acts s.receipts s.crashes inv steady x.channel x.can x.ends),
            comes_undamaged columns l f bytes whole (instead x),
          ),
        )

told_each : (p : Plan) (ps : List Proposal) (s : Story) → Each (λ (x : Proposal). Bytes x.frame) ps → ToldOn p s → ToldOn p (story_with s ps)
told_each p [] s each h = h
told_each p (x ∷ ps) s (bytes, each) h = told_each p ps _ each (told_with p s x.columns x.frame bytes h)

pub in_order_proposed : InOrderProposed
unfolding initial_line
in_order_proposed plan ps bytes each z =
    let start = start_of (initial_line (plan_of plan)) in
    let (same, told) = told_each (plan_of plan) ps start each (refl, told_start plan bytes z) in
    subst (λ (p : Plan). OneRun p (story_with start ps)) same (one_run (story_with start ps) told)
