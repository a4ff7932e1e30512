-- Trims change nothing that anybody receives.
use Prim.Native.Nat.{ℕ, ◌<◌, suc}
use mathlib.Core.Path.{◌≡◌, refl, sym, ap, subst, ◌∙◌}
use mathlib.Core.Logic.{inl, inr}
use mathlib.Core.Bool.{true, true≢false, false, Bool}
use mathlib.Core.List.{List, [], ◌∷◌, ◌++◌, append_assoc}
use mathlib.Core.Option.{Option, some}
use native.Mathlib.Omega.{arith}
use native.Mathlib.Decide.{ℕ_discrete}
use lib.ListN.{length, replicate}
use Rattle.plan.specs.Plan.{Plan, plan_of, channel_at, node_count}
use Rattle.plan.specs.Record.{record_layout}
use Rattle.plan.specs.Mask.{set_of}
use Rattle.rules.specs.Line.{fed, made, Message, Entry, Asked, down, Node, Lane, Line, initial_line, node_at, lane_at, sender_of, is_replay, counted, one_more, with_node, with_lane}
use Rattle.rules.specs.Frame.{Frame, feed, send, take, crash, recover, trim, ask, commit, frame_console, frame_of}
use Rattle.rules.specs.Trim.{trimmed_line}
use Rattle.rules.specs.Clock.{logged}
use Rattle.rules.specs.Recover.{recovered}
use Rattle.rules.specs.Step.{made_by, sendable, sent_line, fed_line, taken_lane, taken_up, taken_replaying, taken_first, taken_line, crashed_line, is_nothing, asked_line, committed_by, committed_line, effect, refusal, accepted, step}
use Rattle.rules.specs.Plain.{Act, Receipt}
use Rattle.rules.specs.Claim.{Story, start_of, if_zero, told, story_from, first_receipt, receipt_of}
use Rattle.rules.specs.Trimming.{is_trim, WithTrims, no_more, alike, put_in, TrimsChangeNothing}
use Rattle.rules.proofs.Lists.ListLaws.{nil_right}
use Rattle.rules.proofs.Lists.Members.{in_none}
use Rattle.rules.proofs.Lists.Options.{some_same, something_there}
use Rattle.rules.proofs.Invariant.Inv.{Shape}
use Rattle.rules.proofs.Invariant.InvLaws.{replay_not_down}
use Rattle.rules.proofs.Invariant.Stays.{moved, shape_beside}
use Rattle.rules.proofs.Invariant.Trimmed.{rest}
use Rattle.rules.proofs.Theorem.Accepted.{Passed, passed, can_feed, can_send, CanSend, can_take, CanTake, can_crash, can_recover, CanRecover, can_trim, CanTrim, step-accepted, step_refused, can_ask, can_commit, ask_leads}
use Rattle.rules.proofs.Theorem.StepInv.{up_or_replay, first_up, first_again, sender_sends}
use Rattle.rules.proofs.Restart.NeverUnplaced.{again_here}
use Rattle.rules.proofs.Restart.Known.{Known, known_start, known_step, known_all}
use Rattle.rules.proofs.Trimming.Alike.{same_node, same_lane, same_plan}
use Rattle.plan.specs.Lawful.{Each, Bytes}
use Rattle.rules.specs.Replay.{time_for, timed}
use Rattle.rules.proofs.Undamaged.Committed.{committed_by_lem, committed_is}
use Rattle.rules.proofs.Undamaged.StepSound.{frame_bytes, answered_whole}
use Rattle.rules.proofs.Trimming.Restores.{Thinner}
use Rattle.rules.proofs.Trimming.Phases.{thinner_by}
use Rattle.rules.proofs.Trimming.Trims.{trim_one, trim_both, trimmed_stops}
use Rattle.rules.proofs.Trimming.Kinds.{ended_thinner, logs_thinner, sends_thinner, sendable_alike, takes_thinner, holds_thinner, crash_thinner, recovered_thinner, recover_thinner, ask_thinner, answers_alike}

-- One line is as much trimmed as itself.
self_thinner : (l : Line) → Thinner l l
self_thinner l =
    record {
      alike = refl;
      gone = λ n. [];
      logs = λ n. refl;
      lows = λ b h. refl;
      reached = λ n e i. absurd (in_none i);
      restored_past = λ n m e i. absurd (in_none i);
      input_reached = λ n m e i. absurd (in_none i);
    }

-- Counts do not matter.
counted_thinner : (c d : ℕ) (k u : Line) → Thinner k u → Thinner (counted c k) (counted d u)
unfolding counted
counted_thinner c d k u t =
    thinner_by u (one_more d u.steps) u.nodes u.lanes k (counted c k) t t.gone (λ n e i. i) (record { marks = λ m e. e; entries = λ x h e. omega arith; lows = λ x h e. refl; entered = λ m e x i. i }) t.alike t.logs t.lows (λ n e i x h y. inl (y, omega arith))

counted_one : (c : ℕ) (k u : Line) → Thinner k u → Thinner (counted c k) u
unfolding counted
counted_one c k u t = thinner_by u u.steps u.nodes u.lanes k (counted c k) t t.gone (λ n e i. i) (record { marks = λ m e. e; entries = λ x h e. omega arith; lows = λ x h e. refl; entered = λ m e x i. i }) t.alike t.logs t.lows (λ n e i x h y. inl (y, omega arith))

module _ (u : Line) (known : Known u) (steps : List ℕ) (nodes : List Node) (lanes : List Lane) (thinner : Thinner (moved u steps nodes lanes) u) where
  open known use {ghost, cut, base, receipts, crashes, inv}

  abbrev k : Line
  k = moved u steps nodes lanes

  abbrev acts : List Act
  acts = known.fed

  queue_same : (b : ℕ) → (lane_at k b).queue ≡ (lane_at u b).queue
  queue_same b = ap (λ (s : Lane). s.queue) (same_lane k u thinner.alike b)

  status_same : (n : ℕ) → (node_at k n).status ≡ (node_at u n).status
  status_same n = ap (λ (x : Node). x.status) (same_node k u thinner.alike n)

  time_same : (n : ℕ) → (node_at k n).time ≡ (node_at u n).time
  time_same n = ap (λ (x : Node). x.time) (same_node k u thinner.alike n)

  feeds : (n : ℕ) (r : List ℕ) → n < node_count u.plan → (k' u' : Line) → effect k (feed n r) ≡ some k' → effect u (feed n r) ≡ some u' → Thinner k' u'
  unfolding effect fed_line
  feeds n r inside k' u' ek eu =
      let t = timed u.plan n (made_by u n (record_layout.read r)) in
      subst (λ (x : Line). Thinner x u') (ap (by k t) (sym (time_same n)) ∙ some_same ek) (subst (Thinner (by k t (node_at u n).time)) (some_same eu) (one t))
    where
      by : Line → Bool → ℕ → Line
      by l t now = elim t [ true ↦ with_node n (logged (suc now) (set_of u.plan n (made_by u n (record_layout.read r))) (made_by u n (record_layout.read r)) fed fed (node_at l n)) l | false ↦ l ]

      one : (t : Bool) → Thinner (by k t (node_at u n).time) (by u t (node_at u n).time)
      one true = logs_thinner u steps nodes lanes thinner inv.shape n (suc (node_at u n).time) (set_of u.plan n (made_by u n (record_layout.read r))) (made_by u n (record_layout.read r)) fed fed inside
      one false = thinner

  sends : (b : ℕ) → CanSend u b → (k' u' : Line) → effect k (send b) ≡ some k' → effect u (send b) ≡ some u' → Thinner k' u'
  unfolding effect
  sends b can k' u' ek eu =
      let alive = sender_sends u ghost cut base acts receipts crashes inv b can.entry can.first can.sender in
      let (marked, _, _) = ((inv.channels b can.here).sender_up alive).queue can.receiver in
      let same : sendable k b ≡ sendable u b = sendable_alike u steps nodes lanes thinner inv.shape b (λ e i. (let early = thinner.reached (channel_at u.plan b).sender e i b (can.here, refl) can.receiver in omega (arith, early, marked))) in
      subst (λ (x : Line). Thinner x u') (ap (λ (o : Option Entry). sent_line b o k) (sym (same ∙ can.first)) ∙ some_same ek) (subst (Thinner (sent_line b (some can.entry) k)) (ap (λ (o : Option Entry). sent_line b o u) (sym can.first) ∙ some_same eu)
      (sends_thinner u steps nodes lanes thinner inv.shape b can.entry can.here))

  module _ (b : ℕ) (can : CanTake u b) where
    abbrev n : ℕ
    n = (channel_at u.plan b).receiver

    first : Thinner (taken_lane b can.message can.rest k) (taken_lane b can.message can.rest u)
    first = takes_thinner u steps nodes lanes thinner inv.shape b can.message can.rest can.here

    shape : Shape (taken_lane b can.message can.rest u)
    unfolding taken_lane
    shape = shape_beside b _ inv.shape

    logs : Thinner (taken_up b can.message (taken_lane b can.message can.rest k)) (taken_up b can.message (taken_lane b can.message can.rest u))
    unfolding taken_up taken_lane with_lane
    logs =
        let K = taken_lane b can.message can.rest k in
        let what = made_by u n can.message.what in
        subst (λ (t : ℕ). Thinner (with_node n (logged (time_for u.plan n what t) (set_of u.plan n what) what (made (sender_of u b) can.message.time) can.message.origin (node_at K n)) K) (taken_up b can.message (taken_lane b can.message can.rest u))) (sym (time_same n))
        (logs_thinner (taken_lane b can.message can.rest u) K.steps K.nodes K.lanes first shape n (time_for u.plan n what (node_at u n).time) (set_of u.plan n (made_by u n can.message.what)) (made_by u n can.message.what) (made (sender_of u b) can.message.time) can.message.origin (inv.ordered.inside b can.here))

    holds : Thinner (taken_replaying b can.message (taken_lane b can.message can.rest k)) (taken_replaying b can.message (taken_lane b can.message can.rest u))
    unfolding taken_lane with_lane
    holds =
        let K = taken_lane b can.message can.rest k in
        holds_thinner (taken_lane b can.message can.rest u) K.steps K.nodes K.lanes first shape b can.message (inv.ordered.inside b can.here)

    takes : (k' u' : Line) → effect k (take b) ≡ some k' → effect u (take b) ≡ some u' → Thinner k' u'
    unfolding effect taken_line
    takes k' u' ek eu =
        let m = can.message in
        let rest = can.rest in
        let qk : taken_first b (m ∷ rest) k ≡ some k' = ap (λ (q : List Message). taken_first b q k) (sym (queue_same b ∙ can.first)) ∙ ek in
        let qu : taken_first b (m ∷ rest) u ≡ some u' = ap (λ (q : List Message). taken_first b q u) (sym can.first) ∙ eu in
        elim (up_or_replay (node_at u n).status can.receiver) [
          | inl alive ↦
              subst (λ (x : Line). Thinner x u') (some_same (sym (first_up b m rest k (ap is_replay (status_same n ∙ alive))) ∙ qk))
              (subst (Thinner (taken_up b m (taken_lane b m rest k))) (some_same (sym (first_up b m rest u (ap is_replay alive)) ∙ qu)) logs)
          | inr again ↦
              (let a = again_here u known b can again in
              ended_thinner (taken_replaying b m (taken_lane b m rest k)) (taken_replaying b m (taken_lane b m rest u)) holds a.kept.shape n (rw a.plan (inv.ordered.inside b can.here)) (a.kept.replays n a.status).log_none (λ z. replay_not_down (sym a.status ∙ z)) k' u'
              (sym (first_again b m rest k (ap is_replay (status_same n ∙ again))) ∙ qk) (sym (first_again b m rest u (ap is_replay again)) ∙ qu))
        ]

  crashes_both : (n : ℕ) → n < node_count u.plan → (k' u' : Line) → effect k (crash n) ≡ some k' → effect u (crash n) ≡ some u' → Thinner k' u'
  unfolding effect
  crashes_both n inside k' u' ek eu = subst (λ (x : Line). Thinner x u') (some_same ek) (subst (Thinner (crashed_line n k)) (some_same eu) (crash_thinner u steps nodes lanes thinner ghost cut base acts receipts crashes inv n inside))

  recovers : (n : ℕ) → n < node_count u.plan → (node_at u n).status ≡ down → (k' u' : Line) → effect k (recover n) ≡ some k' → effect u (recover n) ≡ some u' → Thinner k' u'
  unfolding effect
  recovers n inside is_down_lem k' u' ek eu = recover_thinner u steps nodes lanes thinner ghost cut base acts receipts crashes inv n inside is_down_lem k' u' ek eu

  trims : (n : ℕ) → CanTrim u n → (k' u' : Line) → effect k (trim n) ≡ some k' → effect u (trim n) ≡ some u' → Thinner k' u'
  unfolding effect
  trims n can k' u' ek eu =
      let one = trim_one u steps nodes lanes thinner ghost cut base acts receipts crashes inv n can.here in
      subst (λ (x : Line). Thinner x u') (some_same ek) (subst (Thinner (trimmed_line n k)) (some_same eu)
      (trim_both u (trimmed_line n k) one ghost cut base acts receipts crashes inv n can.here can.all_up (trimmed_stops u steps nodes lanes thinner ghost cut base acts receipts crashes inv n can.here)))

  -- What is kept is the same, and so is what a Commit makes of it.
  asks : (n : ℕ) → CanRecover u n → (k' u' : Line) → effect k (ask n) ≡ some k' → effect u (ask n) ≡ some u' → Thinner k' u'
  asks n can k' u' ek eu =
      subst (λ (x : Line). Thinner x u') (ask_leads k n ek).1 (subst (Thinner (asked_line n k)) (ask_leads u n eu).1
      (ask_thinner u steps nodes lanes thinner ghost cut base acts receipts crashes inv n can.here can.stopped))

  commits : (n : ℕ) → CanRecover u n → is_nothing (node_at u n).asked ≡ false → (k' u' : Line) → effect k (commit n) ≡ some k' → effect u (commit n) ≡ some u' → Thinner k' u'
  unfolding effect committed_line
  commits n can kept k' u' ek eu =
      let (a, q) = something_there (node_at u n).asked kept in
      let right = answered_whole u known.whole n a q in
      let also : (node_at k n).asked ≡ some a = ap (λ (x : Node). x.asked) (same_node k u thinner.alike n) ∙ q in
      let (is, targets) = answers_alike u steps nodes lanes thinner ghost cut base acts receipts crashes inv n can.here can.stopped a right.is right.targets in
      subst (λ (x : Line). Thinner x u') (sym (committed_by_lem k n a is targets) ∙ ap (λ (o : Option Asked). committed_by n o k) (sym also) ∙ some_same ek)
      (subst (Thinner (recovered n k)) (sym (committed_is u n a right) ∙ ap (λ (o : Option Asked). committed_by n o u) (sym q) ∙ some_same eu)
      (recovered_thinner u steps nodes lanes thinner ghost cut base acts receipts crashes inv n can.here can.stopped))

  effect_thinner : {d : ℕ} (f : Frame) → Passed u d f → (k' u' : Line) → effect k f ≡ some k' → effect u f ≡ some u' → Thinner k' u'
  effect_thinner (feed n r) p = feeds n r (can_feed p).here
  effect_thinner (send b) p = sends b (can_send p)
  effect_thinner (take b) p = takes b (can_take p)
  effect_thinner (crash n) p = crashes_both n (can_crash p).here
  effect_thinner (recover n) p = recovers n (can_recover p).here (can_recover p).stopped
  effect_thinner (trim n) p = trims n (can_trim p)
  effect_thinner (ask n) p = asks n (can_ask p)
  effect_thinner (commit n) p = commits n (can_commit p) p.answered

  first_same : (b : ℕ) (q : List Message) → first_receipt k b q ≡ first_receipt u b q
  first_same b [] = refl
  first_same b (m ∷ rest) = refl

  receipt_same : (f : Frame) → receipt_of k f ≡ receipt_of u f
  receipt_same (feed n r) = refl
  receipt_same (send b) = refl
  receipt_same (take b) = ap (first_receipt k b) (queue_same b) ∙ first_same b (lane_at u b).queue
  receipt_same (crash n) = refl
  receipt_same (recover n) = refl
  receipt_same (trim n) = refl
  receipt_same (ask n) = refl
  receipt_same (commit n) = refl

-- What a step does to both.
pub record BothStep (k u : Line) (f : List ℕ) : Type 0 where
  pub lines : Thinner (step k f).line (step u f).line
  pub given : receipt_of k (frame_of f) ≡ receipt_of u (frame_of f)

line_of : (l : Line) (f : List ℕ) (p : Passed l (frame_console f) (frame_of f)) → refusal l f ≡ 0 → (step l f).line ≡ counted (frame_console f) p.next
line_of l f p e = (step-accepted l f e).1 ∙ ap (accepted (frame_console f) l) p.leads

-- The same line, its plan said as the other's.
abbrev planned : Line → Line → Line
planned u k = moved u k.steps k.nodes k.lanes

is_as : (k u : Line) → Thinner k u → k ≡ planned u k
is_as k u t = λ i. record { plan = same_plan k u t.alike i; steps = k.steps; nodes = k.nodes; lanes = k.lanes }

both_step : (k u : Line) → Thinner k u → Known u → (f : List ℕ) → refusal k f ≡ 0 → refusal u f ≡ 0 → BothStep k u f
both_step k u t known f zk zu = subst (λ (x : Line). BothStep x u f) (sym q) (go (subst (λ (x : Line). Thinner x u) q t) (subst (λ (x : Line). refusal x f ≡ 0) q zk))
  where
    q : k ≡ moved u k.steps k.nodes k.lanes
    q = is_as k u t

    go : Thinner (moved u k.steps k.nodes k.lanes) u → refusal (moved u k.steps k.nodes k.lanes) f ≡ 0 → BothStep (moved u k.steps k.nodes k.lanes) u f
    go thinner z =
        let x = moved u k.steps k.nodes k.lanes in
        let pk = passed x f z in
        let pu = passed u f zu in
        record {
          lines = subst (λ (y : Line). Thinner y (step u f).line) (sym (line_of x f pk z)) (subst (Thinner (counted (frame_console f) pk.next)) (sym (line_of u f pu zu))
              (counted_thinner (frame_console f) (frame_console f) pk.next pu.next (effect_thinner u known k.steps k.nodes k.lanes thinner (frame_of f) pu pk.next pu.next pk.leads pu.leads)));
          given = receipt_same u known k.steps k.nodes k.lanes thinner (frame_of f);
        }

-- A frame that asks for a Trim, put in.
trim_is : (l : Line) (n : ℕ) → effect l (trim n) ≡ some (trimmed_line n l)
unfolding effect
trim_is l n = refl

one_trim : (k u : Line) → Thinner k u → Known u → (f : Frame) → is_trim f ≡ true → {c : ℕ} → Passed k c f → (k' : Line) → effect k f ≡ some k' → Thinner k' u × (receipt_of k f ≡ [])
one_trim k u t known (feed n r) q p k' e = absurd (true≢false (sym q))
one_trim k u t known (send b) q p k' e = absurd (true≢false (sym q))
one_trim k u t known (take b) q p k' e = absurd (true≢false (sym q))
one_trim k u t known (crash n) q p k' e = absurd (true≢false (sym q))
one_trim k u t known (recover n) q p k' e = absurd (true≢false (sym q))
one_trim k u t known (ask n) q p k' e = absurd (true≢false (sym q))
one_trim k u t known (commit n) q p k' e = absurd (true≢false (sym q))
one_trim k u t known (trim n) q p k' e = (trimmed_one n (can_trim p).here k' e, refl)
  where
    trimmed_one : (n : ℕ) → n < node_count k.plan → (k' : Line) → effect k (trim n) ≡ some k' → Thinner k' u
    trimmed_one n here k' e =
        subst (λ (x : Line). Thinner x u) (ap (trimmed_line n) (sym (is_as k u t)) ∙ some_same (sym (trim_is k n) ∙ e))
        (trim_one u k.steps k.nodes k.lanes (subst (λ (x : Line). Thinner x u) (is_as k u t) t) known.ghost known.cut known.base known.fed known.receipts known.crashes known.inv n (subst (λ (x : Plan). n < node_count x) (same_plan k u t.alike) here))

trim_step : (k u : Line) → Thinner k u → Known u → (f : List ℕ) → is_trim (frame_of f) ≡ true → refusal k f ≡ 0 → Thinner (step k f).line u × (receipt_of k (frame_of f) ≡ [])
trim_step k u t known f q z =
    let p = passed k f z in
    let (lines, none-given) = one_trim k u t known (frame_of f) q p p.next p.leads in
    (subst (λ (x : Line). Thinner x u) (sym (line_of k f p z)) (counted_one (frame_console f) p.next u lines), none-given)

-- The numbers of a story, step by step.
abbrev AllZero : Line → List (List ℕ) → Type 0
AllZero l [] = Unit {0}
AllZero l (f ∷ fs) = (refusal l f ≡ 0) × AllZero (step l f).line fs

abbrev numbers_from : Line → List (List ℕ) → List ℕ
numbers_from l [] = []
numbers_from l (f ∷ fs) = (step l f).number ∷ numbers_from (step l f).line fs

numbers_from_lem : (fs : List (List ℕ)) (s : Story) → (story_from s fs).numbers ≡ s.numbers ++ numbers_from s.line fs
unfolding told
numbers_from_lem [] s = sym (nil_right s.numbers)
numbers_from_lem (f ∷ fs) s = numbers_from_lem fs (told s f) ∙ append_assoc s.numbers ((step s.line f).number ∷ []) (numbers_from (step s.line f).line fs)

cons_parts : {x y : ℕ} {xs ys : List ℕ} → x ∷ xs ≡ y ∷ ys → (x ≡ y) × (xs ≡ ys)
cons_parts e = (cc, cc)

all_zero : (fs : List (List ℕ)) (l : Line) → numbers_from l fs ≡ replicate (length fs) 0 → AllZero l fs
all_zero [] l e = tt
all_zero (f ∷ fs) l e =
    let (first, rest) = cons_parts e in
    (elim (ℕ_discrete (refusal l f) 0) [ yes z ↦ z | no d ↦ absurd ((step_refused l f d).0 first) ], all_zero fs (step l f).line rest)

given_more : (s : Story) (f : List ℕ) → refusal s.line f ≡ 0 → (told s f).receipts ≡ s.receipts ++ receipt_of s.line (frame_of f)
unfolding told
given_more s f z = ap (λ (n : ℕ). s.receipts ++ if_zero n (receipt_of s.line (frame_of f))) (step-accepted s.line f z).0

-- Both stories, step by step: the Trims put in are steps of the one alone.
law : {with without : List (List ℕ)} → WithTrims with without → (s t : Story) → Thinner s.line t.line → s.receipts ≡ t.receipts → Known t.line → Each Bytes without → AllZero s.line with → AllZero t.line without → (story_from s with).receipts ≡ (story_from t without).receipts
unfolding told
law no_more s t thinner same known each zs zt = same
law (alike f more) s t thinner same known (b, each) (z, zs) (y, zt) =
    let both = both_step s.line t.line thinner known f z y in
    law more (told s f) (told t f) both.lines (given_more s f z ∙ (λ i. same i ++ both.given i) ∙ sym (given_more t f y)) (known_step t.line f (frame_bytes f b) known) each zs zt
law (put_in f q more) s t thinner same known each (z, zs) zt =
    let (lines, none-given) = trim_step s.line t.line thinner known f q z in
    law more (told s f) t lines (given_more s f z ∙ ap (λ (x : List Receipt). s.receipts ++ x) none-given ∙ nil_right s.receipts ∙ same) known each zs zt

pub trims_change_nothing : TrimsChangeNothing
trims_change_nothing plan before with without bytes each-before each z more ks us =
    let l = (story_from (start_of (initial_line (plan_of plan))) before).line in
    law more (start_of l) (start_of l) (self_thinner l) refl (known_all before (start_of (initial_line (plan_of plan))) each-before (known_start plan bytes z)) each (all_zero with l (sym (numbers_from_lem with (start_of l)) ∙ ks)) (all_zero without l (sym (numbers_from_lem without (start_of l)) ∙ us))
