-- Every accepted frame keeps the invariant: the kinds of steps put together.
use Prim.Native.Nat.{ℕ, suc, ◌<◌, ◌≤◌}
use mathlib.Core.Path.{◌≡◌, refl, sym, ap, subst, ◌∙◌}
use mathlib.Core.Logic.{◌≢◌, ◌⊎◌, inl, inr}
use mathlib.Core.Bool.{Bool, true, false}
use mathlib.Core.List.{List, [], ◌∷◌, ◌++◌, nil≢cons}
use mathlib.Core.Option.{Option, some}
use lib.ListN.{length}
use Rattle.basics.specs.Update.{changed}
use Rattle.plan.specs.Record.{record_layout}
use Rattle.plan.specs.Plan.{channel_at, channel_count}
use Rattle.plan.specs.Mask.{set_of}
use Rattle.rules.specs.Line.{log_limit, Message, Entry, Status, up, down, replay, Asked, Line, node_at, lane_at, parents, is_replay, sender_of, receiver_of, with_node}
use Rattle.rules.specs.Line as line
use Rattle.rules.specs.Frame.{Frame, feed, send, take, crash, recover, trim, ask, commit, frame_console, frame_of}
use Rattle.rules.specs.Clock.{logged, next_to_send, raise_heard}
use Rattle.rules.specs.Recover.{targets_of, answer_of}
use Rattle.rules.specs.Replay.{timed, time_for, ended_if_complete}
use Rattle.rules.specs.Step.{sendable, replaying, made_by, fed_line, sent_line, taken_up, taken_lane, taken_replaying, taken_first, taken_line, recovered_line, asked_line, effect, refusal, accepted, step}
use Rattle.rules.specs.Plain.{Act, feeds, Receipt}
use Rattle.rules.specs.Claim.{first_receipt, receipt_of, feed_of, crash_of}
use Rattle.rules.proofs.Lists.ListLaws.{nil_right}
use Rattle.rules.proofs.Lists.Options.{some_same, none_some}
use Rattle.rules.proofs.Histories.Ghost.{Ghost, fed_at, took_at, later}
use Rattle.rules.proofs.Invariant.Inv.{Inv, is_up}
use Rattle.rules.proofs.Invariant.InvLaws.{up_not_down, up_not_replay}
use Rattle.rules.proofs.Invariant.Heard.{raised_more}
use Rattle.rules.proofs.Steps.FeedInv.{feed_inv, quiet_feed_inv}
use Rattle.rules.proofs.Steps.SendInv.{send_inv}
use Rattle.rules.proofs.Steps.TakeInv.{take_inv}
use Rattle.rules.proofs.Steps.TrimInv.{trim_inv}
use Rattle.rules.proofs.Steps.CrashInv.{crash_inv}
use Rattle.rules.proofs.Ending.Ends.{EndsAs, ended_as}
use Rattle.rules.proofs.Ending.ReplayTakeInv.{replay_take_inv}
use Rattle.rules.proofs.Ending.RecoverInv.{recover_inv}
use Rattle.rules.proofs.Steps.CountedInv.{counted_inv}
use Rattle.rules.proofs.Theorem.Accepted.{Passed, passed, CanFeed, can_feed, CanSend, can_send, CanTake, can_take, CanCrash, can_crash, can_recover, CanTrim, can_trim, step-accepted, can_ask, can_commit, ask_leads, CanRecover}
use Rattle.rules.proofs.Steps.AskInv.{ask_inv}
use Rattle.rules.proofs.Undamaged.Standing.{Answers}
use Rattle.rules.proofs.Undamaged.Committed.{commit_is, recover_leads}

-- The invariant holds with some history.
abbrev pub Kept : Line → List Act → List Receipt → List ℕ → Type 0
Kept l fed receipts crashes = (g : Ghost) × (cut : ℕ → ℕ) × (base : ℕ → ℕ) × Inv l g cut base fed receipts crashes

pub kept_same : {l k : Line} {fed fed' : List Act} {receipts receipts' : List Receipt} {crashes crashes' : List ℕ} → k ≡ l → fed' ≡ fed → receipts' ≡ receipts → crashes' ≡ crashes → Kept l fed receipts crashes → Kept k fed' receipts' crashes'
kept_same line feds received crashed h = rw (line, feds, received, crashed) h

up_unless : (s : Status) → (s ≢ up → ⊥) → s ≡ up
up_unless up f = refl
up_unless down f = absurd (f (λ e. up_not_down (sym e)))
up_unless replay f = absurd (f (λ e. up_not_replay (sym e)))

pub up_or_replay : (s : Status) → s ≢ down → (s ≡ up) ⊎ (s ≡ replay)
up_or_replay up d = inl refl
up_or_replay down d = absurd (d refl)
up_or_replay replay d = inr refl

pub first_again : (b : ℕ) (m : Message) (rest : List Message) (l : Line) → replaying l (receiver_of l b) ≡ true → taken_first b (m ∷ rest) l ≡ ended_if_complete (receiver_of l b) (taken_replaying b m (taken_lane b m rest l))
first_again b m rest l e = rw (e, taken_first)

pub first_up : (b : ℕ) (m : Message) (rest : List Message) (l : Line) → replaying l (receiver_of l b) ≡ false → taken_first b (m ∷ rest) l ≡ some (taken_up b m (taken_lane b m rest l))
first_up b m rest l e = rw (e, taken_first)

module _ (l : Line) (g : Ghost) (cut base : ℕ → ℕ) (fed : List Act) (receipts : List Receipt) (crashes : List ℕ) (inv : Inv l g cut base fed receipts crashes) where
  feed_step : (n : ℕ) (r : List ℕ) → CanFeed l n → (k : Line) → effect l (feed n r) ≡ some k → Kept k (fed ++ feeds n (record_layout.read r) ∷ []) receipts crashes
  unfolding effect fed_line
  feed_step n r can k e = one (timed l.plan n (made_by l n (record_layout.read r))) refl (some_same e)
    where
      one : (t : Bool) → timed l.plan n (made_by l n (record_layout.read r)) ≡ t
          → (elim t [ true ↦ with_node n (logged (suc (node_at l n).time) (set_of l.plan n (made_by l n (record_layout.read r))) (made_by l n (record_layout.read r)) line.fed line.fed (node_at l n)) l | false ↦ l ]) ≡ k → Kept k (fed ++ feeds n (record_layout.read r) ∷ []) receipts crashes
      one true q z = (_, cut, base, subst (λ (x : Line). Inv x (later g n (fed_at (record_layout.read r) (suc (node_at l n).time))) cut base (fed ++ feeds n (record_layout.read r) ∷ []) receipts crashes) z (feed_inv l g cut base fed receipts crashes inv n (record_layout.read r) can.here can.source q))
      one false q z = (_, cut, base, subst (λ (x : Line). Inv x (later g n (fed_at (record_layout.read r) (node_at l n).time)) cut base (fed ++ feeds n (record_layout.read r) ∷ []) receipts crashes) z (quiet_feed_inv l g cut base fed receipts crashes inv n (record_layout.read r) can.here can.source q))

  -- A replaying sender has nothing to send, its log is empty.
  pub sender_sends : (b : ℕ) (e : Entry) → sendable l b ≡ some e → (node_at l (channel_at l.plan b).sender).status ≢ down → is_up l (channel_at l.plan b).sender
  unfolding sendable
  sender_sends b e first d = elim (up_or_replay (node_at l (channel_at l.plan b).sender).status d) [
    | inl q ↦ q
    | inr q ↦ none_some (sym (ap (next_to_send (channel_at l.plan b) (lane_at l b).mark) (inv.replays (channel_at l.plan b).sender q).log_none) ∙ first)
  ]

  send_step : (b : ℕ) → CanSend l b → (k : Line) → effect l (send b) ≡ some k → Inv k g cut base fed receipts crashes
  unfolding effect
  send_step b can k e =
      subst (λ (x : Line). Inv x g cut base fed receipts crashes) (ap (λ (o : Option Entry). sent_line b o l) (sym can.first) ∙ some_same e)
      (send_inv l g cut base fed receipts crashes inv b can.entry can.here can.first (sender_sends b can.entry can.first can.sender) can.receiver)

  crash_step : (n : ℕ) → CanCrash l n → length (node_at l n).log ≤ log_limit → (k : Line) → effect l (crash n) ≡ some k → Inv k g cut base fed receipts (crashes ++ n ∷ [])
  unfolding effect
  crash_step n can log_few k e =
      subst (λ (x : Line). Inv x g cut base fed receipts (crashes ++ n ∷ [])) (some_same e)
      (crash_inv l g cut base fed receipts crashes inv n can.here can.no_source can.no_sink can.parents can.children log_few)

  -- The sender of a channel with a message on it is up.
  pub sender_gives : (b : ℕ) (m : Message) (rest : List Message) → b < channel_count l.plan → (lane_at l b).queue ≡ m ∷ rest → is_up l (channel_at l.plan b).sender
  sender_gives b m rest here first = up_unless (node_at l (channel_at l.plan b).sender).status (λ d. nil≢cons (sym ((inv.ends b here).stopped d) ∙ first))

  module _ (b : ℕ) (can : CanTake l b) (alive : is_up l (channel_at l.plan b).receiver) where
    abbrev n : ℕ
    n = (channel_at l.plan b).receiver

    abbrev m : Message
    m = can.message

    pub taken_is : effect l (take b) ≡ some (taken_up b can.message (taken_lane b can.message can.rest l))
    unfolding effect taken_line
    taken_is = ap (λ (q : List Message). taken_first b q l) can.first ∙ first_up b m can.rest l (ap is_replay alive)

    take_up_step : (k : Line) → effect l (take b) ≡ some k
        → Inv k (later g n (took_at b m (time_for l.plan n (made_by l n m.what) (node_at l n).time))) (changed cut b m.time) base fed (receipts ++ receipt_of l (take b)) crashes
    unfolding taken_up taken_lane
    take_up_step k e =
        let one : receipt_of l (take b) ≡ record { receiver = n; what = m.what; sender = (channel_at l.plan b).sender } ∷ [] = ap (first_receipt l b) can.first in
        let heard = raise_heard (parents l.plan (sender_of l b)) (lane_at l b).heard m.origin in
        rw one
        (subst (λ (x : Line). Inv x (later g n (took_at b m (time_for l.plan n (made_by l n m.what) (node_at l n).time))) (changed cut b m.time) base fed (receipts ++ record { receiver = n; what = m.what; sender = (channel_at l.plan b).sender } ∷ []) crashes) (some_same (sym taken_is ∙ e))
        (take_inv l g cut base fed receipts crashes inv b can.here m can.rest heard can.first (sender_gives b m can.rest can.here can.first) alive (λ a. raised_more a (parents l.plan (sender_of l b)) (lane_at l b).heard m.origin)))

  module _ (b : ℕ) (can : CanTake l b) (again : (node_at l (channel_at l.plan b).receiver).status ≡ replay) where
    pub again_is : effect l (take b) ≡ ended_if_complete (channel_at l.plan b).receiver (taken_replaying b can.message (taken_lane b can.message can.rest l))
    unfolding effect taken_line
    again_is = ap (λ (q : List Message). taken_first b q l) can.first ∙ first_again b can.message can.rest l (ap is_replay again)

    pub take_again_step : {k : Line} → EndsAs (channel_at l.plan b).receiver (taken_replaying b can.message (taken_lane b can.message can.rest l)) k → Kept k fed (receipts ++ receipt_of l (take b)) crashes
    take_again_step e =
        let one : receipt_of l (take b) ≡ record { receiver = (channel_at l.plan b).receiver; what = can.message.what; sender = (channel_at l.plan b).sender } ∷ [] = ap (first_receipt l b) can.first in
        let (g', cut', i) = replay_take_inv l g cut base fed receipts crashes inv b can.here can.message can.rest can.first (sender_gives b can.message can.rest can.here can.first) again (can.below_goal again) e in
        kept_same refl refl (ap (λ (x : List Receipt). receipts ++ x) one) refl (g', cut', base, i)

  trim_step : (n : ℕ) → CanTrim l n → (k : Line) → effect l (trim n) ≡ some k → Inv k g cut base fed receipts crashes
  unfolding effect
  trim_step n can k e = subst (λ (x : Line). Inv x g cut base fed receipts crashes) (some_same e) (trim_inv l g cut base fed receipts crashes inv n can.here can.all_up)

  recover_is : (n : ℕ) → effect l (recover n) ≡ recovered_line n l
  unfolding effect
  recover_is n = refl

-- Kept answers are right, as they are in an undamaged line.
abbrev pub Answered : Line → Type 0
Answered l = (n : ℕ) (a : Asked) → (node_at l n).asked ≡ some a → Answers l n a

-- Every accepted frame keeps the invariant.
abbrev pub Steps : Type 0
Steps =
    (l : Line) (g : Ghost) (cut base : ℕ → ℕ) (fed : List Act) (receipts : List Receipt) (crashes : List ℕ) → Inv l g cut base fed receipts crashes
    → ((n : ℕ) → length (node_at l n).log ≤ log_limit) → Answered l → (f : List ℕ) → refusal l f ≡ 0 → Kept (step l f).line (fed ++ feed_of (frame_of f)) (receipts ++ receipt_of l (frame_of f)) (crashes ++ crash_of (frame_of f))

module _ (l : Line) (g : Ghost) (cut base : ℕ → ℕ) (fed : List Act) (receipts : List Receipt) (crashes : List ℕ) (inv : Inv l g cut base fed receipts crashes) (logs : (n : ℕ) → length (node_at l n).log ≤ log_limit) (right : Answered l) where
  take_step : (b : ℕ) → CanTake l b → (k : Line) → effect l (take b) ≡ some k → Kept k fed (receipts ++ receipt_of l (take b)) crashes
  take_step b can k e = elim (up_or_replay (node_at l (channel_at l.plan b).receiver).status can.receiver) [
    | inl alive ↦ (_, _, _, take_up_step l g cut base fed receipts crashes inv b can alive k e)
    | inr q ↦ take_again_step l g cut base fed receipts crashes inv b can q (ended_as _ _ k (sym (again_is l g cut base fed receipts crashes inv b can q) ∙ e))
  ]

  asked_inv : (n : ℕ) → CanRecover l n → Inv (asked_line n l) g cut base fed receipts crashes
  unfolding asked_line
  asked_inv n can = ask_inv l g cut base fed receipts crashes inv n can.here can.stopped (answer_of l n) (targets_of l n)

  effect_inv : {c : ℕ} (f : Frame) → Passed l c f → (k : Line) → effect l f ≡ some k → Kept k (fed ++ feed_of f) (receipts ++ receipt_of l f) (crashes ++ crash_of f)
  effect_inv (feed n r) p k e = kept_same refl refl (nil_right receipts) (nil_right crashes) (feed_step l g cut base fed receipts crashes inv n r (can_feed p) k e)
  effect_inv (send b) p k e = kept_same refl (nil_right fed) (nil_right receipts) (nil_right crashes) (_, _, _, send_step l g cut base fed receipts crashes inv b (can_send p) k e)
  effect_inv (take b) p k e = kept_same refl (nil_right fed) refl (nil_right crashes) (take_step b (can_take p) k e)
  effect_inv (crash n) p k e = kept_same refl (nil_right fed) (nil_right receipts) refl (_, _, _, crash_step l g cut base fed receipts crashes inv n (can_crash p) (logs n) k e)
  effect_inv (trim n) p k e = kept_same refl (nil_right fed) (nil_right receipts) (nil_right crashes) (_, _, _, trim_step l g cut base fed receipts crashes inv n (can_trim p) k e)
  effect_inv (recover n) p k e =
      let can = can_recover p in
      kept_same refl (nil_right fed) (nil_right receipts) (nil_right crashes) (recover_inv l g cut base fed receipts crashes inv n can.here can.stopped k (sym (recover_is l g cut base fed receipts crashes inv n) ∙ e))
  effect_inv (ask n) p k e =
      kept_same refl (nil_right fed) (nil_right receipts) (nil_right crashes) (g, cut, base, subst (λ (x : Line). Inv x g cut base fed receipts crashes) (ask_leads l n e).1 (asked_inv n (can_ask p)))
  effect_inv (commit n) p k e =
      let can = can_commit p in
      let q = recover_leads l n p (right n) inv.ordered inv.shape can.here in
      kept_same refl (nil_right fed) (nil_right receipts) (nil_right crashes)
      (recover_inv l g cut base fed receipts crashes inv n can.here can.stopped k (sym (recover_is l g cut base fed receipts crashes inv n) ∙ q ∙ sym (commit_is l n p (right n)) ∙ e))

pub step_inv : Steps
step_inv l g cut base fed receipts crashes inv logs right f e =
    let p = passed l f e in
    let (g', cut', base', inv') = effect_inv l g cut base fed receipts crashes inv logs right (frame_of f) p p.next p.leads in
    kept_same ((step-accepted l f e).1 ∙ ap (accepted (frame_console f) l) p.leads) refl refl refl (g', cut', base', counted_inv (frame_console f) inv')
