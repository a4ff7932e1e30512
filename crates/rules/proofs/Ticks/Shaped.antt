-- Every channel has as many entries heard as its sender has parents, after every list of frames.
use Prim.Native.Nat.{ℕ, suc, ◌<◌}
use mathlib.Core.Path.{◌≡◌, sym, ap, subst, ◌∙◌}
use mathlib.Core.Logic.{inl, inr}
use mathlib.Core.Bool.{Bool, true, false}
use mathlib.Core.List.{List, [], ◌∷◌}
use mathlib.Core.Option.{Option, none, some}
use native.Mathlib.Omega.{arith}
use native.Mathlib.Decide.{ℕ_discrete}
use lib.ListN.{length, length-map, length-replicate}
use Rattle.plan.specs.declared.Channel.{Channel}
use Rattle.plan.specs.Plan.{Plan, channel_at, channel_count, no_channel, entering, leaving}
use Rattle.plan.specs.Record.{record_layout}
use Rattle.plan.specs.Mask.{set_of}
use Rattle.rules.specs.Line.{fed, Message, Entry, Asked, Node, Lane, Line, no_lane, initial_line, node_at, lane_at, sender_of, receiver_of, with_node, with_lane, with_lanes, counted, parents, fresh_lane, down}
use Rattle.rules.specs.Frame.{Frame, feed, send, take, crash, recover, trim, ask, commit, frame_of, frame_console}
use Rattle.rules.specs.Clock.{logged, sent_on, taken_from}
use Rattle.rules.specs.Recover.{targets_of, conflict, restored, beside, committed, recovered, low_of, status_of}
use Rattle.rules.specs.Replay.{passed_on, timed, holding, ended_if_complete}
use Rattle.rules.specs.Trim.{low_raised, trimmed_line, droppable, leading, behind, with_log}
use Rattle.rules.specs.Lists.{is_empty}
use Rattle.rules.specs.Step.{made_by, replaying, sendable, sent_line, fed_line, taken_lane, taken_up, taken_replaying, taken_first, taken_line, crashed_line, recovered_line, asked_line, committed_by, committed_line, effect, refusal, accepted, step}
use Rattle.rules.specs.Claim.{Story, told, story_from}
use Rattle.rules.proofs.Lists.ListLaws.{map_at}
use Rattle.rules.proofs.Lists.Options.{some_same, none_some}
use Rattle.rules.proofs.Line.LineLaws.{lane_there, lane_else, lanes_long}
use Rattle.rules.proofs.Invariant.Lows.{raise_long}
use Rattle.rules.proofs.Theorem.Accepted.{passed, step-accepted, step_refused, ask_leads}
use Rattle.rules.proofs.Theorem.Unmoved.{step-plan}
use Rattle.rules.proofs.Ticks.Steps.{ended_cases}

abbrev LaneShaped : Plan → ℕ → Lane → Type 0
LaneShaped p b s = length s.heard ≡ length (parents p (channel_at p b).sender)

abbrev pub Shaped : Plan → Line → Type 0
Shaped p l = (b : ℕ) → b < length l.lanes → length (lane_at l b).heard ≡ length (parents p (channel_at p b).sender)

module _ (p : Plan) where
  lane-shaped : (b : ℕ) (x : Lane) (l : Line) → (b < length l.lanes → LaneShaped p b x) → Shaped p l → Shaped p (with_lane b x l)
  lane-shaped b x l own was c h =
      let inside : c < length l.lanes = omega (arith, lanes_long b x l) in
      elim (ℕ_discrete c b) [
        | yes q ↦ subst (λ (y : ℕ). y < length l.lanes → LaneShaped p y (lane_at (with_lane b x l) y)) (sym q) (λ k. ap (λ (s : Lane). length s.heard) (lane_there b x l k) ∙ own k) inside
        | no d ↦ ap (λ (s : Lane). length s.heard) (lane_else b x l c d) ∙ was c inside
      ]

  lanes_shaped : (f : ℕ → Lane → Lane) → ((b : ℕ) (s : Lane) → LaneShaped p b s → LaneShaped p b (f b s)) → (bs : List ℕ) (l : Line) → Shaped p l → Shaped p (with_lanes f bs l)
  lanes_shaped f keeps [] l was = was
  lanes_shaped f keeps (b ∷ bs) l was = lanes_shaped f keeps bs (with_lane b (f b (lane_at l b)) l) (lane-shaped b (f b (lane_at l b)) l (λ h. keeps b (lane_at l b) (was b h)) was)

  node-shaped : (n : ℕ) (x : Node) (l : Line) → Shaped p l → Shaped p (with_node n x l)
  unfolding with_node
  node-shaped n x l was = was

  fresh_shaped : (b t : ℕ) → LaneShaped p b (fresh_lane p (channel_at p b) t)
  unfolding fresh_lane
  fresh_shaped b t = length-replicate (length (parents p (channel_at p b).sender)) 0

  ended-shaped : (n : ℕ) (l k : Line) → ended_if_complete n l ≡ some k → Shaped p l → Shaped p k
  ended-shaped n l k e was = elim (ended_cases n l k e) [ inl q ↦ subst (Shaped p) (sym q) was | inr (x, _, q) ↦ subst (Shaped p) (sym q) (node-shaped n x l was) ]

module _ (l : Line) (was : Shaped l.plan l) where
  abbrev p : Plan
  p = l.plan

  fed_shaped : (n : ℕ) (r : List ℕ) → Shaped l.plan (fed_line n r l)
  unfolding fed_line with_node
  fed_shaped n r = one (timed l.plan n (made_by l n (record_layout.read r)))
    where
      one : (t : Bool) → Shaped l.plan (elim t [ true ↦ with_node n (logged (suc (node_at l n).time) (set_of l.plan n (made_by l n (record_layout.read r))) (made_by l n (record_layout.read r)) fed fed (node_at l n)) l | false ↦ l ])
      one true = was
      one false = was

  sent-shaped : (b : ℕ) (o : Option Entry) → Shaped l.plan (sent_line b o l)
  unfolding sent_on
  sent-shaped b none = was
  sent-shaped b (some e) = lane-shaped p b (sent_on e (lane_at l b)) l (λ h. was b h) was

  took_shaped : (b : ℕ) (m : Message) (rest : List Message) → Shaped l.plan (taken_lane b m rest l)
  unfolding taken_lane taken_from
  took_shaped b m rest = lane-shaped p b _ l (λ h. raise_long (parents l.plan (sender_of l b)) (lane_at l b).heard m.origin ∙ was b h) was

  up_shaped : (b : ℕ) (m : Message) (k : Line) → Shaped l.plan k → Shaped l.plan (taken_up b m k)
  unfolding taken_up with_node
  up_shaped b m k h = h

  held-shaped : (b : ℕ) (m : Message) (k : Line) → Shaped l.plan k → Shaped l.plan (taken_replaying b m k)
  unfolding taken_replaying
  held-shaped b m k h = go (passed_on k.plan (receiver_of k b) (made_by k (receiver_of k b) m.what)) (holding (record { what = made_by k (receiver_of k b) m.what; sender = sender_of k b; time = m.time; before = m.origin }) (node_at k (receiver_of k b)))
    where
      go : (t : Bool) (x : Node) → Shaped l.plan (elim t [ true ↦ with_node (receiver_of k b) x k | false ↦ k ])
      go true x = node-shaped p (receiver_of k b) x k h
      go false x = h

  first_shaped : (b : ℕ) (q : List Message) (k : Line) → taken_first b q l ≡ some k → Shaped l.plan k
  first_shaped b [] k e = subst (Shaped p) (some_same e) was
  first_shaped b (m ∷ rest) k e = go (replaying l (receiver_of l b)) e
    where
      go : (t : Bool) → (elim t [ true ↦ ended_if_complete (receiver_of l b) (taken_replaying b m (taken_lane b m rest l)) | false ↦ some (taken_up b m (taken_lane b m rest l)) ]) ≡ some k → Shaped l.plan k
      go true e = ended-shaped p (receiver_of l b) (taken_replaying b m (taken_lane b m rest l)) k e (held-shaped b m (taken_lane b m rest l) (took_shaped b m rest))
      go false e = subst (Shaped p) (some_same e) (up_shaped b m (taken_lane b m rest l) (took_shaped b m rest))

  crash_shaped : (n : ℕ) → Shaped l.plan (crashed_line n l)
  unfolding crashed_line with_node
  crash_shaped n =
      let start : Line = with_node n (record { status = down; crashed = true; time = 0; log = []; held = []; targets = []; asked = none }) l in
      let left : ℕ → Lane → Lane = λ c s. record { mark = 0; taken = s.taken; heard = s.heard; queue = []; low = s.low } in
      lanes_shaped p (λ (c : ℕ) (s : Lane). fresh_lane l.plan (channel_at l.plan c) 0) (λ b s h. fresh_shaped p b 0) (entering l.plan n) (with_lanes left (leaving l.plan n) start) (lanes_shaped p left (λ b s h. h) (leaving l.plan n) start was)

  recovered-shaped : (n : ℕ) → Shaped l.plan (recovered n l)
  unfolding recovered with_node
  recovered-shaped n =
      let start : Line = with_node n (record { status = status_of (targets_of l n); crashed = true; time = low_of l n; log = []; held = []; targets = targets_of l n; asked = none }) l in
      let marked : ℕ → Lane → Lane = λ c s. record { mark = s.taken; taken = s.taken; heard = s.heard; queue = s.queue; low = s.low } in
      lanes_shaped p (λ (c : ℕ) (s : Lane). fresh_lane l.plan (channel_at l.plan c) (restored l n (sender_of l c))) (λ b s h. fresh_shaped p b (restored l n (channel_at l.plan b).sender)) (entering l.plan n) (with_lanes marked (leaving l.plan n) start) (lanes_shaped p marked (λ b s h. h) (leaving l.plan n) start was)

  recover_shaped : (n : ℕ) (k : Line) → recovered_line n l ≡ some k → Shaped l.plan k
  unfolding recovered_line
  recover_shaped n k = go (conflict (targets_of l n)) (is_empty (targets_of l n))
    where
      go : (s t : Bool) → (elim s [ true ↦ none | false ↦ elim t [ true ↦ some (recovered n l) | false ↦ ended_if_complete n (recovered n l) ] ]) ≡ some k → Shaped l.plan k
      go true t e = none_some e
      go false true e = subst (Shaped p) (some_same e) (recovered-shaped n)
      go false false e = ended-shaped p n (recovered n l) k e (recovered-shaped n)

  trim_shaped : (n : ℕ) → Shaped l.plan (trimmed_line n l)
  unfolding trimmed_line low_raised with_node
  trim_shaped n =
      let run : List Entry = leading (droppable l n) (node_at l n).log in
      let start : Line = with_node n (with_log (behind (droppable l n) (node_at l n).log) (node_at l n)) l in
      lanes_shaped p (λ (b : ℕ). low_raised (parents l.plan (sender_of l b)) (sender_of l b) run) (λ b s h. h) (entering l.plan n) start was

  committed-shaped : (n : ℕ) (o : Option Asked) → Shaped l.plan (committed_by n o l)
  unfolding committed with_node
  committed-shaped n none = was
  committed-shaped n (some a) =
      let start : Line = with_node n (record { status = status_of (node_at l n).targets; crashed = true; time = a.low; log = []; held = []; targets = (node_at l n).targets; asked = none }) l in
      let marked : ℕ → Lane → Lane = λ c s. record { mark = s.taken; taken = s.taken; heard = s.heard; queue = s.queue; low = s.low } in
      lanes_shaped p (λ (c : ℕ) (s : Lane). fresh_lane l.plan (channel_at l.plan c) (beside (entering l.plan n) a.entries c)) (λ b s h. fresh_shaped p b (beside (entering l.plan n) a.entries b)) (entering l.plan n) (with_lanes marked (leaving l.plan n) start) (lanes_shaped p marked (λ b s h. h) (leaving l.plan n) start was)

  asked_shaped : (n : ℕ) → Shaped l.plan (asked_line n l)
  unfolding asked_line with_node
  asked_shaped n = was

  effect-shaped : (f : Frame) (k : Line) → effect l f ≡ some k → Shaped l.plan k
  unfolding effect taken_line committed_line
  effect-shaped (feed n r) k e = subst (Shaped p) (some_same e) (fed_shaped n r)
  effect-shaped (send b) k e = subst (Shaped p) (some_same e) (sent-shaped b (sendable l b))
  effect-shaped (take b) k e = first_shaped b (lane_at l b).queue k e
  effect-shaped (crash n) k e = subst (Shaped p) (some_same e) (crash_shaped n)
  effect-shaped (recover n) k e = recover_shaped n k e
  effect-shaped (trim n) k e = subst (Shaped p) (some_same e) (trim_shaped n)
  effect-shaped (ask n) k e = subst (Shaped p) (ask_leads l n e).1 (asked_shaped n)
  effect-shaped (commit n) k e = subst (Shaped p) (some_same e) (committed-shaped n (node_at l n).asked)

counted-shaped : (p : Plan) (c : ℕ) (l : Line) → Shaped p l → Shaped p (counted c l)
unfolding counted
counted-shaped p c l was = was

-- A step keeps it, of the plan that stays.
pub step-shaped : (p : Plan) (l : Line) (f : List ℕ) → l.plan ≡ p → Shaped p l → Shaped p (step l f).line
step-shaped p l f q was =
    elim (ℕ_discrete (refusal l f) 0) [
      | yes e ↦
          (let h = passed l f e in
          let k : Shaped l.plan h.next = effect-shaped l (subst (λ (x : Plan). Shaped x l) (sym q) was) (frame_of f) h.next h.leads in
          subst (Shaped p) (sym ((step-accepted l f e).1 ∙ ap (accepted (frame_console f) l) h.leads)) (counted-shaped p (frame_console f) h.next (subst (λ (x : Plan). Shaped x h.next) q k)))
      | no d ↦ subst (Shaped p) (sym (step_refused l f d).1) was
    ]

pub start_shaped : (p : Plan) → Shaped p (initial_line p)
unfolding initial_line
start_shaped p b h =
    let inside : b < channel_count p = omega (arith, length-map p.channels (λ (c : Channel). fresh_lane p c 0)) in
    ap (λ (s : Lane). length s.heard) (map_at (λ (c : Channel). fresh_lane p c 0) p.channels b no_channel no_lane inside) ∙ fresh_shaped p b 0

-- After every list of frames.
pub all_shaped : (p : Plan) (fs : List (List ℕ)) (s : Story) → s.line.plan ≡ p → Shaped p s.line → ((story_from s fs).line.plan ≡ p) × Shaped p (story_from s fs).line
unfolding told
all_shaped p [] s q was = (q, was)
all_shaped p (f ∷ fs) s q was = all_shaped p fs (told s f) (step-plan s.line f ∙ q) (step-shaped p s.line f q was)
