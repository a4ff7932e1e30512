-- Every accepted frame that is no Crash leaves a line ahead.
use Prim.Native.Nat.{ℕ, suc, ◌<◌, ◌≤◌}
use mathlib.Core.Path.{◌≡◌, refl, sym, ap, subst, ◌∙◌}
use mathlib.Core.Logic.{◌≢◌, ◌⊎◌, inl, inr}
use mathlib.Core.Bool.{Bool, true, false, true≢false}
use mathlib.Core.List.{List, [], ◌∷◌, nil≢cons}
use mathlib.Core.Option.{Option, none, some}
use native.Mathlib.Omega.{arith}
use native.Mathlib.Decide.{ℕ_discrete}
use lib.ListN.{length, get_or}
use Rattle.plan.specs.declared.Record.{Record}
use Rattle.plan.specs.Record.{record_layout}
use Rattle.plan.specs.Plan.{channel_at, node_count, channel_count, entering}
use Rattle.plan.specs.Mask.{set_of}
use Rattle.rules.specs.Lists.{all_of, joined}
use Rattle.rules.specs.Line.{Origin, fed, made, Message, Entry, Target, up, down, replay, Node, Lane, Line, no_lane, node_at, lane_at, sender_of, with_node, with_lane, parents}
use Rattle.rules.specs.Frame.{Frame, feed, send, take, crash, recover, trim, ask, commit}
use Rattle.rules.specs.Clock.{logged, sent_on, taken_from, entry_for}
use Rattle.rules.specs.Recover.{high_of, answer_of, targets_of, status_of, rows_complete, recovered}
use Rattle.rules.specs.Replay.{passed_on, timed, time_for, held_by_row, is_held, items_by_row, placing, node_placed, replay_end, ended_if_complete}
use Rattle.rules.specs.Trim.{droppable, leading, behind, with_log, trimmed_line, low_raised}
use Rattle.rules.specs.Step.{made_by, sent_line, fed_line, taken_lane, taken_up, taken_replaying, asking, asked_line, effect}
use Rattle.rules.specs.Plain.{Act}
use Rattle.rules.specs.Claim.{crash_of}
use Rattle.rules.proofs.Lists.Members.{In, in_none, in_first, in_right, append_in}
use Rattle.rules.proofs.Lists.Options.{some_same, none_some}
use Rattle.rules.proofs.Line.LineLaws.{node_there, node_else, lane_there, lane_else}
use Rattle.rules.proofs.Invariant.Inv.{is_up, Leaves}
use Rattle.rules.proofs.Invariant.InvLaws.{up_not_down, up_not_replay, replay_not_down, source_up, replay_marked, marked_unless_up}
use Rattle.rules.proofs.Invariant.MarkedLaws.{child_unmarked}
use Rattle.rules.proofs.Invariant.Lows.{raise_above}
use Rattle.rules.proofs.Invariant.Trimmed.{leading-behind, node_after, trimmed, trimmed_is, trimmed_node, trimmed_else, lane_same}
use Rattle.rules.proofs.Ending.Children.{made_parts}
use Rattle.rules.proofs.Ending.Targets.{targets_from, triples_at_in}
use Rattle.rules.proofs.Undamaged.Restored.{restored_node, restored_line, recovered_is, restored-node, restored_else, restored_leaves, restored-beside}
use Rattle.rules.proofs.Theorem.Accepted.{Passed, CanFeed, can_feed, CanSend, can_send, CanTake, can_take, CanRecover, can_recover, CanTrim, can_trim, can_ask, can_commit, ask_leads}
use Rattle.rules.proofs.Theorem.StepInv.{up_or_replay, taken_is, again_is}
use Rattle.rules.proofs.Invariant.Stays.{everywhere}
use Rattle.rules.proofs.Undamaged.Committed.{commit_is}
use Rattle.rules.proofs.Undamaged.StepSound.{answered_whole}
use Rattle.rules.proofs.Restart.Known.{Known}
use Rattle.rules.proofs.Restart.NeverUnplaced.{recover_goes, again_here}
use Rattle.rules.proofs.Histories.Passing.{time_later, time_late}
use Rattle.rules.proofs.Line.Joins.{takes_passed}
use Rattle.plan.specs.Channel.{takes}
use Rattle.rules.proofs.Ticks.Ahead.{NotLower, same_lower, Ahead, Change, ahead, stands}

-- What is made from a node is not fed.
pub fed_not_made : {A : Type 0} {m v : ℕ} → fed ≡ made m v → A
fed_not_made e = absurd (let z : ◌≡◌ {A = ℕ} 0 1 = cc in omega arith)

-- One more entry in a log: from a node that is not down, or fed.
module _ (l : Line) (n at chosen : ℕ) (what : Record) (o before : Origin) (later_on : (node_at l n).time ≤ at) (late_on : passed_on l.plan n what ≡ true → (node_at l n).time < at) where
  pub logged_change : is_up l n → ((m v : ℕ) → (node_at l m).status ≡ down → o ≡ made m v → ⊥) → Change l.plan l n (logged at chosen what o before (node_at l n))
  unfolding logged
  logged_change alive apart =
      record {
        ups = λ h. h;
        times = λ h. omega arith;
        logs = λ h e i b out t. elim (append_in (node_at l n).log i) [
          | inl j ↦ inl j
          | inr j ↦ elim (in_first j) [ inl q ↦ inr (let late = late_on (takes_passed l.plan n what b out.0 out.1 (ap (λ (y : Entry). takes (channel_at l.plan b) y.what) (sym q) ∙ t)) in omega (arith, late, ap (λ (y : Entry). y.time) q)) | inr z ↦ absurd (in_none z) ]
        ];
        not_down = λ h. up_not_down (sym alive ∙ h);
        names = λ m c h out q e i v made_of_lem. elim (append_in (node_at l n).log i) [
          | inl j ↦ j
          | inr j ↦ elim (in_first j) [ inl w ↦ absurd (apart m v h (sym (ap (λ (y : Entry). y.origin) w) ∙ made_of_lem)) | inr z ↦ absurd (in_none z) ]
        ];
        replays = λ h. absurd (up_not_replay (sym alive ∙ h));
      }

-- The end of a replay changes its node alone, which is up.
pub ended_cases : (n : ℕ) (l k : Line) → ended_if_complete n l ≡ some k → (k ≡ l) ⊎ ((x : Node) × (x.status ≡ up) × (k ≡ with_node n x l))
unfolding ended_if_complete replay_end node_placed
ended_cases n l k = go (rows_complete l n) (all_of (is_held (node_at l n).held) (node_at l n).targets) (placing (node_at l n).time (high_of l n) (items_by_row l n 0 (held_by_row (node_at l n).held l (entering l.plan n))))
  where
    go : (complete held : Bool) (chosen : Option (List ℕ))
        → (elim complete [ true ↦ elim held [ false ↦ none | true ↦ elim chosen [ none ↦ none | some columns ↦ some (with_node n (node_placed l n (joined (held_by_row (node_at l n).held l (entering l.plan n))) columns) l) ] ] | false ↦ some l ]) ≡ some k
        → (k ≡ l) ⊎ ((x : Node) × (x.status ≡ up) × (k ≡ with_node n x l))
    go false held chosen e = inl (sym (some_same e))
    go true false chosen e = none_some e
    go true true none e = none_some e
    go true true (some columns) e = inr (node_placed l n (joined (held_by_row (node_at l n).held l (entering l.plan n))) columns, refl, sym (some_same e))

module _ (l : Line) (known : Known l) where
  open known use {ghost, cut, base, receipts, crashes, inv}

  abbrev acts : List Act
  acts = known.fed

  node_here : (n : ℕ) → n < node_count l.plan → n < length l.nodes
  node_here n h = rw inv.shape.nodes_long h

  lane_here : (b : ℕ) → b < channel_count l.plan → b < length l.lanes
  lane_here b h = rw inv.shape.lanes_long h

  feed_ahead : (n : ℕ) (r : List ℕ) → CanFeed l n → Ahead l.plan l (fed_line n r l)
  unfolding fed_line with_node
  feed_ahead n r can = one (timed l.plan n what)
    where
      what : Record
      what = made_by l n (record_layout.read r)

      x : Node
      x = logged (suc (node_at l n).time) (set_of l.plan n what) what fed fed (node_at l n)

      one : (t : Bool) → Ahead l.plan l (elim t [ true ↦ with_node n x l | false ↦ l ])
      one true =
          ahead l.plan l (with_node n x l) n x (node_there n x l (node_here n can.here)) (node_else n x l) (λ b h q. same_lower l.plan b (lane_at l b) (lane_at l b) refl)
          (logged_change l n (suc (node_at l n).time) (set_of l.plan n what) what fed fed (omega arith) (λ _. omega arith) (source_up inv.marks n can.source) (λ m v h. fed_not_made))
      one false = stands l.plan l

  send_ahead : (b : ℕ) (can : CanSend l b) → Ahead l.plan l (with_lane b (sent_on can.entry (lane_at l b)) l)
  unfolding with_lane sent_on
  send_ahead b can =
      let n = (channel_at l.plan b).sender in
      let s = sent_on can.entry (lane_at l b) in
      ahead l.plan l (with_lane b s l) n (node_at l n) refl (λ m d. refl)
      (λ c h q. elim (ℕ_discrete c b) [
        | yes w ↦ subst (λ (x : ℕ). NotLower l.plan x (lane_at l x) (lane_at (with_lane b s l) x)) (sym w) (subst (NotLower l.plan b (lane_at l b)) (sym (lane_there b s l (lane_here b can.here))) (omega arith, λ a. omega arith))
        | no d ↦ same_lower l.plan c (lane_at l c) (lane_at (with_lane b s l) c) (lane_else b s l c d)
      ])
      (record { ups = λ h. h; times = λ h. omega arith; logs = λ h e i b out t. inl i; not_down = can.sender; names = λ m c h out q e i v o. i; replays = λ h. inl (h, refl) })

  module _ (b : ℕ) (can : CanTake l b) where
    abbrev n : ℕ
    n = (channel_at l.plan b).receiver

    abbrev m : Message
    m = can.message

    abbrev lane : Lane
    lane = taken_from (parents l.plan (sender_of l b)) can.message can.rest (lane_at l b)

    taken_lanes : (c : ℕ) → NotLower l.plan c (lane_at l c) (lane_at (with_lane b lane l) c)
    unfolding taken_from
    taken_lanes c = elim (ℕ_discrete c b) [
      | yes w ↦ subst (λ (x : ℕ). NotLower l.plan x (lane_at l x) (lane_at (with_lane b lane l) x)) (sym w)
          (subst (NotLower l.plan b (lane_at l b)) (sym (lane_there b lane l (lane_here b can.here))) (omega arith, λ a. raise_above a (parents l.plan (sender_of l b)) (lane_at l b).heard m.origin))
      | no d ↦ same_lower l.plan c (lane_at l c) (lane_at (with_lane b lane l) c) (lane_else b lane l c d)
    ]

    take_ahead : is_up l n → Ahead l.plan l (taken_up b m (taken_lane b m can.rest l))
    unfolding taken_up taken_lane with_lane with_node
    take_ahead alive =
        let k = with_lane b lane l in
        ahead l.plan l (taken_up b m (taken_lane b m can.rest l)) n _ (node_there n _ k (node_here n (inv.ordered.inside b can.here))) (node_else n _ k) (λ c h q. taken_lanes c)
        (logged_change l n (time_for l.plan n (made_by l n m.what) (node_at l n).time) (set_of l.plan n (made_by l n m.what)) (made_by l n m.what) (made (sender_of l b) m.time) m.origin (time_later l.plan n (made_by l n m.what) (node_at l n).time) (time_late l.plan n (made_by l n m.what) (node_at l n).time) alive (λ x v h q. can.sender (ap (λ (y : ℕ). (node_at l y).status) (made_parts q).0 ∙ h)))

    module _ (again : (node_at l (channel_at l.plan b).receiver).status ≡ replay) where
      abbrev K : Line
      K = taken_replaying b can.message (taken_lane b can.message can.rest l)

      still : (node_at K n).log ≡ []
      still = let a = again_here l known b can again in (a.kept.replays n a.status).log_none

      not_up : is_up l n → ⊥
      not_up h = up_not_replay (sym h ∙ again)

      again_lanes : (c : ℕ) → is_up l (channel_at l.plan c).receiver → NotLower l.plan c (lane_at l c) (lane_at K c)
      again_lanes c h =
          let a = again_here l known b can again in
          let d : c ≢ b = λ q. not_up (ap (λ (x : ℕ). (node_at l (channel_at l.plan x).receiver).status) (sym q) ∙ h) in
          same_lower l.plan c (lane_at l c) (lane_at K c) (ap (λ (xs : List Lane). get_or xs c no_lane) a.lanes ∙ lane_else b _ l c d)

      -- No node that is down has this one for a child.
      apart : {A : Type 0} (x c : ℕ) → (node_at l x).status ≡ down → Leaves l.plan x c → (channel_at l.plan c).receiver ≡ (channel_at l.plan b).receiver → A
      apart x c h out q =
          let marked = marked_unless_up inv.marks x (λ z. up_not_down (sym z ∙ h)) in
          absurd (true≢false (sym (ap (λ (y : ℕ). (node_at l y).crashed) q ∙ replay_marked inv.marks n again) ∙ child_unmarked inv x marked c out))

      again_ahead : (k : Line) → ended_if_complete (channel_at l.plan b).receiver (taken_replaying b can.message (taken_lane b can.message can.rest l)) ≡ some k → Ahead l.plan l k
      unfolding with_node
      again_ahead k e =
          let a = again_here l known b can again in
          elim (ended_cases n K k e) [
            | inl q ↦ subst (Ahead l.plan l) (sym q)
                (ahead l.plan l K n (node_at K n) refl a.others (λ c h z. again_lanes c z)
                (record {
                  ups = λ h. absurd (not_up h);
                  times = λ h. absurd (not_up h);
                  logs = λ h. absurd (not_up h);
                  not_down = λ h. replay_not_down (sym a.status ∙ h);
                  names = λ x c h out z. apart x c h out z;
                  replays = λ h. inl (again, a.targets);
                }))
            | inr (x, alive, q) ↦ subst (Ahead l.plan l) (sym q)
                (ahead l.plan l (with_node n x K) n x (node_there n x K (rw (a.kept.shape.nodes_long, a.plan) (inv.ordered.inside b can.here))) (λ j d. node_else n x K j d ∙ a.others j d) (λ c h z. again_lanes c z)
                (record {
                  ups = λ h. alive;
                  times = λ h. absurd (not_up h);
                  logs = λ h. absurd (not_up h);
                  not_down = λ h. up_not_down (sym alive ∙ h);
                  names = λ x c h out z. apart x c h out z;
                  replays = λ h. absurd (up_not_replay (sym alive ∙ h));
                }))
          ]

  takes_ahead : (b : ℕ) → CanTake l b → (k : Line) → effect l (take b) ≡ some k → Ahead l.plan l k
  takes_ahead b can k e =
      elim (up_or_replay (node_at l (channel_at l.plan b).receiver).status can.receiver) [
        | inl alive ↦ subst (Ahead l.plan l) (some_same (sym (taken_is l ghost cut base acts receipts crashes inv b can alive) ∙ e)) (take_ahead b can alive)
        | inr again ↦ again_ahead b can again k (sym (again_is l ghost cut base acts receipts crashes inv b can again) ∙ e)
      ]

  recover_ahead : (n : ℕ) → CanRecover l n → Ahead l.plan l (recovered n l)
  recover_ahead n can =
      subst (Ahead l.plan l) (sym (recovered_is l n inv.ordered inv.shape))
      (ahead l.plan l (restored_line l n) n (restored_node l n) (restored-node l n inv.ordered inv.shape can.here) (restored_else l n inv.ordered inv.shape) lanes
      (record {
        ups = λ h. absurd (not_up h);
        times = λ h. absurd (not_up h);
        logs = λ h. absurd (not_up h);
        not_down = not_down (targets_of l n);
        names = λ x c h out q e i. absurd (in_none i);
        replays = λ h. inr (can.stopped, λ u i. (let at = triples_at_in l n u (targets_from l n u i).0 in (at.channel, at.entry, (at.on_plan, at.leaves), at.is_logged, at.origin_is, at.before_is)));
      }))
    where
      not_up : is_up l n → ⊥
      not_up h = up_not_down (sym h ∙ can.stopped)

      not_down : (ts : List Target) → status_of ts ≢ down
      not_down [] h = up_not_down h
      not_down (t ∷ ts) h = replay_not_down h

      lanes : (c : ℕ) → c < channel_count l.plan → is_up l (channel_at l.plan c).receiver → NotLower l.plan c (lane_at l c) (lane_at (restored_line l n) c)
      lanes c h alive =
          let d : (channel_at l.plan c).receiver ≢ n = λ q. not_up (ap (λ (x : ℕ). (node_at l x).status) (sym q) ∙ alive) in
          elim (ℕ_discrete (channel_at l.plan c).sender n) [
            | yes q ↦ subst (NotLower l.plan c (lane_at l c)) (sym (restored_leaves l n inv.ordered inv.shape c (h, q))) (omega arith, λ a. omega arith)
            | no s ↦ same_lower l.plan c (lane_at l c) (lane_at (restored_line l n) c) (restored-beside l n inv.ordered inv.shape c d s)
          ]

  trim_ahead : (n : ℕ) → CanTrim l n → Ahead l.plan l (trimmed_line n l)
  unfolding with_log low_raised
  trim_ahead n can =
      subst (Ahead l.plan l) (sym (trimmed_is l n))
      (ahead l.plan l (trimmed l n) n (node_after l n) (trimmed_node l n (node_here n can.here)) (trimmed_else l n)
      (λ c h q.
      (let taken = lane_same l n inv.shape can.here (λ (s : Lane). s.taken) (λ c x. refl) c h in
      (omega (arith, taken), λ a. omega (arith, lane_same l n inv.shape can.here (λ (s : Lane). entry_for a (parents l.plan (channel_at l.plan c).sender) s.heard) (λ c x. refl) c h))))
      (record {
        ups = λ h. h;
        times = λ h. omega arith;
        logs = λ h e i b out t. inl (stays e i);
        not_down = λ h. up_not_down (sym (can.all_up n can.here) ∙ h);
        names = λ x c h out q e i v o. stays e i;
        replays = λ h. inl (h, refl);
      }))
    where
      stays : (e : Entry) → In e (behind (droppable l n) (node_at l n).log) → In e (node_at l n).log
      stays e i = subst (λ (x : List Entry). In e x) (sym (leading-behind (droppable l n) (node_at l n).log)) (in_right (leading (droppable l n) (node_at l n).log) i)

  -- Ask changes nothing but what a down node keeps.
  ask_ahead : (n : ℕ) → CanRecover l n → Ahead l.plan l (asked_line n l)
  unfolding asked_line asking with_node
  ask_ahead n can =
      let x = asking (answer_of l n) (targets_of l n) (node_at l n) in
      let k = with_node n x l in
      let now : node_at k n ≡ x = node_there n x l (node_here n can.here) in
      let status = everywhere l l.steps k.nodes l.lanes n (node_else n x l) (λ (y : Node). y.status) (ap (λ (y : Node). y.status) now) in
      let log = everywhere l l.steps k.nodes l.lanes n (node_else n x l) (λ (y : Node). y.log) (ap (λ (y : Node). y.log) now) in
      let time = everywhere l l.steps k.nodes l.lanes n (node_else n x l) (λ (y : Node). y.time) (ap (λ (y : Node). y.time) now) in
      record {
        ups = λ m h. status m ∙ h;
        times = λ m h. omega (arith, time m);
        logs = λ m h e i b out t. inl (subst (λ (es : List Entry). In e es) (log m) i);
        lanes = λ b h q. same_lower l.plan b (lane_at l b) (lane_at l b) refl;
        downs = λ m h. sym (status m) ∙ h;
        names = λ m h c out e i v o. subst (λ (es : List Entry). In e es) (log (channel_at l.plan c).receiver) i;
        replays = λ m h. inl (sym (status m) ∙ h, ap (λ (y : Node). y.targets) (node_else n x l m (λ q. replay_not_down (sym (sym (status m) ∙ h) ∙ ap (λ (y : ℕ). (node_at l y).status) q ∙ can.stopped))));
      }

  pub effect_ahead : {c : ℕ} (f : Frame) → Passed l c f → crash_of f ≡ [] → (k : Line) → effect l f ≡ some k → Ahead l.plan l k
  unfolding effect
  effect_ahead (feed n r) p q k e = subst (Ahead l.plan l) (some_same e) (feed_ahead n r (can_feed p))
  effect_ahead (send b) p q k e = let can = can_send p in subst (Ahead l.plan l) (ap (λ (o : Option Entry). sent_line b o l) (sym can.first) ∙ some_same e) (send_ahead b can)
  effect_ahead (take b) p q k e = takes_ahead b (can_take p) k e
  effect_ahead (crash n) p q k e = absurd (nil≢cons (sym q))
  effect_ahead (recover n) p q k e = let can = can_recover p in subst (Ahead l.plan l) (some_same (sym (recover_goes l known n can) ∙ e)) (recover_ahead n can)
  effect_ahead (trim n) p q k e = subst (Ahead l.plan l) (some_same e) (trim_ahead n (can_trim p))
  effect_ahead (ask n) p q k e = subst (Ahead l.plan l) (ask_leads l n e).1 (ask_ahead n (can_ask p))
  effect_ahead (commit n) p q k e = subst (Ahead l.plan l) (some_same (sym (commit_is l n p (answered_whole l known.whole n)) ∙ e)) (recover_ahead n (can_commit p))
