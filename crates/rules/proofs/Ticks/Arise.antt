-- New messages that are followed: what is known of a line makes the facts hold of the next message of a node, and of one that is taken.
use Prim.Native.Nat.{ℕ, suc, max, ◌<◌, ◌≤◌}
use mathlib.Core.Path.{◌≡◌, refl, sym, ap, subst, ◌∙◌}
use mathlib.Core.Logic.{inl, inr}
use mathlib.Core.Bool.{Bool, true, false, cond, true≢false, ◌&&◌, ◌||◌}
use mathlib.Core.List.{List, [], ◌∷◌, ◌++◌, map}
use mathlib.Core.Option.{some}
use native.Mathlib.Omega.{arith}
use native.Mathlib.Decide.{dec_le}
use lib.ListN.{get_or}
use lib.Dec.{eqb, ltb, leb}
use borrow.Author.Tests.{eqb-true, lt-ltb}
use Rattle.basics.specs.Bools.{both_true}
use Rattle.plan.specs.declared.Record.{Record}
use Rattle.plan.specs.Record.{record_layout, is_tick}
use Rattle.plan.specs.Check.{plan_fits}
use Rattle.plan.proofs.TickLaws.{tick-taken}
use Rattle.plan.specs.Channel.{takes}
use Rattle.plan.specs.Plan.{Plan, channel_at, node_count, channel_count, is_sink}
use Rattle.plan.specs.Mask.{set_of}
use Rattle.rules.specs.Replay.{timed, time_for, passed_on}
use Rattle.rules.specs.Lists.{keep_one}
use Rattle.rules.specs.Line.{Origin, fed, made, Message, Entry, Target, down, replay, Node, Lane, Line, no_lane, node_at, lane_at, sender_of, receiver_of, with_node, with_lane, parents, counted}
use Rattle.rules.specs.Line as line
use Rattle.rules.specs.Frame.{Frame, feed, send, take, crash, recover, trim, ask, commit, frame_of, frame_console}
use Rattle.rules.specs.Clock.{logged, message_of, raise_heard, taken_from, entry_for}
use Rattle.rules.specs.Recover.{row_goal}
use Rattle.rules.specs.Step.{made_by, taken_lane, taken_up, taken_replaying, fed_line, effect, refusal, accepted, step}
use Rattle.rules.specs.Plain.{Act}
use Rattle.rules.specs.Claim.{crash_of}
use Rattle.rules.specs.Ticks.{feeds_tick, FollowedMessage, FollowedTake, is_followed, next_of, made_of, new_followed, took_first, new_took}
use Rattle.rules.proofs.Lists.Rising.{past}
use Rattle.rules.proofs.Lists.Members.{In, here, in_none, in_first, in_keep, keep_in, in_map, map_in, in_right, append_in, any_in, within_in}
use Rattle.rules.proofs.Lists.ListLaws.{nil_right}
use Rattle.rules.proofs.Lists.Options.{some_same}
use Rattle.rules.proofs.Line.LineLaws.{node_there, lane_there}
use Rattle.rules.proofs.Line.Joins.{in_entering, takes_passed, some_leaves}
use Rattle.rules.proofs.Histories.Ghost.{Event, entry_of, takes_message, put, log_put}
use Rattle.rules.proofs.Histories.Carried.{in_put}
use Rattle.rules.proofs.Invariant.Inv.{time_of, is_up, Leaves}
use Rattle.rules.proofs.Invariant.InvLaws.{up_not_down, took_enters, if_marked, source_up, marked_unless_up}
use Rattle.rules.proofs.Invariant.MarkedLaws.{child_unmarked, child_up, own, taken_cut, goal_cut}
use Rattle.rules.proofs.Invariant.Lows.{raise_holds}
use Rattle.rules.proofs.Ending.Targets.{in_triples_at}
use Rattle.rules.proofs.Ending.Children.{made_parts, triples_from}
use Rattle.rules.proofs.Steps.Floors.{child_of}
use Rattle.rules.proofs.Theorem.Accepted.{Passed, passed, can_feed, CanTake, can_take, step-accepted}
use Rattle.rules.proofs.Theorem.QuietRest.{status_up}
use Rattle.rules.proofs.Theorem.StepInv.{up_or_replay, sender_gives, taken_is}
use Rattle.rules.proofs.Histories.Passing.{has_entry}
use Rattle.rules.proofs.Undamaged.Undamaged.{undamaged_sound}
use Rattle.rules.proofs.Undamaged.RecordsWithin.{made_tick}
use Rattle.rules.proofs.Restart.Known.{Known}
use Rattle.rules.proofs.Restart.NeverUnplaced.{again_here}
use Rattle.rules.proofs.Ticks.Ahead.{Ahead, stands}
use Rattle.rules.proofs.Ticks.Steps.{fed_not_made, effect_ahead}
use Rattle.rules.proofs.Ticks.Shaped.{Shaped}
use Rattle.rules.proofs.Ticks.Facts.{Alive, alive_kept, Standing, standing_kept, Received, received_kept, Holds, holds_more}

-- A tick always gets a time: a node that is no sink has a channel that takes it.
tick-timed : (p : Plan) (n : ℕ) (r : Record) → is_tick r ≡ true → timed p n r ≡ true
unfolding timed
tick-timed p n r e = go (is_sink p n) refl
  where
    go : (t : Bool) → is_sink p n ≡ t → (t || passed_on p n r) ≡ true
    go true q = refl
    go false q = let (b, (h, s)) = some_leaves p n q in takes_passed p n r b h s (tick-taken (channel_at p b) r e)

module _ (l : Line) (known : Known l) where
  open known use {ghost, cut, base, receipts, crashes, inv}

  abbrev acts : List Act
  acts = known.fed

  fits : plan_fits l.plan ≡ true
  fits = (undamaged_sound l known.whole).standing.plan_fits_lem

  -- What an up node logged and a leaving channel takes is not past the node's time.
  log_early : (b : ℕ) → b < channel_count l.plan → is_up l (channel_at l.plan b).sender → (e : Entry) → In e (node_at l (channel_at l.plan b).sender).log → takes (channel_at l.plan b) e.what ≡ true
      → e.time ≤ (node_at l (channel_at l.plan b).sender).time
  unfolding log_put
  log_early b h alive e i t =
      let n = (channel_at l.plan b).sender in
      let side = (inv.channels b h).sender_up alive in
      if_marked (node_at l n).crashed
      (λ marked.
      (let there : In (message_of e) (log_put l b) = in_keep (takes_message l.plan b) (in_map message_of i) t in
      let receiving = child_up inv n marked b (h, refl) in
      elim (dec_le e.time (lane_at l b).taken) [
        | yes z ↦ omega (arith, z, side.taken_within)
        | no z ↦
            (let late = in_keep (λ (m : Message). ltb (lane_at l b).taken m.time) there (lt-ltb (lane_at l b).taken e.time (omega arith)) in
            let (j, _) = keep_in (λ (m : Message). ltb (lane_at l b).taken m.time) (put l.plan ghost b) (subst (λ (ms : List Message). In (message_of e) ms) (side.to_come (λ q. up_not_down (sym receiving ∙ q))) late) in
            within_in time_of side.within j)
      ]))
      (λ unmarked.
      (let logs = inv.logs n unmarked in
      let (ev, j, q) = map_in (entry_of l.plan n) logs.kept (subst (λ (es : List Entry). In e es) logs.log_is i) in
      let (event, _) = keep_in (has_entry l.plan n) (ghost n) (subst (λ (es : List Event). In ev es) (sym logs.split) (in_right logs.gone j)) in
      let there = in_put l.plan ghost b ev event (subst (λ (x : Entry). takes (channel_at l.plan b) x.what ≡ true) q t) in
      let early = within_in time_of side.within there in
      omega (arith, early, ap (λ (x : Entry). x.time) q)))

  -- What the children of a down node say that it took of an up parent is not past the parent's time.
  named-early : (b : ℕ) → b < channel_count l.plan → is_up l (channel_at l.plan b).sender → (node_at l (channel_at l.plan b).receiver).status ≡ down → (c : ℕ) → Leaves l.plan (channel_at l.plan b).receiver c
      → (e : Entry) → In e (node_at l (channel_at l.plan c).receiver).log → (v w : ℕ) → e.origin ≡ made (channel_at l.plan b).receiver v → e.before ≡ made (channel_at l.plan b).sender w → w ≤ (node_at l (channel_at l.plan b).sender).time
  named-early b h alive stopped c out e i v w o before =
      let n = (channel_at l.plan b).receiver in
      let marked = marked_unless_up inv.marks n (λ z. up_not_down (sym z ∙ stopped)) in
      let u : Target = record { time = v; parent = (channel_at l.plan b).sender; parent_time = w } in
      let named = in_triples_at l n u (record { channel = c; on_plan = out.0; leaves = out.1; entry = e; is_logged = i; origin_is = o; before_is = before }) in
      let (d, m, t, j, is, _) = triples_from l ghost n inv.ordered (own inv n marked) (λ x k s. child_of inv x k (child_unmarked inv n marked x (k, s))) u named in
      let (on, into) = took_enters (ghost n) d m t (own inv n marked) j in
      let sender : (channel_at l.plan b).sender ≡ (channel_at l.plan d).sender = ap (λ (x : Target). x.parent) is in
      let side = (inv.channels d on).sender_up (ap (λ (x : ℕ). (node_at l x).status) (sym sender) ∙ alive) in
      omega (arith, ap (λ (x : Target). x.parent_time) is, taken_cut inv n marked d m t (on, into) j, side.cut_within, ap (λ (x : ℕ). (node_at l x).time) sender)

  goal_early : (b : ℕ) → b < channel_count l.plan → is_up l (channel_at l.plan b).sender → (node_at l (channel_at l.plan b).receiver).status ≡ replay
      → row_goal (node_at l (channel_at l.plan b).receiver).targets (channel_at l.plan b).sender ≤ (node_at l (channel_at l.plan b).sender).time
  goal_early b h alive again = omega (arith, goal_cut inv (channel_at l.plan b).receiver again b (h, refl), ((inv.channels b h).sender_up alive).cut_within)

  -- So the next message of an up node comes after all that Recover of a child could find.
  next_alive : (n : ℕ) (o : Origin) → is_up l n → ((a v : ℕ) → o ≡ made a v → In a (parents l.plan n)) → Alive l.plan l (next_of l n o)
  next_alive n o alive parent =
      record {
        stands_up = alive;
        some_time = omega arith;
        parent = parent;
        from = λ e i b out t q. absurd (let early = logs b out e i t in let no : ⊥ = omega (arith, early, q) in no);
        past_named = λ b out h c next e i v w made_of_lem before. (let early = names b out h c next e i v w made_of_lem before in omega (arith, early));
        past_goal = λ b out h. (let early = goals b out h in omega (arith, early));
      }
    where
      logs : (b : ℕ) → Leaves l.plan n b → (e : Entry) → In e (node_at l n).log → takes (channel_at l.plan b) e.what ≡ true → e.time ≤ (node_at l n).time
      logs b out = subst (λ (x : ℕ). is_up l x → (e : Entry) → In e (node_at l x).log → takes (channel_at l.plan b) e.what ≡ true → e.time ≤ (node_at l x).time) out.1 (log_early b out.0) alive

      names : (b : ℕ) → Leaves l.plan n b → (node_at l (channel_at l.plan b).receiver).status ≡ down → (c : ℕ) → Leaves l.plan (channel_at l.plan b).receiver c → (e : Entry) → In e (node_at l (channel_at l.plan c).receiver).log
          → (v w : ℕ) → e.origin ≡ made (channel_at l.plan b).receiver v → e.before ≡ made n w → w ≤ (node_at l n).time
      names b out =
          subst (λ (x : ℕ). is_up l x → (node_at l (channel_at l.plan b).receiver).status ≡ down → (c : ℕ) → Leaves l.plan (channel_at l.plan b).receiver c → (e : Entry) → In e (node_at l (channel_at l.plan c).receiver).log
          → (v w : ℕ) → e.origin ≡ made (channel_at l.plan b).receiver v → e.before ≡ made x w → w ≤ (node_at l x).time) out.1 (named-early b out.0) alive

      goals : (b : ℕ) → Leaves l.plan n b → (node_at l (channel_at l.plan b).receiver).status ≡ replay → row_goal (node_at l (channel_at l.plan b).receiver).targets n ≤ (node_at l n).time
      goals b out = subst (λ (x : ℕ). is_up l x → (node_at l (channel_at l.plan b).receiver).status ≡ replay → row_goal (node_at l (channel_at l.plan b).receiver).targets x ≤ (node_at l x).time) out.1 (goal_early b out.0) alive

  -- Once it is logged.
  new_standing : (k : Line) → Ahead l.plan l k → (n chosen : ℕ) (what : Record) (o before : Origin) → is_tick what ≡ true → is_up l n → ((a v : ℕ) → o ≡ made a v → In a (parents l.plan n)) → node_at k n ≡ logged (suc (node_at l n).time) chosen what o before (node_at l n) → Standing l.plan k (next_of l n o)
  unfolding logged
  new_standing k ahead n chosen what o before tick alive parent there =
      record {
        alive = alive_kept l.plan l k (next_of l n o) ahead
            (λ e i b out t. elim (append_in (node_at l n).log (subst (λ (x : Node). In e x.log) there i)) [ inl j ↦ inl j | inr j ↦ elim (in_first j) [ inl q ↦ inr (λ _. (ap (λ (x : Entry). x.origin) q, ap (λ (x : Entry). is_tick x.what) q ∙ tick)) | inr z ↦ absurd (in_none z) ] ])
            (next_alive n o alive parent);
        in_time = omega (arith, ap (λ (x : Node). x.time) there);
      }

  module _ (b : ℕ) (can : CanTake l b) where
    abbrev s : ℕ
    s = (channel_at l.plan b).sender

    abbrev r : ℕ
    r = (channel_at l.plan b).receiver

    abbrev m : Message
    m = can.message

    sends : is_up l s
    sends = sender_gives l ghost cut base acts receipts crashes inv b can.message can.rest can.here can.first

    -- The first message on a channel is one of its sender's log.
    first_logged : (e : Entry) × In e (node_at l s).log × (takes (channel_at l.plan b) e.what ≡ true) × (m ≡ message_of e)
    unfolding log_put
    first_logged =
        let (_, _, q) = ((inv.channels b can.here).sender_up sends).queue can.receiver in
        let front : In m (lane_at l b).queue = subst (λ (ms : List Message). In m ms) (sym can.first) here in
        let (i, _) = keep_in (λ (x : Message). leb x.time (lane_at l b).mark) (past time_of (lane_at l b).taken (log_put l b)) (subst (λ (ms : List Message). In m ms) q front) in
        let (j, _) = keep_in (λ (x : Message). ltb (lane_at l b).taken x.time) (log_put l b) i in
        let (h, t) = keep_in (takes_message l.plan b) (map message_of (node_at l s).log) j in
        let (e, z, is) = map_in message_of (node_at l s).log h in
        (e, z, subst (λ (x : Message). takes (channel_at l.plan b) x.what ≡ true) is t, is)

    -- A replaying node takes nothing past its row's goal.
    below_goal : (node_at l r).status ≡ replay → m.time ≤ row_goal (node_at l r).targets s
    below_goal again =
        let a = again_here l known b can again in
        let row = (a.kept.replays r a.status).rows b (rw a.plan can.here, ap (λ (x : Plan). (channel_at x b).receiver) a.plan) in
        let goal : row_goal (node_at (taken_replaying b m (taken_lane b m can.rest l)) r).targets (channel_at (taken_replaying b m (taken_lane b m can.rest l)).plan b).sender ≡ row_goal (node_at l r).targets s = λ i. row_goal (a.targets i) (channel_at (a.plan i) b).sender in
        let taken : (lane_at (taken_replaying b m (taken_lane b m can.rest l)) b).taken ≡ max (lane_at l b).taken m.time =
        ap (λ (xs : List Lane). (get_or xs b no_lane).taken) a.lanes ∙ ap (λ (x : Lane). x.taken) (lane_there b _ l (rw inv.shape.lanes_long can.here)) in
        let old = ((inv.replays r again).rows b (can.here, refl)).base_taken in
        omega (arith, row.to_goal, goal, taken, old, can.below_goal again)

    parent_of : (a v : ℕ) → made s m.time ≡ made a v → In a (parents l.plan r)
    unfolding parents
    parent_of a v e = subst (λ (x : ℕ). In x (parents l.plan r)) (made_parts e).0 (in_map (λ (c : ℕ). (channel_at l.plan c).sender) (in_entering l.plan r b can.here refl))

    module _ (followed : List FollowedMessage) (took : List FollowedTake) (shaped : Shaped l.plan l) (holds : Holds l.plan l followed took) where
      abbrev new : FollowedMessage
      new = next_of l (channel_at l.plan b).receiver (made (channel_at l.plan b).sender can.message.time)

      -- The one of them that the message is.
      which : is_followed followed s m.time ≡ true → (x : FollowedMessage) × In x followed × (x.node ≡ s) × (x.time ≡ m.time)
      which e =
          let (x, i, q) = any_in (λ (y : FollowedMessage). eqb y.node s && eqb y.time m.time) followed e in
          let (n, t) = both_true (eqb x.node s) (eqb x.time m.time) q in
          (x, i, eqb-true x.node s n, eqb-true x.time m.time t)

      -- A replaying node takes none of them.
      pub none-again : (node_at l (channel_at l.plan b).receiver).status ≡ replay → is_followed followed (channel_at l.plan b).sender can.message.time ≡ true → ⊥
      none-again again e =
          let (x, i, n, t) = which e in
          let late = (holds.made_ones x i).alive.past_goal b (can.here, sym n) again in
          omega (arith, late, below_goal again, t, ap (row_goal (node_at l r).targets) n)

      heard_of : (y : FollowedMessage) → In y followed → y.node ≡ s → y.time ≡ m.time → (a v : ℕ) → y.origin ≡ made a v → v ≤ entry_for a (parents l.plan s) (raise_heard (parents l.plan s) (lane_at l b).heard m.origin)
      heard_of y i n t a v made_of_lem =
          let (e, j, q, is) = first_logged in
          let alive = (holds.made_ones y i).alive in
          let origin : m.origin ≡ made a v =
          ap (λ (x : Message). x.origin) is ∙ (alive.from e (subst (λ (x : ℕ). In e (node_at l x).log) (sym n) j) b (can.here, sym n) q (sym (ap time_of is) ∙ sym t)).0 ∙ made_of_lem in
          subst (λ (o : Origin). v ≤ entry_for a (parents l.plan s) (raise_heard (parents l.plan s) (lane_at l b).heard o)) (sym origin)
          (raise_holds a v (parents l.plan s) (lane_at l b).heard (subst (λ (x : ℕ). In a (parents l.plan x)) n (alive.parent a v made_of_lem)) (shaped b (rw inv.shape.lanes_long can.here)))

      -- And what it took is a tick.
      tick_taken_here : is_followed followed s m.time ≡ true → is_tick m.what ≡ true
      tick_taken_here w =
          let (y, i, n, t) = which w in
          let (e, j, q, is) = first_logged in
          ap (λ (x : Message). is_tick x.what) is ∙ ((holds.made_ones y i).alive.from e (subst (λ (x : ℕ). In e (node_at l x).log) (sym n) j) b (can.here, sym n) q (sym (ap time_of is) ∙ sym t)).1

      received_new : is_followed followed s m.time ≡ true → is_up l r → (k : Line) → Ahead l.plan l k → lane_at k b ≡ taken_from (parents l.plan s) m can.rest (lane_at l b)
          → Received l.plan k (followed ++ next_of l (channel_at l.plan b).receiver (made (channel_at l.plan b).sender can.message.time) ∷ []) (record { channel = b; time = m.time })
      unfolding taken_from
      received_new e alive k ahead lane =
          let (x, i, n, t) = which e in
          let old = (holds.made_ones x i).in_time in
          let rise = ahead.times s sends in
          record {
            on_plan = can.here;
            receiver_up = ahead.ups r alive;
            sender_up = ahead.ups s sends;
            sent = omega (arith, old, t, rise, ap (λ (y : ℕ). (node_at l y).time) n);
            entry = omega (arith, ap (λ (y : Lane). y.taken) lane);
            makes = (new, in_right followed here, refl, refl);
            heard = λ y j node time a v made_of_lem. elim (append_in followed j) [
              | inl h ↦ (let v-heard = heard_of y h node time a v made_of_lem in omega (arith, v-heard, ap (λ (z : Lane). entry_for a (parents l.plan s) z.heard) lane))
              | inr h ↦ elim (in_first h) [
                | inl q ↦ absurd (let no : ⊥ = omega (arith, inv.ordered.forward b can.here, ap (λ (z : FollowedMessage). z.node) q, node) in no)
                | inr z ↦ absurd (in_none z)
              ]
            ];
          }

      one_more : is_followed followed s m.time ≡ true → is_up l r → (k : Line) → Ahead l.plan l k → k ≡ taken_up b m (taken_lane b m can.rest l)
          → Holds l.plan k (followed ++ next_of l (channel_at l.plan b).receiver (made (channel_at l.plan b).sender can.message.time) ∷ []) (took ++ record { channel = b; time = can.message.time } ∷ [])
      unfolding taken_up taken_lane with_lane with_node
      one_more e alive k ahead is =
          let lane = taken_from (parents l.plan s) m can.rest (lane_at l b) in
          let below = with_lane b lane l in
          let what = made_by l r m.what in
          let tick = made_tick l.plan fits r m.what (tick_taken_here e) in
          let there : node_at k r ≡ logged (suc (node_at l r).time) (set_of l.plan r what) what (made s m.time) m.origin (node_at l r) =
          ap (λ (x : Line). node_at x r) is ∙ node_there r (logged (time_for l.plan r what (node_at l r).time) (set_of l.plan r what) what (made s m.time) m.origin (node_at l r)) below (rw inv.shape.nodes_long (inv.ordered.inside b can.here))
          ∙ ap (λ (t : Bool). logged (cond t (suc (node_at l r).time) (node_at l r).time) (set_of l.plan r what) what (made s m.time) m.origin (node_at l r)) (tick-timed l.plan r what tick) in
          let on : lane_at k b ≡ lane = ap (λ (x : Line). lane_at x b) is ∙ lane_there b lane l (rw inv.shape.lanes_long can.here) in
          holds_more l.plan l k followed (new ∷ []) took (record { channel = b; time = m.time } ∷ []) ahead holds
          (λ x i. elim (in_first i) [
            | inl q ↦ subst (λ (y : FollowedMessage). Standing l.plan k y × ((node_at l y.node).time < y.time)) (sym q) (new_standing k ahead r (set_of l.plan r what) what (made s m.time) m.origin tick alive parent_of there, omega arith)
            | inr z ↦ absurd (in_none z)
          ])
          (λ o i. elim (in_first i) [ inl q ↦ subst (Received l.plan k (followed ++ new ∷ [])) (sym q) (received_new e alive k ahead on) | inr z ↦ absurd (in_none z) ])

  module _ (followed : List FollowedMessage) (took : List FollowedTake) (shaped : Shaped l.plan l) (holds : Holds l.plan l followed took) where
    none_new : (k : Line) → Ahead l.plan l k → Holds l.plan k (followed ++ []) (took ++ [])
    none_new k ahead = holds_more l.plan l k followed [] took [] ahead holds (λ x i. absurd (in_none i)) (λ o i. absurd (in_none i))

    take-holds : (b : ℕ) → CanTake l b → (k : Line) → Ahead l.plan l k → effect l (take b) ≡ some k → Holds l.plan k (followed ++ made_of l b followed (lane_at l b).queue) (took ++ took_first l b followed (lane_at l b).queue)
    take-holds b can k ahead e =
        subst (λ (q : List Message). Holds l.plan k (followed ++ made_of l b followed q) (took ++ took_first l b followed q)) (sym can.first) (go (is_followed followed (sender_of l b) can.message.time) (line.is_up (node_at l (receiver_of l b)).status) refl refl)
      where
        go : (t u : Bool) → is_followed followed (sender_of l b) can.message.time ≡ t → line.is_up (node_at l (receiver_of l b)).status ≡ u
            → Holds l.plan k (followed ++ keep_one (t && u) (next_of l (receiver_of l b) (made (sender_of l b) can.message.time)) []) (took ++ keep_one t (record { channel = b; time = can.message.time }) [])
        go false u q w = none_new k ahead
        go true true q w =
            let alive = status_up (node_at l (receiver_of l b)).status w in
            one_more b can followed took shaped holds q alive k ahead (some_same (sym e ∙ taken_is l ghost cut base acts receipts crashes inv b can alive))
        go true false q w = elim (up_or_replay (node_at l (receiver_of l b)).status can.receiver) [
          | inl alive ↦ absurd (true≢false (sym (ap line.is_up alive) ∙ w))
          | inr again ↦ absurd (none-again b can followed took shaped holds again q)
        ]

    feed_holds : (n : ℕ) (f : List ℕ) → is_up l n → n < node_count l.plan → (k : Line) → Ahead l.plan l k → k ≡ fed_line n f l → (t : Bool) → (t ≡ true → is_tick (record_layout.read f) ≡ true) → Holds l.plan k (followed ++ keep_one t (next_of l n fed) []) (took ++ [])
    unfolding fed_line
    feed_holds n f alive inside k ahead is false ticks = none_new k ahead
    feed_holds n f alive inside k ahead is true ticks =
        let what = made_by l n (record_layout.read f) in
        let tick = made_tick l.plan fits n (record_layout.read f) (ticks refl) in
        let now = logged (suc (node_at l n).time) (set_of l.plan n what) what fed fed (node_at l n) in
        holds_more l.plan l k followed (next_of l n fed ∷ []) took [] ahead holds
        (λ x i. elim (in_first i) [
          | inl q ↦ subst (λ (y : FollowedMessage). Standing l.plan k y × ((node_at l y.node).time < y.time)) (sym q)
              (new_standing k ahead n (set_of l.plan n what) what fed fed tick alive (λ a v z. fed_not_made z) (ap (λ (y : Line). node_at y n) (is ∙ ap (λ (t : Bool). by now t) (tick-timed l.plan n what tick)) ∙ node_there n now l (rw inv.shape.nodes_long inside)), omega arith)
          | inr z ↦ absurd (in_none z)
        ])
        (λ o i. absurd (in_none i))
      where
        by : Node → Bool → Line
        by x t = elim t [ true ↦ with_node n x l | false ↦ l ]

    effect-holds : {c : ℕ} (follow : Bool) (f : Frame) → Passed l c f → (k : Line) → Ahead l.plan l k → effect l f ≡ some k → Holds l.plan k (followed ++ new_followed follow l followed f) (took ++ new_took l followed f)
    unfolding effect
    effect-holds follow (feed n r) p k ahead e = feed_holds n r (source_up inv.marks n (can_feed p).source) (can_feed p).here k ahead (sym (some_same e)) (follow && feeds_tick (feed n r)) (λ q. (both_true follow (feeds_tick (feed n r)) q).1)
    effect-holds follow (send b) p k ahead e = none_new k ahead
    effect-holds follow (take b) p k ahead e = take-holds b (can_take p) k ahead e
    effect-holds follow (crash n) p k ahead e = none_new k ahead
    effect-holds follow (recover n) p k ahead e = none_new k ahead
    effect-holds follow (trim n) p k ahead e = none_new k ahead
    effect-holds follow (ask n) p k ahead e = none_new k ahead
    effect-holds follow (commit n) p k ahead e = none_new k ahead

-- Counts do not matter.
counted_ahead : (p : Plan) (c : ℕ) (l k : Line) → Ahead p l k → Ahead p l (counted c k)
unfolding counted
counted_ahead p c l k a = record { ups = a.ups; times = a.times; logs = a.logs; lanes = a.lanes; downs = a.downs; names = a.names; replays = a.replays }

pub holds_on : (p : Plan) (l k : Line) (followed : List FollowedMessage) (took : List FollowedTake) → Ahead p l k → Holds p l followed took → Holds p k followed took
holds_on p l k followed took ahead was =
    record {
      made_ones = λ m i. standing_kept p l k m ahead (was.made_ones m i);
      taken_ones = λ o i. subst (λ (xs : List FollowedMessage). Received p k xs o) (nil_right followed) (received_kept p l k followed [] o ahead (λ m j. absurd (in_none j)) (was.taken_ones o i));
    }

-- An accepted frame that is no Crash.
pub step-holds : (l : Line) → Known l → (followed : List FollowedMessage) (took : List FollowedTake) → Shaped l.plan l → Holds l.plan l followed took → (follow : Bool) (f : List ℕ) → refusal l f ≡ 0 → crash_of (frame_of f) ≡ []
    → Holds l.plan (step l f).line (followed ++ new_followed follow l followed (frame_of f)) (took ++ new_took l followed (frame_of f))
step-holds l known followed took shaped holds follow f e quiet =
    let p = passed l f e in
    let k = p.next in
    let ahead = effect_ahead l known (frame_of f) p quiet k p.leads in
    let after = effect-holds l known followed took shaped holds follow (frame_of f) p k ahead p.leads in
    subst (λ (x : Line). Holds l.plan x (followed ++ new_followed follow l followed (frame_of f)) (took ++ new_took l followed (frame_of f))) (sym ((step-accepted l f e).1 ∙ ap (accepted (frame_console f) l) p.leads))
    (holds_on l.plan k (counted (frame_console f) k) (followed ++ new_followed follow l followed (frame_of f)) (took ++ new_took l followed (frame_of f)) (counted_ahead l.plan (frame_console f) k k (stands l.plan k)) after)
