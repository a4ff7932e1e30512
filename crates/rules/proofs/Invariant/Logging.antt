-- A node that is up logs an event, at its next time or, if it does not pass it on, at its present one: what holds of the line is kept, but for the channel that the event comes from.
use Prim.Native.Nat.{ℕ, ◌<◌, ◌≤◌}
use mathlib.Core.Path.{◌≡◌, refl, sym, ap, subst, ◌∙◌}
use mathlib.Core.Logic.{◌≢◌}
use mathlib.Core.Bool.{Bool, true, false}
use mathlib.Core.List.{List, [], ◌∷◌, ◌++◌, map}
use native.Mathlib.Omega.{arith}
use native.Mathlib.Decide.{ℕ_discrete}
use lib.ListN.{length, length-set}
use Rattle.plan.specs.Plan.{channel_at, channel_count}
use Rattle.rules.specs.Lists.{keep, keep_one}
use Rattle.rules.specs.Line.{Message, Entry, down, replay, Node, Line, node_at, lane_at, with_node}
use Rattle.rules.specs.Clock.{logged, message_of}
use Rattle.rules.specs.Replay.{passed_on}
use Rattle.rules.proofs.Lists.ListLaws.{keep_append, map-append, nil_right}
use Rattle.rules.proofs.Lists.Rising.{until, Rises, Within}
use Rattle.rules.proofs.Lists.Members.{In, in_left}
use Rattle.rules.proofs.Line.LineLaws.{node_there, node_else}
use Rattle.rules.proofs.Line.Joins.{takes_passed}
use Rattle.rules.proofs.Histories.Ghost.{Event, Ghost, event_time, event_origin, event_before, entry_of, sent_of, takes_message, put, got, got_one, log_put, later, later_there, later_else, put_there, put_else, got_there, got_else}
use Rattle.rules.proofs.Histories.Passing.{passing, passing_append, has_entry, recorded}
use Rattle.rules.proofs.Invariant.Inv.{time_of, is_up, Enters, Marks, Shape, Channels, Events, Ends, Logged, Replays}
use Rattle.rules.proofs.Invariant.InvLaws.{up_not_replay}
use Rattle.rules.proofs.Invariant.Grow.{rises_more, within_more, until_more, sender_grows, sender_receiving, sender_same}
use Rattle.rules.proofs.Invariant.Logs.{Grows, logged_by, logged_stays}
use Rattle.rules.proofs.Invariant.Stays.{everywhere, marks_stay, ends_stay, events_stay, replays_stay}

-- The node with the event's entry logged.
abbrev pub node_logs : Line → ℕ → Event → Node
node_logs l n e = logged (event_time e) (entry_of l.plan n e).set (entry_of l.plan n e).what (event_origin l.plan e) (event_before e) (node_at l n)

pub logging_shape : (l : Line) (n : ℕ) (e : Event) → Shape l → Shape (with_node n (node_logs l n e) l)
unfolding with_node
logging_shape l n e s = record { nodes_long = length-set l.nodes n (node_logs l n e) ∙ s.nodes_long; lanes_long = s.lanes_long }

module _ (l : Line) (n : ℕ) (e : Event) (there : n < length l.nodes) where
  abbrev after : Line
  after = with_node n (node_logs l n e) l

  logged_now : node_at after n ≡ node_logs l n e
  logged_now = node_there n (node_logs l n e) l there

  pub status_kept : (m : ℕ) → (node_at (with_node n (node_logs l n e) l) m).status ≡ (node_at l m).status
  unfolding with_node logged
  status_kept = everywhere l l.steps after.nodes l.lanes n (node_else n (node_logs l n e) l) (λ (x : Node). x.status) (ap (λ (x : Node). x.status) logged_now)

  pub mark_kept : (m : ℕ) → (node_at (with_node n (node_logs l n e) l) m).crashed ≡ (node_at l m).crashed
  unfolding with_node logged
  mark_kept = everywhere l l.steps after.nodes l.lanes n (node_else n (node_logs l n e) l) (λ (x : Node). x.crashed) (ap (λ (x : Node). x.crashed) logged_now)

  pub logging_marks : (crashes : List ℕ) → Marks l crashes → Marks (with_node n (node_logs l n e) l) crashes
  unfolding with_node
  logging_marks crashes = marks_stay l l.steps after.nodes l.lanes crashes status_kept mark_kept

  got_kept : (g : Ghost) (b : ℕ) → got_one b e ≡ [] → got l.plan (later g n e) b ≡ got l.plan g b
  got_kept g b apart =
      elim (ℕ_discrete (channel_at l.plan b).receiver n) [
        | yes q ↦ got_there l.plan g n b e q ∙ ap (λ (x : List Message). got l.plan g b ++ (x ++ [])) apart ∙ nil_right (got l.plan g b)
        | no d ↦ got_else l.plan g n b e d
      ]

  pub logging_ends : (g : Ghost) (b : ℕ) → got_one b e ≡ [] → Ends l g b → Ends (with_node n (node_logs l n e) l) (later g n e) b
  unfolding with_node
  logging_ends g b apart v = ends_stay l l.steps after.nodes l.lanes g (later g n e) b (status_kept (channel_at l.plan b).sender) (status_kept (channel_at l.plan b).receiver) refl (got_kept g b apart) (mark_kept (channel_at l.plan b).receiver) v

  pub log_there : (node_at (with_node n (node_logs l n e) l) n).log ≡ (node_at l n).log ++ entry_of l.plan n e ∷ []
  unfolding logged
  log_there = ap (λ (x : Node). x.log) logged_now

  logging_grows : Grows l (with_node n (node_logs l n e) l)
  unfolding with_node
  logging_grows =
      record {
        marks = λ m s. sym (mark_kept m) ∙ s;
        entries = λ c h s. omega arith;
        lows = λ c h s. refl;
        entered = λ m s d i. elim (ℕ_discrete m n) [
          | yes q ↦ subst (λ (x : ℕ). In d (node_at after x).log) (sym q) (subst (λ (x : List Entry). In d x) (sym log_there) (in_left (entry_of l.plan n e ∷ []) (subst (λ (x : ℕ). In d (node_at l x).log) q i)))
          | no c ↦ subst (λ (x : Node). In d x.log) (sym (node_else n (node_logs l n e) l m c)) i
        ];
      }

  -- The logs of nodes that never crashed.
  pub logging_logs : has_entry l.plan n e ≡ true → (g : Ghost) (m : ℕ) → (node_at (with_node n (node_logs l n e) l) m).crashed ≡ false → Logged l g m → Logged (with_node n (node_logs l n e) l) (later g n e) m
  unfolding with_node
  logging_logs has g m s was =
      let grown : recorded l.plan n (later g n e n) ≡ recorded l.plan n (g n) ++ e ∷ [] =
      ap (recorded l.plan n) (later_there g n n e refl) ∙ keep_append (has_entry l.plan n) (g n) (e ∷ []) ∙ ap (λ (t : Bool). recorded l.plan n (g n) ++ keep_one t e []) has in
      elim (ℕ_discrete m n) [
        | yes q ↦ logged_by l l.steps after.nodes l.lanes logging_grows g (later g n e) m s (e ∷ []) (subst (λ (x : ℕ). (node_at after x).log ≡ (node_at l x).log ++ entry_of l.plan x e ∷ []) (sym q) log_there)
            (subst (λ (x : ℕ). recorded l.plan x (later g n e x) ≡ recorded l.plan x (g x) ++ e ∷ []) (sym q) grown) was
        | no d ↦ logged_stays l l.steps after.nodes l.lanes logging_grows g (later g n e) m s (node_else n (node_logs l n e) l m d) (ap (recorded l.plan m) (later_else g n m e d)) was
      ]

  module _ (later_on : (node_at l n).time ≤ event_time e) (late_on : passed_on l.plan n (sent_of l.plan n e).what ≡ true → (node_at l n).time < event_time e) where
    time_there : (node_at after n).time ≡ event_time e
    unfolding logged
    time_there = ap (λ (x : Node). x.time) logged_now

    -- A channel that takes the event's message is one that passes it on.
    late_if : (b : ℕ) → b < channel_count l.plan → (channel_at l.plan b).sender ≡ n → takes_message l.plan b (sent_of l.plan n e) ≡ true → (node_at l n).time < event_time e
    late_if b h q t = late_on (takes_passed l.plan n (sent_of l.plan n e).what b h q t)

    log_put_there : (b : ℕ) → (channel_at l.plan b).sender ≡ n → log_put (with_node n (node_logs l n e) l) b ≡ log_put l b ++ keep_one (takes_message l.plan b (sent_of l.plan n e)) (sent_of l.plan n e) []
    unfolding log_put with_node
    log_put_there b q =
        ap (λ (x : ℕ). keep (takes_message l.plan b) (map message_of (node_at after x).log)) q
        ∙ ap (λ (x : List Entry). keep (takes_message l.plan b) (map message_of x)) log_there
        ∙ ap (keep (takes_message l.plan b)) (map-append message_of (node_at l n).log (entry_of l.plan n e ∷ []))
        ∙ keep_append (takes_message l.plan b) (map message_of (node_at l n).log) (sent_of l.plan n e ∷ [])
        ∙ ap (λ (x : ℕ). keep (takes_message l.plan b) (map message_of (node_at l x).log) ++ keep_one (takes_message l.plan b (sent_of l.plan n e)) (sent_of l.plan n e) []) (sym q)

    pub log_put_else : (b : ℕ) → (channel_at l.plan b).sender ≢ n → log_put (with_node n (node_logs l n e) l) b ≡ log_put l b
    unfolding log_put with_node
    log_put_else b d = ap (λ (x : Node). keep (takes_message l.plan b) (map message_of x.log)) (node_else n (node_logs l n e) l (channel_at l.plan b).sender d)

    -- Up to a time that is not past the node's, nothing new was put on a channel.
    until_kept : (g : Ghost) (b t : ℕ) → b < channel_count l.plan → ((channel_at l.plan b).sender ≡ n → t ≤ (node_at l n).time) → until time_of t (put l.plan (later g n e) b) ≡ until time_of t (put l.plan g b)
    until_kept g b t h before =
        elim (ℕ_discrete (channel_at l.plan b).sender n) [
          | yes q ↦ ap (until time_of t) (put_there l.plan g n b e q) ∙ until_more (takes_message l.plan b (sent_of l.plan n e)) (sent_of l.plan n e) (put l.plan g b) t (λ z. omega (arith, late_if b h q z, before q))
          | no d ↦ ap (until time_of t) (put_else l.plan g n b e d)
        ]

    module _ (alive : is_up l n) where
      -- A channel that the event does not come from.
      pub logging_channels : (g : Ghost) (cut : ℕ → ℕ) (b : ℕ) → b < channel_count l.plan → got_one b e ≡ [] → Channels l g cut b → Channels (with_node n (node_logs l n e) l) (later g n e) cut b
      unfolding with_node
      logging_channels g cut b on_plan apart c =
          record {
            rises = elim (ℕ_discrete (channel_at l.plan b).sender n) [
              | yes q ↦ subst (λ (x : List Message). Rises time_of 0 x) (sym (put_there l.plan g n b e q)) (rises_more (takes_message l.plan b (sent_of l.plan n e)) (sent_of l.plan n e) (c.sender_up (up_there q)).within (late q) c.rises)
              | no d ↦ subst (λ (x : List Message). Rises time_of 0 x) (sym (put_else l.plan g n b e d)) c.rises
            ];
            cut_is = got_kept g b apart ∙ c.cut_is ∙ sym (until_kept g b (cut b) on_plan (λ q. omega (arith, (c.sender_up (up_there q)).cut_within, ap (λ (x : ℕ). (node_at l x).time) q)));
            cut_up = λ h. c.cut_up (sym (status_kept (channel_at l.plan b).receiver) ∙ h);
            sender_up = λ h.
                sender_receiving {old = (node_at l (channel_at l.plan b).receiver).status ≢ down} (λ r z. r (status_kept (channel_at l.plan b).receiver ∙ z))
                (elim (ℕ_discrete (channel_at l.plan b).sender n) [
                  | yes q ↦
                      sender_same (sym (ap (λ (x : ℕ). (node_at after x).time) q ∙ time_there)) refl (sym (log_put_there b q)) (sym (put_there l.plan g n b e q)) refl
                      (sender_grows (takes_message l.plan b (sent_of l.plan n e)) (sent_of l.plan n e) (not_before q) (late q) (c.sender_up (up_there q)))
                  | no d ↦
                      sender_same (ap (λ (x : Node). x.time) (sym (node_else n (node_logs l n e) l (channel_at l.plan b).sender d))) refl (sym (log_put_else b d)) (sym (put_else l.plan g n b e d)) refl
                      (c.sender_up (sym (status_kept (channel_at l.plan b).sender) ∙ h))
                ]);
          }
        where
          up_there : (channel_at l.plan b).sender ≡ n → is_up l (channel_at l.plan b).sender
          up_there q = ap (λ (x : ℕ). (node_at l x).status) q ∙ alive

          late : (channel_at l.plan b).sender ≡ n → takes_message l.plan b (sent_of l.plan n e) ≡ true → (node_at l (channel_at l.plan b).sender).time < event_time e
          late q z = omega (arith, late_if b on_plan q z, ap (λ (x : ℕ). (node_at l x).time) q)

          not_before : (channel_at l.plan b).sender ≡ n → (node_at l (channel_at l.plan b).sender).time ≤ event_time e
          not_before q = omega (arith, later_on, ap (λ (x : ℕ). (node_at l x).time) q)

      more_passing : (g : Ghost) (m : ℕ) → m ≡ n → passing l.plan m (later g n e m) ≡ passing l.plan m (g m) ++ keep_one (passed_on l.plan m (sent_of l.plan m e).what) (sent_of l.plan m e) []
      more_passing g m q = ap (passing l.plan m) (later_there g n m e q) ∙ passing_append l.plan m (g m) (e ∷ [])

      pub logging_events : (g : Ghost) (m : ℕ) → Events l g m → Events (with_node n (node_logs l n e) l) (later g n e) m
      unfolding with_node
      logging_events g m v =
          elim (ℕ_discrete m n) [
            | yes q ↦
                (let w = v.within (ap (λ (x : ℕ). (node_at l x).status) q ∙ alive) in
                let t = passed_on l.plan m (sent_of l.plan m e).what in
                let late : t ≡ true → (node_at l m).time < event_time e = λ z. omega (arith, late_on (ap (λ (x : ℕ). passed_on l.plan x (sent_of l.plan x e).what) (sym q) ∙ z), ap (λ (x : ℕ). (node_at l x).time) q) in
                let not_before : (node_at l m).time ≤ event_time e = omega (arith, later_on, ap (λ (x : ℕ). (node_at l x).time) q) in
                record {
                  rise = subst (λ (x : List Message). Rises time_of 0 x) (sym (more_passing g m q)) (rises_more t (sent_of l.plan m e) w late v.rise);
                  within = λ h. subst (λ (x : ℕ). Within time_of x (passing l.plan m (later g n e m))) (sym (ap (λ (x : ℕ). (node_at after x).time) q ∙ time_there))
                      (subst (λ (x : List Message). Within time_of (event_time e) x) (sym (more_passing g m q)) (within_more t (sent_of l.plan m e) w not_before (omega arith)));
                })
            | no d ↦ events_stay l l.steps after.nodes l.lanes g (later g n e) m (λ _. node_else n (node_logs l n e) l m d) (later_else g n m e d) v
          ]

      -- A replay elsewhere: what its rows have taken lies before the event.
      pub logging_replays : (g : Ghost) (cut base : ℕ → ℕ) (m : ℕ) → (node_at l m).status ≡ replay → ((b : ℕ) → Enters l.plan m b → (channel_at l.plan b).sender ≡ n → (lane_at l b).taken ≤ (node_at l n).time)
          → Replays l g cut base m → Replays (with_node n (node_logs l n e) l) (later g n e) cut base m
      unfolding with_node
      logging_replays g cut base m replaying before =
          replays_stay l l.steps after.nodes l.lanes g (later g n e) m (node_else n (node_logs l n e) l m apart) (later_else g n m e apart) cut cut base base
          (λ c h. refl) (λ b x t i. refl) (λ b h. (refl, omega arith, refl, until_kept g b (lane_at l b).taken h.0 (before b h)))
        where
          apart : m ≢ n
          apart q = up_not_replay (sym alive ∙ ap (λ (x : ℕ). (node_at l x).status) (sym q) ∙ replaying)
