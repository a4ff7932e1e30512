-- What holds of a line stays where a change does not reach.
use Prim.Native.Nat.{ℕ, ◌<◌, ◌≤◌}
use mathlib.Core.Path.{◌≡◌, refl, sym, ap, subst, ◌∙◌}
use mathlib.Core.Logic.{◌≢◌}
use mathlib.Core.Bool.{true, false, true≢false}
use mathlib.Core.List.{List, map}
use native.Mathlib.Omega.{arith}
use native.Mathlib.Decide.{ℕ_discrete}
use lib.ListN.{length-set}
use Rattle.plan.specs.Plan.{channel_at, channel_count}
use Rattle.rules.specs.Lists.{keep, greatest_of}
use Rattle.rules.specs.Line.{Message, Target, down, Node, Lane, Line, node_at, lane_at, with_lane, parents}
use Rattle.rules.specs.Clock.{message_of, entry_for}
use Rattle.rules.specs.Plain.{Act, Receipt}
use Rattle.rules.specs.Claim.{received_by}
use Rattle.rules.proofs.Lists.Rising.{until, Rises, Within}
use Rattle.rules.proofs.Lists.Members.{In}
use Rattle.rules.proofs.Line.LineLaws.{lane_else}
use Rattle.rules.proofs.Histories.Ghost.{Event, took_at, Ghost, takes_message, put, got, log_put}
use Rattle.rules.proofs.Histories.Passing.{passing}
use Rattle.rules.proofs.Invariant.Inv.{time_of, is_up, Leaves, Enters, Reached, target_from, Marks, Nodes, Shape, Channels, Events, HeardFrom, Ends, Row, Replays}
use Rattle.rules.proofs.Invariant.MarkedLaws.{at-ends}
use Rattle.rules.proofs.Invariant.Grow.{sender_same, sender_receiving}

-- The same time heard, among the same messages.
pub heard_same : {a t u : ℕ} {ms ns : List Message} → HeardFrom a t ms → t ≡ u → ms ≡ ns → HeardFrom a u ns
heard_same {a} h q e = coe 0 1 (i. HeardFrom a (q i) (e i)) h

-- A line with the plan of another.
abbrev pub moved : Line → List ℕ → List Node → List Lane → Line
moved l steps nodes lanes = record { plan = l.plan; steps = steps; nodes = nodes; lanes = lanes }

module _ (l : Line) (steps : List ℕ) (nodes : List Node) (lanes : List Lane) where
  abbrev k : Line
  k = moved l steps nodes lanes

  -- The marks stay where each node's mark is as it was, and each unmarked node's status.
  marks_keep : (crashes : List ℕ) → ((n : ℕ) → (node_at k n).crashed ≡ false → (node_at k n).status ≡ (node_at l n).status) → ((n : ℕ) → (node_at k n).crashed ≡ (node_at l n).crashed) → Marks l crashes → Marks k crashes
  marks_keep crashes status mark m =
      record {
        were_named = λ n h. mark n ∙ m.were_named n h;
        not_joined = λ b h s. mark (channel_at l.plan b).receiver ∙ m.not_joined b h (sym (mark (channel_at l.plan b).sender) ∙ s);
        between = λ n h. m.between n (sym (mark n) ∙ h);
        stopped = λ n h. status n h ∙ m.stopped n (sym (mark n) ∙ h);
      }

  pub marks_stay : (crashes : List ℕ) → ((n : ℕ) → (node_at k n).status ≡ (node_at l n).status) → ((n : ℕ) → (node_at k n).crashed ≡ (node_at l n).crashed) → Marks l crashes → Marks k crashes
  marks_stay crashes status mark = marks_keep crashes (λ n h. status n) mark

  -- One node changes and the others are as they were: what it keeps, all keep.
  pub everywhere : {A : Type 0} (n : ℕ) → ((m : ℕ) → m ≢ n → node_at k m ≡ node_at l m) → (f : Node → A) → f (node_at k n) ≡ f (node_at l n) → (m : ℕ) → f (node_at k m) ≡ f (node_at l m)
  everywhere n other f e m = elim (ℕ_discrete m n) [ yes q ↦ ap (λ (x : ℕ). f (node_at k x)) q ∙ e ∙ ap (λ (x : ℕ). f (node_at l x)) (sym q) | no d ↦ ap f (other m d) ]

  -- The one node is marked.
  module _ (n : ℕ) (now-marked : (node_at k n).crashed ≡ true) (other : (m : ℕ) → m ≢ n → node_at k m ≡ node_at l m) where
    pub unmarked_other : (m : ℕ) → (node_at k m).crashed ≡ false → m ≢ n
    unmarked_other m e q = true≢false (sym (ap (λ (x : ℕ). (node_at k x).crashed) q ∙ now-marked) ∙ e)

    pub marks_beside : (crashes : List ℕ) → (node_at l n).crashed ≡ true → Marks l crashes → Marks k crashes
    marks_beside crashes marked = marks_keep crashes (λ m e. ap (λ (x : Node). x.status) (other m (unmarked_other m e))) (everywhere n other (λ (x : Node). x.crashed) (now-marked ∙ sym marked))

  -- The nodes, where histories do not move and the unmarked ones are as they were.
  pub nodes_stay : {g : Ghost} {fed : List Act} {receipts receipts' : List Receipt} → ((n : ℕ) → (node_at k n).crashed ≡ false → node_at k n ≡ node_at l n) → ((n : ℕ) → (node_at k n).crashed ≡ false → received_by n receipts' ≡ received_by n receipts)
      → Nodes l g fed receipts → Nodes k g fed receipts'
  nodes_stay same receives was =
      record {
        only_feeds = was.only_feeds;
        sources = was.sources;
        others = was.others;
        beyond = was.beyond;
        received = λ n e. receives n e ∙ was.received n (ap (λ (x : Node). x.crashed) (sym (same n e)) ∙ e);
      }

  -- What has reached a child, where the children's entries are as they were.
  module _ (n : ℕ) (leaving : (c : ℕ) → Leaves l.plan n c → (lane_at k c).taken ≡ (lane_at l c).taken) {m : Message} {t : ℕ} where
    pub reached_back : Reached k n m t → Reached l n m t
    reached_back r = record { channel = r.channel; on_plan = r.on_plan; leaves = r.leaves; takes_it = r.takes_it; in_time = omega (arith, r.in_time, leaving r.channel (r.on_plan, r.leaves)) }

    pub reached_on : Reached l n m t → Reached k n m t
    reached_on r = record { channel = r.channel; on_plan = r.on_plan; leaves = r.leaves; takes_it = r.takes_it; in_time = omega (arith, r.in_time, leaving r.channel (r.on_plan, r.leaves)) }

  module _ (g g' : Ghost) where
    -- A channel whose ends' statuses, state and messages got are as they were; its sender too, if it is up, and what was put on.
    module _ (b : ℕ) (sender : (node_at k (channel_at l.plan b).sender).status ≡ (node_at l (channel_at l.plan b).sender).status) (receiver : (node_at k (channel_at l.plan b).receiver).status ≡ (node_at l (channel_at l.plan b).receiver).status)
        (lane : lane_at k b ≡ lane_at l b) (gots : got l.plan g' b ≡ got l.plan g b) where
      pub channel_stays : (is_up k (channel_at l.plan b).sender → node_at k (channel_at l.plan b).sender ≡ node_at l (channel_at l.plan b).sender) → (cut cut' : ℕ → ℕ) → put l.plan g' b ≡ put l.plan g b → cut' b ≡ cut b
          → Channels l g cut b → Channels k g' cut' b
      unfolding log_put
      channel_stays same cut cut' puts cuts c =
          record {
            rises = subst (λ (x : List Message). Rises time_of 0 x) (sym puts) c.rises;
            cut_is = gots ∙ c.cut_is ∙ ap (until time_of (cut b)) (sym puts) ∙ ap (λ (t : ℕ). until time_of t (put l.plan g' b)) (sym cuts);
            cut_up = λ h. cuts ∙ c.cut_up (sym receiver ∙ h) ∙ ap (λ (x : Lane). x.taken) (sym lane);
            sender_up = λ h.
                sender_receiving {old = (node_at l (channel_at l.plan b).receiver).status ≢ down} (λ r z. r (receiver ∙ z))
                (sender_same (ap (λ (x : Node). x.time) (sym (same h))) (sym lane) (ap (λ (x : Node). keep (takes_message l.plan b) (map message_of x.log)) (sym (same h))) (sym puts) (sym cuts) (c.sender_up (sym sender ∙ h)));
          }

      pub ends_stay : (node_at k (channel_at l.plan b).receiver).crashed ≡ (node_at l (channel_at l.plan b).receiver).crashed → Ends l g b → Ends k g' b
      ends_stay mark e =
          record {
            exact = λ h. ap (λ (x : Lane). x.taken) lane ∙ e.exact (sym mark ∙ h) ∙ ap (λ (x : List Message). greatest_of (map time_of x)) (sym gots);
            through = λ h a. heard_same (e.through (sym mark ∙ h) a) (ap (λ (x : Lane). entry_for a (parents l.plan (channel_at l.plan b).sender) x.heard) (sym lane)) (sym gots);
            stopped = λ h. ap (λ (x : Lane). x.queue) lane ∙ e.stopped (λ z. h (sender ∙ z));
            waiting = λ h. ap (λ (x : Lane). x.mark) lane ∙ e.waiting (sym sender ∙ h) ∙ ap (λ (x : Lane). x.taken) (sym lane);
          }

    -- One node and its channels change; the others are as they were.
    module _ (n : ℕ) (node_other : (m : ℕ) → m ≢ n → node_at k m ≡ node_at l m) (lane_other : (c : ℕ) → (channel_at l.plan c).receiver ≢ n → (channel_at l.plan c).sender ≢ n → lane_at k c ≡ lane_at l c)
        (got_other : (c : ℕ) → (channel_at l.plan c).receiver ≢ n → got l.plan g' c ≡ got l.plan g c) (c : ℕ) (h : c < channel_count l.plan) where
      pub channels_beside : (cut cut' : ℕ → ℕ) → ((channel_at l.plan c).receiver ≢ n → cut' c ≡ cut c) → ((channel_at l.plan c).sender ≢ n → put l.plan g' c ≡ put l.plan g c)
          → (Enters l.plan n c → Channels k g' cut' c) → (Leaves l.plan n c → Channels k g' cut' c) → Channels l g cut c → Channels k g' cut' c
      channels_beside cut cut' cuts puts enters leaves was =
          at-ends l.plan n c h enters leaves (λ d e.
          (let sender = node_other (channel_at l.plan c).sender e in
          channel_stays c (ap (λ (x : Node). x.status) sender) (ap (λ (x : Node). x.status) (node_other (channel_at l.plan c).receiver d)) (lane_other c d e) (got_other c d) (λ _. sender) cut cut' (puts e) (cuts d) was))

      pub ends-beside : (Enters l.plan n c → Ends k g' c) → (Leaves l.plan n c → Ends k g' c) → Ends l g c → Ends k g' c
      ends-beside enters leaves was =
          at-ends l.plan n c h enters leaves (λ d e.
          (let receiver = node_other (channel_at l.plan c).receiver d in
          ends_stay c (ap (λ (x : Node). x.status) (node_other (channel_at l.plan c).sender e)) (ap (λ (x : Node). x.status) receiver) (lane_other c d e) (got_other c d) (ap (λ (x : Node). x.crashed) receiver) was))

    -- The events of a node that is as it was, if it is up.
    pub events_stay : (n : ℕ) → (is_up k n → node_at k n ≡ node_at l n) → g' n ≡ g n → Events l g n → Events k g' n
    events_stay n same events e =
        record {
          rise = subst (λ (x : List Event). Rises time_of 0 (passing l.plan n x)) (sym events) e.rise;
          within = λ h. subst (λ (x : Node). Within time_of x.time (passing l.plan n (g' n))) (sym (same h))
              (subst (λ (x : List Event). Within time_of (node_at l n).time (passing l.plan n x)) (sym events) (e.within (ap (λ (x : Node). x.status) (sym (same h)) ∙ h)));
        }

    -- A replaying node whose log, time and targets are as they were, with its events and its children's entries.
    pub replays-keep : (n : ℕ) → (node_at k n).log ≡ (node_at l n).log → (node_at k n).time ≡ (node_at l n).time → (node_at k n).targets ≡ (node_at l n).targets → g' n ≡ g n → (cut cut' base base' : ℕ → ℕ)
        → ((c : ℕ) → Leaves l.plan n c → (lane_at k c).taken ≡ (lane_at l c).taken) → ((b : ℕ) (m : Message) (t : ℕ) → In (took_at b m t) (g n) → base' b ≡ base b)
        → ((b : ℕ) → Enters l.plan n b → Row l g (cut b) (base b) n b → Row k g' (cut' b) (base' b) n b) → Replays l g cut base n → Replays k g' cut' base' n
    replays-keep n log time targets events cut cut' base base' leaving bases rows r =
        record {
          log_none = log ∙ r.log_none;
          low = λ c h. omega (arith, time, leaving c h, r.low c h);
          target_from_lem = λ u i.
              (let (b, m, t, j, e, h, q) = r.target_from_lem u (subst (λ (x : List Target). In u x) targets i) in
              (b, m, t, subst (λ (x : List Event). In (took_at b m t) x) (sym events) j, e, omega (arith, time), reached_on n leaving q));
          target_of = λ b m t i h q. subst (λ (x : List Target). In (target_from l.plan b m t) x) (sym targets) (r.target_of b m t (back b m t i) (omega (arith, time)) (reached_back n leaving q));
          base_cuts = λ b m t i h.
              (let (f, f') = r.base_cuts b m t (back b m t i) h in
              let q = bases b m t (back b m t i) in
              (λ z. (let y = f (omega arith) in omega (arith, time)), λ z. (let y = f' (omega (arith, time)) in omega arith)));
          rows = λ b h. rows b h (r.rows b h);
        }
      where
        back : (b : ℕ) (m : Message) (t : ℕ) → In (took_at b m t) (g' n) → In (took_at b m t) (g n)
        back b m t i = subst (λ (x : List Event). In (took_at b m t) x) events i

    -- A replaying node that is as it was, with its events and its channels' entries, and for each entering channel what was put on it up to the entry.
    pub replays_stay : (n : ℕ) → node_at k n ≡ node_at l n → g' n ≡ g n → (cut cut' base base' : ℕ → ℕ)
        → ((c : ℕ) → Leaves l.plan n c → (lane_at k c).taken ≡ (lane_at l c).taken) → ((b : ℕ) (m : Message) (t : ℕ) → In (took_at b m t) (g n) → base' b ≡ base b)
        → ((b : ℕ) → Enters l.plan n b → ((lane_at k b).taken ≡ (lane_at l b).taken) × (cut b ≤ cut' b) × (base' b ≡ base b) × (until time_of (lane_at l b).taken (put l.plan g' b) ≡ until time_of (lane_at l b).taken (put l.plan g b)))
        → Replays l g cut base n → Replays k g' cut' base' n
    replays_stay n same events cut cut' base base' leaving bases entering =
        replays-keep n (ap (λ (x : Node). x.log) same) (ap (λ (x : Node). x.time) same) (ap (λ (x : Node). x.targets) same) events cut cut' base base' leaving bases
        (λ b h r.
        (let (taken, cuts, is, puts) = entering b h in
        record { base_got = omega (arith, r.base_got); base_taken = omega (arith, r.base_taken); to_goal = rw (taken, is, same) r.to_goal; held = rw (same, taken, is, puts) r.held }))

-- Only one channel changes: the shape stays, and so do the others.
pub shape_beside : {l : Line} (b : ℕ) (x : Lane) → Shape l → Shape (with_lane b x l)
unfolding with_lane
shape_beside {l} b x s = record { nodes_long = s.nodes_long; lanes_long = length-set l.lanes b x ∙ s.lanes_long }

pub channel-beside : (l : Line) (g : Ghost) (cut : ℕ → ℕ) (b c : ℕ) (x : Lane) → c ≢ b → Channels l g cut c → Channels (with_lane b x l) g cut c
unfolding with_lane
channel-beside l g cut b c x d = channel_stays l l.steps l.nodes (with_lane b x l).lanes g g c refl refl (lane_else b x l c d) refl (λ _. refl) cut cut refl refl

-- A replay whose rows' cuts are not lowered.
pub replays_cut : (l : Line) (g : Ghost) (cut cut' base : ℕ → ℕ) (n : ℕ) → ((b : ℕ) → Enters l.plan n b → cut b ≤ cut' b) → Replays l g cut base n → Replays l g cut' base n
replays_cut l g cut cut' base n cuts = replays_stay l l.steps l.nodes l.lanes g g n refl refl cut cut' base base (λ c h. refl) (λ b m t i. refl) (λ b h. (refl, cuts b h, refl, refl))
