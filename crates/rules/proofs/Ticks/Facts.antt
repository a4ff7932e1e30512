-- What is kept of the messages that are followed and of those taken, step by step.
use Prim.Native.Nat.{ℕ, ◌<◌, ◌≤◌}
use mathlib.Core.Path.{◌≡◌, sym, ap, subst, ◌∙◌}
use mathlib.Core.Logic.{◌⊎◌, inl, inr}
use mathlib.Core.Bool.{true}
use mathlib.Core.List.{List, ◌++◌, map}
use native.Mathlib.Omega.{arith}
use lib.Dec.{eqb}
use borrow.Author.Tests.{eqb-true}
use Rattle.plan.specs.Record.{is_tick}
use Rattle.plan.specs.Channel.{takes}
use Rattle.plan.specs.Plan.{Plan, channel_at, channel_count}
use Rattle.rules.specs.Lists.{keep}
use Rattle.rules.specs.Line.{made, Entry, Target, down, replay, Line, node_at, lane_at, parents}
use Rattle.rules.specs.Clock.{entry_for}
use Rattle.rules.specs.Recover.{row_goal}
use Rattle.rules.specs.Ticks.{FollowedMessage, FollowedTake}
use Rattle.rules.proofs.Lists.Members.{In, keep_in, map_in, append_in, in_left, greatest_in}
use Rattle.rules.proofs.Invariant.Inv.{is_up, Leaves}
use Rattle.rules.proofs.Ticks.Ahead.{Ahead}

-- Of such a message, while a line runs on: its node is up, what the node logged at its time and passes on has its origin and is a tick, and no child that is not up will be restored as far as it.
pub record Alive (p : Plan) (l : Line) (m : FollowedMessage) : Type 0 where
  pub stands_up : is_up l m.node
  pub some_time : 0 < m.time
  pub parent : (a v : ℕ) → m.origin ≡ made a v → In a (parents p m.node)
  pub from : (e : Entry) → In e (node_at l m.node).log → (b : ℕ) → Leaves p m.node b → takes (channel_at p b) e.what ≡ true → e.time ≡ m.time → (e.origin ≡ m.origin) × (is_tick e.what ≡ true)
  pub past_named : (b : ℕ) → Leaves p m.node b → (node_at l (channel_at p b).receiver).status ≡ down → (c : ℕ) → Leaves p (channel_at p b).receiver c
      → (e : Entry) → In e (node_at l (channel_at p c).receiver).log → (v w : ℕ) → e.origin ≡ made (channel_at p b).receiver v → e.before ≡ made m.node w → w < m.time
  pub past_goal : (b : ℕ) → Leaves p m.node b → (node_at l (channel_at p b).receiver).status ≡ replay → row_goal (node_at l (channel_at p b).receiver).targets m.node < m.time

-- A row's goal, by the targets that name the parent.
goal_below : (ts : List Target) (n t : ℕ) → 0 < t → ((u : Target) → In u ts → u.parent ≡ n → u.parent_time < t) → row_goal ts n < t
goal_below ts n t some each =
    elim (greatest_in (map (λ (u : Target). u.parent_time) (keep (λ (u : Target). eqb u.parent n) ts))) [
      | inl z ↦ omega (arith, z)
      | inr i ↦
          (let (u, j, q) = map_in (λ (u : Target). u.parent_time) (keep (λ (u : Target). eqb u.parent n) ts) i in
          let (k, e) = keep_in (λ (u : Target). eqb u.parent n) ts j in
          let below = each u k (eqb-true u.parent n e) in
          omega (arith, q, below))
    ]

-- It is kept, where what the node logs anew does not have its time, or has its origin.
pub alive_kept : (p : Plan) (l k : Line) (m : FollowedMessage) → Ahead p l k → ((e : Entry) → In e (node_at k m.node).log → (b : ℕ) → Leaves p m.node b → takes (channel_at p b) e.what ≡ true → In e (node_at l m.node).log ⊎ (e.time ≡ m.time → (e.origin ≡ m.origin) × (is_tick e.what ≡ true))) → Alive p l m → Alive p k m
alive_kept p l k m ahead logs was =
    record {
      stands_up = ahead.ups m.node was.stands_up;
      some_time = was.some_time;
      parent = was.parent;
      from = λ e i b out t q. elim (logs e i b out t) [ inl j ↦ was.from e j b out t q | inr f ↦ f q ];
      past_named = λ b out h c next e i v w o before. was.past_named b out (ahead.downs (channel_at p b).receiver h) c next e (ahead.names (channel_at p b).receiver h c next e i v o) v w o before;
      past_goal = λ b out h.
          elim (ahead.replays (channel_at p b).receiver h) [
            | inl (s, q) ↦ (let old = was.past_goal b out s in subst (λ (ts : List Target). row_goal ts m.node < m.time) (sym q) old)
            | inr (s, named) ↦ goal_below (node_at k (channel_at p b).receiver).targets m.node m.time was.some_time
                (λ u i q. (let (c, e, next, j, o, before) = named u i in was.past_named b out s c next e j u.time u.parent_time o (before ∙ ap (λ (x : ℕ). made x u.parent_time) q)))
          ];
    }

-- Such a message that was made before: its time is not past its node's.
pub record Standing (p : Plan) (l : Line) (m : FollowedMessage) : Type 0 where
  pub alive : Alive p l m
  pub in_time : m.time ≤ (node_at l m.node).time

pub standing_kept : (p : Plan) (l k : Line) (m : FollowedMessage) → Ahead p l k → Standing p l m → Standing p k m
standing_kept p l k m ahead was =
    let up = was.alive.stands_up in
    let rise = ahead.times m.node up in
    record {
      alive = alive_kept p l k m ahead (λ e i b out t. elim (ahead.logs m.node up e i b out t) [ inl j ↦ inl j | inr late ↦ inr (λ q. absurd (let no : ⊥ = omega (arith, late, q, was.in_time) in no)) ]) was.alive;
      in_time = omega (arith, rise, was.in_time);
    }

-- Of one that was taken: both ends are up, the receiver's clock holds its time and what it was made from, and the receiver made one from it.
pub record Received (p : Plan) (l : Line) (followed : List FollowedMessage) (o : FollowedTake) : Type 0 where
  pub on_plan : o.channel < channel_count p
  pub receiver_up : is_up l (channel_at p o.channel).receiver
  pub sender_up : is_up l (channel_at p o.channel).sender
  pub sent : o.time ≤ (node_at l (channel_at p o.channel).sender).time
  pub entry : o.time ≤ (lane_at l o.channel).taken
  pub makes : (m : FollowedMessage) × In m followed × (m.node ≡ (channel_at p o.channel).receiver) × (m.origin ≡ made (channel_at p o.channel).sender o.time)
  pub heard : (m : FollowedMessage) → In m followed → m.node ≡ (channel_at p o.channel).sender → m.time ≡ o.time → (a v : ℕ) → m.origin ≡ made a v → v ≤ entry_for a (parents p (channel_at p o.channel).sender) (lane_at l o.channel).heard

-- New ones have later times than those of their nodes before.
pub received_kept : (p : Plan) (l k : Line) (followed new : List FollowedMessage) (o : FollowedTake) → Ahead p l k → ((m : FollowedMessage) → In m new → (node_at l m.node).time < m.time) → Received p l followed o → Received p k (followed ++ new) o
received_kept p l k followed new o ahead late was =
    let lanes = ahead.lanes o.channel was.on_plan was.receiver_up in
    let rise = ahead.times (channel_at p o.channel).sender was.sender_up in
    let (m, i, n, q) = was.makes in
    record {
      on_plan = was.on_plan;
      receiver_up = ahead.ups (channel_at p o.channel).receiver was.receiver_up;
      sender_up = ahead.ups (channel_at p o.channel).sender was.sender_up;
      sent = omega (arith, rise, was.sent);
      entry = omega (arith, lanes.0, was.entry);
      makes = (m, in_left new i, n, q);
      heard = λ x j node time a v made_of_lem. elim (append_in followed j) [
        | inl h ↦ (let old = was.heard x h node time a v made_of_lem in omega (arith, lanes.1 a, old))
        | inr h ↦ absurd (let after = late x h in let no : ⊥ = omega (arith, after, time, was.sent, ap (λ (y : ℕ). (node_at l y).time) node) in no)
      ];
    }

pub record Holds (p : Plan) (l : Line) (followed : List FollowedMessage) (took : List FollowedTake) : Type 0 where
  pub made_ones : (m : FollowedMessage) → In m followed → Standing p l m
  pub taken_ones : (o : FollowedTake) → In o took → Received p l followed o

-- One step on, with new ones.
pub holds_more : (p : Plan) (l k : Line) (followed new : List FollowedMessage) (took more : List FollowedTake) → Ahead p l k → Holds p l followed took
    → ((m : FollowedMessage) → In m new → Standing p k m × ((node_at l m.node).time < m.time)) → ((o : FollowedTake) → In o more → Received p k (followed ++ new) o) → Holds p k (followed ++ new) (took ++ more)
holds_more p l k followed new took more ahead was fresh taken =
    record {
      made_ones = λ m i. elim (append_in followed i) [ inl j ↦ standing_kept p l k m ahead (was.made_ones m j) | inr j ↦ (fresh m j).0 ];
      taken_ones = λ o i. elim (append_in took i) [ inl j ↦ received_kept p l k followed new o ahead (λ m h. (fresh m h).1) (was.taken_ones o j) | inr j ↦ taken o j ];
    }
