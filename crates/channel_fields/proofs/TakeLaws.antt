-- A message taken: what is taken and heard is raised, and then the message goes.
use Prim.Native.Nat.{ℕ, ◌<◌, max}
use mathlib.Core.Path.{◌≡◌, ap, subst, ◌∙◌}
use mathlib.Core.List.{List, ◌∷◌}
use lib.ListN.{length, drop}
use Rattle.plan.specs.Plan.{channel_at}
use Rattle.rules.specs.Line.{Origin, Message, Lane, Line, lane_at, sender_of, parents, with_lane}
use Rattle.rules.specs.Clock.{raise_heard, taken_from}
use Rattle.rules.specs.Step.{taken_lane}
use Rattle.rules.proofs.Line.LineLaws.{plan_same}
use Rattle.state.specs.Lane.{with_heard}
use Rattle.state.specs.State.{line_of}
use Rattle.state.specs.Changes.{first_gone}
use Rattle.buffer.specs.Holds.{Holds, AtLane, LaneNow}
use Rattle.buffer.proofs.HoldsLaws.{lane-after, lane_then}
use Rattle.channel_fields.specs.Raised.{taken_to}

-- The lane with its heard entries raised.
abbrev heard_by : Line → ℕ → Origin → Lane → Lane
heard_by l b o x = with_heard (raise_heard (parents l.plan (sender_of l b)) x.heard o) x

module _ (s t : List ℕ) (b : ℕ) (at : AtLane s b) (m : Message) (first : LaneNow s b (taken_to m.time) t) where
  abbrev on : Lane
  on = lane_at (line_of s) b

  module _ (u : List ℕ) (second : LaneNow t b (heard_by (line_of t) b m.origin) u) where
    abbrev then : Lane
    then = lane_at (line_of t) b

    pub heard_on : 0 < length on.queue → AtLane u b × (0 < length (lane_at (line_of u) b).queue)
    heard_on some =
        let same : (lane_at (line_of u) b).queue ≡ on.queue =
        ap (λ (x : Lane). x.queue) (lane-after first.on (heard_by (line_of t) b m.origin then) second.holds) ∙ ap (λ (x : Lane). x.queue) (lane-after at (taken_to m.time on) first.holds) in
        (second.on, rw same some)

    plan_kept : (line_of t).plan ≡ (line_of s).plan
    plan_kept = ap (λ (l : Line). l.plan) first.holds.same ∙ plan_same b (taken_to m.time on) (line_of s)

    pub taken-whole : (v : List ℕ) → LaneNow u b first_gone v → (rest : List Message) → on.queue ≡ m ∷ rest → Holds v (taken_lane b m rest (line_of s))
    unfolding taken_lane
    taken-whole v third rest e =
        let two = lane_then at first second in
        let three = lane_then at two third in
        let is : first_gone (heard_by (line_of t) b m.origin (taken_to m.time on)) ≡ taken_from (parents (line_of s).plan (sender_of (line_of s) b)) m rest on =
        λ i. record {
          mark = on.mark;
          taken = max on.taken m.time;
          heard = raise_heard (parents (plan_kept i) (channel_at (plan_kept i) b).sender) on.heard m.origin;
          queue = ap (drop 1) e i;
          low = on.low;
        } in
        subst (λ (x : Lane). Holds v (with_lane b x (line_of s))) is three.holds
