use Prim.Native.Nat.{max, ◌<◌}
use mathlib.Core.Option.{some}
use mathlib.Core.Path.{◌≡◌, sym, ap, ◌∙◌}
use native.Mathlib.Omega.{arith}
use lib.ListN.{length, get_or, length-set}
use Rattle.plan.specs.Plan.{plan_of, channel_at, entering}
use Rattle.rules.specs.Line.{Lane, lane_at}
use Rattle.state.specs.State.{line_of}
use Rattle.slots.specs.Slots.{origin_is}
use Rattle.items.specs.Items.{place_from}
use Rattle.buffer.proofs.HoldsLaws.{lane_now, lane_then, lane-after, lane_as}
use Rattle.buffer.proofs.JoinLaws.{place_few, ends_kept}
use Rattle.channel_fields.specs.Raised.{low_to}
use Rattle.channel_fields.proofs.LaneWrites.{lane_kept}
use Rattle.trim.proofs.RaiseLaws.{made_other, made_own, by_entry, low_counted, later, raised_other, raised_fed, raised_unplaced, raised_placed}
use Rattle.trim.proofs.raise_by.Goals.{In-Some-joined}
use Rattle.trim.proofs.raise_by.Goals as goal

pub returns-then-ne : goal.returns-then-ne
returns-then-ne c =
    let a = c.args in
    let s = a.s.now in
    let at = c.requires.0 in
    let other = made_other a.e.made _ c.sender.result c.sender.ensures (sym c.ne.ensures ∙ c.if-ne.true) in
    let raised = by_entry s a.b at (origin_is a.e.made) (origin_is a.e.before) in
    lane_now raised at (lane_kept s a.b at (raised (lane_at (line_of s) a.b)) (sym (raised_other s a.b at (origin_is a.e.made) (origin_is a.e.before) (rw c.requires.2 at other))))

pub raise_low_clock-requires : goal.raise_low_clock-requires
raise_low_clock-requires c = (c.requires.0, omega (arith, low_counted c.args.s.now c.args.b c.requires.0))

pub returns-in_default : goal.returns-in_default
returns-in_default c =
    let e = c.args.e in
    let own = rw c.requires.2 at (made_own e.made _ c.sender.result c.sender.ensures (sym c.ne.ensures ∙ c.if-ne.false)) in
    rw (own, c.in_default.ensures) (lane_as (raised_fed c.args.s.now c.args.b c.requires.0 e.made.time) c.raise_low_clock.ensures)

pub of-requires : goal.of-requires
of-requires c =
    let raised = c.raise_low_clock.ensures in
    (raised.on.holds.ready, ends_kept (later c.requires.0 raised).plan c.requires.1)

-- The place found is the earlier sender's among the parents of the channel's sender.
place_found : (c : goal.In-Some-joined)
    → let s = c.args.s.now in
    let q = (channel_at (plan_of s) c.args.b).sender in
    (place_from (plan_of s) c.in-Some.earlier 0 (entering (plan_of s) q) ≡ some c.in-Some-joined.joint.place) × (c.in-Some-joined.joint.place < length (entering (plan_of s) q))
place_found c =
    let joint = c.in-Some-joined.ensures in
    let plan = (later c.requires.0 c.raise_low_clock.ensures).plan in
    (rw (c.of.ensures, plan, c.requires.2) at joint.placed, rw (c.of.ensures, plan, c.requires.2) at joint.early)

pub overflow_add-joint : goal.overflow_add-joint
overflow_add-joint c = omega (arith, place_few c.of.result.state.now c.of.result.ready c.in-Some-joined.ensures)

pub raise_low_clock-requires-in-Some-joined : goal.raise_low_clock-requires-in-Some-joined
raise_low_clock-requires-in-Some-joined c =
    let a = c.args in
    let at = c.requires.0 in
    let raised = c.raise_low_clock.ensures in
    let on = lane_at (line_of a.s.now) a.b in
    let long = ap (λ (x : Lane). length x.low) (lane-after at (low_to 0 a.e.made.time on) raised.holds) ∙ length-set on.low 0 (max (get_or on.low 0 0) a.e.made.time) in
    (raised.on, omega (arith, long, low_counted a.s.now a.b at, (place_found (goal.at.raise_low_clock-requires-in-Some-joined c).In-Some-joined).1))

pub returns-in-Some-joined : goal.returns-in-Some-joined
returns-in-Some-joined c =
    let a = c.args in
    let at = c.requires.0 in
    let own = rw c.requires.2 at (made_own a.e.made _ c.sender.result c.sender.ensures (sym c.ne.ensures ∙ c.if-ne.false)) in
    let place = (place_found (goal.at.returns-in-Some-joined c).In-Some-joined).0 in
    rw (own, c.in-Some.ensures.0)
    (lane_as (raised_placed a.s.now a.b at a.e.made.time c.in-Some.earlier a.e.before.time c.in-Some-joined.joint.place place) (lane_then at c.raise_low_clock.ensures c.raise_low_clock-in-Some-joined.ensures))

pub returns-in_default-joined : goal.returns-in_default-joined
returns-in_default-joined c =
    let a = c.args in
    let at = c.requires.0 in
    let raised = c.raise_low_clock.ensures in
    let own = rw c.requires.2 at (made_own a.e.made _ c.sender.result c.sender.ensures (sym c.ne.ensures ∙ c.if-ne.false)) in
    let missing = rw (c.of.ensures, (later at raised).plan, c.requires.2) at c.in_default-joined.ensures.placed in
    rw (own, c.in-Some.ensures.0) (lane_as (raised_unplaced a.s.now a.b at a.e.made.time c.in-Some.earlier a.e.before.time missing) raised)
