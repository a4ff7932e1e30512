use Prim.Native.Nat.{◌<◌}
use mathlib.Core.Path.{◌≡◌, sym, ap, ◌∙◌}
use native.Mathlib.Numerals.{add-one}
use native.Mathlib.Omega.{arith}
use Rattle.plan.specs.Plan.{plan_of, channel_count, channel_at}
use Rattle.plan.proofs.PlanLaws.{node_count_lem, channel_count_lem}
use Rattle.node_check.specs.Sets.{is_open, no_sets}
use Rattle.node_check.proofs.MaterialLaws.{listing_start, listing_room, listing_more, listing_closed, listing_all, listing_last}
use Rattle.node_check.proofs.sets.by_material.Goals.{Else-sender_of-n}
use Rattle.node_check.proofs.sets.by_material.Goals as goal

pub loop-b-init : goal.loop-b-init
unfolding no_sets
loop-b-init c = let a = c.args in listing_start (plan_of a.s.now) a.n a.first c.requires.0.fits c.requires.2 (omega (arith, c.requires.1, node_count_lem a.s.now))

pub returns-then-sender_of-n : goal.returns-then-sender_of-n
returns-then-sender_of-n c =
    let a = c.args in
    let v = c.loop-b in
    listing_last (plan_of a.s.now) a.n a.first c.requires.0.fits v.sets v.b v.bit v.invariant c.requires.2
    (omega (arith, channel_count_lem a.s.now, c.channel_count-b-end.ensures.0)) (λ e. c.if-sender_of-n.true (c.sender_of.ensures.0 ∙ e))

-- The channel at hand is one of the plan's and leaves the node.
leaves : (c : goal.Else-sender_of-n)
    → let a = c.args in
    let b = c.loop-b.b in
    (b < channel_count (plan_of a.s.now)) × ((channel_at (plan_of a.s.now) b).sender ≡ a.n)
leaves c =
    let a = c.args in
    (omega (arith, channel_count_lem a.s.now, c.channel_count-b-end.ensures.0), sym c.sender_of.ensures.0 ∙ c.if-sender_of-n.false)

pub returns-then-not-is_open : goal.returns-then-not-is_open
returns-then-not-is_open c =
    let v = c.loop-b in
    let a = c.args in
    let l = leaves (goal.at.returns-then-not-is_open c).Else-sender_of-n in
    listing_closed (plan_of a.s.now) a.n a.first c.requires.0.fits v.sets v.b v.bit v.invariant l.0 l.1
    (ap is_open (sym c.channel_of-c.ensures) ∙ sym c.is_open.ensures ∙ c.if-not-is_open.true)

pub add_channel-requires : goal.add_channel-requires
add_channel-requires c =
    let v = c.loop-b in
    let a = c.args in
    let l = leaves (goal.at.add_channel-requires c).Else-sender_of-n in
    (v.invariant.long, v.invariant.below, omega (arith, listing_room (plan_of a.s.now) a.n a.first c.requires.0.fits v.sets v.b v.bit v.invariant l.0 l.1))

pub overflow_mul-bit : goal.overflow_mul-bit
overflow_mul-bit c =
    let v = c.loop-b in
    let a = c.args in
    let l = leaves (goal.at.overflow_mul-bit c).Else-sender_of-n in
    omega (arith, listing_room (plan_of a.s.now) a.n a.first c.requires.0.fits v.sets v.b v.bit v.invariant l.0 l.1)

pub loop-b-preserved : goal.loop-b-preserved
loop-b-preserved c =
    let v = c.loop-b in
    let a = c.args in
    let l = leaves (goal.at.loop-b-preserved c).Else-sender_of-n in
    rw (add-one v.b) (listing_more (plan_of a.s.now) a.n a.first c.requires.0.fits v.sets v.b v.bit v.invariant l.0 l.1 c.add_channel.new.t
    (ap is_open (sym c.channel_of-c.ensures) ∙ sym c.is_open.ensures ∙ c.if-not-is_open.false)
    (rw c.channel_of-c.ensures at c.add_channel.ensures))

pub returns : goal.returns
returns c =
    let a = c.args in
    let v = c.loop-b in
    listing_all (plan_of a.s.now) a.n a.first c.requires.0.fits v.sets v.b v.bit v.invariant (omega (arith, channel_count_lem a.s.now, c.channel_count-b-end.ensures.0))
