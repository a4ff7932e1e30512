use Prim.Native.Nat.{◌<◌}
use mathlib.Core.Path.{◌≡◌, sym, ap, ◌∙◌}
use mathlib.Core.Bool.{true, false}
use native.Mathlib.Numerals.{add-one}
use native.Mathlib.Omega.{arith}
use Rattle.plan.specs.declared.Channel.{Channel}
use Rattle.plan.specs.Plan.{plan_of, channel_count, channel_at}
use Rattle.plan.proofs.PlanLaws.{node_count_lem, channel_count_lem}
use Rattle.rules.specs.Lists.{all_of}
use Rattle.rules.specs.Line.{node_at}
use Rattle.state.specs.State.{line_of}
use Rattle.node_check.specs.Sets.{bit_right}
use Rattle.node_check.proofs.SetLaws.{bits_start, bits_wrong, bits_more, bits_all, bits_last}
use Rattle.node_check.proofs.Page.found_ok.Goals as goal

pub loop-b-init : goal.loop-b-init
loop-b-init c =
    let a = c.args in
    let p = a.self.now in
    let page = c.requires.0.page in
    bits_start (plan_of p.joins.state.now) p.n a.first (node_at (line_of p.joins.state.now) p.n).log page.ready.fits c.requires.1 (omega (arith, page.within, node_count_lem p.joins.state.now))

pub returns-then-sender_of-self : goal.returns-then-sender_of-self
returns-then-sender_of-self c =
    let v = c.loop-b in
    let a = c.args in
    let p = a.self.now in
    c.none_past.ensures
    ∙ bits_last (plan_of p.joins.state.now) p.n a.first (node_at (line_of p.joins.state.now) p.n).log c.requires.0.page.ready.fits v.b v.k v.invariant c.requires.1
    (omega (arith, c.loop-b-test.true, channel_count_lem p.joins.state.now, c.channel_count-b-end.ensures.0)) (λ e. c.if-sender_of-self.true (c.sender_of.ensures.0 ∙ e))

pub returns-then-not-bits_ok : goal.returns-then-not-bits_ok
returns-then-not-bits_ok c =
    let v = c.loop-b in
    let a = c.args in
    let p = a.self.now in
    let log = (node_at (line_of p.joins.state.now) p.n).log in
    let here : v.b < channel_count (plan_of p.joins.state.now) = omega (arith, c.loop-b-test.true, channel_count_lem p.joins.state.now, c.channel_count-b-end.ensures.0) in
    let leaves : (channel_at (plan_of p.joins.state.now) v.b).sender ≡ p.n = sym c.sender_of.ensures.0 ∙ c.if-sender_of-self.false in
    let is : all_of (bit_right (channel_at (plan_of p.joins.state.now) v.b) v.k) log ≡ false = ap (λ (d : Channel). all_of (bit_right d v.k) log) (sym c.channel_of.ensures) ∙ sym c.bits_ok.ensures ∙ c.if-not-bits_ok.true in
    bits_wrong (plan_of p.joins.state.now) p.n a.first log c.requires.0.page.ready.fits v.b v.k v.invariant here leaves is

pub loop-b-preserved : goal.loop-b-preserved
loop-b-preserved c =
    let v = c.loop-b in
    let a = c.args in
    let p = a.self.now in
    let log = (node_at (line_of p.joins.state.now) p.n).log in
    let here : v.b < channel_count (plan_of p.joins.state.now) = omega (arith, c.loop-b-test.true, channel_count_lem p.joins.state.now, c.channel_count-b-end.ensures.0) in
    let leaves : (channel_at (plan_of p.joins.state.now) v.b).sender ≡ p.n = sym c.sender_of.ensures.0 ∙ c.if-sender_of-self.false in
    let is : all_of (bit_right (channel_at (plan_of p.joins.state.now) v.b) v.k) log ≡ true = ap (λ (d : Channel). all_of (bit_right d v.k) log) (sym c.channel_of.ensures) ∙ sym c.bits_ok.ensures ∙ c.if-not-bits_ok.false in
    rw (add-one v.b, add-one v.k) (bits_more (plan_of p.joins.state.now) p.n a.first log c.requires.0.page.ready.fits v.b v.k v.invariant here leaves is)

pub returns : goal.returns
returns c =
    let v = c.loop-b in
    let a = c.args in
    let p = a.self.now in
    c.none_past-2.ensures
    ∙ bits_all (plan_of p.joins.state.now) p.n a.first (node_at (line_of p.joins.state.now) p.n).log c.requires.0.page.ready.fits v.b v.k v.invariant (omega (arith, c.loop-b-test.false, channel_count_lem p.joins.state.now, c.channel_count-b-end.ensures.0))
