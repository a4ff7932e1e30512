use mathlib.Core.Path.{sym, ◌∙◌}
use native.Mathlib.Omega.{arith}
use borrow.Author.Tests.{eq-eqb, ne_eqb}
use Rattle.plan.specs.Plan.{plan_of, channel_at}
use Rattle.rules.specs.Line.{node_at}
use Rattle.state.specs.State.{line_of}
use Rattle.slots.specs.Slots.{entry_is}
use Rattle.passing.proofs.StateLaws.{bit_says}
use Rattle.passing.proofs.NextLaws.{sendable_in, search_from, search_found, search_on, next_none}
use Rattle.passing.proofs.next_of.Goals as goal

pub loop-i-init : goal.loop-i-init
loop-i-init c =
    let a = c.args in
    search_from (channel_at (plan_of a.s.now) a.b) c.mark_of-mark.result (node_at (line_of a.s.now) c.sender_of-n.result).log c.first_later-i.result c.first_later-i.ensures

pub returns-then-e-bit-eq1 : goal.returns-then-e-bit-eq1
returns-then-e-bit-eq1 c =
    let a = c.args in
    let log = (node_at (line_of a.s.now) c.sender_of-n.result).log in
    let says = bit_says c.requires.0 c.requires.1 c.sender_of-n.ensures.0 c.bit_of-bit.ensures (omega (arith, c.log_count-count.ensures.0)) c.entry_of-e.ensures in
    sym
    (sendable_in a.s.now a.b c.sender_of-n.result c.mark_of-mark.result c.sender_of-n.ensures.0 c.mark_of-mark.ensures
    ∙ search_found (channel_at (plan_of a.s.now) a.b) c.mark_of-mark.result log c.loop-i.i c.loop-i.invariant (omega (arith, c.log_count-count.ensures.0)) (entry_is c.entry_of-e.result) c.entry_of-e.ensures (sym says ∙ eq-eqb _ 1 c.if-e-bit-eq1.true))

pub loop-i-preserved : goal.loop-i-preserved
loop-i-preserved c =
    let a = c.args in
    let log = (node_at (line_of a.s.now) c.sender_of-n.result).log in
    let says = bit_says c.requires.0 c.requires.1 c.sender_of-n.ensures.0 c.bit_of-bit.ensures (omega (arith, c.log_count-count.ensures.0)) c.entry_of-e.ensures in
    search_on (channel_at (plan_of a.s.now) a.b) c.mark_of-mark.result log c.loop-i.i c.loop-i.invariant (omega (arith, c.log_count-count.ensures.0)) (entry_is c.entry_of-e.result) c.entry_of-e.ensures (sym says ∙ ne_eqb _ 1 c.if-e-bit-eq1.false)

pub returns : goal.returns
returns c =
    let a = c.args in
    let log = (node_at (line_of a.s.now) c.sender_of-n.result).log in
    sym
    (sendable_in a.s.now a.b c.sender_of-n.result c.mark_of-mark.result c.sender_of-n.ensures.0 c.mark_of-mark.ensures
    ∙ next_none (channel_at (plan_of a.s.now) a.b) c.mark_of-mark.result log c.loop-i.i c.loop-i.invariant.passed (omega (arith, c.log_count-count.ensures.0)))
