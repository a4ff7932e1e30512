use mathlib.Core.Path.{sym, ap, ◌∙◌}
use native.Mathlib.Omega.{arith}
use lib.ListN.{length}
use Rattle.plan.specs.Plan.{Plan, channel_at}
use Rattle.rules.specs.Line.{Node}
use Rattle.slots.specs.Slots.{entry_is}
use Rattle.buffer.proofs.HoldsLaws.{onward-node}
use Rattle.buffer.proofs.JoinLaws.{ends_kept}
use Rattle.trim.proofs.RaiseLaws.{raise_start, raise_turn, later, node-later}
use Rattle.trim.proofs.raise_channel.Goals as goal

pub loop-i-init : goal.loop-i-init
loop-i-init c = raise_start c.args.s.now c.args.n c.args.b c.requires.0

pub entry_of-e-requires : goal.entry_of-e-requires
entry_of-e-requires c =
    let t = c.loop-i in
    (onward-node (later c.requires.0 t.invariant) c.requires.1, omega (arith, c.requires.3, ap (λ (x : Node). length x.log) (node-later c.requires.0 t.invariant c.args.n)))

pub raise_by-requires : goal.raise_by-requires
raise_by-requires c =
    let t = c.loop-i in
    let on = later c.requires.0 t.invariant in
    (t.invariant.on, ends_kept on.plan c.requires.2, c.sender_of-sender.ensures.0 ∙ ap (λ (p : Plan). (channel_at p c.args.b).sender) (sym on.plan))

pub loop-i-preserved : goal.loop-i-preserved
loop-i-preserved c =
    let a = c.args in
    let t = c.loop-i in
    raise_turn a.s.now a.n a.b c.requires.0 t.i t.s t.invariant (omega (arith, c.requires.3)) (entry_is c.entry_of-e.result) c.entry_of-e.ensures c.raise_by.new.s c.raise_by.ensures
