use Prim.Native.Nat.{◌+◌, ◌≤◌}
use mathlib.Core.Path.{◌≡◌, ap, ◌∙◌}
use native.Mathlib.Omega.{arith}
use lib.ListN.{length}
use Rattle.std.proofs.lemmas.Grind.{common_steps}
use mathlib.Core.Logic.{inl}
use Rattle.std.specs.declared.iter.Enumerate.{Enumerate}
use Rattle.plan.specs.declared.masks.Channels.{Channels}
use Rattle.plan.specs.Mask.{listed}
use Rattle.plan.specs.Plan.{plan_of, entering}
use Rattle.buffer.proofs.ReadyLaws.{few_enter}
use Rattle.replay_items.specs.Items.{held_by}
use Rattle.replay_items.proofs.TableLaws.{sender_same, rows_start, rows_room, rows_turn}
use Rattle.replay_items.proofs.gather.Goals as goal

begun : {r q : Enumerate Channels} {p : Channels} → r ≡ q → q.iter ≡ p → q.count ≡ 0 → (r.iter ≡ p) × (r.count ≡ 0)
begun e s n = (ap (λ (x : Enumerate Channels). x.iter) e ∙ s, ap (λ (x : Enumerate Channels). x.count) e ∙ n)

pub loop-row-init-derived : goal.loop-row-init-derived
loop-row-init-derived c =
    let node = c.requires.0.node in
    let is : listed c.entering.result ≡ entering (plan_of c.args.s.now) c.args.e.now.node = c.entering.ensures.few node.holds.ready.channels in
    let few : length (listed c.entering.result) ≤ 4 = omega (arith, ap length is, few_enter node.holds.ready c.args.e.now.node node.inside) in
    grind (arith, common_steps)

pub loop-row-init : goal.loop-row-init
loop-row-init c =
    let a = c.args in
    let e = a.e.now in
    let node = c.requires.0.node in
    let is : listed c.entering.result ≡ entering (plan_of a.s.now) e.node = c.entering.ensures.few node.holds.ready.channels in
    let few : length (listed c.entering.result) ≤ 4 = omega (arith, ap length is, few_enter node.holds.ready e.node node.inside) in
    let start = rows_start a.s.now e.node (held_by a.s.now e) node a.items.now (listed c.entering.result) is in
    let (iter, count) = begun c.into_iter-row-iterator.ensures.into_iter_gives c.enumerate-row-items.ensures.source c.enumerate-row-items.ensures.count in
    ((tt, tt, inl (omega (arith, few, count, ap (λ (x : Channels). length (listed x)) iter))), tt, rw (iter, count) start)

pub gather_row-requires : goal.gather_row-requires
gather_row-requires c =
    let t = c.loop-row in
    let a = c.args in
    let e = a.e.now in
    let to = t.invariant.2 in
    let b = c.in-Some.b in
    (c.requires.0, rw (c.sender_of.ensures.0 ∙ sender_same a.s.now b, c.in-Some.ensures.steps.1) (rows_room a.s.now e.node (held_by a.s.now e) a.items.now t.row-iterator.count b (listed t.row-iterator.iter) (listed c.next.new.self.iter) t.items to c.in-Some.ensures.steps.0 c.requires.1))

pub loop-row-preserved : goal.loop-row-preserved
loop-row-preserved c =
    let t = c.loop-row in
    let a = c.args in
    let e = a.e.now in
    let b = c.in-Some.b in
    let more = rows_turn a.s.now e.node (held_by a.s.now e) a.items.now t.row-iterator.count b (listed t.row-iterator.iter) (listed c.next.new.self.iter) t.items t.invariant.2 c.in-Some.ensures.steps.0 in
    let steps = c.in-Some.ensures.steps in
    let room : t.row-iterator.count + length (listed t.row-iterator.iter) ≤ 4 = t.invariant.2.few in (
      (tt, tt, inl (omega (arith, room, steps.2, ap length steps.0))),
      tt,
      rw (steps.2, c.gather_row.ensures, c.sender_of.ensures.0, sender_same a.s.now b, steps.1) more,
    )
