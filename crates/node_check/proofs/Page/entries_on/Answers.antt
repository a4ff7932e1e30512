use Prim.Native.Nat.{suc, ◌+◌, ◌*◌, ◌-◌}
use mathlib.Core.Path.{◌≡◌, refl}
use mathlib.Core.Bool.{not, ◌||◌}
use native.Mathlib.Omega.{arith}
use Rattle.plan.specs.Plan.{plan_of}
use Rattle.state.specs.Sizes.{entry_size}
use Rattle.items.specs.Items.{is_inner}
use Rattle.node_check.specs.NodeCheck.{log_pass}
use Rattle.node_check.proofs.SlotLaws.{going_wrong, going_more, going_end}
use Rattle.node_check.proofs.NodeLaws.{entry_bare, entry_unmade, entry_more}
use Rattle.node_check.proofs.Page.entries_on.Goals.{After-is_sink-sink}
use Rattle.node_check.proofs.Page.entries_on.Goals as goal

pub loop-i-init : goal.loop-i-init
loop-i-init c = record { same = refl }

-- Where the node stands.
stands : (c : goal.After-is_sink-sink) → not (c.is_source-source.result || c.is_sink-sink.result) ≡ is_inner (plan_of c.args.self.now.joins.state.now) c.args.self.now.n
unfolding is_inner
stands c = λ i. not (c.is_source-source.ensures i || c.is_sink-sink.ensures i)

pub returns-then-not-follows : goal.returns-then-not-follows
returns-then-not-follows c =
    let v = c.loop-i in
    let a = c.args in
    let p = a.self.now in
    let s = p.joins.state.now in
    going_wrong (log_pass s p.n) (p.at + 12) entry_size a.count _ v.so_far v.i v.invariant (omega arith)
    (entry_bare s p.n v.so_far ((p.at + 12) + entry_size * v.i) (a.count - suc v.i) c.get32-time.result a.top _ c.entry_plain-plain.result c.follows.result c.get32-time.ensures c.requires.2 (stands (goal.at.returns-then-not-follows c).After-is_sink-sink) c.entry_plain-plain.ensures c.follows.ensures c.if-not-follows.true)

pub returns-then-not-entry_made : goal.returns-then-not-entry_made
returns-then-not-entry_made c =
    let v = c.loop-i in
    let a = c.args in
    let p = a.self.now in
    let s = p.joins.state.now in
    going_wrong (log_pass s p.n) (p.at + 12) entry_size a.count _ v.so_far v.i v.invariant (omega arith)
    (entry_unmade s p.n v.so_far ((p.at + 12) + entry_size * v.i) (a.count - suc v.i) c.get32-time.result a.top _ c.entry_plain-plain.result c.follows.result c.get32-time.ensures c.requires.2 (stands (goal.at.returns-then-not-entry_made c).After-is_sink-sink) c.entry_plain-plain.ensures c.follows.ensures c.entry_made.result c.if-not-follows.false c.entry_made.ensures c.if-not-entry_made.true)

pub loop-i-preserved : goal.loop-i-preserved
loop-i-preserved c =
    let v = c.loop-i in
    let a = c.args in
    let p = a.self.now in
    let s = p.joins.state.now in
    going_more (log_pass s p.n) (p.at + 12) entry_size a.count _ v.so_far v.i v.invariant (omega arith) c.get32-time.result
    (entry_more s p.n v.so_far ((p.at + 12) + entry_size * v.i) (a.count - suc v.i) c.get32-time.result a.top _ c.entry_plain-plain.result c.follows.result c.get32-time.ensures c.requires.2 (stands (goal.at.loop-i-preserved c).After-is_sink-sink) c.entry_plain-plain.ensures c.follows.ensures c.entry_made.result c.if-not-follows.false c.entry_made.ensures c.if-not-entry_made.false)

pub returns : goal.returns
returns c =
    let v = c.loop-i in
    let a = c.args in
    let p = a.self.now in
    going_end (log_pass p.joins.state.now p.n) (p.at + 12) entry_size a.count _ v.so_far v.i v.invariant (omega arith) refl
