use Prim.Native.Nat.{suc, ◌+◌, ◌*◌, ◌-◌}
use mathlib.Core.Path.{refl, sym, ◌∙◌}
use mathlib.Core.Bool.{true}
use native.Mathlib.Omega.{arith}
use lib.ListN.{get_or}
use Rattle.plan.specs.Plan.{plan_of}
use Rattle.items.specs.Items.{is_inner}
use Rattle.node_check.specs.NodeCheck.{log_pass}
use Rattle.state.specs.Sizes.{entry_size}
use Rattle.node_check.proofs.SlotLaws.{going_wrong, going_more, going_end}
use Rattle.node_check.proofs.NodeLaws.{time_in, later_fits, entry_unmade, entry_more, log_going}
use Rattle.node_check.proofs.Page.entries_ok.Goals as goal

pub loop-i-init : goal.loop-i-init
loop-i-init c = let p = c.args.self.now in log_going p.joins.state.now p.n p.at p.there c.args.count c.requires.0 c.requires.1

pub returns-then-not-entry_made : goal.returns-then-not-entry_made
returns-then-not-entry_made c =
    let v = c.loop-i in
    let a = c.args in
    let p = a.self.now in
    let s = p.joins.state.now in
    let page = p.there in
    let top = time_in s p.n p.at page c.get32-top.result c.get32-top.ensures in
    going_wrong (log_pass s p.n) (p.at + 12) entry_size a.count _ v.last v.i v.invariant (omega arith)
    (entry_unmade s p.n v.last (p.at + 12 + entry_size * v.i) (a.count - suc v.i) c.get32-time.result c.get32-top.result (is_inner (plan_of s) p.n) c.entry_plain-plain.result true c.get32-time.ensures top refl c.entry_plain-plain.ensures (later_fits s p.n (is_inner (plan_of s) p.n) c.entry_plain-plain.result v.last c.get32-time.result c.get32-top.result (get_or s (p.at + 12 + entry_size * v.i + 22) 0) c.if-not-plain-last.false) c.entry_made.result refl c.entry_made.ensures c.if-not-entry_made.true)

pub loop-i-preserved : goal.loop-i-preserved
loop-i-preserved c =
    let v = c.loop-i in
    let a = c.args in
    let p = a.self.now in
    let s = p.joins.state.now in
    let page = p.there in
    let top = time_in s p.n p.at page c.get32-top.result c.get32-top.ensures in
    going_more (log_pass s p.n) (p.at + 12) entry_size a.count _ v.last v.i v.invariant (omega arith) c.get32-time.result
    (entry_more s p.n v.last (p.at + 12 + entry_size * v.i) (a.count - suc v.i) c.get32-time.result c.get32-top.result (is_inner (plan_of s) p.n) c.entry_plain-plain.result true c.get32-time.ensures top refl c.entry_plain-plain.ensures (later_fits s p.n (is_inner (plan_of s) p.n) c.entry_plain-plain.result v.last c.get32-time.result c.get32-top.result (get_or s (p.at + 12 + entry_size * v.i + 22) 0) c.if-not-plain-last.false) c.entry_made.result refl c.entry_made.ensures c.if-not-entry_made.false)

pub entries_on-requires : goal.entries_on-requires
entries_on-requires c =
    let p = c.args.self.now in
    (omega arith, c.requires.1, time_in p.joins.state.now p.n p.at p.there c.get32-top.result c.get32-top.ensures)

pub returns-then-not-plain-last : goal.returns-then-not-plain-last
returns-then-not-plain-last c = c.entries_on.ensures ∙ sym c.loop-i.invariant.same

pub returns : goal.returns
returns c =
    let v = c.loop-i in
    let p = c.args.self.now in
    going_end (log_pass p.joins.state.now p.n) (p.at + 12) entry_size c.args.count _ v.last v.i v.invariant (omega arith) refl
