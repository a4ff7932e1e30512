use Prim.Native.Nat.{ℕ, ◌+◌, ◌*◌}
use mathlib.Core.Path.{ap, sym, ◌∙◌}
use Rattle.rules.specs.Lists.{all_of, up_to}
use Rattle.state.specs.Sizes.{entry_size}
use Rattle.node_check.specs.NodeCheck.{entry_in}
use Rattle.plan.specs.Plan.{plan_of}
use Rattle.buffer.proofs.SetLaws.{leave_all}
use Rattle.items.specs.Items.{set_right}
use Rattle.node_check.proofs.SetLaws.{log_asked}
use Rattle.node_check.proofs.Page.sets_ok.Goals as goal

pub returns-then-count-eq0 : goal.returns-then-count-eq0
returns-then-count-eq0 c =
    let a = c.args in
    let p = a.self.now in
    let s = p.joins.state.now in
    ap (λ (k : ℕ). all_of (λ i. set_right (plan_of s) p.n (entry_in (p.at + 12 + entry_size * i) s)) (up_to 0 k)) (sym c.if-count-eq0.true) ∙ log_asked s p.n p.at a.count c.requires (set_right (plan_of s) p.n)

pub leaving_from-first-requires : goal.leaving_from-first-requires
leaving_from-first-requires c = (c.requires.page.ready, leave_all (plan_of c.args.self.now.joins.state.now) c.args.self.now.n)
