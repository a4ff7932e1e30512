use Prim.Native.Nat.{ℕ, suc, ◌+◌, ◌*◌, ◌-◌}
use mathlib.Core.Path.{◌≡◌, refl, sym, ap, ◌∙◌}
use native.Mathlib.Omega.{arith}
use borrow.Author.Rules.{rules}
use lib.ListN.{length, get_or, set, length-set}
use Rattle.std.proofs.lemmas.List.{set_past}
use Rattle.state.specs.Sizes.{page_at, held_at, count_size, held_size}
use Rattle.items.specs.Items.{none_held}
use Rattle.node_check.proofs.SlotLaws.{going_wrong, going_more, going_end}
use Rattle.node_check.proofs.NodeLaws.{held_pass, held_bare, held_unmade, held_more, held_whole, held_going}
use Rattle.node_check.proofs.PieceBytes.{passed_by}
use Rattle.node_check.proofs.Page.held_each_ok.Goals.{then-sender-lt12, else-sender-lt12}
use Rattle.node_check.proofs.Page.held_each_ok.Goals as goal

pub returns-then-count-eq0 : goal.returns-then-count-eq0
returns-then-count-eq0 c =
    let a = c.args in
    let p = a.self.now in
    ap (λ (k : ℕ). held_pass p.joins.state.now p.n none_held (page_at p.n + held_at + count_size) k) (sym c.if-count-eq0.true) ∙ held_whole p.joins.state.now p.n p.at p.there a.count c.requires.0 c.requires.1

pub loop-i-init : goal.loop-i-init
unfolding none_held
loop-i-init c = let p = c.args.self.now in (refl, held_going p.joins.state.now p.n p.at p.there c.args.count c.requires.0 c.requires.1)

pub returns-then-not-plain-last : goal.returns-then-not-plain-last
returns-then-not-plain-last c =
    let v = c.loop-i in
    let a = c.args in
    let p = a.self.now in
    let s = p.joins.state.now in
    let last : c.unwrap_or-last.result ≡ get_or v.rows c.from-sender.result 0 = search rules in
    going_wrong (held_pass s p.n) (p.at + 1552) held_size a.count _ v.rows v.i v.invariant.1 (omega arith)
    (held_bare s p.n v.rows (p.at + 1552 + held_size * v.i) (a.count - suc v.i) c.from-sender.result c.get32-time.result c.unwrap_or-last.result c.from-sender.ensures c.get32-time.ensures last c.held_plain-plain.result c.held_plain-plain.ensures c.if-not-plain-last.true)

pub returns-then-not-made-passed : goal.returns-then-not-made-passed
returns-then-not-made-passed c =
    let v = c.loop-i in
    let a = c.args in
    let p = a.self.now in
    let s = p.joins.state.now in
    let passed = c.passed_on-passed.ensures ∙ passed_by s p.n (p.at + 1552 + held_size * v.i) p.joins.ready _ c.leaving-channels.ensures.few in
    let last : c.unwrap_or-last.result ≡ get_or v.rows c.from-sender.result 0 = search rules in
    going_wrong (held_pass s p.n) (p.at + 1552) held_size a.count _ v.rows v.i v.invariant.1 (omega arith)
    (held_unmade s p.n v.rows (p.at + 1552 + held_size * v.i) (a.count - suc v.i) c.from-sender.result c.get32-time.result c.unwrap_or-last.result c.from-sender.ensures c.get32-time.ensures last c.held_plain-plain.result c.held_made-made.result c.passed_on-passed.result c.held_plain-plain.ensures c.if-not-plain-last.false c.held_made-made.ensures passed c.if-not-made-passed.true)

pub loop-i-preserved : goal.loop-i-preserved
loop-i-preserved c =
    let v = c.loop-i in
    let a = c.args in
    let p = a.self.now in
    let s = p.joins.state.now in
    let last : c.unwrap_or-last.result ≡ get_or v.rows c.from-sender.result 0 = search rules in
    let passed = c.passed_on-passed.ensures ∙ passed_by s p.n (p.at + 1552 + held_size * v.i) p.joins.ready _ c.leaving-channels.ensures.few in
    let after : c.if-sender-lt12.rows ≡ set v.rows c.from-sender.result c.get32-time.result = elim c.if-sender-lt12.branch [ then-sender-lt12 w ↦ search rules | else-sender-lt12 w ↦ w.rows-is ∙ sym (set_past v.rows c.from-sender.result c.get32-time.result (omega arith)) ] in (
      ap length after ∙ length-set v.rows c.from-sender.result c.get32-time.result ∙ v.invariant.0,
      going_more (held_pass s p.n) (p.at + 1552) held_size a.count _ v.rows v.i v.invariant.1 (omega arith) c.if-sender-lt12.rows
          (held_more s p.n v.rows (p.at + 1552 + held_size * v.i) (a.count - suc v.i) c.from-sender.result c.get32-time.result c.unwrap_or-last.result c.from-sender.ensures c.get32-time.ensures last c.held_plain-plain.result c.held_made-made.result c.passed_on-passed.result c.held_plain-plain.ensures c.if-not-plain-last.false c.held_made-made.ensures passed c.if-sender-lt12.rows after c.if-not-made-passed.false),
    )

pub returns : goal.returns
returns c =
    let v = c.loop-i in
    let a = c.args in
    let p = a.self.now in
    going_end (held_pass p.joins.state.now p.n) (p.at + 1552) held_size a.count _ v.rows v.i v.invariant.1 (omega arith) refl
