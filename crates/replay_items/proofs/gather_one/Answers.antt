use mathlib.Core.Path.{◌≡◌, sym, ap, ◌∙◌}
use mathlib.Core.List.{List}
use native.Mathlib.Omega.{arith}
use borrow.Author.Tests.{eq-eqb}
use Rattle.rules.specs.Line.{Held, Target, node_at}
use Rattle.rules.specs.Recover.{conflict}
use Rattle.rules.specs.Replay.{fixed_at}
use Rattle.state.specs.State.{line_of}
use Rattle.slots.specs.Slots.{held_is}
use Rattle.replay_items.specs.Items.{held_by}
use Rattle.replay_items.proofs.ItemLaws.{fixed_is}
use Rattle.replay_items.proofs.TableLaws.{held_inside, one_more}
use Rattle.replay_items.proofs.gather_one.Goals as goal

pub returns : goal.returns
returns c =
    let a = c.args in
    let e = a.e.now in
    let h : Held = held_is c.held_at-h.result in
    let asked = c.requires.0 in
    let ts : List Target = (node_at (line_of a.s.now) e.node).targets in
    let own : h.sender ≡ a.parent = omega (arith, c.from.ensures, c.if-from-parent.false) in
    let fixed : c.time_at-fixed.result ≡ fixed_at ts h =
    c.time_at-fixed.ensures ∙ fixed_is e.targets.now h c.place_of-place.result (ap conflict asked.targets ∙ asked.agreed) c.place_of-place.ensures ∙ ap (λ (us : List Target). fixed_at us h) asked.targets in
    c.push.ensures ∙ one_more (line_of a.s.now) e.node (held_by a.s.now e) a.i a.parent a.row h (c.held_at-h.ensures ∙ sym (held_inside a.s.now e a.i c.requires.1)) a.items.now c.time_at-fixed.result c.floor_with-floor.result
    (eq-eqb h.sender a.parent own) fixed c.floor_with-floor.ensures
