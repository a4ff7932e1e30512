use mathlib.Core.Path.{sym, subst, ◌∙◌}
use native.Mathlib.Omega.{arith}
use Prim.Native.Nat.{ℕ, ◌-◌, ◌<◌}
use Rattle.std.proofs.lemmas.Grind.{common_steps}
use Rattle.plan.specs.Mask.{listed}
use Rattle.report.proofs.ParentLaws.{four_parents, walking_at}
use Rattle.report.proofs.ClockLaws.{listing_leaf, listing_none, listing_start, listing_separator, listing_room, listing_turn, listing_end}
use Rattle.report.proofs.clock.+listed.Goals as goal

pub returns-then-layers-eq0 : goal.returns-then-layers-eq0
returns-then-layers-eq0 t c =
    let a = c.args in
    listing_leaf a.s.now a.n a.t a.h c.requires.0 c.requires.1 a.text.now a.layers c.requires.2 c.node_and_time.new.text c.node_and_time.ensures c.if-layers-eq0.true

pub returns-then-is_empty : goal.returns-then-is_empty
returns-then-is_empty t c =
    let a = c.args in
    let none = rw (c.entering-parents.ensures.few c.requires.0.holds.ready.channels) at c.is_empty.ensures in
    listing_none a.s.now a.n a.t a.h c.requires.0 c.requires.1 a.text.now a.layers c.requires.2 c.node_and_time.new.text c.node_and_time.ensures c.if-layers-eq0.false (sym none ∙ c.if-is_empty.true)

pub loop-place-init : goal.loop-place-init
loop-place-init t c =
    let a = c.args in
    let those = c.entering-parents.ensures.few c.requires.0.holds.ready.channels in
    let some = rw those at c.is_empty.ensures in
    let start = listing_start a.s.now a.n a.t a.h c.requires.0 c.requires.1 a.text.now a.layers c.requires.2 c.node_and_time.new.text c.node_and_time.ensures c.if-layers-eq0.false (sym some ∙ c.if-is_empty.false) in
    let four = four_parents a.s.now a.n c.requires.0 in
    grind (arith, common_steps)

pub byte-requires : goal.byte-requires
byte-requires t c =
    let a = c.args in
    let v = c.loop-place in
    listing_separator a.s.now a.n a.t a.h c.requires.0 c.requires.1 a.text.now a.layers c.requires.2 c.node_and_time.new.text c.node_and_time.ensures v.text v.place-iterator.count (listed v.place-iterator.iter) v.invariant.2

pub parent_time-time-requires : goal.parent_time-time-requires
parent_time-time-requires t c =
    let v = c.loop-place in
    (c.requires.0, c.requires.1, rw c.in-Some.ensures.steps.1 (walking_at v.invariant.2.walking c.in-Some.ensures.steps.0))

pub sender_of-parent-requires : goal.sender_of-parent-requires
sender_of-parent-requires t c = record { ready = c.requires.0.holds.ready; below = (walking_at c.loop-place.invariant.2.walking c.in-Some.ensures.steps.0).below }

pub listed-requires : goal.listed-requires
listed-requires t c =
    let a = c.args in
    let v = c.loop-place in
    let here = walking_at v.invariant.2.walking c.in-Some.ensures.steps.0 in
    let room = listing_room a.s.now a.n a.t a.h c.requires.0 c.requires.1 a.text.now a.layers c.requires.2 c.node_and_time.new.text c.node_and_time.ensures v.text v.place-iterator.count (listed v.place-iterator.iter) v.invariant.2 here.inside in
    let b = c.byte.ensures.wrote in (
      subst (λ (j : ℕ). a.layers - 1 < j) c.decreases (omega (arith, v.invariant.2.deeper)),
      (record { holds = c.requires.0.holds; inside = c.sender_of-parent.ensures.1 }, (here.below, sym c.sender_of-parent.ensures.0), omega (arith, room, b.end, b.same)),
    )

pub loop-place-preserved : goal.loop-place-preserved
loop-place-preserved t c =
    let a = c.args in
    let v = c.loop-place in
    let separator = rw (c.separator.ensures, c.in-Some.ensures.steps.1) at c.byte.ensures in
    let more = listing_turn a.s.now a.n a.t a.h c.requires.0 c.requires.1 a.text.now a.layers c.requires.2 c.node_and_time.new.text c.node_and_time.ensures v.text v.place-iterator.count (listed v.place-iterator.iter) v.invariant.2 c.in-Some.ensures.steps.0
    c.sender_of-parent.result c.parent_time-time.result c.byte.new.self c.listed.new.text c.sender_of-parent.ensures.0 (rw c.in-Some.ensures.steps.1 at c.parent_time-time.ensures) separator c.listed.ensures in
    grind (arith, common_steps)

pub byte-requires-2 : goal.byte-requires-2
byte-requires-2 t c =
    let a = c.args in
    let v = c.loop-place in
    listing_separator a.s.now a.n a.t a.h c.requires.0 c.requires.1 a.text.now a.layers c.requires.2 c.node_and_time.new.text c.node_and_time.ensures v.text v.place-iterator.count (listed v.place-iterator.iter) v.invariant.2

pub returns : goal.returns
returns t c =
    let a = c.args in
    let v = c.loop-place in
    listing_end a.s.now a.n a.t a.h c.requires.0 c.requires.1 a.text.now a.layers c.requires.2 c.node_and_time.new.text c.node_and_time.ensures v.text v.place-iterator.count (listed v.place-iterator.iter) v.invariant.2 c.byte-2.new.self c.in-None.ensures.steps.0.0 c.byte-2.ensures
