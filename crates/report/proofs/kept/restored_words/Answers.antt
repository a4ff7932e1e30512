use Prim.Native.Nat.{ℕ}
use mathlib.Core.Path.{ap}
use lib.ListN.{get_or}
use native.Mathlib.Omega.{arith}
use Rattle.std.proofs.lemmas.Grind.{common_steps}
use Rattle.plan.specs.Mask.{listed}
use Rattle.node_fields.specs.Kept.{kept_is}
use Rattle.report.proofs.ParentLaws.{four_parents, walking_at}
use Rattle.report.proofs.KeptLaws.{restoring_start, restoring_room, restoring_turn, restoring_end}
use Rattle.report.proofs.kept.restored_words.Goals as goal

pub loop-place-init : goal.loop-place-init
loop-place-init c =
    let a = c.args in
    let start = restoring_start a.s.now a.n c.requires.0 (kept_is a.kept) c.requires.1 a.text.now c.requires.2 in
    let four = four_parents a.s.now a.n c.requires.0 in
    let those = c.entering.ensures.few c.requires.0.holds.ready.channels in
    grind (arith, common_steps)

pub byte-requires : goal.byte-requires
byte-requires c =
    let a = c.args in
    let v = c.loop-place in
    let room = restoring_room a.s.now a.n c.requires.0 (kept_is a.kept) c.requires.1 a.text.now c.requires.2 v.text v.place-iterator.count (listed v.place-iterator.iter) v.invariant.2 c.in-Some.ensures.steps.0 in
    omega (arith, room)

pub offset_bounds-kept-place : goal.offset_bounds-kept-place
offset_bounds-kept-place c =
    let here = walking_at c.loop-place.invariant.2.walking c.in-Some.ensures.steps.0 in
    omega (arith, here.inside, four_parents c.args.s.now c.args.n c.requires.0, c.in-Some.ensures.steps.1)

pub bounds-kept-place : goal.bounds-kept-place
bounds-kept-place c =
    let here = walking_at c.loop-place.invariant.2.walking c.in-Some.ensures.steps.0 in
    omega (arith, here.inside, four_parents c.args.s.now c.args.n c.requires.0, c.in-Some.ensures.steps.1)

pub sender_of-requires : goal.sender_of-requires
sender_of-requires c = record { ready = c.requires.0.holds.ready; below = (walking_at c.loop-place.invariant.2.walking c.in-Some.ensures.steps.0).below }

pub node_and_time-requires : goal.node_and_time-requires
node_and_time-requires c =
    let a = c.args in
    let v = c.loop-place in
    let room = restoring_room a.s.now a.n c.requires.0 (kept_is a.kept) c.requires.1 a.text.now c.requires.2 v.text v.place-iterator.count (listed v.place-iterator.iter) v.invariant.2 c.in-Some.ensures.steps.0 in
    let b = c.byte.ensures.wrote in
    (omega (arith, c.sender_of.ensures.1, c.requires.0.holds.ready.nodes), omega (arith, room, b.end, b.same))

pub loop-place-preserved : goal.loop-place-preserved
loop-place-preserved c =
    let a = c.args in
    let v = c.loop-place in
    let more = restoring_turn a.s.now a.n c.requires.0 (kept_is a.kept) c.requires.1 a.text.now c.requires.2 v.text v.place-iterator.count (listed v.place-iterator.iter) v.invariant.2 c.in-Some.ensures.steps.0
    c.sender_of.result (get_or a.kept.entries c.in-Some.place 0) c.byte.new.self c.node_and_time.new.text c.sender_of.ensures.0 (ap (λ (k : ℕ). get_or a.kept.entries k 0) c.in-Some.ensures.steps.1) c.byte.ensures c.node_and_time.ensures in
    grind (arith, common_steps)

pub returns : goal.returns
returns c =
    let a = c.args in
    let v = c.loop-place in
    restoring_end a.s.now a.n c.requires.0 (kept_is a.kept) c.requires.1 a.text.now c.requires.2 v.text v.place-iterator.count (listed v.place-iterator.iter) v.invariant.2 c.in-None.ensures.steps.0.0
