use Rattle.std.proofs.Common.{ℕ, arith, ap, ◌∙◌, ◌+◌, ◌≤◌, length, get_or}
use Rattle.std.proofs.lemmas.Grind.{common_steps}
use Rattle.plan.specs.Mask.{listed}
use Rattle.rules.specs.Line.{lane_at}
use Rattle.state.specs.State.{line_of}
use Rattle.recover.proofs.LowLaws.{LowsTo, lows_none, lows_few, lows_start, lows_there, lows_turn}
use Rattle.recover.proofs.lows.lows_on.Goals as goal

pub returns-then-no_low : goal.returns-then-no_low
returns-then-no_low c =
    let a = c.args in
    lows_none a.s.now a.n a.b a.rows.now c.requires.2 (c.no_low.ensures c.if-no_low.true)

pub loop-place-init-derived : goal.loop-place-init-derived
loop-place-init-derived c =
    let few : length (listed c.entering.result) ≤ 4 = rw (c.entering.ensures.few c.requires.0.ready.channels) (lows_few c.args.s.now c.args.n c.args.b c.requires.0 c.requires.1 c.args.rows.now) in
    grind (arith, common_steps)

pub loop-place-init : goal.loop-place-init
loop-place-init c =
    let a = c.args in
    let all = c.entering.ensures.few c.requires.0.ready.channels in
    let few : length (listed c.entering.result) ≤ 4 = rw all (lows_few a.s.now a.n a.b c.requires.0 c.requires.1 a.rows.now) in
    let start : LowsTo a.s.now a.n a.b a.rows.now (listed c.entering.result) 0 a.rows.now = rw all (lows_start a.s.now a.n a.b c.requires.0 c.requires.1 a.rows.now c.requires.2) in
    grind (arith, common_steps)

pub low_clock_of-low-requires : goal.low_clock_of-low-requires
low_clock_of-low-requires c =
    let a = c.args in
    let t = c.loop-place in
    let there = lows_there a.s.now a.n a.b c.requires.0 c.requires.1 a.rows.now (listed t.place-iterator.iter) (listed c.next.new.self.iter) t.place-iterator.count t.rows c.in-Some.c t.invariant.2 c.in-Some.ensures.steps.0 in
    (c.requires.0.ready, c.requires.0.below, omega (arith, there, c.in-Some.ensures.steps.1))

pub loop-place-preserved : goal.loop-place-preserved
loop-place-preserved c =
    let a = c.args in
    let t = c.loop-place in
    let more = lows_turn a.s.now a.n a.b c.requires.0 c.requires.1 a.rows.now (listed t.place-iterator.iter) (listed c.next.new.self.iter) t.place-iterator.count t.rows c.in-Some.c t.invariant.2 c.in-Some.ensures.steps.0
    c.sender_of.result c.low_clock_of-low.result c.raise.new.rows c.sender_of.ensures.0 (c.low_clock_of-low.ensures ∙ ap (λ (i : ℕ). get_or (lane_at (line_of a.s.now) a.b).low (1 + i) 0) c.in-Some.ensures.steps.1) c.raise.ensures.1 in
    grind (arith, common_steps)
