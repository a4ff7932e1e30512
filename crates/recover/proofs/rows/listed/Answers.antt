use Rattle.std.proofs.Common.{arith, ap, ◌∙◌, ◌≤◌, ℕ, length, get_or}
use Rattle.std.proofs.lemmas.Grind.{common_steps}
use Rattle.plan.specs.Plan.{plan_of, channel_at}
use Rattle.plan.specs.Mask.{listed}
use Rattle.buffer.proofs.ReadyLaws.{few_enter, sender_inside}
use Rattle.recover.proofs.ListedLaws.{listed_start, listed_on, listed_turn}
use Rattle.recover.proofs.rows.listed.Goals as goal

pub loop-place-init-derived : goal.loop-place-init-derived
loop-place-init-derived c =
    let few : length (listed c.entering.result) ≤ 4 = rw (c.entering.ensures.few c.requires.0.channels) (few_enter c.requires.0 c.args.n c.requires.1) in
    grind (arith, common_steps)

pub loop-place-init : goal.loop-place-init
loop-place-init c =
    let start = listed_start c.args.s.now c.args.n c.requires.0 c.requires.1 in
    let all = c.entering.ensures.few c.requires.0.channels in
    grind (arith, common_steps)

pub loop-place-preserved : goal.loop-place-preserved
loop-place-preserved c =
    let s = c.args.s.now in
    let t = c.loop-place in
    let b = c.in-Some.b in
    let first = c.in-Some.ensures.steps.0 in
    let on = listed_on s c.args.n (listed t.place-iterator.iter) (listed c.next.new.self.iter) t.place-iterator.count t.out b t.invariant.2 first c.requires.0 in
    let is = ap (λ (q : ℕ). get_or c.args.entries.now q 0) c.sender_of.ensures.0 ∙ c.requires.2.each (channel_at (plan_of s) b).sender (omega (arith, sender_inside s b on, c.requires.0.nodes)) in
    let more = listed_turn s c.args.n (listed t.place-iterator.iter) (listed c.next.new.self.iter) t.place-iterator.count t.out b t.invariant.2 first (get_or c.args.entries.now c.sender_of.result 0) is in
    grind (arith, common_steps)
