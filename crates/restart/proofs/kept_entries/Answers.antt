use Rattle.std.proofs.Common.{rules, arith, [], ◌≡◌, ◌+◌, ◌≤◌, length, get_or, set, replicate}
use Rattle.std.proofs.lemmas.Grind.{common_steps}
use Rattle.plan.specs.Mask.{listed}
use Rattle.buffer.specs.Rows.{rows_long}
use Rattle.buffer.proofs.ReadyLaws.{few_enter}
use Rattle.restart.proofs.KeptLaws.{KeptTo, kept_start, kept_turn, kept_end}
use Rattle.restart.proofs.kept_entries.Goals as goal

pub loop-place-init-derived : goal.loop-place-init-derived
loop-place-init-derived c =
    let few : length (listed c.entering.result) ≤ 4 = rw (c.entering.ensures.few c.requires.0.channels) (few_enter c.requires.0 c.args.n c.requires.1) in
    grind (arith, common_steps)

pub loop-place-init : goal.loop-place-init
loop-place-init c =
    let a = c.args in
    let all = c.entering.ensures.few c.requires.0.channels in
    let few : length (listed c.entering.result) ≤ 4 = rw all (few_enter c.requires.0 a.n c.requires.1) in
    let start : KeptTo a.s.now a.n a.kept.entries (listed c.entering.result) 0 (replicate rows_long 0) = rw all (kept_start a.s.now a.n c.requires.0 c.requires.1 a.kept.entries) in
    grind (arith, common_steps)

pub loop-place-preserved : goal.loop-place-preserved
loop-place-preserved c =
    let a = c.args in
    let t = c.loop-place in
    let b = c.in-Some.b in
    let steps = c.in-Some.ensures.steps in
    let turn = kept_turn a.s.now a.n c.requires.0 c.requires.1 a.kept.entries (listed t.place-iterator.iter) (listed c.next.new.self.iter) t.place-iterator.count t.entries b t.invariant.2 steps.0 in
    let more : KeptTo a.s.now a.n a.kept.entries (listed c.next.new.self.iter) (t.place-iterator.count + 1) (set t.entries c.sender_of.result (get_or a.kept.entries c.in-Some.place 0)) = rw (c.sender_of.ensures.0, steps.1) turn in
    grind (arith, common_steps)

pub returns : goal.returns
returns c =
    let a = c.args in
    let t = c.loop-place in
    let none : listed t.place-iterator.iter ≡ [] = search rules in
    (t.invariant.2.long, kept_end a.s.now a.n c.requires.0 c.requires.1 a.kept.entries (listed t.place-iterator.iter) t.place-iterator.count t.entries t.invariant.2 none)
