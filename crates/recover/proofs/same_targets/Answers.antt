use Rattle.std.proofs.Common.{rules, arith, ◌+◌, ◌*◌, ◌≡◌, true, false, sym, ◌∙◌, get_or}
use Rattle.rules.specs.Recover.{same_target}
use Rattle.state.specs.Sizes.{page_at, targets_at}
use Rattle.slots.specs.declared.Goal.{Goal}
use Rattle.slots.specs.Slots.{target_is}
use Rattle.recover.proofs.ReplayLaws.{count_differs, same_next, other_next, same_end}
use Rattle.recover.proofs.same_targets.Goals as goal

pub returns-then-get32-targets : goal.returns-then-get32-targets
returns-then-get32-targets c =
    let a = c.args in
    let p = c.requires in
    count_differs a.s.now p.0 a.n p.1 p.2 a.targets.now (4096 * (1 + a.n) + 2832) (omega arith) (λ e. c.if-get32-targets.true (c.get32.ensures ∙ e))

pub returns-then-ne : goal.returns-then-ne
returns-then-ne c =
    let a = c.args in
    let p = c.requires in
    let t = c.loop-i in
    let d : Goal = record { time = 0; parent = 0; sent = 0 } in
    let place : 4096 * (1 + a.n) + 2832 ≡ page_at a.n + targets_at = omega arith in
    let same = sym c.get32.ensures ∙ c.if-get32-targets.false in
    let other : same_target (target_is c.read.result) (target_is (get_or a.targets.now t.i d)) ≡ false = search rules in
    other_next a.s.now p.0 a.n p.1 p.2 a.targets.now (4096 * (1 + a.n) + 2832) place same t.i (omega arith) c.read.result d t.invariant (4096 * (1 + a.n) + 2832 + 4 + 12 * t.i) (omega arith) c.read.ensures other

pub loop-i-preserved : goal.loop-i-preserved
loop-i-preserved c =
    let a = c.args in
    let p = c.requires in
    let t = c.loop-i in
    let d : Goal = record { time = 0; parent = 0; sent = 0 } in
    let place : 4096 * (1 + a.n) + 2832 ≡ page_at a.n + targets_at = omega arith in
    let same = sym c.get32.ensures ∙ c.if-get32-targets.false in
    let is : same_target (target_is c.read.result) (target_is (get_or a.targets.now t.i d)) ≡ true = search rules in
    same_next a.s.now p.0 a.n p.1 p.2 a.targets.now (4096 * (1 + a.n) + 2832) place same t.i (omega arith) c.read.result d t.invariant (4096 * (1 + a.n) + 2832 + 4 + 12 * t.i) (omega arith) c.read.ensures is

pub returns : goal.returns
returns c =
    let a = c.args in
    let p = c.requires in
    let t = c.loop-i in
    let place : 4096 * (1 + a.n) + 2832 ≡ page_at a.n + targets_at = omega arith in
    same_end a.s.now p.0 a.n p.1 p.2 a.targets.now (4096 * (1 + a.n) + 2832) place (sym c.get32.ensures ∙ c.if-get32-targets.false) t.i (omega arith) t.invariant
