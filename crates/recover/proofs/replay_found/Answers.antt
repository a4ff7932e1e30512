use Rattle.std.proofs.Common.{not, ◌&&◌, eqb, ap, sym, ◌∙◌, ◌<◌, ◌≤◌, ◌≡◌, length, arith, eqb-true}
use Rattle.std.proofs.lemmas.Bool.{eqb-false}
use Rattle.rules.specs.Line.{node_at}
use Rattle.rules.specs.Recover.{targets_of}
use Rattle.rules.specs.Damaged.{same_targets}
use Rattle.state.specs.State.{line_of}
use Rattle.recover.specs.Found.{targets_in, no_outcome}
use Rattle.recover.proofs.TargetLaws.{targets_length}
use Rattle.recover.proofs.ReplayLaws.{replay_none, replay_some}
use Rattle.recover.proofs.replay_found.Goals as goal

pub returns-then-is_empty : goal.returns-then-is_empty
returns-then-is_empty c =
    let a = c.args in
    let gs = c.all-targets.result.now in
    let none : length gs ≡ 0 = eqb-true (length gs) 0 (sym c.if-is_empty.ensures) in
    replay_none (line_of a.s.now) a.n (omega (arith, none, ap length (c.all-targets.ensures.0 ∙ c.requires.3.targets), targets_length gs))

pub returns : goal.returns
returns c =
    let a = c.args in
    let l = line_of a.s.now in
    let found = c.requires.3 in
    let gs = c.all-targets.result.now in
    let is : targets_in gs ≡ targets_of l a.n = c.all-targets.ensures.0 ∙ found.targets in
    let some : length gs ≡ 0 → ⊥ = eqb-false (length gs) 0 (sym c.if-is_empty.ensures) in
    let many : 0 < length (targets_of l a.n) = omega (arith, some, ap length is, targets_length gs) in
    let few : length (targets_of l a.n) ≤ 64 = omega (arith, c.all-targets.ensures.1, ap length is, targets_length gs) in
    let none = c.has_no_outcome.ensures.outcome ∙ ap (no_outcome l a.n) found.targets in
    let same = c.same_targets.ensures ∙ ap (same_targets (node_at l a.n).targets) is in
    (λ j. not (none j) && eqb (c.time_of.ensures j) (found.low j) && same j) ∙ replay_some l a.n many few
