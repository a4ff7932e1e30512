use Rattle.std.proofs.Common.{not, ◌&&◌, ap, ◌∙◌, ◌≤◌, ◌≡◌, length, arith}
use Rattle.rules.specs.Line.{node_at}
use Rattle.rules.specs.Recover.{targets_of, answer_of}
use Rattle.rules.specs.Damaged.{same_targets}
use Rattle.state.specs.State.{line_of}
use Rattle.node_fields.specs.Kept.{kept_is}
use Rattle.recover.specs.Found.{targets_in, no_outcome}
use Rattle.recover.proofs.TargetLaws.{targets_length}
use Rattle.recover.proofs.KeptLaws.{kept_same, answer_few}
use Rattle.recover.proofs.answer_found.Goals as goal

pub returns : goal.returns
returns c =
    let a = c.args in
    let l = line_of a.s.now in
    let found = c.requires.3 in
    let gs = c.all.result.now in
    let is : targets_in gs ≡ targets_of l a.n = c.all.ensures.0 ∙ found.targets in
    let few : length (targets_of l a.n) ≤ 64 = omega (arith, c.all.ensures.1, ap length is, targets_length gs) in
    let none = c.has_no_outcome.ensures.outcome ∙ ap (no_outcome l a.n) found.targets in
    let answer = kept_same a.kept c.eq.result c.answer.result (answer_of l a.n) c.eq.ensures c.answer.ensures in
    let same = c.same_targets.ensures ∙ ap (same_targets (node_at l a.n).targets) is in
    (λ j. not (none j) && answer j && same j) ∙ answer_few l a.n (kept_is a.kept) few
