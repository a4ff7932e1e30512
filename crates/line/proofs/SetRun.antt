-- No step reads a set, on bytes; and a set is one byte of its slot.
use mathlib.Core.Path.{sym, ap, ◌∙◌}
use Rattle.rules.specs.Step.{Answer}
use Rattle.rules.specs.Sets.{without_sets, answer_without_sets}
use Rattle.rules.proofs.WithoutSets.{step-without_sets}
use Rattle.state.specs.State.{line_of}
use Rattle.state.proofs.PieceLaws.{set_in_slot}
use Rattle.line.specs.Sets.{StepWithoutSetsOnBytes, SetsOwnByte}
use Rattle.line.proofs.StepLaws.{one_call}

pub step_without_sets_on_bytes : StepWithoutSetsOnBytes
unfolding answer_without_sets
step_without_sets_on_bytes s f bytes z =
    let call = one_call s f bytes z in
    let same = sym (step-without_sets (line_of s) f) in
    record { number = call.number ∙ ap (λ (a : Answer). a.number) same; left = ap without_sets call.line ∙ ap (λ (a : Answer). a.line) same }

pub sets_own_byte : SetsOwnByte
sets_own_byte e small = set_in_slot e small
