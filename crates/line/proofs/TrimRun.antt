-- Trims change nothing that anybody receives, and make space, on bytes.
use Prim.Native.Nat.{◌+◌}
use mathlib.Core.Path.{◌≡◌, sym, ap, ◌∙◌}
use lib.ListN.{length}
use Rattle.plan.specs.Plan.{plan_of}
use Rattle.rules.specs.Line.{Line, initial_line, node_at}
use Rattle.rules.specs.Trim.{droppable, leading}
use Rattle.rules.specs.Claim.{Story, start_of, story_from}
use Rattle.rules.proofs.Trimming.Law.{trims_change_nothing}
use Rattle.rules.proofs.Trimming.Freed.{trim_frees, freed_are_used}
use Rattle.rules.proofs.Console.Counted.{step-number}
use Rattle.state.specs.State.{line_of}
use Rattle.line.specs.Load.{load_left}
use Rattle.line.specs.Order.{state_after, story_of}
use Rattle.line.specs.Trimming.{TrimsChangeNothingOnBytes, TrimFreesOnBytes, FreedAreUsedOnBytes}
use Rattle.line.proofs.LoadLaws.{load_accepted}
use Rattle.line.proofs.StepLaws.{answer_undamaged, one_call}
use Rattle.line.proofs.StepRun.{as_told, run_of_lines}

pub trims_change_nothing_on_bytes : TrimsChangeNothingOnBytes
unfolding story_of
trims_change_nothing_on_bytes plan lent before with without bytes each eachWith eachWithout z inserted all all' =
    let run = run_of_lines plan lent before bytes each z in
    let state = state_after (load_left plan lent) before in
    let l = (story_from (start_of (initial_line (plan_of plan))) before).line in
    let start : line_of state ≡ l = ap (λ (s : Story). s.line) run.story in
    let told = (as_told with state eachWith run.accepted).story ∙ ap (λ (k : Line). story_from (start_of k) with) start in
    let told' = (as_told without state eachWithout run.accepted).story ∙ ap (λ (k : Line). story_from (start_of k) without) start in
    ap (λ (s : Story). s.receipts) told
    ∙ trims_change_nothing plan before with without bytes each eachWithout (load_accepted plan lent z).0 inserted (ap (λ (s : Story). s.numbers) (sym told) ∙ all) (ap (λ (s : Story). s.numbers) (sym told') ∙ all')
    ∙ ap (λ (s : Story). s.receipts) (sym told')

pub trim_frees_on_bytes : TrimFreesOnBytes
trim_frees_on_bytes state n frame bytes z is e =
    let call = one_call state frame bytes z in
    ap (λ (k : Line). length (node_at k n).log + length (leading (droppable (line_of state) n) (node_at (line_of state) n).log)) call.line ∙ trim_frees (line_of state) n frame is (sym call.number ∙ e)

pub freed_are_used_on_bytes : FreedAreUsedOnBytes
freed_are_used_on_bytes state n frame z stands_up room logs e = freed_are_used (line_of state) n frame stands_up room logs (step-number (line_of state) frame ∙ sym (answer_undamaged state frame z) ∙ e)
