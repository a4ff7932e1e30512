-- Time only for what leaves, on bytes.
use Prim.Native.Nat.{◌+◌}
use mathlib.Core.Path.{◌≡◌, sym, ap, subst, ◌∙◌}
use mathlib.Core.Bool.{false}
use lib.ListN.{take, drop}
use Rattle.plan.specs.Plan.{plan_of}
use Rattle.rules.specs.Line.{one_more, counted}
use Rattle.rules.specs.Frame.{frame_console}
use Rattle.rules.specs.Step.{Answer}
use Rattle.rules.specs.Claim.{Story, named}
use Rattle.rules.specs.Times.{TimeCounts}
use Rattle.rules.proofs.Steps.QuietFeed.{quiet_feed}
use Rattle.rules.proofs.Steps.SilentTake.{silent_take}
use Rattle.rules.proofs.Theorem.TimesCount.{times_count}
use Rattle.state.specs.Sizes.{steps_at, steps_size}
use Rattle.state.specs.State.{line_bytes, line_of}
use Rattle.state.proofs.SpelledLaws.{state_sane}
use Rattle.state.proofs.AcceptedState.{sane_fits}
use Rattle.line.specs.Step.{step_left}
use Rattle.line.specs.Times.{QuietFeedOnBytes, SilentTakeOnBytes, TimesCountOnBytes}
use Rattle.line.proofs.StepLaws.{one_call}
use Rattle.line.proofs.StepRun.{run_of_lines}
use Rattle.line.proofs.ConsoleRun.{outside_same, counts_on_bytes}

pub quiet_feed_on_bytes : QuietFeedOnBytes
unfolding counted
quiet_feed_on_bytes state f n r bytes z formed left asks inside source fits quiet =
    let l = line_of state in
    let sane = (state_sane state).0 z in
    let call = one_call state f bytes z in
    let done = quiet_feed l f n r formed left asks inside source fits quiet in
    let is : step_left state f ≡ line_bytes (counted (frame_console f) l) = call.left ∙ ap (λ (a : Answer). line_bytes a.line) done in
    let (before, behind) = outside_same l (sane_fits state sane) (one_more (frame_console f) l.steps) in (
      call.number ∙ ap (λ (a : Answer). a.number) done,
      (ap (take steps_at) is ∙ sym before ∙ ap (take steps_at) sane.written, ap (drop (steps_at + steps_size)) is ∙ sym behind ∙ ap (drop (steps_at + steps_size)) sane.written),
      counts_on_bytes state f bytes z,
    )

pub silent_take_on_bytes : SilentTakeOnBytes
silent_take_on_bytes state f b m rest bytes z asks e first alive silent =
    let call = one_call state f bytes z in
    call.left ∙ ap line_bytes (silent_take (line_of state) f b m rest asks (sym call.number ∙ e) first alive silent)

pub times_count_on_bytes : TimesCountOnBytes
times_count_on_bytes plan lent frames n bytes each z inside =
    subst (λ (s : Story). named n s.crashes ≡ false → TimeCounts (plan_of plan) n s) (sym (run_of_lines plan lent frames bytes each z).story) (times_count plan frames n inside)
