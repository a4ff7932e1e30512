use Prim.Native.Nat.{ℕ}
use mathlib.Core.Path.{◌≡◌, refl, ◌∙◌}
use mathlib.Core.List.{List}
use native.Mathlib.Omega.{arith}
use lib.ListN.{length}
use Rattle.plan.specs.Plan.{plan_of, channel_at, entering}
use Rattle.state.specs.Lane.{heard_count}
use Rattle.buffer.specs.Ready.{OnChannel}
use Rattle.state.proofs.PlanFitting.{few_heard}
use Rattle.buffer.proofs.ReadyLaws.{heard_entering}
use Rattle.channel_check.specs.Channel.{Ends, QueueFits}
use Rattle.channel_check.proofs.ChannelLaws.{down_ends}
use Rattle.channel_check.proofs.BlockCheck.{too_many_lem, block_tested}
use Rattle.channel_check.proofs.channel_ok.Goals as goal

pub returns-then-count-gt-QUEUE_LIMIT : goal.returns-then-count-gt-QUEUE_LIMIT
returns-then-count-gt-QUEUE_LIMIT c =
    let a = c.args in
    let s = a.joins.now.state.now in
    too_many_lem s a.b (heard_count (plan_of s) (channel_at (plan_of s) a.b)) c.get32-count.result c.get32-count.ensures (omega arith)

-- So many are heard as channels enter the sender.
parents_heard : (s : List ℕ) (b sender heard : ℕ) → OnChannel s b → sender ≡ (channel_at (plan_of s) b).sender → heard ≡ length (entering (plan_of s) sender) → heard ≡ heard_count (plan_of s) (channel_at (plan_of s) b)
parents_heard s b sender heard on e f = f ∙ rw e (heard_entering s b on)

pub invariant_of-block : goal.invariant_of-block
invariant_of-block c =
    let a = c.args in
    let s = a.joins.now.state.now in
    let on : OnChannel s a.b = record { ready = a.joins.now.ready; below = c.requires.0 } in
    let ends : Ends s a.b c.sender_of-sender.result c.receiver_of-receiver.result = record { on = on; from = c.sender_of-sender.ensures.0; to = c.receiver_of-receiver.ensures.0; from_inside = c.sender_of-sender.ensures.1; to_inside = c.receiver_of-receiver.ensures.1 } in
    record { start = refl; ends = ends; down = c.end_down.ensures ∙ down_ends s a.b c.sender_of-sender.result c.receiver_of-receiver.result ends; all = c.requires.1 }

pub most_heard-most-requires : goal.most_heard-most-requires
most_heard-most-requires c =
    let a = c.args in
    parents_heard a.joins.now.state.now a.b c.sender_of-sender.result c.parents-heard.result (record { ready = a.joins.now.ready; below = c.requires.0 }) c.sender_of-sender.ensures.0 c.parents-heard.ensures

pub zeros_ok-zeros-requires : goal.zeros_ok-zeros-requires
zeros_ok-zeros-requires c =
    let a = c.args in
    let s = a.joins.now.state.now in
    let on : OnChannel s a.b = record { ready = a.joins.now.ready; below = c.requires.0 } in
    (record { on = on; same = c.get32-count.ensures; few = omega arith }, rw (parents_heard s a.b c.sender_of-sender.result c.parents-heard.result on c.sender_of-sender.ensures.0 c.parents-heard.ensures) (few_heard s on.ready.fits a.b on.below))

pub returns : goal.returns
returns c =
    let a = c.args in
    let s = a.joins.now.state.now in
    let on : OnChannel s a.b = record { ready = a.joins.now.ready; below = c.requires.0 } in
    let fits : QueueFits s a.b c.get32-count.result = record { on = on; same = c.get32-count.ensures; few = omega arith } in
    let many = parents_heard s a.b c.sender_of-sender.result c.parents-heard.result on c.sender_of-sender.ensures.0 c.parents-heard.ensures in
    rw (← many)
    (block_tested s a.b c.parents-heard.result c.get32-count.result a.steps c.get32-mark.result c.most_heard-most.result c.zeros_ok-zeros.result c.queue_ok-queue.result c.ends_ok-ends.result c.low_ok-low.result c.requires.1 fits many c.get32-mark.ensures c.most_heard-most.ensures c.zeros_ok-zeros.ensures c.queue_ok-queue.ensures c.ends_ok-ends.ensures c.low_ok-low.ensures)
