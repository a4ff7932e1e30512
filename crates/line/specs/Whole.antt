-- The whole state as the check goes over it. `check_answer` of the proofs says that it is `state_answer`; the outer contract does not rest on believing this.
use Rattle.std.specs.Prelude.{ℕ, ◌+◌, ◌*◌, ◌-◌, ◌<◌, ◌≡◌, Bool, true, false, ◌&&◌, List, take, eqb}
use Rattle.std.specs.declared.option.Option.{Option}
use Rattle.std.specs.declared.option.Option.TheVariants.{None, Some}
use Rattle.plan.specs.Plan.{plan_of, size_by_head, plan_nodes, plan_channels, channel_at}
use Rattle.plan.specs.Check.{plan_refusal}
use Rattle.rules.specs.Lists.{all_of, up_to}
use Rattle.rules.specs.Line.{Line, accepted_steps}
use Rattle.state.specs.Sizes.{plan_area, steps_at, steps_size, steps_rest, page_at, page_size, node_pages, block_at, block_size, lane_blocks, tail_at, tail_size}
use Rattle.state.specs.Right.{NodeRight}
use Rattle.state.specs.Lane.{heard_count}
use Rattle.state.specs.State.{line_of}
use Rattle.items.specs.Items.{node_plain, restart_right, channel_right, steps_right}
use Rattle.buffer.specs.Exact.{zero_at, page_exact, block_exact}

-- The stored plan would not be refused, and nothing stands behind it.
unfoldable pub plan_exact : List ℕ → Bool
plan_exact s =
    let size = size_by_head s in
    eqb (plan_refusal (take size s)) 0 && zero_at size (plan_area - size) s

-- Nothing stands behind the counts of steps, in the pages of nodes and the blocks of channels that the plan does not have, and at the end.
unfoldable pub rest_exact : List ℕ → Bool
rest_exact s =
    zero_at (steps_at + steps_size) steps_rest s && zero_at (page_at (plan_nodes s)) (page_size * (node_pages - plan_nodes s)) s
    && zero_at (block_at (plan_channels s)) (block_size * (lane_blocks - plan_channels s)) s && zero_at tail_at tail_size s

-- Every node's page has right bytes, so its counts are within their limits.
abbrev pub PagesRight : List ℕ → Type 0
PagesRight s = (k : ℕ) → k < plan_nodes s → NodeRight (page_at k) s

unfoldable pub node_checked : List ℕ → ℕ → Bool
unfolding page_exact node_plain
node_checked s n = page_exact (page_at n) s && node_plain (line_of s) n

unfoldable pub channel_checked : List ℕ → ℕ → Bool
unfolding block_exact channel_right heard_count
channel_checked s b = block_exact (heard_count (plan_of s) (channel_at (plan_of s) b)) (block_at b) s && channel_right (line_of s) b

-- All of it, of a state of the right size.
unfoldable pub state_checked : List ℕ → Bool
unfolding plan_exact rest_exact node_checked channel_checked restart_right
state_checked s =
    plan_exact s && rest_exact s && steps_right (line_of s).steps && all_of (node_checked s) (up_to 0 (plan_nodes s)) && all_of (channel_checked s) (up_to 0 (plan_channels s))
    && all_of (restart_right (line_of s)) (up_to 0 (plan_nodes s))

-- All accepted steps, or none where those of some console are past the limit.
abbrev pub AllSteps : Line → Option ℕ → Type 0
AllSteps l None = steps_right l.steps ≡ false
AllSteps l (Some n) = (steps_right l.steps ≡ true) × (n ≡ accepted_steps l)
