-- The whole state: one layout writes a line into its bytes and reads it from them; and what damaged bytes are.
use Rattle.std.specs.Prelude.{ℕ, ◌*◌, ◌-◌, Bool, true, false, not, ◌&&◌, ◌||◌, List, [], ◌∷◌, map, length, eqb}
use Rattle.plan.specs.Layout.{Layout, fields, via, pair, slots, padded}
use Rattle.plan.specs.Plan.{Plan, node_count, channel_count, plan_layout, plan_size, plan_version, plan_nodes, plan_channels, head_numbers}
use Rattle.rules.specs.Line.{Node, Lane, Line}
use Rattle.rules.specs.Damaged.{damaged}
use Rattle.state.specs.Sizes.{state_size, page_size, plan_area, steps_widths, steps_rest, node_pages, lane_blocks, block_size, tail_size}
use Rattle.state.specs.Node.{node_layout}
use Rattle.state.specs.Lane.{lane_layout, pad_lane, cut_lane, heard_count, cut_lanes}

-- The parts of the state of a line whose plan is of a version and has N nodes and M channels: each is followed by what it leaves unused.
unfoldable pub plan_part : ℕ → ℕ → ℕ → Layout (List ℕ × Plan)
unfolding plan_layout plan_size padded
plan_part version n m = padded (plan_area - plan_size version n m) (plan_layout version n m)

unfoldable pub steps_part : Layout (List ℕ)
unfolding fields padded
steps_part = padded steps_rest (fields steps_widths)

unfoldable pub nodes_part : ℕ → Layout (List Node)
unfolding node_layout slots padded
nodes_part n = padded ((node_pages - n) * page_size) (slots n node_layout)

unfoldable pub lanes_part : ℕ → Layout (List Lane)
unfolding lane_layout slots padded
lanes_part m = padded ((lane_blocks - m) * block_size) (slots m lane_layout)

abbrev pub StateParts : Type 0
StateParts = (List ℕ × Plan) × (List ℕ × (List Node × List Lane))

abbrev pub line_seen : Line → StateParts
line_seen l = ((head_numbers l.plan, l.plan), (l.steps, (l.nodes, map pad_lane l.lanes)))

abbrev pub line_from : StateParts → Line
line_from p = record { plan = p.0.1; steps = p.1.0; nodes = p.1.1.0; lanes = cut_lanes p.0.1 p.0.1.channels p.1.1.1 }

unfoldable pub state_parts : ℕ → ℕ → ℕ → Layout StateParts
unfolding plan_part steps_part nodes_part lanes_part pair padded
state_parts version n m = padded tail_size (pair (plan_part version n m) (pair steps_part (pair (nodes_part n) (lanes_part m))))

unfoldable pub state_layout : ℕ → ℕ → ℕ → Layout Line
unfolding state_parts pad_lane cut_lane heard_count via
state_layout version n m = via (state_parts version n m) line_seen line_from

-- A line's bytes, and the line that bytes hold: the plan's head says which version it is, and how many nodes and channels there are.
unfoldable pub line_bytes : Line → List ℕ
unfolding state_layout
line_bytes l = (state_layout l.plan.version (node_count l.plan) (channel_count l.plan)).write l

unfoldable pub line_of : List ℕ → Line
unfolding state_layout plan_version plan_nodes plan_channels
line_of s = (state_layout (plan_version s) (plan_nodes s) (plan_channels s)).read s

abbrev pub same_bytes : List ℕ → List ℕ → Bool
same_bytes [] [] = true
same_bytes [] (b ∷ bs) = false
same_bytes (a ∷ s) [] = false
same_bytes (a ∷ s) (b ∷ t) = eqb a b && same_bytes s t

-- "an unused byte is not 0", and what reading cuts: counts past their limits, status and crash mark out of range, and in the stored plan its length and rule bytes that no rule has. The bytes are not those that their line is written as.
unfoldable pub unspelled : List ℕ → Bool
unfolding line_bytes line_of
unspelled s = not (same_bytes (line_bytes (line_of s)) s)

-- "Damaged", of bytes.
unfoldable pub state_damaged : List ℕ → Bool
unfolding unspelled damaged line_of
state_damaged s = unspelled s || damaged (line_of s)

-- 8: "state not 61,440 bytes, or (not for Load) damaged"
unfoldable pub state_answer : List ℕ → ℕ
unfolding state_damaged
state_answer s = elim (eqb (length s) state_size) [ true ↦ elim (state_damaged s) [ true ↦ 8 | false ↦ 0 ] | false ↦ 8 ]
