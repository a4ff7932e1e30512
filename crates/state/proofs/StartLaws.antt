-- The bytes of the line that a plan starts as: the plan's own, and 0 behind them.
use Prim.Native.Nat.{ℕ, zero, suc, ◌+◌, ◌*◌, ◌-◌, ◌≤◌}
use mathlib.Core.Path.{◌≡◌, refl, sym, ap, ◌∙◌}
use mathlib.Core.List.{List, [], ◌∷◌, ◌++◌, map, append_assoc}
use native.Mathlib.Omega.{arith}
use lib.ListN.{length, take, replicate, length-append, replicate-append-replicate}
use Rattle.plan.specs.declared.Channel.{Channel}
use Rattle.plan.specs.Layout.{Layout, pair, slots, padded, write_slots, fields}
use Rattle.plan.specs.Lawful.{Bytes, Zeros}
use Rattle.plan.specs.Plan.{Plan, node_count, channel_count, plan_layout, head_numbers, plan_bytes, plan_of, plan_size}
use Rattle.plan.specs.Check.{plan_refusal}
use Rattle.plan.proofs.CheckLaws.{accepted}
use Rattle.plan.proofs.PlanLaws.{plan-written, node_count_lem, channel_count_lem}
use Rattle.rules.specs.Line.{Lane, fresh_node, fresh_lane, initial_line, parents, only_count}
use Rattle.state.specs.Sizes.{state_size, page_size, block_size, steps_widths, steps_size, plan_area, steps_rest, node_pages, lane_blocks, tail_size, parent_limit, low_limit}
use Rattle.state.specs.Node.{node_layout}
use Rattle.rules.specs.Trim.{with_low}
use Rattle.state.specs.Lane.{lane_layout, with_heard, pad_lane}
use Rattle.state.specs.State.{steps_part, nodes_part, lanes_part, line_bytes}
use Rattle.state.proofs.ListLaws.{zeros-many, zeros-append, all_zero, take-replicate}
use Rattle.state.proofs.LineLaws.{line_long}

-- ---- bytes that are all 0

padded-zeros : {A : Type 0} (l : Layout A) (n : ℕ) (a : A) → Zeros (l.write a) → Zeros ((padded n l).write a)
unfolding padded
padded-zeros l n a h = zeros-append (l.write a) (replicate n 0) h (zeros-many n)

module _ {A B : Type 0} (l : Layout A) (k : Layout B) where
  pair-zeros : (a : A) (b : B) → Zeros (l.write a) → Zeros (k.write b) → Zeros ((pair l k).write (a, b))
  unfolding pair
  pair-zeros a b h j = zeros-append (l.write a) (k.write b) h j

  -- Bytes that are 0 behind a first part.
  zeros-behind : (n t : ℕ) (a : A) (b : B) → Zeros (k.write b) → (rest : List ℕ) × (((padded t (pair (padded n l) k)).write (a, b) ≡ l.write a ++ rest) × Zeros rest)
  unfolding padded
  zeros-behind n t a b h = (
    replicate n 0 ++ (k.write b ++ replicate t 0),
    (
      append_assoc (l.write a ++ replicate n 0) (k.write b) (replicate t 0) ∙ append_assoc (l.write a) (replicate n 0) (k.write b ++ replicate t 0),
      zeros-append (replicate n 0) (k.write b ++ replicate t 0) (zeros-many n) (zeros-append (k.write b) (replicate t 0) h (zeros-many t)),
    ),
  )

-- ---- the parts of a fresh line

pub fresh_node_lem : node_layout.write fresh_node ≡ replicate page_size 0
unfolding node_layout
fresh_node_lem = refl

nodes_zero : (n : ℕ) → Zeros (write_slots node_layout n (replicate n fresh_node))
nodes_zero zero = tt
nodes_zero (suc n) = zeros-append (node_layout.write fresh_node) (write_slots node_layout n (replicate n fresh_node)) (rw fresh_node_lem (zeros-many page_size)) (nodes_zero n)

padded_zero : (n : ℕ) → take {A = ℕ} parent_limit (replicate n 0 ++ replicate parent_limit 0) ≡ replicate parent_limit 0
padded_zero n = ap (take parent_limit) (replicate-append-replicate n parent_limit 0) ∙ take-replicate parent_limit (n + parent_limit) 0 (omega arith)

low_zero : (n : ℕ) → take {A = ℕ} low_limit (replicate n 0 ++ replicate low_limit 0) ≡ replicate low_limit 0
low_zero n = ap (take low_limit) (replicate-append-replicate n low_limit 0) ∙ take-replicate low_limit (n + low_limit) 0 (omega arith)

abbrev empty_lane : Lane
empty_lane = record { mark = 0; taken = 0; heard = replicate parent_limit 0; queue = []; low = replicate low_limit 0 }

empty_written : lane_layout.write empty_lane ≡ replicate block_size 0
unfolding lane_layout
empty_written = refl

fresh_padded : (p : Plan) (c : Channel) → pad_lane (fresh_lane p c 0) ≡ empty_lane
unfolding pad_lane fresh_lane
fresh_padded p c = let n = length (parents p c.sender) in λ i. with_low (low_zero (suc n) i) (with_heard (padded_zero n i) empty_lane)

pub fresh_lane_lem : (p : Plan) (c : Channel) → lane_layout.write (pad_lane (fresh_lane p c 0)) ≡ replicate block_size 0
fresh_lane_lem p c = ap lane_layout.write (fresh_padded p c) ∙ empty_written

lanes_zero : (p : Plan) (cs : List Channel) → Zeros (write_slots lane_layout (length cs) (map pad_lane (map (λ (c : Channel). fresh_lane p c 0) cs)))
lanes_zero p [] = tt
lanes_zero p (c ∷ cs) =
    zeros-append (lane_layout.write (pad_lane (fresh_lane p c 0))) (write_slots lane_layout (length cs) (map pad_lane (map (λ (d : Channel). fresh_lane p d 0) cs)))
    (rw (fresh_lane_lem p c) (zeros-many block_size)) (lanes_zero p cs)

steps_zero : Zeros (steps_part.write (only_count 0))
unfolding steps_part
steps_zero = padded-zeros (fields steps_widths) steps_rest (only_count 0) (zeros-many steps_size)

nodes_part_zero : (n : ℕ) → Zeros ((nodes_part n).write (replicate n fresh_node))
unfolding nodes_part
nodes_part_zero n = padded-zeros (slots n node_layout) ((node_pages - n) * page_size) (replicate n fresh_node) (nodes_zero n)

lanes_part_zero : (p : Plan) → Zeros ((lanes_part (channel_count p)).write (map pad_lane (map (λ (c : Channel). fresh_lane p c 0) p.channels)))
unfolding lanes_part
lanes_part_zero p =
    let m = channel_count p in
    padded-zeros (slots m lane_layout) ((lane_blocks - m) * block_size) (map pad_lane (map (λ (c : Channel). fresh_lane p c 0) p.channels)) (lanes_zero p p.channels)

-- ---- the whole

behind-plan : (p : Plan) → (rest : List ℕ) × ((line_bytes (initial_line p) ≡ plan_bytes p ++ rest) × Zeros rest)
unfolding line_bytes plan_bytes initial_line
behind-plan p =
    let n = node_count p in
    let m = channel_count p in
    let xs = replicate n fresh_node in
    let ls = map pad_lane (map (λ (c : Channel). fresh_lane p c 0) p.channels) in
    zeros-behind (plan_layout p.version n m) (pair steps_part (pair (nodes_part n) (lanes_part m))) (plan_area - plan_size p.version n m) tail_size (head_numbers p, p) (only_count 0, (xs, ls))
    (pair-zeros steps_part (pair (nodes_part n) (lanes_part m)) (only_count 0) (xs, ls) steps_zero
    (pair-zeros (nodes_part n) (lanes_part m) xs ls (nodes_part_zero n) (lanes_part_zero p)))

start_long : (p : Plan) → node_count p ≤ node_pages → channel_count p ≤ lane_blocks → length (line_bytes (initial_line p)) ≡ state_size
unfolding initial_line
start_long p h k = line_long (initial_line p) h k

-- What Load writes: the plan, and every other byte 0.
pub start_bytes : (s : List ℕ) → plan_refusal s ≡ 0 → Bytes s → line_bytes (initial_line (plan_of s)) ≡ s ++ replicate (state_size - length s) 0
start_bytes s z h =
    let p = plan_of s in
    let a = accepted s z in
    let r = behind-plan p in
    let split : line_bytes (initial_line p) ≡ s ++ r.0 = r.1.0 ∙ ap (λ (t : List ℕ). t ++ r.0) (plan-written s h z) in
    let whole : length (line_bytes (initial_line p)) ≡ state_size = start_long p (rw node_count_lem a.nodes_most) (rw channel_count_lem a.channels_most) in
    let long : length r.0 ≡ state_size - length s = omega (arith, sym (ap length split) ∙ whole, length-append s r.0) in
    split ∙ ap (λ (t : List ℕ). s ++ t) (all_zero r.0 r.1.1 ∙ ap (λ (k : ℕ). replicate k 0) long)
