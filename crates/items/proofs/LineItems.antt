-- A line is damaged exactly if it is not right item by item.
use Prim.Native.Nat.{ℕ, zero, suc, ◌+◌, ◌<◌}
use mathlib.Core.Path.{◌≡◌, refl, ap, ◌∙◌}
use mathlib.Core.Logic.{inl, inr}
use mathlib.Core.Bool.{Bool, true, false, not, ◌&&◌, ◌||◌, or-true}
use native.Mathlib.Omega.{arith}
use lib.ListN.{length}
use lib.Dec.{leb, eqb, ltb}
use Rattle.plan.specs.Plan.{node_count, channel_count}
use Rattle.plan.specs.Check.{plan_fits}
use Rattle.rules.specs.Lists.{all_of, up_to, any_of}
use Rattle.rules.specs.Line.{step_limit, Line, lane_at, node_numbers, channel_numbers_of, sender_of, parents, console_count}
use Rattle.rules.specs.Damaged.{some_node, some_channel, plan_broken, misshapen, steps_past, node_damaged, channel_damaged, damaged}
use Rattle.rules.proofs.Lists.Members.{In, in_none, in_first}
use Rattle.items.specs.Items.{shape_right, node_right, channel_right, line_right, steps_right}
use Rattle.items.proofs.Tests.{above, any_opposite}
use Rattle.items.proofs.Origins.{Formed, formed}
use Rattle.items.proofs.NodeItems.{node_items}
use Rattle.items.proofs.ChannelItems.{channel_items}
use mathlib.Core.List.{List}

up_to_in : (k n : ℕ) {i : ℕ} → In i (up_to k n) → i < k + n
up_to_in k zero i = absurd (in_none i)
up_to_in k (suc n) i = elim (in_first i) [ inl q ↦ omega arith | inr j ↦ omega (arith, up_to_in (suc k) n j) ]

pub shape_items : (l : Line) → misshapen l ≡ not (shape_right l)
unfolding misshapen shape_right
shape_items l =
    ap (λ (t : Bool). not steps || not nodes || not lanes || t || any_of (λ (b : ℕ). not (low b)) (channel_numbers_of l)) (any_opposite (λ (b : ℕ). not (heard b)) heard (channel_numbers_of l) (λ b i. refl))
    ∙ ap (λ (t : Bool). not steps || not nodes || not lanes || not (all_of heard (channel_numbers_of l)) || t) (any_opposite (λ (b : ℕ). not (low b)) low (channel_numbers_of l) (λ b i. refl))
    ∙ one steps nodes lanes (all_of heard (channel_numbers_of l)) (all_of low (channel_numbers_of l))
  where
    steps : Bool
    steps = eqb (length l.steps) console_count

    nodes : Bool
    nodes = eqb (length l.nodes) (node_count l.plan)

    lanes : Bool
    lanes = eqb (length l.lanes) (channel_count l.plan)

    heard : ℕ → Bool
    heard b = eqb (length (lane_at l b).heard) (length (parents l.plan (sender_of l b)))

    low : ℕ → Bool
    low b = eqb (length (lane_at l b).low) (suc (length (parents l.plan (sender_of l b))))

    one : (s a b c d : Bool) → (not s || not a || not b || not c || not d) ≡ not (s && a && b && c && d)
    one true true true true d = refl
    one true true true false d = refl
    one true true false c d = refl
    one true false b c d = refl
    one false a b c d = refl

steps_items : (counts : List ℕ) → any_of (ltb step_limit) counts ≡ not (steps_right counts)
steps_items counts = any_opposite (ltb step_limit) (λ (k : ℕ). leb k step_limit) counts (λ k i. above k step_limit)

nodes_items : (l : Line) → Formed l → some_node l (node_damaged l) ≡ not (all_of (node_right l) (node_numbers l))
nodes_items l line = any_opposite (node_damaged l) (node_right l) (node_numbers l) (λ n i. node_items l line n (omega (arith, up_to_in 0 (node_count l.plan) i)))

channels_items : (l : Line) → some_channel l (channel_damaged l) ≡ not (all_of (channel_right l) (channel_numbers_of l))
channels_items l = any_opposite (channel_damaged l) (channel_right l) (channel_numbers_of l) (λ b i. channel_items l b)

-- The parts, of which the nodes' rests on the plan, the shape and the channels'.
parts : (fits shape steps nodes channels broken : Bool) → (fits ≡ true → shape ≡ true → channels ≡ true → broken ≡ not nodes) → (not fits || not shape || not steps || broken || not channels) ≡ not (fits && shape && steps && nodes && channels)
parts false shape steps nodes channels broken h = refl
parts true false steps nodes channels broken h = refl
parts true true false nodes channels broken h = refl
parts true true true true true broken h = ap (λ (t : Bool). t || false) (h refl refl refl)
parts true true true false true broken h = ap (λ (t : Bool). t || false) (h refl refl refl)
parts true true true true false broken h = or-true broken
parts true true true false false broken h = or-true broken

pub line_items : (l : Line) → damaged l ≡ not (line_right l)
unfolding damaged line_right plan_broken steps_past
line_items l =
    rw (shape_items l, steps_items l.steps, channels_items l)
    (parts (plan_fits l.plan) (shape_right l) (steps_right l.steps) (all_of (node_right l) (node_numbers l)) (all_of (channel_right l) (channel_numbers_of l)) (some_node l (node_damaged l))
    (λ fits shape channels. nodes_items l (formed l fits (shape_items l ∙ ap not shape) channels)))
