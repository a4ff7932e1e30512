-- The line that bytes hold, each part where it lies.
use Prim.Native.Nat.{ℕ, zero, suc, ◌+◌, ◌*◌, ◌-◌, ◌≤◌, ◌<◌}
use mathlib.Core.Path.{◌≡◌, refl, sym, ap, ap₂, ◌∙◌}
use mathlib.Core.List.{List, [], ◌∷◌}
use native.Mathlib.Omega.{arith}
use lib.ListN.{length, get_or, take, drop}
use lib.Seq.{drop-drop}
use Rattle.plan.specs.declared.Channel.{Channel}
use Rattle.plan.specs.Layout.{Layout, spelled, read_slots, pair, padded, read_fields}
use Rattle.plan.specs.Plan.{Plan, plan_of, plan_layout, plan_version, plan_nodes, plan_channels, plan_size, channel_at, no_channel}
use Rattle.plan.proofs.LayoutLaws.{length-read_slots, slot_at}
use Rattle.plan.proofs.PlanLaws.{plan_size-most, channel_count_lem}
use Rattle.rules.specs.Line.{Node, Lane, node_at, lane_at, fresh_node, no_lane}
use Rattle.state.specs.Sound.{Sound}
use Rattle.state.specs.Sizes.{page_size, plan_area, steps_at, node_pages, page_at, lane_blocks, block_size, blocks_at, block_at, tail_size, steps_widths, steps_of_at, steps_rest}
use Rattle.state.specs.Node.{node_layout}
use Rattle.state.specs.Lane.{lane_layout, cut_lane, heard_count, cut_lanes}
use Rattle.state.specs.State.{StateParts, plan_part, steps_part, nodes_part, lanes_part, state_parts, line_of}
use Rattle.state.proofs.SoundLaws.{slots_sound, pair_sound, fields_sound}
use Rattle.state.proofs.BlockLaws.{node_sound, lane_sound}
use Rattle.state.proofs.LineLaws.{plan_sound, plan_part_sound, steps_part_sound, nodes_part_sound, lanes_part_sound}
use Rattle.state.proofs.ReadLaws.{padded_read, pair_read}
use Rattle.state.specs.Right.{word_at}

-- ---- the parts

module _ {A B C D : Type 0} {a : Layout A} {b : Layout B} {c : Layout C} {d : Layout D} {FA : A → Type 0} {FB : B → Type 0} {FC : C → Type 0} {FD : D → Type 0}
    (sa : Sound a FA) (sb : Sound b FB) (sc : Sound c FC) (sd : Sound d FD) where
  four_read : (t : ℕ) (s : List ℕ)
      → (padded t (pair a (pair b (pair c d)))).read s
      ≡ (a.read s, (b.read (drop a.size s), (c.read (drop (a.size + b.size) s), d.read (drop (a.size + b.size + c.size) s))))
  four_read t s =
      padded_read (pair_sound sa (pair_sound sb (pair_sound sc sd))) t s
      ∙ pair_read sa (pair b (pair c d)) s
      ∙ ap (λ (x : B × (C × D)). (a.read s, x))
      (pair_read sb (pair c d) (drop a.size s)
      ∙ ap (λ (x : C × D). (b.read (drop a.size s), x))
      (ap (pair c d).read (drop-drop b.size a.size s) ∙ pair_read sc d (drop (a.size + b.size) s) ∙ (λ i. (c.read (drop (a.size + b.size) s), d.read (drop-drop c.size (a.size + b.size) s i)))))

-- The plan's head asks for no more nodes and channels than there is space for.
pub record Counted (s : List ℕ) : Type 0 where
  pub nodes : plan_nodes s ≤ node_pages
  pub channels : plan_channels s ≤ lane_blocks

module _ (v n m : ℕ) (h : n ≤ node_pages) (k : m ≤ lane_blocks) where
  pub plan_long : (plan_part v n m).size ≡ plan_area
  unfolding plan_part
  plan_long = omega (arith, plan_size-most v n m)

  pub steps_end : (plan_part v n m).size + steps_part.size ≡ page_size
  unfolding steps_part
  steps_end = omega (arith, plan_long)

  pub nodes_long : (nodes_part n).size ≡ node_pages * page_size
  unfolding nodes_part
  nodes_long = omega arith

  pub nodes_end : (plan_part v n m).size + steps_part.size + (nodes_part n).size ≡ blocks_at
  nodes_end = omega (arith, steps_end, nodes_long)

  parts_read : (s : List ℕ)
      → (state_parts v n m).read s ≡ ((plan_part v n m).read s, (steps_part.read (drop steps_at s), ((nodes_part n).read (drop page_size s), (lanes_part m).read (drop blocks_at s))))
  unfolding state_parts
  parts_read s = four_read (plan_part_sound v n m) steps_part_sound (nodes_part_sound n) (lanes_part_sound m) tail_size s
      ∙ (λ i. ((plan_part v n m).read s, (steps_part.read (drop (plan_long i) s), ((nodes_part n).read (drop (steps_end i) s), (lanes_part m).read (drop (nodes_end i) s)))))

plan_read_at : (v n m : ℕ) (s : List ℕ) → (plan_part v n m).read s ≡ (plan_layout v n m).read s
unfolding plan_part
plan_read_at v n m s = padded_read (plan_sound v n m) (plan_area - plan_size v n m) s

steps_read_at : (s : List ℕ) → steps_part.read s ≡ read_fields steps_widths s
unfolding steps_part
steps_read_at s = padded_read (fields_sound steps_widths) steps_rest s

nodes_read_at : (n : ℕ) (s : List ℕ) → (nodes_part n).read s ≡ read_slots node_layout n s
unfolding nodes_part
nodes_read_at n s = padded_read (slots_sound node_sound n) ((node_pages - n) * page_size) s

lanes_read_at : (m : ℕ) (s : List ℕ) → (lanes_part m).read s ≡ read_slots lane_layout m s
unfolding lanes_part
lanes_read_at m s = padded_read (slots_sound lane_sound m) ((lane_blocks - m) * block_size) s

-- ---- the line

-- The page of a node, and the block of a channel.
abbrev pub page_of : ℕ → List ℕ → List ℕ
page_of k s = take page_size (drop (page_at k) s)

abbrev pub block_of : ℕ → List ℕ → List ℕ
block_of b s = take block_size (drop (block_at b) s)

length_cut : (p : Plan) (cs : List Channel) (xs : List Lane) → length xs ≡ length cs → length (cut_lanes p cs xs) ≡ length cs
length_cut p [] xs e = refl
length_cut p (c ∷ cs) [] e = let no : ⊥ = omega arith in absurd no
length_cut p (c ∷ cs) (x ∷ xs) e = ap suc (length_cut p cs xs (omega arith))

cut_at : (p : Plan) (cs : List Channel) (xs : List Lane) → length xs ≡ length cs → (b : ℕ) → b < length cs → get_or (cut_lanes p cs xs) b no_lane ≡ cut_lane (heard_count p (get_or cs b no_channel)) (get_or xs b no_lane)
cut_at p [] xs e b h = let no : ⊥ = omega arith in absurd no
cut_at p (c ∷ cs) [] e b h = let no : ⊥ = omega arith in absurd no
cut_at p (c ∷ cs) (x ∷ xs) e zero h = refl
cut_at p (c ∷ cs) (x ∷ xs) e (suc b) h = cut_at p cs xs (omega arith) b (omega arith)

page_start : (k : ℕ) → page_size + k * page_size ≡ page_at k
page_start k = omega arith

block_start : (b : ℕ) → blocks_at + b * block_size ≡ block_at b
block_start b = omega arith

-- The counts of steps, one console's behind the other's.
abbrev pub counts_in : List ℕ → List ℕ
counts_in s = word_at (steps_of_at 0) s ∷ word_at (steps_of_at 1) s ∷ word_at (steps_of_at 2) s ∷ word_at (steps_of_at 3) s ∷ []

module _ (s : List ℕ) where
  abbrev v : ℕ
  v = plan_version s

  abbrev n : ℕ
  n = plan_nodes s

  abbrev m : ℕ
  m = plan_channels s

  -- The plan lies in front.
  pub line-plan : (line_of s).plan ≡ plan_of s
  unfolding line_of plan_of state_parts
  line-plan =
      ap (λ (x : StateParts). x.0.1) (four_read (plan_part_sound v n m) steps_part_sound (nodes_part_sound n) (lanes_part_sound m) tail_size s)
      ∙ ap (λ (x : List ℕ × Plan). x.1) (plan_read_at v n m s)

  module _ (few : Counted s) where
    parts : (state_parts v n m).read s ≡ ((plan_part v n m).read s, (steps_part.read (drop steps_at s), ((nodes_part n).read (drop page_size s), (lanes_part m).read (drop blocks_at s))))
    parts = parts_read v n m few.nodes few.channels s

    pub line-steps : (line_of s).steps ≡ read_fields steps_widths (drop steps_at s)
    unfolding line_of
    line-steps = ap (λ (x : StateParts). x.1.0) parts ∙ steps_read_at (drop steps_at s)

    -- Each console's count by its offset.
    pub line-counts : (line_of s).steps ≡ counts_in s
    line-counts =
        line-steps
        ∙ λ i. word_at steps_at s ∷ spelled 0 (take 4 (drop-drop 4 steps_at s i)) ∷ spelled 0 (take 4 ((ap (drop 4) (drop-drop 4 steps_at s) ∙ drop-drop 4 (steps_of_at 1) s) i))
        ∷ spelled 0 (take 4 ((ap (λ (t : List ℕ). drop 4 (drop 4 t)) (drop-drop 4 steps_at s) ∙ ap (drop 4) (drop-drop 4 (steps_of_at 1) s) ∙ drop-drop 4 (steps_of_at 2) s) i)) ∷ []

    pub line-nodes : (line_of s).nodes ≡ read_slots node_layout n (drop page_size s)
    unfolding line_of
    line-nodes = ap (λ (x : StateParts). x.1.1.0) parts ∙ nodes_read_at n (drop page_size s)

    pub line_lanes : (line_of s).lanes ≡ cut_lanes (plan_of s) (plan_of s).channels (read_slots lane_layout m (drop blocks_at s))
    unfolding line_of
    line_lanes = ap₂ (λ (p : Plan) (xs : List Lane). cut_lanes p p.channels xs) line-plan (ap (λ (x : StateParts). x.1.1.1) parts ∙ lanes_read_at m (drop blocks_at s))

    pub nodes-counted : length (line_of s).nodes ≡ n
    nodes-counted = ap length line-nodes ∙ length-read_slots node_layout n (drop page_size s)

    lanes_given : length (read_slots lane_layout m (drop blocks_at s)) ≡ length (plan_of s).channels
    lanes_given = length-read_slots lane_layout m (drop blocks_at s) ∙ sym (channel_count_lem s)

    pub lanes_counted : length (line_of s).lanes ≡ m
    lanes_counted = ap length line_lanes ∙ length_cut (plan_of s) (plan_of s).channels (read_slots lane_layout m (drop blocks_at s)) lanes_given ∙ channel_count_lem s

    -- Each node lies in its page, each lane in its block.
    pub node_in : (k : ℕ) → k < n → node_at (line_of s) k ≡ node_layout.read (page_of k s)
    unfolding node_layout
    node_in k h =
        ap (λ (xs : List Node). get_or xs k fresh_node) line-nodes
        ∙ slot_at node_layout n (drop page_size s) k fresh_node h
        ∙ ap (λ (t : List ℕ). node_layout.read (take page_size t)) (drop-drop (k * page_size) page_size s ∙ ap (λ (a : ℕ). drop a s) (page_start k))

    pub lane_in : (b : ℕ) → b < m → lane_at (line_of s) b ≡ cut_lane (heard_count (plan_of s) (channel_at (plan_of s) b)) (lane_layout.read (block_of b s))
    unfolding lane_layout
    lane_in b h =
        let c = heard_count (plan_of s) (channel_at (plan_of s) b) in
        ap (λ (xs : List Lane). get_or xs b no_lane) line_lanes
        ∙ cut_at (plan_of s) (plan_of s).channels (read_slots lane_layout m (drop blocks_at s)) lanes_given b (rw channel_count_lem h)
        ∙ ap (cut_lane c) (slot_at lane_layout m (drop blocks_at s) b no_lane h)
        ∙ ap (λ (t : List ℕ). cut_lane c (lane_layout.read (take block_size t))) (drop-drop (b * block_size) blocks_at s ∙ ap (λ (a : ℕ). drop a s) (block_start b))
