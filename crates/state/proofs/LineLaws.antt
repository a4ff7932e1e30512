-- A line that fits is read back from its bytes.
use Prim.Native.Nat.{ℕ, ◌*◌, ◌-◌, ◌≤◌}
use mathlib.Core.Path.{◌≡◌, refl, ap, subst, ◌∙◌}
use mathlib.Core.Bool.{true}
use native.Mathlib.Omega.{arith}
use lib.ListN.{length, length-map}
use Rattle.plan.specs.Lawful.{Bytes, FieldsFit, SlotsFit}
use Rattle.plan.specs.Rule.{rule_widths, rule_of, rule_layout}
use Rattle.plan.specs.Channel.{channel_widths, channel_of, channel_layout}
use Rattle.plan.specs.Plan.{Plan, node_count, channel_count, head_widths, plan_layout, plan_size, plan_bytes, plan_version, plan_nodes, plan_channels}
use Rattle.plan.specs.Check.{plan_fits}
use Rattle.plan.specs.Fits.{RuleFits, ChannelFits, BodyFits, PlanFits}
use Rattle.plan.proofs.LayoutLaws.{fields_front}
use Rattle.plan.proofs.ValueLaws.{rule_lawful, channel_lawful}
use Rattle.plan.proofs.PlanLaws.{plan_size-most, plan_bytes_lem, plan_fits_lem, body_read, plan_body, head_fits, version_read, nodes_read, channels_read}
use Rattle.plan.proofs.FitsLaws.{fits_accepted}
use Rattle.rules.specs.Line.{Line, fresh_node, no_lane}
use Rattle.state.specs.Sound.{Sound}
use Rattle.state.specs.Sizes.{state_size, plan_area, steps_widths, steps_rest, node_pages, page_size, lane_blocks, block_size, tail_size}
use Rattle.state.specs.Lane.{pad_lane}
use Rattle.state.specs.State.{StateParts, line_seen, line_from, plan_part, steps_part, nodes_part, lanes_part, state_parts, state_layout, line_bytes, line_of}
use Rattle.state.specs.Fits.{NodeFits, LaneFits, PaddedFits, LineFits}
use Rattle.state.proofs.SoundLaws.{sound, fields_sound, pair_sound, via_sound, padded_sound, slots_sound}
use Rattle.state.proofs.BlockLaws.{node_sound, lane_sound}
use Rattle.state.proofs.ListLaws.{each_known, each_map}
use Rattle.state.proofs.HeardLaws.{heard_few, pad_fits, cut_pads}

-- ---- the parts

pub rule_sound : Sound rule_layout RuleFits
unfolding rule_layout
rule_sound = sound rule_lawful (λ s. ap rule_of (fields_front rule_widths s))

pub channel_sound : (v : ℕ) → Sound (channel_layout v) (ChannelFits v)
unfolding channel_layout
channel_sound v = sound (channel_lawful v) (λ s. ap channel_of (fields_front (channel_widths v) s))

pub plan_sound : (v n m : ℕ) → Sound (plan_layout v n m) (λ x. FieldsFit head_widths x.0 × BodyFits v n m x.1)
unfolding plan_layout
plan_sound v n m =
    pair_sound (fields_sound head_widths)
    (via_sound (pair_sound (slots_sound rule_sound n) (slots_sound (channel_sound v) m)) (λ p. (p.rules, p.channels)) (λ b. record { version = v; rules = b.0; channels = b.1 }) (λ p h. (h.rules, h.channels)) (body_read v n m) (λ b h. record { same = refl; rules = h.0; channels = h.1 }))

pub plan_part_sound : (v n m : ℕ) → Sound (plan_part v n m) (λ x. FieldsFit head_widths x.0 × BodyFits v n m x.1)
unfolding plan_part
plan_part_sound v n m = padded_sound (plan_sound v n m) (plan_area - plan_size v n m)

pub steps_part_sound : Sound steps_part (FieldsFit steps_widths)
unfolding steps_part
steps_part_sound = padded_sound (fields_sound steps_widths) steps_rest

pub nodes_part_sound : (n : ℕ) → Sound (nodes_part n) (SlotsFit n NodeFits)
unfolding nodes_part
nodes_part_sound n = padded_sound (slots_sound node_sound n) ((node_pages - n) * page_size)

pub lanes_part_sound : (m : ℕ) → Sound (lanes_part m) (SlotsFit m PaddedFits)
unfolding lanes_part
lanes_part_sound m = padded_sound (slots_sound lane_sound m) ((lane_blocks - m) * block_size)

abbrev pub PartsFit : ℕ → ℕ → ℕ → StateParts → Type 0
PartsFit v n m p = (FieldsFit head_widths p.0.0 × BodyFits v n m p.0.1) × (FieldsFit steps_widths p.1.0 × (SlotsFit n NodeFits p.1.1.0 × SlotsFit m PaddedFits p.1.1.1))

pub parts_sound : (v n m : ℕ) → Sound (state_parts v n m) (PartsFit v n m)
unfolding state_parts
parts_sound v n m = padded_sound (pair_sound (plan_part_sound v n m) (pair_sound steps_part_sound (pair_sound (nodes_part_sound n) (lanes_part_sound m)))) tail_size

-- ---- how long it is

pub state_size_lem : (v n m : ℕ) → n ≤ node_pages → m ≤ lane_blocks → (state_layout v n m).size ≡ state_size
unfolding state_layout
state_size_lem v n m h k = omega (arith, plan_size-most v n m)

pub line_long : (l : Line) → node_count l.plan ≤ node_pages → channel_count l.plan ≤ lane_blocks → length (line_bytes l) ≡ state_size
unfolding line_bytes
line_long l h k =
    let n = node_count l.plan in
    let m = channel_count l.plan in
    let v = l.plan.version in
    (parts_sound v n m).sized (line_seen l) ∙ state_size_lem v n m h k

pub line_bytes_lem : (l : Line) → Bytes (line_bytes l)
unfolding line_bytes
line_bytes_lem l = (parts_sound l.plan.version (node_count l.plan) (channel_count l.plan)).bytes (line_seen l)

-- ---- what is written is read back

-- A line's bytes begin as its plan's do.
version_first : (l : Line) → plan_version (line_bytes l) ≡ plan_version (plan_bytes l.plan)
unfolding line_bytes plan_bytes plan_version
version_first l = refl

nodes_first : (l : Line) → plan_nodes (line_bytes l) ≡ plan_nodes (plan_bytes l.plan)
unfolding line_bytes plan_bytes plan_nodes
nodes_first l = refl

channels_first : (l : Line) → plan_channels (line_bytes l) ≡ plan_channels (plan_bytes l.plan)
unfolding line_bytes plan_bytes plan_channels
channels_first l = refl

plan_known : (p : Plan) → plan_fits p ≡ true → PlanFits p
plan_known p e = subst PlanFits (fits_accepted p e).1 (plan_fits_lem (plan_bytes p) (plan_bytes_lem p))

pub version_in : (l : Line) → plan_fits l.plan ≡ true → plan_version (line_bytes l) ≡ l.plan.version
version_in l e = version_first l ∙ version_read l.plan (plan_known l.plan e)

pub nodes_in : (l : Line) → plan_fits l.plan ≡ true → plan_nodes (line_bytes l) ≡ node_count l.plan
nodes_in l e = nodes_first l ∙ nodes_read l.plan (plan_known l.plan e)

pub channels_in : (l : Line) → plan_fits l.plan ≡ true → plan_channels (line_bytes l) ≡ channel_count l.plan
channels_in l e = channels_first l ∙ channels_read l.plan (plan_known l.plan e)

pub parts_fit : (l : Line) → LineFits l → PartsFit l.plan.version (node_count l.plan) (channel_count l.plan) (line_seen l)
parts_fit l f =
    let h = plan_known l.plan f.plan in
    let node = each_known NodeFits l.nodes fresh_node (λ n k. f.node n (omega (arith, f.nodes))) in
    let lane = each_known LaneFits l.lanes no_lane (λ b k. f.lane b (omega (arith, f.lanes))) in (
      (head_fits l.plan h, plan_body l.plan h),
      (f.steps, ((f.nodes, node), (length-map l.lanes pad_lane ∙ f.lanes, each_map LaneFits PaddedFits pad_lane pad_fits l.lanes lane))),
    )

pub line_known : (l : Line) → LineFits l → line_from (line_seen l) ≡ l
line_known l f = λ i. record {
  plan = l.plan;
  steps = l.steps;
  nodes = l.nodes;
  lanes = cut_pads l.plan l.plan.channels l.lanes f.lanes (λ b h. (f.heard b h, f.low b h, heard_few l.plan f.plan b h)) i;
}

pub line_read : (l : Line) → LineFits l → line_of (line_bytes l) ≡ l
unfolding line_of line_bytes
line_read l f =
    (λ i. (state_layout (version_in l f.plan i) (nodes_in l f.plan i) (channels_in l f.plan i)).read (line_bytes l))
    ∙ ap line_from ((parts_sound l.plan.version (node_count l.plan) (channel_count l.plan)).read_back (line_seen l) (parts_fit l f))
    ∙ line_known l f
