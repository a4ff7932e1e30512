-- A channel's block: mark, taken, heard, queue, the low clock's part.
use Rattle.std.specs.Prelude.{ℕ, suc, ◌+◌, ◌*◌, List, [], ◌∷◌, ◌++◌, ◌≡◌, refl, length, get_or, take, drop, replicate}
use Rattle.plan.specs.declared.Channel.{Channel}
use Rattle.plan.specs.Plan.{Plan}
use Rattle.plan.specs.Layout.{Layout, fields, via, pair, up_to_slots, padded}
use Rattle.rules.specs.Line.{queue_limit, Message, Lane, parents}
use Rattle.rules.specs.Trim.{with_low}
use Rattle.state.specs.Sizes.{block_size, count_size, parent_limit, heard_at, queue_at, message_size, low_at, low_limit, lane_rest_at, lane_rest}
use Rattle.state.specs.Pieces.{message_layout}

-- Mark, taken, and what was heard of four parents.
abbrev pub heard_widths : List ℕ
heard_widths = 4 ∷ 4 ∷ 4 ∷ 4 ∷ []

abbrev pub lane_widths : List ℕ
lane_widths = 4 ∷ 4 ∷ heard_widths

unfoldable pub lane_fields : Layout (List ℕ)
unfolding fields
lane_fields = fields lane_widths

unfoldable pub queue_layout : Layout (List Message)
unfolding message_layout up_to_slots
queue_layout = up_to_slots count_size queue_limit message_layout

abbrev pub low_widths : List ℕ
low_widths = 4 ∷ heard_widths

unfoldable pub low_fields : Layout (List ℕ)
unfolding fields
low_fields = fields low_widths

abbrev pub LaneParts : Type 0
LaneParts = List ℕ × (List Message × List ℕ)

abbrev pub lane_seen : Lane → LaneParts
lane_seen x = (x.mark ∷ x.taken ∷ x.heard, (x.queue, x.low))

abbrev pub lane_from : LaneParts → Lane
lane_from p = record { mark = get_or p.0 0 0; taken = get_or p.0 1 0; heard = drop 2 p.0; queue = p.1.0; low = p.1.1 }

unfoldable pub lane_parts : Layout LaneParts
unfolding lane_fields queue_layout low_fields pair
lane_parts = pair lane_fields (pair queue_layout low_fields)

-- A lane with four heard and five numbers of the low clock.
unfoldable pub lane_layout : Layout Lane
unfolding lane_parts via padded
lane_layout = padded lane_rest (via lane_parts lane_seen lane_from)

-- A line's lane has one heard for each parent of its sender, and in the low clock one more: the others are written 0, and cut when it is read.
abbrev pub with_heard : List ℕ → Lane → Lane
with_heard hs x = record { mark = x.mark; taken = x.taken; heard = hs; queue = x.queue; low = x.low }

unfoldable pub pad_lane : Lane → Lane
pad_lane x = with_low (take low_limit (x.low ++ replicate low_limit 0)) (with_heard (take parent_limit (x.heard ++ replicate parent_limit 0)) x)

unfoldable pub cut_lane : ℕ → Lane → Lane
cut_lane n x = with_low (take (suc n) x.low) (with_heard (take n x.heard) x)

-- How many are heard on a channel.
unfoldable pub heard_count : Plan → Channel → ℕ
unfolding parents
heard_count p c = length (parents p c.sender)

abbrev pub cut_lanes : Plan → List Channel → List Lane → List Lane
cut_lanes p [] xs = []
cut_lanes p (c ∷ cs) [] = []
cut_lanes p (c ∷ cs) (x ∷ xs) = cut_lane (heard_count p c) x ∷ cut_lanes p cs xs

-- The offsets add up.
pub heard_end : heard_at + parent_limit * count_size ≡ queue_at
heard_end = refl

pub queue_end : queue_at + count_size + queue_limit * message_size ≡ low_at
queue_end = refl

pub low_end : low_at + low_limit * count_size ≡ lane_rest_at
low_end = refl

pub lane_size : lane_layout.size ≡ block_size
unfolding lane_layout
lane_size = refl
