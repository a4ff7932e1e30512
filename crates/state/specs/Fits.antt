-- Lines that fit the layout: their numbers are ones that their bytes can spell.
use Rattle.std.specs.Prelude.{ℕ, suc, ◌^◌, ◌<◌, ◌≡◌, true, length}
use Rattle.plan.specs.Lawful.{Each, FieldsFit, UpToFit}
use Rattle.plan.specs.Plan.{node_count, channel_count, channel_at}
use Rattle.plan.specs.Check.{plan_fits}
use Rattle.plan.specs.Fits.{RecordFits}
use Rattle.rules.specs.Line.{log_limit, queue_limit, held_limit, target_limit, Origin, Message, Entry, Held, Target, Asked, Node, Lane, Line, node_at, lane_at}
use Rattle.state.specs.Sizes.{steps_widths, parent_limit, low_limit}
use Rattle.state.specs.Pieces.{origin_widths, origin_numbers, asked_widths, asked_numbers}
use Rattle.state.specs.Node.{kept_list}
use Rattle.state.specs.Lane.{heard_count}

-- A time, and the number of a node.
abbrev pub TimeFits : ℕ → Type 0
TimeFits t = t < 256 ^ 4

abbrev pub ByteFits : ℕ → Type 0
ByteFits n = n < 256 ^ 1

abbrev pub OriginFits : Origin → Type 0
OriginFits o = FieldsFit origin_widths (origin_numbers o)

pub record MessageFits (m : Message) : Type 0 where
  pub what : RecordFits m.what
  pub time : TimeFits m.time
  pub origin : OriginFits m.origin

pub record EntryFits (e : Entry) : Type 0 where
  pub what : RecordFits e.what
  pub time : TimeFits e.time
  pub origin : OriginFits e.origin
  pub before : OriginFits e.before
  pub set : ByteFits e.set

pub record HeldFits (h : Held) : Type 0 where
  pub what : RecordFits h.what
  pub sender : ByteFits h.sender
  pub time : TimeFits h.time
  pub before : OriginFits h.before

pub record TargetFits (t : Target) : Type 0 where
  pub time : TimeFits t.time
  pub parent : ByteFits t.parent
  pub parent_time : TimeFits t.parent_time

abbrev pub AskedFits : Asked → Type 0
AskedFits a = FieldsFit asked_widths (asked_numbers a)

pub record NodeFits (x : Node) : Type 0 where
  pub time : TimeFits x.time
  pub log : UpToFit log_limit EntryFits x.log
  pub held : UpToFit held_limit HeldFits x.held
  pub targets : UpToFit target_limit TargetFits x.targets
  pub asked : UpToFit 1 AskedFits (kept_list x.asked)

pub record LaneFits (x : Lane) : Type 0 where
  pub mark : TimeFits x.mark
  pub taken : TimeFits x.taken
  pub heard : Each TimeFits x.heard
  pub low : Each TimeFits x.low
  pub queue : UpToFit queue_limit MessageFits x.queue

-- A lane as it is written, with four heard and five numbers of the low clock.
pub record PaddedFits (x : Lane) : Type 0 where
  pub lane : LaneFits x
  pub four : length x.heard ≡ parent_limit
  pub five : length x.low ≡ low_limit

-- A node for each rule, a lane for each channel, an entry heard for each parent of its sender, and in the low clock one more.
pub record LineFits (l : Line) : Type 0 where
  pub plan : plan_fits l.plan ≡ true
  pub steps : FieldsFit steps_widths l.steps
  pub nodes : length l.nodes ≡ node_count l.plan
  pub lanes : length l.lanes ≡ channel_count l.plan
  pub node : (n : ℕ) → n < node_count l.plan → NodeFits (node_at l n)
  pub lane : (b : ℕ) → b < channel_count l.plan → LaneFits (lane_at l b)
  pub heard : (b : ℕ) → b < channel_count l.plan → length (lane_at l b).heard ≡ heard_count l.plan (channel_at l.plan b)
  pub low : (b : ℕ) → b < channel_count l.plan → length (lane_at l b).low ≡ suc (heard_count l.plan (channel_at l.plan b))
