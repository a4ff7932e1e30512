-- States that hold a line: where they come from, how to go on after a change, and that bytes written over are the line with a part changed.
use Prim.Native.Nat.{ℕ, ◌+◌, ◌<◌}
use mathlib.Core.Path.{◌≡◌, refl, sym, ap, subst, ◌∙◌}
use mathlib.Core.List.{List}
use native.Mathlib.Omega.{arith}
use lib.ListN.{length, set}
use lib.Seq.{set-set, set-get_or}
use Rattle.basics.specs.Put.{put}
use Rattle.plan.specs.Layout.{bytes_of}
use Rattle.plan.specs.Plan.{plan_of, plan_nodes, plan_channels, node_count, channel_count}
use Rattle.plan.specs.Check.{plan_fits}
use Rattle.plan.proofs.FitsLaws.{fitting}
use Rattle.plan.proofs.PlanLaws.{node_count_lem, channel_count_lem}
use Rattle.rules.specs.Line.{log_limit, queue_limit, held_limit, target_limit, Node, Lane, Line, fresh_node, no_lane, node_at, lane_at, with_node, with_lane, console_count, steps_from, with_steps}
use Rattle.rules.proofs.Line.LineLaws.{node_there, plan_kept, lane_there, plan_same}
use Rattle.state.specs.Sizes.{count_size, page_at, log_at, held_at, targets_at, block_at, queue_at, steps_of_at}
use Rattle.state.specs.Node.{log_layout, held_list_layout, targets_layout, node_layout}
use Rattle.state.specs.Lane.{queue_layout, lane_layout, pad_lane}
use Rattle.state.specs.Pieces.{message_layout, entry_layout, held_layout, target_layout}
use Rattle.state.specs.State.{line_bytes, line_of}
use Rattle.state.specs.Fits.{TimeFits, NodeFits, LaneFits, LineFits}
use Rattle.state.proofs.LineLaws.{line_long, nodes_in, channels_in, line_read}
use Rattle.state.proofs.FieldLaws.{count_at}
use Rattle.state.proofs.InPlace.{line-plan}
use Rattle.state.proofs.SpelledLaws.{Sane}
use Rattle.state.proofs.AcceptedState.{sane_fits}
use Rattle.state.proofs.Swapped.{Swapped, swap_in, swap_from, swap_put, counts_long, list_counted}
use Rattle.state.proofs.Written.{node_log, node-held, node_targets, lane_queue, line_node_swap, line_lane_swap, fits_node, fits_lane, line_count_swap, fits_count}
use Rattle.buffer.specs.Holds.{Holds, AtNode, AtLane, NodeNow, LaneNow, Undamaged}

-- ---- where they come from

pub holds : (l : Line) → LineFits l → Holds (line_bytes l) l
holds l fits =
    let p = fitting l.plan fits.plan in
    let read = line_read l fits in
    let same : plan_of (line_bytes l) ≡ l.plan = sym (line-plan (line_bytes l)) ∙ ap (λ (k : Line). k.plan) read in
    record {
      written = refl;
      fits = fits;
      same = read;
      ready = record {
        long = line_long l p.nodes_most p.channels_most;
        fits = ap plan_fits same ∙ fits.plan;
        nodes = rw (nodes_in l fits.plan) p.nodes_most;
        channels = rw (channels_in l fits.plan) p.channels_most;
      };
    }

pub holds_of : {t : List ℕ} (l : Line) → t ≡ line_bytes l → LineFits l → Holds t l
holds_of l e fits = subst (λ (s : List ℕ). Holds s l) (sym e) (holds l fits)

pub holds-again : {s : List ℕ} {l : Line} → Holds s l → Holds s (line_of s)
holds-again {s} h = subst (Holds s) (sym h.same) h

pub sane_undamaged : (s : List ℕ) → Sane s → Undamaged s
sane_undamaged s a = record { holds = holds_of (line_of s) (sym a.written) (sane_fits s a); undamaged = a.undamaged }

pub undamaged_sane : (s : List ℕ) → Undamaged s → Sane s
undamaged_sane s u = record { long = u.holds.ready.long; written = sym u.holds.written; undamaged = u.undamaged }

-- ---- the plan in front of a state

module _ {s : List ℕ} {l : Line} (h : Holds s l) where
  pub holds-plan : plan_of s ≡ l.plan
  holds-plan = sym (line-plan s) ∙ ap (λ (k : Line). k.plan) h.same

  pub holds-nodes : plan_nodes s ≡ node_count l.plan
  holds-nodes = sym (node_count_lem s) ∙ ap node_count holds-plan

  pub holds_channels : plan_channels s ≡ channel_count l.plan
  holds_channels = sym (channel_count_lem s) ∙ ap channel_count holds-plan

-- A later state: it holds a line, and its plan is the same.
pub record Onward (s t : List ℕ) : Type 0 where
  pub holds : Holds t (line_of t)
  pub plan : plan_of t ≡ plan_of s
  pub nodes : plan_nodes t ≡ plan_nodes s
  pub channels : plan_channels t ≡ plan_channels s

pub onward : {s t : List ℕ} {l k : Line} → Holds s l → Holds t k → k.plan ≡ l.plan → Onward s t
onward h g e = record {
  holds = holds-again g;
  plan = holds-plan g ∙ e ∙ sym (holds-plan h);
  nodes = holds-nodes g ∙ ap node_count e ∙ sym (holds-nodes h);
  channels = holds_channels g ∙ ap channel_count e ∙ sym (holds_channels h);
}

module _ {s t : List ℕ} (o : Onward s t) where
  pub onward-node : {n : ℕ} → AtNode s n → AtNode t n
  onward-node at = record { holds = o.holds; inside = rw o.nodes at.inside }

  pub onward-lane : {b : ℕ} → AtLane s b → AtLane t b
  onward-lane at = record { holds = o.holds; below = rw o.channels at.below }

-- ---- a node

pub node_twice : (n : ℕ) (x y : Node) (l : Line) → with_node n y (with_node n x l) ≡ with_node n y l
unfolding with_node
node_twice n x y l = λ i. record { plan = l.plan; steps = l.steps; nodes = set-set l.nodes n x y i; lanes = l.lanes }

pub node_same : (n : ℕ) (l : Line) → with_node n (node_at l n) l ≡ l
unfolding with_node
node_same n l = λ i. record { plan = l.plan; steps = l.steps; nodes = set-get_or l.nodes n fresh_node i; lanes = l.lanes }

module _ {s : List ℕ} {n : ℕ} (at : AtNode s n) where
  abbrev line : Line
  line = line_of s

  pub node_inside : n < node_count line.plan
  node_inside = rw (← holds-nodes at.holds) at.inside

  pub node-listed : n < length line.nodes
  node-listed = rw at.holds.fits.nodes node_inside

  pub node_fits : NodeFits (node_at line n)
  node_fits = at.holds.fits.node n node_inside

  -- The state with another node there.
  pub node_over : (x : Node) → Swapped (page_at n) (node_layout.write (node_at line n)) (node_layout.write x) s (line_bytes (with_node n x line))
  node_over x = swap_from (line_node_swap line at.holds.fits n x node_inside) at.holds.written

  pub node-holds : {t : List ℕ} (x : Node) → NodeFits x → t ≡ line_bytes (with_node n x line) → Holds t (with_node n x line)
  node-holds x f e = holds_of (with_node n x line) e (fits_node line at.holds.fits n x f)

  module _ {t : List ℕ} (x : Node) (f : NodeFits x) where
    -- A part of its page written over.
    pub node-put : {o : ℕ} {old new : List ℕ} → Swapped o old new (node_layout.write (node_at line n)) (node_layout.write x) → length old ≡ length new
        → (place : ℕ) → place ≡ page_at n + o → t ≡ put s place new → Holds t (with_node n x line)
    node-put {new = new} w e place q r = node-holds x f (r ∙ ap (λ (a : ℕ). put s a new) q ∙ sym (swap_put (swap_in (node_over x) w) e))

  -- The counts of its lists.
  pub node_log_counted : count_at (page_at n + log_at) s ≡ length (node_at line n).log
  unfolding log_layout
  node_log_counted = list_counted entry_layout count_size log_limit (node_at line n).log (swap_in (node_over (node_at line n)) (node_log (node_at line n) (node_at line n).log)) (omega (arith, node_fits.log.0))

  pub node_held_counted : count_at (page_at n + held_at) s ≡ length (node_at line n).held
  unfolding held_list_layout
  node_held_counted = list_counted held_layout count_size held_limit (node_at line n).held (swap_in (node_over (node_at line n)) (node-held (node_at line n) (node_at line n).held)) (omega (arith, node_fits.held.0))

  pub node_targets_counted : count_at (page_at n + targets_at) s ≡ length (node_at line n).targets
  unfolding targets_layout
  node_targets_counted = list_counted target_layout count_size target_limit (node_at line n).targets (swap_in (node_over (node_at line n)) (node_targets (node_at line n) (node_at line n).targets)) (omega (arith, node_fits.targets.0))

module _ {s t : List ℕ} {n : ℕ} (at : AtNode s n) (x : Node) (now : Holds t (with_node n x (line_of s))) where
  pub node-onward : Onward s t
  node-onward = onward at.holds now (plan_kept n x (line_of s))

  -- The node afterwards.
  pub node-after : node_at (line_of t) n ≡ x
  node-after = ap (λ (l : Line). node_at l n) now.same ∙ node_there n x (line_of s) (node-listed at)

pub node_now : {s t : List ℕ} {n : ℕ} (f : Node → Node) → AtNode s n → Holds t (with_node n (f (node_at (line_of s) n)) (line_of s)) → NodeNow s n f t
node_now {s} {n = n} f at now = record { holds = now; on = onward-node (node-onward at (f (node_at (line_of s) n)) now) at }

-- Two changes of one node.
pub node_then : {s t u : List ℕ} {n : ℕ} {f g : Node → Node} → AtNode s n → NodeNow s n f t → NodeNow t n g u → NodeNow s n (λ x. g (f x)) u
node_then {s} {t} {u} {n} {f} {g} at first second =
    let x = f (node_at (line_of s) n) in
    record {
      holds = subst (Holds u) (ap (λ (y : Node). with_node n (g y) (line_of t)) (node-after at x first.holds) ∙ ap (with_node n (g x)) first.holds.same ∙ node_twice n x (g x) (line_of s)) second.holds;
      on = second.on;
    }

-- ---- a lane

pub lane_twice : (b : ℕ) (x y : Lane) (l : Line) → with_lane b y (with_lane b x l) ≡ with_lane b y l
unfolding with_lane
lane_twice b x y l = λ i. record { plan = l.plan; steps = l.steps; nodes = l.nodes; lanes = set-set l.lanes b x y i }

pub lane_same : (b : ℕ) (l : Line) → with_lane b (lane_at l b) l ≡ l
unfolding with_lane
lane_same b l = λ i. record { plan = l.plan; steps = l.steps; nodes = l.nodes; lanes = set-get_or l.lanes b no_lane i }

module _ {s : List ℕ} {b : ℕ} (at : AtLane s b) where
  abbrev along : Line
  along = line_of s

  pub lane_below : b < channel_count along.plan
  lane_below = rw (← holds_channels at.holds) at.below

  pub lane-listed : b < length along.lanes
  lane-listed = rw at.holds.fits.lanes lane_below

  pub lane_fits : LaneFits (lane_at along b)
  lane_fits = at.holds.fits.lane b lane_below

  -- The state with another lane there.
  pub lane_over : (x : Lane) → Swapped (block_at b) (lane_layout.write (pad_lane (lane_at along b))) (lane_layout.write (pad_lane x)) s (line_bytes (with_lane b x along))
  lane_over x = swap_from (line_lane_swap along at.holds.fits b x lane_below) at.holds.written

  module _ {t : List ℕ} (x : Lane) (f : LaneFits x) (heard : length x.heard ≡ length (lane_at along b).heard) (low : length x.low ≡ length (lane_at along b).low) where
    pub lane-holds : t ≡ line_bytes (with_lane b x along) → Holds t (with_lane b x along)
    lane-holds e = holds_of (with_lane b x along) e (fits_lane along at.holds.fits b x f heard low lane_below)

    pub lane-put : {o : ℕ} {old new : List ℕ} → Swapped o old new (lane_layout.write (pad_lane (lane_at along b))) (lane_layout.write (pad_lane x)) → length old ≡ length new
        → (place : ℕ) → place ≡ block_at b + o → t ≡ put s place new → Holds t (with_lane b x along)
    lane-put {new = new} w e place q r = lane-holds (r ∙ ap (λ (a : ℕ). put s a new) q ∙ sym (swap_put (swap_in (lane_over x) w) e))

  pub lane_queue_counted : count_at (block_at b + queue_at) s ≡ length (lane_at along b).queue
  unfolding queue_layout
  lane_queue_counted = list_counted message_layout count_size queue_limit (lane_at along b).queue (swap_in (lane_over (lane_at along b)) (lane_queue (lane_at along b) (lane_at along b).queue)) (omega (arith, lane_fits.queue.0))

module _ {s t : List ℕ} {b : ℕ} (at : AtLane s b) (x : Lane) (now : Holds t (with_lane b x (line_of s))) where
  pub lane-onward : Onward s t
  lane-onward = onward at.holds now (plan_same b x (line_of s))

  pub lane-after : lane_at (line_of t) b ≡ x
  lane-after = ap (λ (l : Line). lane_at l b) now.same ∙ lane_there b x (line_of s) (lane-listed at)

pub lane_now : {s t : List ℕ} {b : ℕ} (f : Lane → Lane) → AtLane s b → Holds t (with_lane b (f (lane_at (line_of s) b)) (line_of s)) → LaneNow s b f t
lane_now {s} {b = b} f at now = record { holds = now; on = onward-lane (lane-onward at (f (lane_at (line_of s) b)) now) at }

pub lane_then : {s t u : List ℕ} {b : ℕ} {f g : Lane → Lane} → AtLane s b → LaneNow s b f t → LaneNow t b g u → LaneNow s b (λ x. g (f x)) u
lane_then {s} {t} {u} {b} {f} {g} at first second =
    let x = f (lane_at (line_of s) b) in
    record {
      holds = subst (Holds u) (ap (λ (y : Lane). with_lane b (g y) (line_of t)) (lane-after at x first.holds) ∙ ap (with_lane b (g x)) first.holds.same ∙ lane_twice b x (g x) (line_of s)) second.holds;
      on = second.on;
    }

-- A change that does the same to this lane.
pub lane_as : {s t : List ℕ} {b : ℕ} {f g : Lane → Lane} → f (lane_at (line_of s) b) ≡ g (lane_at (line_of s) b) → LaneNow s b f t → LaneNow s b g t
lane_as {s} {t} {b} e now = record { holds = subst (λ (x : Lane). Holds t (with_lane b x (line_of s))) e now.holds; on = now.on }

-- ---- the steps

-- Console c's count.
pub count_put : {s t : List ℕ} (l : Line) → Holds s l → (c k : ℕ) → c < console_count → TimeFits k → t ≡ put s (steps_of_at c) (bytes_of 4 k) → Holds t (with_steps (set l.steps c k) l)
count_put {s} l h c k inside f r =
    let over = swap_from (line_count_swap l h.fits c k inside) h.written in
    holds_of (with_steps (set l.steps c k) l) (r ∙ sym (swap_put over (counts_long 4 (steps_from l c) k))) (fits_count l h.fits c k inside f)
