-- What an undamaged state gives.
use Prim.Native.Nat.{ℕ, ◌/◌, ◌%◌, ◌^◌, ◌≤◌, ◌<◌}
use mathlib.Core.Path.{◌≡◌, sym, ap, subst, ◌∙◌}
use mathlib.Core.Bool.{true}
use mathlib.Core.List.{List}
use native.Mathlib.Omega.{arith}
use lib.Dec.{eqb}
use lib.ListN.{length, get_or}
use Rattle.plan.specs.Channel.{bit_set, takes}
use Rattle.plan.specs.Mask.{set_of}
use Rattle.plan.specs.Plan.{Plan, plan_of, plan_nodes, plan_channels, plan_bytes, rule_at, channel_at}
use Rattle.plan.specs.Check.{plan_fits}
use Rattle.plan.specs.Narrow.{narrowed}
use Rattle.plan.proofs.SetLaws.{set-bit}
use Rattle.plan.proofs.FitsLaws.{fits_accepted}
use Rattle.plan.proofs.AcceptedLaws.{rule_narrow}
use Rattle.rules.specs.Line.{Entry, node_at, time_limit}
use Rattle.rules.proofs.Line.Consoles.{counts-most}
use Rattle.rules.proofs.Lists.Members.{In, in_at}
use Rattle.rules.proofs.Undamaged.Standing.{LogRises}
use Rattle.rules.proofs.Undamaged.Undamaged.{undamaged_sound}
use Rattle.state.specs.State.{line_of}
use Rattle.state.proofs.InPlace.{line-plan}
use Rattle.buffer.specs.Ready.{OnChannel}
use Rattle.buffer.specs.Sets.{BitOf}
use Rattle.buffer.specs.Nothing.{no_entry}
use Rattle.buffer.specs.Holds.{AtNode, AtLane, Undamaged}
use Rattle.buffer.proofs.ReadyLaws.{sender_inside, receiver_inside}
use Rattle.buffer.proofs.HoldsLaws.{node_inside}

-- The rule that is read in place is the plan's.
pub rule_same : (p : Plan) → plan_fits p ≡ true → (n : ℕ) → narrowed (rule_at p n) ≡ rule_at p n
rule_same p fits n = let (z, e) = fits_accepted p fits in rw e at (rule_narrow (plan_bytes p) z n)

pub at-node : {s : List ℕ} {n : ℕ} → Undamaged s → n < plan_nodes s → AtNode s n
at-node u h = record { holds = u.holds; inside = h }

pub at-lane : {s : List ℕ} {b : ℕ} → Undamaged s → b < plan_channels s → AtLane s b
at-lane u h = record { holds = u.holds; below = h }

pub on_channel : {s : List ℕ} {b : ℕ} → AtLane s b → OnChannel s b
on_channel at = record { ready = at.holds.ready; below = at.below }

-- A channel's ends.
pub at_sender : {s : List ℕ} {b : ℕ} {n : ℕ} → AtLane s b → n ≡ (channel_at (plan_of s) b).sender → AtNode s n
at_sender {s} {b} at e = record { holds = at.holds; inside = rw e (sender_inside s b (on_channel at)) }

pub at_receiver : {s : List ℕ} {b : ℕ} {n : ℕ} → AtLane s b → n ≡ (channel_at (plan_of s) b).receiver → AtNode s n
at_receiver {s} {b} at e = record { holds = at.holds; inside = rw e (receiver_inside s b (on_channel at)) }

-- A node's time.
pub time_within : {s : List ℕ} {n : ℕ} → Undamaged s → n < plan_nodes s → (node_at (line_of s) n).time ≤ time_limit
time_within {s} {n} u h =
    let standing = (undamaged_sound (line_of s) u.undamaged).standing in
    omega (arith, (standing.nodes n (node_inside (at-node u h))).fits.time, counts-most standing.counts)

-- Times in a node's log do not fall.
pub log_rising : {s : List ℕ} {n : ℕ} → Undamaged s → n < plan_nodes s → LogRises (line_of s).plan n 0 (node_at (line_of s) n).log
log_rising {s} {n} u h = ((undamaged_sound (line_of s) u.undamaged).standing.nodes n (node_inside (at-node u h))).fits.rises

-- An entry's set is what the plan gives, so a channel's bit in it says whether the channel takes the entry.
pub bit_says : {s : List ℕ} {b n bit i : ℕ} {e : Entry} → Undamaged s → b < plan_channels s → n ≡ (channel_at (plan_of s) b).sender → BitOf (plan_of s) b bit
    → i < length (node_at (line_of s) n).log → e ≡ get_or (node_at (line_of s) n).log i no_entry → eqb (e.set / (2 ^ bit) % 2) 1 ≡ takes (channel_at (plan_of s) b) e.what
unfolding bit_set
bit_says {s} {b} {n} {bit} {i} {e} u h from bits inside is =
    let log = (node_at (line_of s) n).log in
    let standing = (undamaged_sound (line_of s) u.undamaged).standing in
    let sender = at_sender (at-lane u h) from in
    let right = (standing.nodes n (node_inside sender)).fits.sets e (subst (λ (d : Entry). In d log) (sym is) (in_at log i no_entry inside)) in
    ap (λ (k : ℕ). eqb (k / (2 ^ bit) % 2) 1) (right ∙ (λ j. set_of (line-plan s j) (from j) e.what))
    ∙ set-bit (plan_of s) (channel_at (plan_of s) b).sender e.what bit bits.inside ∙ ap (λ (c : ℕ). takes (channel_at (plan_of s) c) e.what) bits.there
