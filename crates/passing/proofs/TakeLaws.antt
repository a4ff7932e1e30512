-- What Take answers of a receiver that is up.
use Prim.Native.Nat.{ℕ, ◌≤◌, ◌<◌}
use mathlib.Core.Path.{◌≡◌, refl, sym, ap, ◌∙◌}
use mathlib.Core.Bool.{false}
use mathlib.Core.List.{List, [], ◌∷◌}
use mathlib.Core.Option.{some}
use native.Mathlib.Omega.{arith}
use borrow.Author.Tests.{le-leb, lt-leb}
use lib.ListN.{length, get_or, drop}
use Rattle.plan.specs.declared.Record.{Record}
use Rattle.plan.specs.declared.Channel.{Channel}
use Rattle.plan.specs.Plan.{Plan, plan_of, channel_count, channel_at}
use Rattle.plan.specs.Mask.{set_of}
use Rattle.rules.specs.Lists.{is_empty}
use Rattle.rules.specs.Line.{made, log_limit, Message, Line, node_at, lane_at, receiver_of}
use Rattle.rules.specs.Frame.{take}
use Rattle.rules.specs.Clock.{logged}
use Rattle.rules.specs.Replay.{time_for}
use Rattle.rules.specs.Step.{replaying, made_by, taken_up, taken_lane, taken_first, effect}
use Rattle.state.specs.State.{line_of}
use Rattle.state.proofs.InPlace.{line-plan}
use Rattle.buffer.specs.Holds.{Holds, NodeNow, Did}
use Rattle.buffer.proofs.HoldsLaws.{holds_channels, onward, onward-node}
use Rattle.buffer.specs.Nothing.{no_message}
use Rattle.passing.specs.Passing.{Loggable, Taking}
use Rattle.passing.proofs.RefusalLaws.{take-number, placed, refused, accepted}

first_rest : (q : List Message) → 0 < length q → q ≡ get_or q 0 no_message ∷ drop 1 q
first_rest [] h = let no : ⊥ = omega arith in absurd no
first_rest (m ∷ q) h = refl

-- A queue with something in it is its first message and the rest.
pub first_is : (q : List Message) (m : Message) → 0 < length q → m ≡ get_or q 0 no_message → q ≡ m ∷ drop 1 q
first_is q m h e = first_rest q h ∙ ap (λ (x : Message). x ∷ drop 1 q) (sym e)

-- ---- after the message is gone from the channel

module _ (b : ℕ) (m : Message) (rest : List Message) (l : Line) where
  taken-plan : (taken_lane b m rest l).plan ≡ l.plan
  unfolding taken_lane
  taken-plan = refl

  taken-nodes : (n : ℕ) → node_at (taken_lane b m rest l) n ≡ node_at l n
  unfolding taken_lane
  taken-nodes n = refl

module _ (s t : List ℕ) (b : ℕ) (m : Message) (rest : List Message) (h : Holds t (taken_lane b m rest (line_of s))) where
  taken-node : (n : ℕ) → node_at (line_of t) n ≡ node_at (line_of s) n
  taken-node n = ap (λ (k : Line). node_at k n) h.same ∙ taken-nodes b m rest (line_of s) n

  -- The plan in front is as it was.
  pub taken_in_front : plan_of t ≡ plan_of s
  taken_in_front = sym (line-plan t) ∙ ap (λ (k : Line). k.plan) h.same ∙ taken-plan b m rest (line_of s) ∙ line-plan s

  pub taken_loggable : (n : ℕ) → Loggable s n → Loggable t n
  taken_loggable n g = record {
    at = onward-node (onward g.at.holds h (taken-plan b m rest (line_of s))) g.at;
    room = rw (taken-node n) g.room;
    time = rw (taken-node n) g.time;
  }

  -- The message logged by the receiver.
  pub taken_up_lem : (u : List ℕ) (c : Channel) (n : ℕ) (what : Record) → c ≡ channel_at (plan_of s) b → n ≡ c.receiver → what ≡ made_by (line_of t) n m.what
      → NodeNow t n (logged (time_for (line_of t).plan n what (node_at (line_of t) n).time) (set_of (line_of t).plan n what) what (made c.sender m.time) m.origin) u → Holds u (taken_up b m (taken_lane b m rest (line_of s)))
  unfolding taken_up
  taken_up_lem u c n what on to is now =
      let k = taken_lane b m rest (line_of s) in
      let along : c ≡ channel_at k.plan b = on ∙ ap (λ (p : Plan). channel_at p b) (sym (taken-plan b m rest (line_of s) ∙ line-plan s)) in
      rw (is, h.same, to, along) at now.holds

take-effect : (l : Line) (b : ℕ) (m : Message) (rest : List Message) → (lane_at l b).queue ≡ m ∷ rest → replaying l (receiver_of l b) ≡ false → effect l (take b) ≡ some (taken_up b m (taken_lane b m rest l))
unfolding effect
take-effect l b m rest q live = ap (λ (q : List Message). taken_first b q l) q ∙ rw (live, taken_first)

module _ (s : List ℕ) (b : ℕ) (t : Taking s b) where
  some_waits : is_empty (lane_at (line_of s) b).queue ≡ false
  some_waits = ap is_empty (first_rest (lane_at (line_of s) b).queue t.waiting)

  below_count : b < channel_count (line_of s).plan
  below_count = rw (← holds_channels t.undamaged.holds) t.below

  pub take-full : log_limit ≤ length (node_at (line_of s) (receiver_of (line_of s) b)).log → Did s (take b) s 21
  take-full h =
      let l = line_of s in
      refused s (take b) 21 (λ e. omega arith)
      (take-number l b (lt-leb (channel_count l.plan) b below_count) t.standing some_waits t.live ∙ rw (le-leb log_limit (length (node_at l (receiver_of l b)).log) h))

  pub take_done : (u : List ℕ) (m : Message) (rest : List Message) → length (node_at (line_of s) (receiver_of (line_of s) b)).log < log_limit → (lane_at (line_of s) b).queue ≡ m ∷ rest → Holds u (taken_up b m (taken_lane b m rest (line_of s))) → Did s (take b) u 0
  take_done u m rest h q now =
      let l = line_of s in
      let leads = take-effect l b m rest q t.live in
      let k = taken_up b m (taken_lane b m rest l) in
      accepted s u (take b) k
      (take-number l b (lt-leb (channel_count l.plan) b below_count) t.standing some_waits t.live ∙ rw (lt-leb log_limit (length (node_at l (receiver_of l b)).log) h, placed l (take b) k leads))
      leads
      now
