-- What a Take of a replaying node leaves, write by write.
use Prim.Native.Nat.{ℕ, ◌+◌, ◌<◌}
use mathlib.Core.Path.{◌≡◌, refl, sym, ap, ap₂, subst, ◌∙◌}
use mathlib.Core.List.{List, [], ◌∷◌, ◌++◌, map}
use mathlib.Core.Option.{none}
use native.Mathlib.Numerals.{add-one}
use native.Mathlib.Omega.{arith}
use lib.ListN.{length, get_or, take, length-map}
use lib.Seq.{take-suc, length-take-le}
use Rattle.rules.proofs.Lists.ListLaws.{map-append}
use Rattle.plan.specs.Plan.{Plan, plan_of, channel_at}
use Rattle.plan.specs.Mask.{set_of}
use Rattle.rules.specs.Line.{log_limit, Message, Entry, Held, up, Node, Line, node_at, lane_at, with_node, with_lane}
use Rattle.rules.specs.Recover.{high_of}
use Rattle.rules.specs.Step.{taken_lane}
use Rattle.rules.specs.Trim.{with_log}
use Rattle.state.specs.Changes.{with_status, with_time, with_held, with_targets, more_logged, more_held}
use Rattle.state.specs.State.{line_of}
use Rattle.state.proofs.InPlace.{line-plan}
use Rattle.buffer.specs.Nothing.{no_held}
use Rattle.buffer.specs.Sets.{Begin}
use Rattle.buffer.specs.Holds.{Holds, AtNode, NodeNow}
use Rattle.buffer.proofs.HoldsLaws.{Onward, onward, onward-node, node-onward, node-after, node_then, node_same}
use Rattle.replay_table.specs.declared.PlacedRecord.{PlacedRecord}
use Rattle.replay_table.specs.Ends.{no_placed, entry_from, logged_from}
use Rattle.replay.specs.After.{First, taken_now, held_more, end_log, ended_node, Enters, Loggable}

pub first_some : (l : Line) (b : ℕ) (m : Message) → First l b m → 0 < length (lane_at l b).queue
first_some l b m e = subst (λ (q : List Message). 0 < length q) (sym e) (omega arith)

-- ---- the message taken

module _ {s t : List ℕ} (at : Holds s (line_of s)) (b : ℕ) (m : Message) (now : Holds t (taken_now (line_of s) b m)) where
  pub taken-onward : Onward s t
  unfolding taken_lane with_lane
  taken-onward = onward at now refl

  pub taken-node : (n : ℕ) → node_at (line_of t) n ≡ node_at (line_of s) n
  unfolding taken_lane with_lane
  taken-node n = ap (λ (l : Line). node_at l n) now.same

  pub taken-plan : (line_of t).plan ≡ (line_of s).plan
  unfolding taken_lane with_lane
  taken-plan = ap (λ (l : Line). l.plan) now.same

  -- One more is held then.
  pub held_now : (n : ℕ) (h : Held) {u : List ℕ} → NodeNow t n (more_held h) u → Holds u (held_more n (h ∷ []) (taken_now (line_of s) b m))
  held_now n h {u} more = subst (λ (l : Line). Holds u (with_node n (more_held h (node_at l n)) l)) now.same more.holds

  -- The node changed then.
  pub node_now : (n : ℕ) (f : Node → Node) {u : List ℕ} → NodeNow t n f u → Holds u (with_node n (f (node_at (line_of s) n)) (taken_now (line_of s) b m))
  node_now n f {u} more = subst (Holds u) (ap (λ (x : Node). with_node n (f x) (line_of t)) (taken-node n) ∙ ap (with_node n (f (node_at (line_of s) n))) now.same) more.holds

-- ---- the log, entry by entry

-- So many entries are written.
pub record LoggedTo (s₀ : List ℕ) (n : ℕ) (more : List Held) (log : List PlacedRecord) (s : List ℕ) (j : ℕ) : Type 0 where
  pub now : NodeNow s₀ n (with_log (end_log (line_of s₀) n more (take j log))) s

module _ (s₀ : List ℕ) (n : ℕ) (more : List Held) (log : List PlacedRecord) (at : AtNode s₀ n) (ok : Loggable (line_of s₀) n more log) where
  abbrev x : Node
  x = node_at (line_of s₀) n

  abbrev entries : ℕ → List Entry
  entries j = end_log (line_of s₀) n more (take j log)

  pub logged_start : LoggedTo s₀ n more log s₀ 0
  logged_start = record {
    now = record { holds = subst (Holds s₀) (sym (ap (λ (es : List Entry). with_node n (with_log es x) (line_of s₀)) (sym ok.empty) ∙ node_same n (line_of s₀))) at.holds; on = at };
  }

  module _ (s : List ℕ) (j : ℕ) (so_far : LoggedTo s₀ n more log s j) where
    there : node_at (line_of s) n ≡ with_log (entries j) x
    there = node-after at (with_log (entries j) x) so_far.now.holds

    same_plan : plan_of s ≡ plan_of s₀
    same_plan = (node-onward at (with_log (entries j) x) so_far.now.holds).plan

    pub logged_begin : (first : ℕ) → Begin (plan_of s₀) n first → Begin (plan_of s) n first
    logged_begin first = subst (λ (p : Plan). Begin p n first) (sym same_plan)

    pub logged-held : (node_at (line_of s) n).held ≡ (node_at (line_of s₀) n).held
    logged-held = ap (λ (y : Node). y.held) there

    pub logged_few : j < length log → length (node_at (line_of s) n).log < log_limit
    logged_few h =
        rw (ap (λ (y : Node). length y.log) there)
        (omega (arith, length-map (take j log) (entry_from (set_of (line_of s₀).plan n) (x.held ++ more)), length-take-le j log (omega arith), ok.few))

    -- What the next entry is asked.
    pub logged_next : j < length log
        → ((get_or log j no_placed).number < length ((node_at (line_of s) n).held ++ more)) × ((get_or ((node_at (line_of s) n).held ++ more) (get_or log j no_placed).number no_held).sender < 255)
    logged_next h =
        subst (λ (ys : List Held). ((get_or log j no_placed).number < length (ys ++ more)) × ((get_or (ys ++ more) (get_or log j no_placed).number no_held).sender < 255)) (sym logged-held)
        (ok.numbers j h, ok.senders (get_or log j no_placed).number (ok.numbers j h))

    pub logged_turn : (e : Entry) (t : List ℕ) → j < length log → e ≡ entry_from (set_of (line_of s).plan n) ((node_at (line_of s) n).held ++ more) (get_or log j no_placed) → NodeNow s n (more_logged e) t
        → LoggedTo s₀ n more log t (j + 1)
    logged_turn e t h q next =
        let plan : (line_of s).plan ≡ (line_of s₀).plan = line-plan s ∙ same_plan ∙ sym (line-plan s₀) in
        let p : PlacedRecord = get_or log j no_placed in
        let f : PlacedRecord → Entry = entry_from (set_of (line_of s₀).plan n) (x.held ++ more) in
        let right : e ≡ f p = q ∙ ap₂ (λ (k : Plan) (ys : List Held). entry_from (set_of k n) (ys ++ more) p) plan logged-held in
        let all : entries j ++ e ∷ [] ≡ entries (j + 1) =
        ap (λ (d : Entry). entries j ++ d ∷ []) right ∙ sym (map-append f (take j log) (p ∷ [])) ∙ ap (map f) (sym (take-suc log j no_placed h)) ∙ ap entries (sym (add-one j)) in
        record { now = subst (λ (es : List Entry). NodeNow s₀ n (with_log es) t) all (node_then at so_far.now next) }

-- ---- the end

pub loggable_same : (l k : Line) (n : ℕ) (more : List Held) (log : List PlacedRecord) → node_at k n ≡ node_at l n → Loggable l n more log → Loggable k n more log
loggable_same l k n more log e ok = record {
  empty = ap (λ (y : Node). y.log) e ∙ ok.empty;
  unasked = ap (λ (y : Node). y.asked) e ∙ ok.unasked;
  few = ok.few;
  numbers = subst (λ (y : Node). (j : ℕ) → j < length log → (get_or log j no_placed).number < length (y.held ++ more)) (sym e) ok.numbers;
  senders = subst (λ (y : Node). (i : ℕ) → i < length (y.held ++ more) → (get_or (y.held ++ more) i no_held).sender < 255) (sym e) ok.senders;
}

module _ {s t : List ℕ} {n b : ℕ} (e : Enters s n b) (m : Message) (now : Holds t (taken_now (line_of s) b m)) where
  abbrev at : Holds s (line_of s)
  at = e.on.holds

  pub enters_taken : Enters t n b
  enters_taken =
      let on = taken-onward at b m now in
      record { on = onward-node on e.on; below = rw on.channels e.below; to = e.to ∙ sym (ap (λ (p : Plan). (channel_at p b).receiver) (taken-plan at b m now)) }

  pub end_now : (more : List Held) (log : List PlacedRecord) (high : ℕ) {u v w x y : List ℕ} → NodeNow t n (with_log (end_log (line_of t) n more log)) u → NodeNow u n (with_held []) v
      → NodeNow v n (with_targets []) w → NodeNow w n (with_time high) x → NodeNow x n (with_status up) y → high ≡ high_of (line_of s) n → (node_at (line_of s) n).asked ≡ none
      → Holds y (with_node n (ended_node (line_of s) n (end_log (line_of s) n more log)) (taken_now (line_of s) b m))
  end_now more log high {u} {v} {w} {x} {y} logged held targets timed status is unasked =
      let logs : Node → Node = with_log (end_log (line_of t) n more log) in
      let on = enters_taken.on in
      let all = node_then on (node_then on (node_then on (node_then on logged held) targets) timed) status in
      subst (Holds y)
      (λ i. with_node n (record {
        status = up;
        crashed = (node_at (line_of s) n).crashed;
        time = is i;
        log = logged_from (set_of (taken-plan at b m now i) n) ((taken-node at b m now n i).held ++ more) log;
        held = [];
        targets = [];
        asked = unasked i;
      }) (taken_now (line_of s) b m))
      (node_now at b m now n (λ (z : Node). with_status up (with_time high (with_targets [] (with_held [] (logs z))))) all)
