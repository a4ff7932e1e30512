-- Trim: what it leaves is the rules' line.
use Prim.Native.Nat.{ℕ, ◌≤◌}
use mathlib.Core.Path.{◌≡◌, refl, sym, ap, subst, ◌∙◌}
use mathlib.Core.List.{List, [], ◌∷◌}
use native.Mathlib.Omega.{arith}
use lib.ListN.{length, take, drop}
use Rattle.answers.specs.declared.Refusal.{Refusal}
use Rattle.answers.specs.Number.{refusal_number}
use Rattle.plan.specs.Plan.{entering}
use Rattle.rules.specs.Line.{Entry, Node, Lane, Line, node_at, lane_at, sender_of, parents, with_node, with_lane, with_lanes}
use Rattle.rules.specs.Frame.{trim}
use Rattle.rules.specs.Trim.{droppable, leading, behind, low_raised, with_log, trimmed_line}
use Rattle.rules.specs.Step.{effect}
use Rattle.rules.proofs.Line.LanesLaws.{lanes_node, lanes_first, lanes_plan}
use Rattle.state.specs.State.{line_of}
use Rattle.buffer.specs.Holds.{Holds, AtNode, NodeNow, Undamaged, Did}
use Rattle.buffer.proofs.HoldsLaws.{holds-nodes, onward, onward-node, node_same, lane_same}
use Rattle.trim.specs.Trimmed.{trim_answer, raised_on}
use Rattle.trim.proofs.AnswerLaws.{refused, trim_number, trim_inside}
use Rattle.trim.proofs.RunLaws.{leading_front, behind_rest}

-- Channels that stay as they are.
lanes_left : (f : ℕ → Lane → Lane) → ((b : ℕ) (x : Lane) → f b x ≡ x) → (bs : List ℕ) (l : Line) → with_lanes f bs l ≡ l
lanes_left f h [] l = refl
lanes_left f h (b ∷ bs) l = ap (with_lanes f bs) (ap (λ (x : Lane). with_lane b x l) (h b (lane_at l b)) ∙ lane_same b l) ∙ lanes_left f h bs l

module _ (l : Line) (n count : ℕ) (run : count ≡ length (leading (droppable l n) (node_at l n).log)) where
  abbrev raised : Line
  raised = with_lanes (raised_on l n count) (entering l.plan n) l

  pub trimmed_is : with_node n (with_log (drop count (node_at raised n).log) (node_at raised n)) raised ≡ trimmed_line n l
  unfolding trimmed_line raised_on
  trimmed_is =
      let log = (node_at l n).log in
      ap (λ (x : Node). with_node n (with_log (drop count x.log) x) raised) (lanes_node (raised_on l n count) (entering l.plan n) l n)
      ∙ ap (λ (k : ℕ). with_node n (with_log (drop k log) (node_at l n)) raised) run
      ∙ ap (λ (es : List Entry). with_node n (with_log es (node_at l n)) raised) (behind_rest (droppable l n) log)
      ∙ lanes_first (raised_on l n count) (entering l.plan n) n (with_log (behind (droppable l n) log) (node_at l n)) l
      ∙ ap (λ (es : List Entry). with_lanes (λ (b : ℕ). low_raised (parents l.plan (sender_of l b)) (sender_of l b) es) (entering l.plan n) (with_node n (with_log (behind (droppable l n) log) (node_at l n)) l))
      (ap (λ (k : ℕ). take k log) run ∙ leading_front (droppable l n) log)

-- Where no entry goes, nothing changes.
nothing_goes : (l : Line) (n : ℕ) → 0 ≡ length (leading (droppable l n) (node_at l n).log) → l ≡ trimmed_line n l
unfolding raised_on low_raised
nothing_goes l n run =
    sym (node_same n l) ∙ ap (λ (k : Line). with_node n (with_log (drop 0 (node_at k n).log) (node_at k n)) k) (sym (lanes_left (raised_on l n 0) (λ b x. refl) (entering l.plan n) l)) ∙ trimmed_is l n 0 run

module _ (s : List ℕ) (n : ℕ) (whole : Undamaged s) where
  pub trim_refused : (r : Refusal) → refusal_number r ≡ trim_answer (line_of s) n → Did s (trim n) s (refusal_number r)
  trim_refused r is = record { number = trim_number (line_of s) n ∙ sym is; refused = λ q. refl; done = λ q. absurd (refused r q) }

  pub trim_on : trim_answer (line_of s) n ≡ 0 → AtNode s n
  trim_on e = record { holds = whole.holds; inside = omega (arith, trim_inside (line_of s) n e, holds-nodes whole.holds) }

  pub trim_done : trim_answer (line_of s) n ≡ 0 → (count : ℕ) → count ≡ length (leading (droppable (line_of s) n) (node_at (line_of s) n).log) → (t : List ℕ) → Holds t (with_lanes (raised_on (line_of s) n count) (entering (line_of s).plan n) (line_of s))
      → (u : List ℕ) → NodeNow t n (λ x. with_log (drop count x.log) x) u → Did s (trim n) u 0
  unfolding effect
  trim_done is count run t lanes u node =
      record {
        number = trim_number (line_of s) n ∙ is;
        refused = λ q. absurd (q refl);
        done = λ q. (trimmed_line n (line_of s), (refl, subst (Holds u) (ap (λ (k : Line). with_node n (with_log (drop count (node_at k n).log) (node_at k n)) k) lanes.same ∙ trimmed_is (line_of s) n count run) node.holds));
      }

  pub trim_idle : trim_answer (line_of s) n ≡ 0 → 0 ≡ length (leading (droppable (line_of s) n) (node_at (line_of s) n).log) → Did s (trim n) s 0
  unfolding effect
  trim_idle is run =
      record {
        number = trim_number (line_of s) n ∙ is;
        refused = λ q. refl;
        done = λ q. (trimmed_line n (line_of s), (refl, subst (Holds s) (nothing_goes (line_of s) n run) whole.holds));
      }

  pub trim_next : (count : ℕ) (t : List ℕ) → Holds t (with_lanes (raised_on (line_of s) n count) (entering (line_of s).plan n) (line_of s)) → AtNode s n → count ≤ length (node_at (line_of s) n).log
      → AtNode t n × (count ≤ length (node_at (line_of t) n).log)
  trim_next count t lanes at few =
      let plan = lanes_plan (raised_on (line_of s) n count) (entering (line_of s).plan n) (line_of s) in
      let node = ap (λ (k : Line). node_at k n) lanes.same ∙ lanes_node (raised_on (line_of s) n count) (entering (line_of s).plan n) (line_of s) n in
      (onward-node (onward whole.holds lanes plan) at, rw node few)
