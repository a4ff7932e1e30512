-- Crash: what it leaves is the rules' line.
use Prim.Native.Nat.{ℕ}
use mathlib.Core.Path.{◌≡◌, refl, sym, ap, subst, ◌∙◌}
use mathlib.Core.List.{List}
use Rattle.answers.specs.declared.Refusal.{Refusal}
use Rattle.answers.specs.Number.{refusal_number}
use Rattle.plan.specs.Plan.{channel_at}
use Rattle.rules.specs.Line.{Line, node_at, with_node, fresh_lane}
use Rattle.rules.specs.Frame.{crash}
use Rattle.rules.specs.Step.{crashed_line, effect}
use Rattle.state.specs.Fits.{LineFits}
use Rattle.state.specs.State.{line_of}
use Rattle.buffer.specs.Holds.{Holds, AtNode, NodeNow, Undamaged, Did}
use Rattle.restart.specs.Answers.{crash_answer}
use Rattle.restart.specs.Lanes.{wiped, cleared, crashed_lanes}
use Rattle.restart.specs.Nodes.{emptied}
use Rattle.restart.proofs.FitsLaws.{ordered_of, lane_fresh}
use Rattle.restart.proofs.StateLaws.{at-node}
use Rattle.restart.proofs.SweepLaws.{swept_same}
use Rattle.restart.proofs.AnswerLaws.{refused, crash_number, crash_inside}

module _ (l : Line) (fits : LineFits l) where
  crash_lanes : (n : ℕ) → crashed_lanes n (with_node n (emptied (node_at l n)) l) ≡ crashed_line n l
  unfolding crashed_line with_node
  crash_lanes n =
      swept_same (λ c x. fresh_lane l.plan (channel_at l.plan c) 0) (λ c. cleared) (λ c. wiped) (λ c. cleared) (with_node n (emptied (node_at l n)) l) n (ordered_of l fits) fits.lanes
      (λ c e. lane_fresh l fits c 0 e.0) (λ c e. refl)

module _ (s : List ℕ) (n : ℕ) (whole : Undamaged s) where
  pub crash_on : crash_answer (line_of s) n ≡ 0 → AtNode s n
  crash_on e = at-node whole.holds n (crash_inside (line_of s) n e)

  pub crash_refused : (r : Refusal) → refusal_number r ≡ crash_answer (line_of s) n → Did s (crash n) s (refusal_number r)
  crash_refused r is = record { number = crash_number (line_of s) n ∙ sym is; refused = λ q. refl; done = λ q. absurd (refused r q) }

  pub crash_done : crash_answer (line_of s) n ≡ 0 → (t : List ℕ) → NodeNow s n emptied t → (u : List ℕ) → Holds u (crashed_lanes n (line_of t)) → Did s (crash n) u 0
  unfolding effect
  crash_done is t node u lanes =
      record {
        number = crash_number (line_of s) n ∙ is;
        refused = λ q. absurd (q refl);
        done = λ q. (crashed_line n (line_of s), (refl, subst (Holds u) (ap (crashed_lanes n) node.holds.same ∙ crash_lanes (line_of s) whole.holds.fits n) lanes));
      }
