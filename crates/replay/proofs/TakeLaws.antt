-- A Take of a replaying node: its number, and the line that it leads to.
use Prim.Native.Nat.{ℕ, ◌<◌, max}
use mathlib.Core.Path.{◌≡◌, refl, sym, ap, ◌∙◌}
use mathlib.Core.Bool.{Bool, true, false, cond, ◌&&◌}
use mathlib.Core.List.{List, [], ◌∷◌, ◌++◌}
use mathlib.Core.Option.{none, some}
use native.Mathlib.Omega.{arith}
use native.Mathlib.Decide.{ℕ_discrete}
use borrow.Author.Tests.{ne_eqb, eq-eqb, lt-leb}
use lib.Dec.{leb}
use lib.ListN.{length, get_or, drop}
use lib.Seq.{set-set}
use Rattle.plan.specs.Plan.{Plan, plan_channels, node_count, channel_count, channel_at, entering}
use Rattle.plan.proofs.FitsLaws.{fitting}
use Rattle.plan.proofs.PlanLaws.{channel_count_lem}
use Rattle.rules.specs.Lists.{all_of, is_empty}
use Rattle.rules.specs.Line.{log_limit, held_limit, Message, Entry, Held, up, Node, Line, fresh_node, node_at, lane_at, sender_of, receiver_of, parents, with_node, with_lane}
use Rattle.rules.specs.Frame.{take}
use Rattle.rules.specs.Recover.{row_goal, row_complete, rows_complete, high_of}
use Rattle.rules.specs.Replay.{passed_on, holding, replay_end, ended_if_complete}
use Rattle.rules.specs.Clock.{taken_from}
use Rattle.rules.specs.Step.{end_down, row_done, first_record, to_hold, take_lacks, no_space, is_nothing, replaying, taken_lane, taken_replaying, taken_first, taken_line, effect, no_placing, line_refusal}
use Rattle.rules.proofs.Lists.ListLaws.{nil_right}
use Rattle.rules.proofs.Line.LineLaws.{node_there, lane_there, lane_else}
use Rattle.rules.proofs.Invariant.Inv.{Ordered}
use Rattle.rules.proofs.Steps.PlanOrder.{ordered_channels}
use Rattle.rules.proofs.Ending.Targets.{high_same}
use Rattle.state.specs.State.{line_of}
use Rattle.state.specs.Changes.{more_held}
use Rattle.state.proofs.InPlace.{line-plan}
use Rattle.buffer.specs.Holds.{Undamaged}
use Rattle.passing.proofs.RefusalLaws.{first_of, refusal_first}
use Rattle.replay_table.specs.Ends.{AsIn}
use Rattle.replay.specs.After.{taken_after, rows_after, would_hold, to_be_held, First, taken_now, held_more, ended_node}

-- ---- where one more is held, or none

module _ (n : ℕ) (h : Held) (k : Line) (inside : n < length k.nodes) where
  abbrev one : Bool → List Held
  one t = cond t (h ∷ []) []

  more_plan : (t : Bool) → (held_more n (one t) k).plan ≡ k.plan
  unfolding with_node
  more_plan true = refl
  more_plan false = refl

  more_lane : (t : Bool) (c : ℕ) → lane_at (held_more n (one t) k) c ≡ lane_at k c
  unfolding with_node
  more_lane true c = refl
  more_lane false c = refl

  -- A part of the node that holding does not touch.
  more_part : {A : Type 0} (f : Node → A) → f (more_held h (node_at k n)) ≡ f (node_at k n) → (t : Bool) → f (node_at (held_more n (one t) k) n) ≡ f (node_at k n)
  more_part f e true = ap f (node_there n (more_held h (node_at k n)) k inside) ∙ e
  more_part f e false = refl

  more_held_lem : (t : Bool) → (node_at (held_more n (one t) k) n).held ≡ (node_at k n).held ++ one t
  more_held_lem true = ap (λ (x : Node). x.held) (node_there n (more_held h (node_at k n)) k inside)
  more_held_lem false = sym (nil_right (node_at k n).held)

  -- What is written over the node stands alone.
  more_gone : (t : Bool) (x : Node) → with_node n x (held_more n (one t) k) ≡ with_node n x k
  unfolding with_node
  more_gone true x = λ i. record { plan = k.plan; steps = k.steps; nodes = set-set k.nodes n (more_held h (node_at k n)) x i; lanes = k.lanes }
  more_gone false x = refl

module _ (s : List ℕ) (u : Undamaged s) (b : ℕ) (below : b < plan_channels s) (m : Message) (first : First (line_of s) b m) (again : replaying (line_of s) (receiver_of (line_of s) b) ≡ true) where
  abbrev l : Line
  l = line_of s

  abbrev n : ℕ
  n = receiver_of (line_of s) b

  abbrev h : Held
  h = would_hold (line_of s) b m

  abbrev goes : Bool
  goes = passed_on (line_of s).plan (receiver_of (line_of s) b) (would_hold (line_of s) b m).what

  ordered : Ordered l.plan
  ordered = ordered_channels l.plan (fitting l.plan u.holds.fits.plan).channels

  here_below : b < channel_count l.plan
  here_below = rw (ap channel_count (line-plan s) ∙ channel_count_lem s) below

  pub inside : receiver_of (line_of s) b < node_count (line_of s).plan
  inside = ordered.inside b here_below

  in_nodes : n < length l.nodes
  in_nodes = rw u.holds.fits.nodes inside

  in_lanes : b < length l.lanes
  in_lanes = rw u.holds.fits.lanes here_below

  -- ---- the line after the Take

  now_plan : (taken_now l b m).plan ≡ l.plan
  unfolding taken_lane with_lane
  now_plan = refl

  now_nodes : (taken_now l b m).nodes ≡ l.nodes
  unfolding taken_lane with_lane
  now_nodes = refl

  now_taken : (c : ℕ) → (lane_at (taken_now l b m) c).taken ≡ taken_after l b m.time c
  unfolding taken_lane taken_from
  now_taken c = elim (ℕ_discrete c b) [
    | yes q ↦
        ap (λ (d : ℕ). (lane_at (taken_now l b m) d).taken) q
        ∙ ap (λ x. x.taken) (lane_there b (taken_from (parents l.plan (sender_of l b)) m (drop 1 (lane_at l b).queue) (lane_at l b)) l in_lanes)
        ∙ ap (λ (d : ℕ). max (lane_at l d).taken m.time) (sym q)
        ∙ sym (rw (eq-eqb c b q))
    | no d ↦ ap (λ x. x.taken) (lane_else b (taken_from (parents l.plan (sender_of l b)) m (drop 1 (lane_at l b).queue) (lane_at l b)) l c d) ∙ sym (rw (ne_eqb c b d))
  ]

  abbrev after : Line
  after = held_more n (to_be_held l b m) (taken_now l b m)

  after_is : taken_replaying b m (taken_now l b m) ≡ after
  unfolding taken_replaying taken_lane with_lane holding
  after_is = one goes refl
    where
      one : (t : Bool) → goes ≡ t → taken_replaying b m (taken_now l b m) ≡ held_more n (cond t (h ∷ []) []) (taken_now l b m)
      one true e = rw (e, taken_replaying)
      one false e = rw (e, taken_replaying)

  in_now : n < length (taken_now l b m).nodes
  in_now = rw now_nodes in_nodes

  node_now : node_at (taken_now l b m) n ≡ node_at l n
  node_now = ap (λ (xs : List Node). get_or xs n fresh_node) now_nodes

  after-plan : after.plan ≡ l.plan
  after-plan = more_plan n h (taken_now l b m) in_now goes ∙ now_plan

  after_part : {A : Type 0} (f : Node → A) → f (more_held h (node_at (taken_now l b m) n)) ≡ f (node_at (taken_now l b m) n) → f (node_at after n) ≡ f (node_at l n)
  after_part f e = more_part n h (taken_now l b m) in_now f e goes ∙ ap f node_now

  after-taken : (c : ℕ) → (lane_at after c).taken ≡ taken_after l b m.time c
  after-taken c = ap (λ x. x.taken) (more_lane n h (taken_now l b m) in_now goes c) ∙ now_taken c

  after_rows : rows_complete after n ≡ rows_after l n b m.time
  unfolding rows_complete rows_after row_complete
  after_rows =
      ap (λ (p : Plan). all_of (λ (c : ℕ). leb (row_goal (node_at after n).targets (channel_at p c).sender) (lane_at after c).taken) (entering p n)) after-plan
      ∙ (λ i. all_of (λ (c : ℕ). leb (row_goal (after_part (λ (x : Node). x.targets) refl i) (sender_of l c)) (after-taken c i)) (entering l.plan n))

  pub as_in : AsIn (line_of s) (receiver_of (line_of s) b) ((node_at (line_of s) (receiver_of (line_of s) b)).held ++ to_be_held (line_of s) b m) (held_more (receiver_of (line_of s) b) (to_be_held (line_of s) b m) (taken_now (line_of s) b m))
  as_in = record {
    plan = after-plan;
    held = more_held_lem n h (taken_now l b m) in_now goes ∙ ap (λ (x : Node). x.held ++ to_be_held l b m) node_now;
    targets = after_part (λ (x : Node). x.targets) refl;
    time = after_part (λ (x : Node). x.time) refl;
    taken = λ c e. after-taken c ∙ rw (ne_eqb c b (λ q. let f = ordered.forward b here_below in omega (arith, e, ap (λ (d : ℕ). (channel_at l.plan d).sender) q)));
  }

  -- ---- where it leads

  effect_is : effect l (take b) ≡ ended_if_complete n after
  unfolding effect taken_line
  effect_is = ap (λ (q : List Message). taken_first b q l) first ∙ one (drop 1 (lane_at l b).queue) again ∙ ap (ended_if_complete n) after_is
    where
      one : (rest : List Message) → replaying l (receiver_of l b) ≡ true → taken_first b (m ∷ rest) l ≡ ended_if_complete n (taken_replaying b m (taken_lane b m rest l))
      one rest e = rw (e, taken_first)

  pub goes_on_lem : rows_after (line_of s) (receiver_of (line_of s) b) b m.time ≡ false → effect (line_of s) (take b) ≡ some (held_more (receiver_of (line_of s) b) (to_be_held (line_of s) b m) (taken_now (line_of s) b m))
  unfolding ended_if_complete
  goes_on_lem e = effect_is ∙ rw (after_rows ∙ e, ended_if_complete)

  pub comes_up : rows_after (line_of s) (receiver_of (line_of s) b) b m.time ≡ true → effect (line_of s) (take b) ≡ replay_end (receiver_of (line_of s) b) (held_more (receiver_of (line_of s) b) (to_be_held (line_of s) b m) (taken_now (line_of s) b m))
  unfolding ended_if_complete
  comes_up e = effect_is ∙ rw (after_rows ∙ e, ended_if_complete)

  after_high : high_of after n ≡ high_of l n
  after_high = high_same l after n after-plan (λ c k e. as_in.taken c e)

  -- The line left, by what is written: the message taken, and the node as it is when its replay has ended.
  pub ended_is : (log : List Entry)
      → with_node (receiver_of (line_of s) b) (ended_node (held_more (receiver_of (line_of s) b) (to_be_held (line_of s) b m) (taken_now (line_of s) b m)) (receiver_of (line_of s) b) log) (held_more (receiver_of (line_of s) b) (to_be_held (line_of s) b m) (taken_now (line_of s) b m))
      ≡ with_node (receiver_of (line_of s) b) (ended_node (line_of s) (receiver_of (line_of s) b) log) (taken_now (line_of s) b m)
  ended_is log =
      more_gone n h (taken_now l b m) in_now goes (ended_node after n log)
      ∙ (λ i. with_node n (record {
        status = up;
        crashed = after_part (λ (x : Node). x.crashed) refl i;
        time = after_high i;
        log = log;
        held = [];
        targets = [];
        asked = none;
      }) (taken_now l b m))

  -- ---- the number

  module _ (alive : end_down (line_of s) b ≡ false) where
    abbrev full : Bool
    full = goes && leb held_limit (length (node_at (line_of s) (receiver_of (line_of s) b)).held)

    lacks : no_space l (take b) ≡ full
    unfolding take_lacks
    lacks =
        ap (λ (t : Bool). cond t (to_hold l n (first_record (lane_at l b).queue) && leb held_limit (length (node_at l n).held)) (leb log_limit (length (node_at l n).log))) again
        ∙ ap (λ (q : List Message). to_hold l n (first_record q) && leb held_limit (length (node_at l n).held)) first

    row_is : row_done l (take b) ≡ row_complete l n b
    row_is = ap (λ (t : Bool). t && row_complete l n b) again

    pub number_is : (row space placed : Bool) → row_complete l n b ≡ row → full ≡ space → is_nothing (effect l (take b)) ≡ placed
        → line_refusal (line_of s) (take b) ≡ (elim row [ true ↦ 20 | false ↦ elim space [ true ↦ 21 | false ↦ elim placed [ true ↦ 24 | false ↦ 0 ] ] ])
    unfolding no_placing
    number_is row space placed er es ep =
        refusal_first l (take b)
        ∙ (λ i. first_of ((13, lt-leb (channel_count l.plan) b here_below i) ∷ (15, alive i) ∷ (18, is_empty (first i)) ∷ (20, (row_is ∙ er) i) ∷ (21, (lacks ∙ es) i) ∷ (24, ep i) ∷ []))
