-- The end of a replay keeps a line sound, and so does a replay that goes on where its rows are not complete.
use Prim.Native.Nat.{ℕ, ◌<◌, ◌≤◌}
use mathlib.Core.Path.{◌≡◌, refl, sym, ap, subst, ◌∙◌}
use mathlib.Core.Logic.{◌≢◌, inl, inr}
use mathlib.Core.Bool.{true, false, ◌||◌, true≢false}
use mathlib.Core.List.{List, [], ◌++◌}
use mathlib.Core.Option.{none}
use native.Mathlib.Omega.{arith}
use native.Mathlib.Decide.{ℕ_discrete}
use lib.ListN.{length, length-set}
use lib.Dec.{eqb}
use Rattle.plan.specs.Plan.{node_count, channel_at, entering, leaving}
use Rattle.plan.specs.Mask.{set_of}
use Rattle.rules.specs.Lists.{joined}
use Rattle.rules.specs.Line.{Entry, Held, up, replay, Node, Line, node_at, lane_at, with_node, is_down, accepted_steps}
use Rattle.rules.specs.Recover.{child_times, high_of, triples, rows_complete}
use Rattle.rules.specs.Replay.{held_by_row, items_by_row, held_entry, placed_log, node_placed}
use Rattle.rules.specs.Damaged.{worked_on}
use Rattle.placing.specs.Table.{most_items}
use Rattle.placing.specs.Rules.{KeepsRules}
use Rattle.rules.proofs.Lists.Rising.{Rises, none, rises_lower}
use Rattle.rules.proofs.Lists.Members.{In, in_none, in_map, in_right, append_in, keep_in, map_in, joined_in, greatest_in}
use Rattle.rules.proofs.Line.LineLaws.{node_there, node_else}
use Rattle.rules.proofs.Line.Joins.{leaving_in}
use Rattle.rules.proofs.Invariant.Inv.{Leaves}
use Rattle.rules.proofs.Invariant.InvLaws.{up_not_down, up_not_replay}
use Rattle.rules.proofs.Undamaged.Standing.{held_time, held_from, EntryFits, NodeFits, Covers, NodeSound, Standing, Stopped, Sound}
use Rattle.rules.proofs.Undamaged.SoundStays.{node_stays, channel_like, stopped_same}
use Rattle.rules.proofs.Undamaged.LogRising.{rising_log}
use Rattle.rules.proofs.Undamaged.Undamaged.{rows_in}
use Rattle.rules.proofs.Undamaged.PlacedLog.{placed_from, log_placed}
use Rattle.rules.proofs.Ending.Ends.{EndsAs, goes_on_lem, ends_at}
use Rattle.rules.proofs.Undamaged.CrashSound.{stopped_marked}

-- High is no time past the steps.
pub high_within : (l : Line) → Standing l → (n : ℕ) → high_of l n ≤ accepted_steps l
unfolding high_of child_times
high_within l s n = elim (greatest_in (child_times l n)) [
  | inl q ↦ omega arith
  | inr i ↦
      (let (c, j, q) = map_in (λ (c : ℕ). (lane_at l c).taken) (leaving l.plan n) i in
      omega (arith, (s.channels c (leaving_in l.plan n c j).0).fits.taken))
]

-- Two joined nodes are not both marked.
pub marked-apart : (l : Line) → Standing l → (m n : ℕ) → (node_at l m).crashed ≡ true → (node_at l n).crashed ≡ true → (c : ℕ) → Leaves l.plan m c → (channel_at l.plan c).receiver ≢ n
marked-apart l s m n from to c (i, q) z = true≢false (sym to ∙ ap (λ (y : ℕ). (node_at l y).crashed) (sym z) ∙ (s.channels c i).apart (ap (λ (y : ℕ). (node_at l y).crashed) q ∙ from))

module _ (l : Line) (s : Standing l) (n : ℕ) (inside : n < node_count l.plan) (again : (node_at l n).status ≡ replay) (others : (m : ℕ) → m < node_count l.plan → m ≢ n → (node_at l m).status ≢ up → Stopped l m) where
  abbrev x : Node
  x = node_at l n

  abbrev rows : List (List Held)
  rows = held_by_row (node_at l n).held l (entering l.plan n)

  old : NodeSound l n
  old = s.nodes n inside

  -- What is in a row is held.
  in_held : (h : Held) → In h (joined rows) → In h x.held
  in_held h i =
      let (row, j, k) = joined_in rows i in
      let (b, _, q) = rows_in x.held l (entering l.plan n) j in
      (keep_in (λ (y : Held). eqb y.sender (channel_at l.plan b).sender) x.held (subst (λ (hs : List Held). In h hs) q k)).0

  worked : (h : Held) → In h (joined rows) → In (held_entry h) (worked_on x)
  worked h i = in_right x.log (in_map held_entry (in_held h i))

  module _ (columns : List ℕ) (keeps : KeepsRules (node_at l n).time (high_of l n) (items_by_row l n 0 (held_by_row (node_at l n).held l (entering l.plan n))) columns) (few : length (items_by_row l n 0 (held_by_row (node_at l n).held l (entering l.plan n))) ≤ most_items) where
    abbrev placed : Node
    placed = node_placed l n (joined (held_by_row (node_at l n).held l (entering l.plan n))) columns

    abbrev log : List Entry
    log = placed_log (set_of l.plan n) (joined (held_by_row (node_at l n).held l (entering l.plan n))) columns

    abbrev after : Line
    after = with_node n (node_placed l n (joined (held_by_row (node_at l n).held l (entering l.plan n))) columns) l

    only_log : {e : Entry} → In e (log ++ []) → In e log
    only_log i = elim (append_in log i) [ inl j ↦ j | inr j ↦ absurd (in_none j) ]

    placed_entry : (e : Entry) → In e log → EntryFits l.plan (accepted_steps l) n e
    placed_entry e i =
        let y = placed_from (set_of l.plan n) (joined rows) columns i in
        let f = old.fits.entries (held_entry y.held) (worked y.held y.among) in
        subst (EntryFits l.plan (accepted_steps l) n) (sym y.entry_is_lem) (record { limits = f.limits; origin = f.origin; before = f.before })

    placed_fits : NodeFits l.plan (accepted_steps l) n placed
    unfolding node_placed
    placed_fits =
        let f = old.fits in
        let g = log_placed (set_of l.plan n) l n rows x.time (high_of l n) columns keeps few in
        record {
          log_few = g.few;
          held_few = omega arith;
          targets_few = omega arith;
          entries = λ e i. placed_entry e (only_log i);
          targets = λ t i. absurd (in_none i);
          time = high_within l s n;
          rises = rising_log l.plan n (rises_lower _ (omega arith) g.rises);
          within = g.within;
          sets = λ e i. (let y = placed_from (set_of l.plan n) (joined rows) columns i in rw y.entry_is_lem);
          passed = λ h i. absurd (in_none i);
          unmarked = λ e. refl;
          between = f.between;
          empties = (refl, refl, refl);
        }

    node_now : node_at after n ≡ placed
    node_now = node_there n placed l (rw s.shape.nodes_long inside)

    node_other : (m : ℕ) → m ≢ n → node_at after m ≡ node_at l m
    node_other m d = node_else n placed l m d

    now_up : (node_at after n).status ≡ up
    unfolding node_placed
    now_up = ap (λ (y : Node). y.status) node_now

    mark_same : (m : ℕ) → (node_at after m).crashed ≡ (node_at l m).crashed
    unfolding node_placed
    mark_same m = elim (ℕ_discrete m n) [
      | yes q ↦ ap (λ (z : ℕ). (node_at after z).crashed) q ∙ ap (λ (y : Node). y.crashed) node_now ∙ ap (λ (z : ℕ). (node_at l z).crashed) (sym q)
      | no d ↦ ap (λ (y : Node). y.crashed) (node_other m d)
    ]

    down_same : (m : ℕ) → is_down (node_at after m).status ≡ is_down (node_at l m).status
    down_same m = elim (ℕ_discrete m n) [
      | yes q ↦ ap (λ (z : ℕ). is_down (node_at after z).status) q ∙ ap is_down now_up ∙ sym (ap (λ (z : ℕ). is_down (node_at l z).status) q ∙ ap is_down again)
      | no d ↦ ap (λ (y : Node). is_down y.status) (node_other m d)
    ]

    -- A node that is not up is as it was.
    still : (m : ℕ) → (node_at after m).status ≢ up → m ≢ n
    still m d q = d (ap (λ (z : ℕ). (node_at after z).status) q ∙ now_up)

    node-ended : NodeSound after n
    unfolding with_node node_placed
    node-ended =
        record {
          fits = subst (NodeFits l.plan (accepted_steps l) n) (sym node_now) placed_fits;
          clock = λ e i b h.
              (let y = placed_from (set_of l.plan n) (joined rows) columns (only_log (subst (λ (z : Node). In e (worked_on z)) node_now i)) in
              subst (λ (d : Entry). Covers l.plan b (lane_at l b) d.origin d.before) (sym y.entry_is_lem) (old.clock (held_entry y.held) (worked y.held y.among) b h));
          rows = λ b h. subst (λ (y : Node). Rises held_time 0 (held_from (channel_at l.plan b).sender y.held)) (sym node_now) none;
        }

    stopped_on : (m : ℕ) → m < node_count l.plan → (node_at after m).status ≢ up → Stopped after m
    unfolding with_node
    stopped_on m h d =
        let other = still m d in
        let node = node_other m other in
        let was : (node_at l m).status ≢ up = λ q. d (ap (λ (y : Node). y.status) node ∙ q) in
        let child_other = marked-apart l s m n (stopped_marked l s m h was) (stopped_marked l s n inside (λ e. up_not_replay (sym e ∙ again))) in
        let same : accepted_steps l ≤ accepted_steps l = omega arith in
        stopped_same l l.steps after.nodes l.lanes same m (λ c j. refl) (λ c j. ap (λ (y : Node). triples m y.log) (node_other (channel_at l.plan c).receiver (child_other c j))) (λ c j. refl) node (others m h other was)

    placed_sound : Sound after
    unfolding with_node
    placed_sound =
        let same : accepted_steps l ≤ accepted_steps l = omega arith in
        record {
          standing = record {
            plan_fits_lem = s.plan_fits_lem;
            shape = record { nodes_long = length-set l.nodes n placed ∙ s.shape.nodes_long; lanes_long = s.shape.lanes_long };
            counts = s.counts;
            nodes = λ m h. elim (ℕ_discrete m n) [
              | yes q ↦ subst (NodeSound after) (sym q) node-ended
              | no d ↦ node_stays l l.steps after.nodes l.lanes same m (node_other m d) (λ b j o before c. c) (s.nodes m h)
            ];
            channels = λ c h.
                (let from = (channel_at l.plan c).sender in
                let to = (channel_at l.plan c).receiver in
                channel_like l l.steps after.nodes l.lanes same c (λ i. down_same from i || down_same to i)
                (λ e. sym (ap (λ (y : Node). y.status) (node_other to (still to (λ q. up_not_down (sym q ∙ e))))) ∙ e)
                (λ e. sym (ap (λ (y : Node). y.status) (node_other from (still from (λ q. up_not_replay (sym q ∙ e))))) ∙ e)
                (mark_same from) (mark_same to) refl (s.channels c h));
          };
          stopped = stopped_on;
        }

  -- "When all rows are complete, in that same step": ended, or as it was.
  pub ended_sound : (rows_complete l n ≡ false → Stopped l n) → {k : Line} → EndsAs n l k → Sound k
  ended_sound own (goes_on_lem c) = record { standing = s; stopped = λ m h q. elim (ℕ_discrete m n) [ yes z ↦ subst (Stopped l) (sym z) (own c) | no d ↦ others m h d q ] }
  ended_sound own (ends_at c h columns keeps few) = placed_sound columns keeps few
