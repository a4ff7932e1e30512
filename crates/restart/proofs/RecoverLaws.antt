-- Recover, Ask and Commit: what they leave is the rules' line.
use Prim.Native.Nat.{ℕ, suc, ◌≤◌, ◌<◌}
use mathlib.Core.Path.{◌≡◌, refl, sym, ap, subst, ◌∙◌}
use mathlib.Core.Bool.{Bool, true, false, ◌||◌}
use mathlib.Core.List.{List, [], ◌∷◌}
use mathlib.Core.Option.{Option, none, some, map}
use native.Mathlib.Omega.{arith}
use borrow.Author.Tests.{lt-ltb, le-ltb}
use lib.ListN.{length, get_or, replicate}
use lib.Dec.{ltb}
use Rattle.std.specs.declared.result.Result.TheVariants.{Ok, Err}
use Rattle.answers.specs.declared.Refusal.{Refusal}
use Rattle.answers.specs.declared.Refusal.TheVariants.{NoPlacing}
use Rattle.answers.specs.Number.{refusal_number}
use Rattle.plan.specs.Lawful.{Each}
use Rattle.plan.specs.Plan.{plan_of, plan_nodes, channel_at, node_count, entering}
use Rattle.rules.specs.Line.{target_limit, made, Target, Status, down, Asked, Node, Line, node_at, lane_at, with_node, fresh_lane, is_down}
use Rattle.rules.specs.Damaged.{low_wrong}
use Rattle.rules.specs.Frame.{recover, ask, commit}
use Rattle.rules.specs.Recover.{restored, targets_of, status_of, restored_to, recovered, answer_of, beside, committed}
use Rattle.rules.specs.Step.{is_nothing, node_down, asking, asked_line, committed_by, committed_line, effect, line_refusal}
use Rattle.rules.proofs.Lists.Members.{In, here, there, in_at}
use Rattle.rules.proofs.Ending.Targets.{triples_at_in, targets_from}
use Rattle.rules.proofs.Invariant.Inv.{Enters}
use Rattle.rules.proofs.Invariant.InvLaws.{up_not_down}
use Rattle.rules.proofs.Theorem.Accepted.{is_down_lem}
use Rattle.rules.proofs.Undamaged.Standing.{Empties, Standing}
use Rattle.rules.proofs.Undamaged.CrashSound.{stopped_marked}
use Rattle.rules.proofs.Undamaged.LowLaws.{low_within}
use Rattle.rules.proofs.Undamaged.Undamaged.{undamaged_sound}
use Rattle.rules.proofs.Restart.AskCommit.{asks_as_recover}
use Rattle.slots.specs.declared.Goal.{Goal}
use Rattle.slots.specs.Slots.{target_is}
use Rattle.node_fields.specs.declared.Kept.{Kept}
use Rattle.node_fields.specs.Kept.{kept_is}
use Rattle.state.specs.Fits.{LineFits, EntryFits, OriginFits}
use Rattle.state.specs.Changes.{with_targets, with_asked}
use Rattle.state.specs.State.{line_of}
use Rattle.state.proofs.InPlace.{line-plan}
use Rattle.buffer.specs.Holds.{Holds, AtNode, NodeNow, Undamaged, Did}
use Rattle.buffer.proofs.HoldsLaws.{node_fits, node_then, node-after, node_log_counted}
use Rattle.recover.specs.declared.told.Found.{Found}
use Rattle.recover.specs.Finds.{Finds}
use Rattle.recover.specs.Found.{targets_in, TooMany, LogsCounted, no_outcome}
use Rattle.recover.proofs.TargetLaws.{targets_length, target_at}
use Rattle.restart.specs.Answers.{first_of, restart_asked}
use Rattle.restart.specs.Finds.{Restores, Restoring, KeptRows}
use Rattle.restart.specs.Lanes.{with_entry, marked, restored_lanes}
use Rattle.restart.specs.Nodes.{settled, Fillable}
use Rattle.restart.proofs.FitsLaws.{ordered_of, shape_of, lane_fresh}
use Rattle.buffer.proofs.ReadyLaws.{line-nodes}
use Rattle.restart.proofs.StateLaws.{at-node}
use Rattle.restart.proofs.SweepLaws.{swept_same}
use Rattle.restart.proofs.AnswerLaws.{refused, asked_inside, asked_down, asked_number, found_number, effect-none, effect_some, commit_number, commit_asked, commit_kept}

-- ---- lists by their members

each_in : {A : Type 0} (P : A → Type 0) {x : A} {xs : List A} → Each P xs → In x xs → P x
each_in P e here = e.0
each_in P e (there i) = each_in P e.1 i

all_zero : (xs : List ℕ) → ((t : ℕ) → In t xs → t ≡ 0) → xs ≡ replicate (length xs) 0
all_zero [] f = refl
all_zero (x ∷ xs) f = λ j. f x here j ∷ all_zero xs (λ t i. f t (there i)) j

-- ---- a node that is down

module _ (l : Line) (fits : LineFits l) (standing : Standing l) (n : ℕ) (inside : n < node_count l.plan) (stopped : (node_at l n).status ≡ down) where
  blank : Empties down (node_at l n)
  blank = subst (λ (s : Status). Empties s (node_at l n)) stopped (standing.nodes n inside).fits.empties

  -- The node as it is left, for a time and some targets.
  node_is : (low : ℕ) (ts : List Target) → settled low (with_targets ts (node_at l n)) ≡ record { status = status_of ts; crashed = true; time = low; log = []; held = []; targets = ts; asked = none }
  node_is low ts =
      let crashed = stopped_marked l standing n inside (λ e. up_not_down (sym e ∙ stopped)) in
      λ j. record { status = status_of ts; crashed = crashed j; time = low; log = blank.1 j; held = blank.2 j; targets = ts; asked = none }

  -- A channel that enters it has nothing on it, and its clock is 0, and so is its low clock, which is never past it.
  entered_is : (c t : ℕ) → Enters l.plan n c → with_entry t (lane_at l c) ≡ fresh_lane l.plan (channel_at l.plan c) t
  unfolding low_wrong
  entered_is c t e =
      let on = standing.channels c e.0 in
      let own : (node_at l (channel_at l.plan c).receiver).status ≡ down = ap (λ (k : ℕ). (node_at l k).status) e.1 ∙ stopped in
      let heard = all_zero (lane_at l c).heard (λ u i. on.cleared own u (there i)) in
      let long : length (lane_at l c).low ≡ suc (length (lane_at l c).heard) = on.fits.low_long ∙ ap suc (sym on.fits.heard_long) in
      let low = all_zero (lane_at l c).low (λ u i. (let z = low_within 0 (lane_at l c).low ((lane_at l c).taken ∷ (lane_at l c).heard) long on.fits.low_below (λ t k. omega (arith, on.cleared own t k)) u i in omega arith)) in
      let queue = (on.stopped (or_down (node_down l (channel_at l.plan c).sender) (node_down l (channel_at l.plan c).receiver) (ap is_down own))).1 in
      (λ j. record { mark = t; taken = t; heard = heard j; queue = queue j; low = low j }) ∙ lane_fresh l fits c t e.0
    where
      or_down : (a b : Bool) → b ≡ true → (a || b) ≡ true
      or_down true b q = refl
      or_down false b q = q

  -- The node and the lanes, for a time, some targets and some entries.
  pub line_is : (low : ℕ) (ts : List Target) (entry : ℕ → ℕ) (entries : List ℕ) → ((c : ℕ) → Enters l.plan n c → get_or entries (channel_at l.plan c).sender 0 ≡ entry c)
      → restored_lanes n entries (with_node n (settled low (with_targets ts (node_at l n))) l) ≡ restored_to low ts entry n l
  unfolding restored_to with_node
  line_is low ts entry entries rows =
      let node : Node = record { status = status_of ts; crashed = true; time = low; log = []; held = []; targets = ts; asked = none } in
      ap (λ (x : Node). restored_lanes n entries (with_node n x l)) (node_is low ts)
      ∙ swept_same (λ c x. fresh_lane l.plan (channel_at l.plan c) (entry c)) (λ c. marked) (λ c. with_entry (get_or entries (channel_at l.plan c).sender 0)) (λ c. marked) (with_node n node l) n (ordered_of l fits) fits.lanes
      (λ c e. ap (λ (t : ℕ). with_entry t (lane_at l c)) (rows c e) ∙ entered_is c (entry c) e) (λ c e. refl)

-- ---- the targets found

target_small : (l : Line) → LineFits l → (n : ℕ) (u : Target) → In u (targets_of l n) → u.parent < 256
target_small l fits n u i =
    let at = triples_at_in l n u (targets_from l n u i).0 in
    let k = (channel_at l.plan at.channel).receiver in
    let f = each_in EntryFits (fits.node k ((ordered_of l fits).inside at.channel at.on_plan)).log.1 at.is_logged in
    let o : OriginFits (made u.parent u.parent_time) = subst OriginFits at.before_is f.before in
    omega (arith, o.0)

module _ (s : List ℕ) (n : ℕ) (whole : Undamaged s) where
  abbrev line : Line
  line = line_of s

  pub logs-counted : LogsCounted s
  logs-counted k h = let at : AtNode s k = record { holds = whole.holds; inside = h } in omega (arith, node_log_counted at, (node_fits at).log.0)

  standing : Standing line
  standing = (undamaged_sound line whole.undamaged).standing

  -- What is found.
  pub asked_refused : (r : Refusal) → refusal_number r ≡ restart_asked line n → Restoring s n (Err r)
  asked_refused r is = record { number = asked_number line n (refusal_number r) is (refused r); restores = tt }

  module _ (asked : restart_asked line n ≡ 0) where
    inside : n < node_count line.plan
    inside = asked_inside line n asked

    pub restart_inside : n < plan_nodes s
    restart_inside = omega (arith, inside, line-nodes s)

    pub restart_on : AtNode s n
    restart_on = at-node whole.holds n inside

    stopped : (node_at line n).status ≡ down
    stopped = is_down_lem (node_at line n).status (asked_down line n asked)

    abbrev ts : List Target
    ts = targets_of line n

    number_is : (full empty : Bool) (r : ℕ) → ltb target_limit (length ts) ≡ full → is_nothing (effect line (recover n)) ≡ empty → first_of full 21 (first_of empty 24 0) ≡ r → line_refusal line (recover n) ≡ r
    number_is full empty r a b q = found_number line n asked ∙ (λ j. first_of (a j) 21 (first_of (b j) 24 0)) ∙ q

    pub find_full : (r : Refusal) → TooMany ts r → Restoring s n (Err r)
    find_full r (is, many) = record { number = number_is true (is_nothing (effect line (recover n))) (refusal_number r) (lt-ltb target_limit (length ts) many) refl (sym (ap refusal_number is)); restores = tt }

    module _ (found : Found) (finds : Finds s n found) (few : length found.targets ≤ target_limit) where
      room : ltb target_limit (length ts) ≡ false
      room = le-ltb target_limit (length ts) (omega (arith, few, ap length finds.targets))

      pub find_none : no_outcome line n found.targets ≡ true → Restoring s n (Err NoPlacing)
      find_none e =
          let gone = effect-none line n (ordered_of line whole.holds.fits) (shape_of line whole.holds.fits) inside (ap (no_outcome line n) (sym finds.targets) ∙ e) in
          record { number = number_is false true 24 room (ap is_nothing gone) refl; restores = tt }

      pub find_some : no_outcome line n found.targets ≡ false → Restoring s n (Ok found)
      find_some e =
          let leads = effect_some line n (ordered_of line whole.holds.fits) (shape_of line whole.holds.fits) inside (ap (no_outcome line n) (sym finds.targets) ∙ e) in
          record { number = number_is false false 0 room (ap is_nothing leads) refl; restores = record { inside = inside; stopped = stopped; leads = leads; finds = finds } }

  -- Recover and Ask, refused and done.
  pub recover_refused : (r : Refusal) → Restoring s n (Err r) → Did s (recover n) s (refusal_number r)
  recover_refused r finds = record { number = finds.number; refused = λ q. refl; done = λ q. absurd (refused r q) }

  pub ask_refused : (r : Refusal) → Restoring s n (Err r) → Did s (ask n) s (refusal_number r)
  ask_refused r finds = record { number = asks_as_recover line n ∙ finds.number; refused = λ q. refl; done = λ q. absurd (refused r q) }

  module _ (found : Found) (restoring : Restoring s n (Ok found)) where
    restores : Restores s n found
    restores = restoring.restores

    pub found_on : AtNode s n
    found_on = at-node whole.holds n restores.inside

    pub found_inside : n < plan_nodes s
    found_inside = omega (arith, restores.inside, line-nodes s)

    module _ (gs : List Goal) (is : targets_in gs ≡ found.targets) where
      all_found : targets_in gs ≡ targets_of line n
      all_found = is ∙ restores.finds.targets

      -- The targets that it had are gone before those found are written.
      pub found_fillable : length gs ≤ 64 → {t : List ℕ} → NodeNow s n (with_targets []) t → Fillable t n gs
      found_fillable few empty =
          record {
            on = empty.on;
            none = ap (λ (x : Node). x.targets) (node-after found_on (with_targets [] (node_at line n)) empty.holds);
            few = few;
            parents = λ i d h.
                (let among : i < length (targets_in gs) = omega (arith, h, targets_length gs) in
                subst (λ (u : Target). u.parent < 256) (target_at gs i d) (target_small line whole.holds.fits n (get_or (targets_in gs) i (target_is d)) (subst (In (get_or (targets_in gs) i (target_is d))) all_found (in_at (targets_in gs) i (target_is d) among))));
          }

      module _ {t : List ℕ} (targets : NodeNow s n (with_targets (targets_in gs)) t) where
        pub recover_done : {u v : List ℕ} → NodeNow t n (settled found.low) u → Holds v (restored_lanes n found.entries (line_of u)) → Did s (recover n) v 0
        unfolding recovered
        recover_done {v = v} node lanes =
            let both = node_then found_on targets node in
            let few : node_count line.plan ≤ 12 = omega (arith, whole.holds.ready.nodes, line-nodes s) in
            let ordered = ordered_of line whole.holds.fits in
            let same = ap (restored_lanes n found.entries) both.holds.same
            ∙ line_is line whole.holds.fits standing n restores.inside restores.stopped found.low (targets_in gs) (λ (c : ℕ). restored line n (channel_at line.plan c).sender) found.entries
            (λ c e. restores.finds.rows.each (channel_at line.plan c).sender (omega (arith, few, ordered.forward c e.0, ordered.inside c e.0)))
            ∙ (λ j. restored_to (restores.finds.low j) (all_found j) (λ (c : ℕ). restored line n (channel_at line.plan c).sender) n line) in
            record { number = restoring.number; refused = λ q. absurd (q refl); done = λ q. (recovered n line, (restores.leads, subst (Holds v) same lanes)) }

        pub ask_done : {u : List ℕ} (kept : Kept) → kept_is kept ≡ answer_of line n → NodeNow t n (with_asked (some (kept_is kept))) u → Did s (ask n) u 0
        unfolding effect asked_line asking
        ask_done {u} kept is now =
            let both = node_then found_on targets now in
            let x = node_at line n in
            let node : Asked → List Target → Node = λ a vs. record { status = x.status; crashed = x.crashed; time = x.time; log = x.log; held = x.held; targets = vs; asked = some a } in
            let same : node (kept_is kept) (targets_in gs) ≡ asking (answer_of line n) (targets_of line n) x = λ j. node (is j) (all_found j) in
            record {
              number = asks_as_recover line n ∙ restoring.number;
              refused = λ q. absurd (q refl);
              done = λ q. (asked_line n line, (ap (map (λ (k : Line). asked_line n line)) restores.leads, subst (λ (y : Node). Holds u (with_node n y line)) same both.holds));
            }

  -- Commit.
  pub commit_refused : (r : Refusal) → refusal_number r ≡ restart_asked line n → Did s (commit n) s (refusal_number r)
  commit_refused r is = record { number = commit_number line n ∙ commit_asked line n (refusal_number r) is (refused r); refused = λ q. refl; done = λ q. absurd (refused r q) }

  module _ (asked : restart_asked line n ≡ 0) where
    pub commit_unkept : none ≡ (node_at line n).asked → Did s (commit n) s 27
    commit_unkept e =
        record { number = commit_number line n ∙ commit_kept line n asked ∙ ap (λ (o : Option Asked). first_of (is_nothing o) 27 0) (sym e); refused = λ q. refl; done = λ q. (let no : ⊥ = omega arith in absurd no) }

    pub commit_done : (a : Asked) → some a ≡ (node_at line n).asked → (entries : List ℕ) → KeptRows (plan_of s) n a entries → {t u : List ℕ} → NodeNow s n (settled a.low) t → Holds u (restored_lanes n entries (line_of t)) → Did s (commit n) u 0
    unfolding effect committed_line committed
    commit_done a e entries rows {u = u} node lanes =
        let x = node_at line n in
        let same = ap (restored_lanes n entries) node.holds.same
        ∙ line_is line whole.holds.fits standing n (inside asked) (stopped asked) a.low x.targets (beside (entering line.plan n) a.entries) entries (rw (line-plan s) (λ c h. rows c h.0 h.1)) in
        record {
          number = commit_number line n ∙ commit_kept line n asked ∙ ap (λ (o : Option Asked). first_of (is_nothing o) 27 0) (sym e);
          refused = λ q. absurd (q refl);
          done = λ q. (committed n a line, (ap some (ap (λ (o : Option Asked). committed_by n o line) (sym e)), subst (Holds u) same lanes));
        }
