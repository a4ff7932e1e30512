-- A node that is up and logs one more entry: it and the line stay sound, for any lanes whose entries are not lowered.
use Prim.Native.Nat.{ℕ, suc, ◌<◌, ◌≤◌}
use mathlib.Core.Path.{◌≡◌, refl, sym, ap, subst, ◌∙◌}
use mathlib.Core.Logic.{◌≢◌, ◌⊎◌, inl, inr}
use mathlib.Core.Bool.{false}
use mathlib.Core.List.{List, [], ◌∷◌, ◌++◌, map}
use native.Mathlib.Omega.{arith}
use native.Mathlib.Decide.{ℕ_discrete}
use lib.ListN.{length, length-append, set, length-set}
use Rattle.plan.specs.declared.Record.{Record}
use Rattle.plan.specs.Plan.{Plan, node_count, channel_count, channel_at}
use Rattle.rules.specs.Line.{log_limit, accepted_steps, Origin, Entry, Status, up, Node, Lane, Line, node_at, lane_at, with_node}
use Rattle.plan.specs.Layout.{sum_of}
use Rattle.plan.specs.Mask.{set_of}
use Rattle.rules.specs.Recover.{triple, triples}
use Rattle.rules.specs.Replay.{held_entry}
use Rattle.rules.specs.Clock.{logged}
use Rattle.rules.specs.Damaged.{worked_on, may_repeat}
use Rattle.rules.proofs.Lists.Rising.{within_snoc, within_higher}
use Rattle.rules.proofs.Lists.Members.{In, in_none, in_first, in_left, in_right, append_in}
use Rattle.rules.proofs.Line.LineLaws.{node_there, node_else}
use Rattle.rules.proofs.Line.Consoles.{CountsFit}
use Rattle.rules.proofs.Invariant.Stays.{moved}
use Rattle.rules.proofs.Invariant.Inv.{Enters, Leaves}
use Rattle.rules.proofs.Ending.Targets.{triples_snoc}
use Rattle.rules.proofs.Undamaged.Standing.{entry_time, EntryFits, Empties, NodeFits, Covers, NodeSound, ChannelSound, Standing, Sound}
use Rattle.rules.proofs.Undamaged.SoundStays.{node-later, node_stays, stopped_same}
use Rattle.rules.proofs.Undamaged.LogRising.{log_snoc}

-- One more of what was worked on.
worked_more : (x : Node) (e : Entry) {d : Entry} → In d ((x.log ++ e ∷ []) ++ map held_entry x.held) → (d ≡ e) ⊎ In d (worked_on x)
worked_more x e i = elim (append_in (x.log ++ e ∷ []) i) [
  | inl j ↦ elim (append_in x.log j) [
    | inl h ↦ inr (in_left (map held_entry x.held) h)
    | inr h ↦ elim (in_first h) [ inl q ↦ inl q | inr z ↦ absurd (in_none z) ]
  ]
  | inr j ↦ inr (in_right x.log j)
]

module _ (p : Plan) (steps n : ℕ) (x : Node) (f : NodeFits p steps n x) (stands_up : x.status ≡ up) (room : length x.log < log_limit) (at : ℕ) (later_on : x.time ≤ at) (not-far : at ≤ suc x.time) (what : Record) (late_on : may_repeat p n what ≡ false → x.time < at) (chosen : ℕ) (is_set : chosen ≡ set_of p n what) (origin before : Origin) where
  abbrev entry : Entry
  entry = record { what = what; time = at; origin = origin; before = before; set = chosen }

  pub logged_fits : EntryFits p (suc steps) n (record { what = what; time = at; origin = origin; before = before; set = chosen }) → NodeFits p (suc steps) n (logged at chosen what origin before x)
  unfolding logged
  logged_fits new =
      let later : steps ≤ suc steps = omega arith in
      let g = node-later p later n x f in
      record {
        log_few = omega (arith, length-append x.log (entry ∷ []));
        held_few = f.held_few;
        targets_few = f.targets_few;
        entries = λ d i. elim (worked_more x entry i) [ inl q ↦ subst (EntryFits p (suc steps) n) (sym q) new | inr j ↦ g.entries d j ];
        targets = g.targets;
        time = omega (arith, f.time);
        rises = log_snoc p n entry (omega arith) f.within later_on late_on f.rises;
        within = within_snoc entry_time entry (omega arith) (within_higher entry_time (omega arith) f.within);
        sets = λ d i. elim (append_in x.log i) [ inl j ↦ f.sets d j | inr j ↦ elim (in_first j) [ inl q ↦ rw q is_set | inr z ↦ absurd (in_none z) ] ];
        passed = f.passed;
        unmarked = f.unmarked;
        between = f.between;
        empties = subst (λ (s : Status). Empties s (logged at chosen what origin before x)) (sym stands_up) (subst (λ (s : Status). Empties s x) stands_up f.empties);
      }

-- The counts afterwards are any that are one step more.
module _ (l : Line) (sound : Sound l) {counts : List ℕ} (counts_fit_lem : CountsFit counts) (rise : sum_of counts ≡ suc (accepted_steps l)) (n : ℕ) (inside : n < node_count l.plan) (stands_up : (node_at l n).status ≡ up) (room : length (node_at l n).log < log_limit)
    (at : ℕ) (later_on : (node_at l n).time ≤ at) (not-far : at ≤ suc (node_at l n).time) (what : Record) (late_on : may_repeat l.plan n what ≡ false → (node_at l n).time < at) (chosen : ℕ) (is_set : chosen ≡ set_of l.plan n what) (origin before : Origin)
    (new : EntryFits l.plan (suc (accepted_steps l)) n (record { what = what; time = at; origin = origin; before = before; set = chosen })) (lanes : List Lane) where
  abbrev s : Standing l
  s = sound.standing

  abbrev pub after : Line
  after = moved l counts (set l.nodes n (logged at chosen what origin before (node_at l n))) lanes

  there : n < length l.nodes
  there = rw s.shape.nodes_long inside

  pub node_now : node_at after n ≡ logged at chosen what origin before (node_at l n)
  unfolding with_node
  node_now = node_there n (logged at chosen what origin before (node_at l n)) l there

  pub node_other : (m : ℕ) → m ≢ n → node_at after m ≡ node_at l m
  unfolding with_node
  node_other m d = node_else n (logged at chosen what origin before (node_at l n)) l m d

  -- What logging does not change.
  same_part : {A : Type 0} (f : Node → A) → f (logged at chosen what origin before (node_at l n)) ≡ f (node_at l n) → (m : ℕ) → f (node_at after m) ≡ f (node_at l m)
  same_part f e m = elim (ℕ_discrete m n) [
    | yes q ↦ ap (λ (z : ℕ). f (node_at after z)) q ∙ ap f node_now ∙ e ∙ ap (λ (z : ℕ). f (node_at l z)) (sym q)
    | no d ↦ ap f (node_other m d)
  ]

  pub status_same : (m : ℕ) → (node_at after m).status ≡ (node_at l m).status
  unfolding logged
  status_same = same_part (λ (x : Node). x.status) refl

  pub mark_same : (m : ℕ) → (node_at after m).crashed ≡ (node_at l m).crashed
  unfolding logged
  mark_same = same_part (λ (x : Node). x.crashed) refl

  -- A replaying node's triples: the new entry is of another.
  triples_stay : (m : ℕ) → triple m origin before ≡ [] → (c : ℕ) → triples m (node_at after c).log ≡ triples m (node_at l c).log
  unfolding logged
  triples_stay m e = same_part (λ (x : Node). triples m x.log) (triples_snoc m (node_at l n).log (record { what = what; time = at; origin = origin; before = before; set = chosen }) e)

  module _ (long : length lanes ≡ length l.lanes) (raised : (b : ℕ) → b < channel_count l.plan → (o bef : Origin) → Covers l.plan b (lane_at l b) o bef → Covers l.plan b (lane_at after b) o bef)
      (own : (b : ℕ) → Enters l.plan n b → Covers l.plan b (lane_at after b) origin before) (channels : (b : ℕ) → b < channel_count l.plan → ChannelSound after b)
      (entries : (m : ℕ) → (node_at l m).status ≢ up → (c : ℕ) → Leaves l.plan m c → (lane_at after c).taken ≡ (lane_at l c).taken)
      (others : (m : ℕ) → (node_at l m).status ≢ up → triple m origin before ≡ []) (lows : (m : ℕ) → (node_at l m).status ≢ up → (c : ℕ) → Leaves l.plan m c → (lane_at after c).low ≡ (lane_at l c).low) where
    node-logs : NodeSound after n
    unfolding logged
    node-logs =
        let f = s.nodes n inside in
        record {
          fits = subst (NodeFits l.plan (sum_of counts) n) (sym node_now) (rw rise (logged_fits l.plan (accepted_steps l) n (node_at l n) f.fits stands_up room at later_on not-far what late_on chosen is_set origin before new));
          clock = λ e i b h. elim (worked_more (node_at l n) (record { what = what; time = at; origin = origin; before = before; set = chosen }) (subst (λ (x : Node). In e (worked_on x)) node_now i)) [
            | inl q ↦ subst (λ (d : Entry). Covers l.plan b (lane_at after b) d.origin d.before) (sym q) (own b h)
            | inr j ↦ raised b h.0 e.origin e.before (f.clock e j b h)
          ];
          rows = λ b h. rw node_now (f.rows b h);
        }

    pub log_sound : Sound after
    unfolding logged
    log_sound =
        let later : accepted_steps l ≤ sum_of counts = omega (arith, rise) in
        record {
          standing = record {
            plan_fits_lem = s.plan_fits_lem;
            shape = record { nodes_long = length-set l.nodes n (logged at chosen what origin before (node_at l n)) ∙ s.shape.nodes_long; lanes_long = long ∙ s.shape.lanes_long };
            counts = counts_fit_lem;
            nodes = λ m h. elim (ℕ_discrete m n) [
              | yes q ↦ subst (NodeSound after) (sym q) node-logs
              | no d ↦ node_stays l counts after.nodes lanes later m (node_other m d) (λ b j. raised b j.0) (s.nodes m h)
            ];
            channels = channels;
          };
          stopped = λ m h e.
              (let old : (node_at l m).status ≢ up = λ q. e (status_same m ∙ q) in
              let d : m ≢ n = λ q. old (ap (λ (z : ℕ). (node_at l z).status) q ∙ stands_up) in
              stopped_same l counts after.nodes lanes later m (entries m old) (λ c _. triples_stay m (others m old) (channel_at l.plan c).receiver) (lows m old) (node_other m d) (sound.stopped m h old));
        }
