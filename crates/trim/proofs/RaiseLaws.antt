-- The low clock's part on a channel, raised by the entries of a run.
use Prim.Native.Nat.{ℕ, suc, ◌+◌, max, ◌<◌}
use mathlib.Core.Path.{◌≡◌, refl, sym, ap, subst, ◌∙◌}
use mathlib.Core.Logic.{◌≢◌}
use mathlib.Core.List.{List, [], ◌∷◌, ◌++◌, map}
use mathlib.Core.Option.{none, some}
use native.Mathlib.Numerals.{add-one}
use native.Mathlib.Omega.{arith}
use lib.ListN.{length, get_or, set, take, drop, length-drop}
use lib.Seq.{take-suc}
use mathlib.Core.Bool.{true, false, not, true≢false}
use lib.Dec.{eqb}
use borrow.Author.Tests.{eq-eqb, ne_eqb, eqb-true, not-false}
use Rattle.plan.specs.Plan.{Plan, plan_of, plan_channels, channel_at, entering}
use Rattle.plan.specs.Lawful.{Each}
use Rattle.plan.proofs.MaskLaws.{entering_below}
use Rattle.rules.specs.Line.{Origin, fed, made, Entry, Node, Lane, Line, node_at, lane_at, sender_of, parents, with_lane, with_lanes}
use Rattle.rules.specs.Clock.{raise_heard}
use Rattle.rules.specs.Trim.{low_by, low_after, low_raised, with_low}
use Rattle.rules.proofs.Line.LineLaws.{plan_same, node_kept}
use Rattle.state.specs.State.{line_of}
use Rattle.state.proofs.InPlace.{line-plan}
use Rattle.items.specs.Items.{place_from}
use Rattle.items.proofs.Lookup.{entering-apart}
use Rattle.plan.proofs.FitsLaws.{fitting}
use Rattle.rules.proofs.Steps.PlanOrder.{ordered_channels}
use Rattle.buffer.specs.Nothing.{no_entry}
use Rattle.buffer.specs.Holds.{Holds, AtNode, AtLane, LaneNow}
use Rattle.buffer.proofs.ReadyLaws.{low_entering}
use Rattle.slots.specs.Slots.{SenderIs, origin_is}
use Rattle.slots.specs.declared.Made.{Made}
use Rattle.std.specs.Option.{option_eq}
use Rattle.std.specs.declared.option.Option.{Option as Maybe}
use Rattle.std.specs.declared.option.Option.TheVariants.{None, Some}
use Rattle.buffer.proofs.HoldsLaws.{Onward, lane-onward, lane_then, lane_now, lane_as}
use Rattle.channel_fields.proofs.LaneWrites.{lane_kept}
use Rattle.channel_fields.specs.Raised.{low_to}
use Rattle.channel_fields.proofs.RaisedLaws.{raise_fed, raise_unplaced, raise_placed}
use Rattle.trim.specs.Trimmed.{raised_on}

-- ---- by one entry

-- What was made from nothing, or from another's message.
abbrev pub Other : ℕ → Origin → Type 0
Other q fed = Unit {0}
Other q (made k time) = k ≢ q

other_low : (ps : List ℕ) (q : ℕ) (o before : Origin) (low : List ℕ) → Other q o → low_by ps q o before low ≡ low
other_low ps q o before [] h = refl
other_low ps q fed before (k ∷ ks) h = refl
other_low ps q (made m time) before (k ∷ ks) h = rw (ne_eqb m q h, low_by)

own_low : (ps : List ℕ) (q time : ℕ) (before : Origin) (low : List ℕ) → 0 < length low → low_by ps q (made q time) before low ≡ max (get_or low 0 0) time ∷ raise_heard ps (drop 1 low) before
own_low ps q time before [] h = let no : ⊥ = omega arith in absurd no
own_low ps q time before (k ∷ ks) h = rw (eq-eqb q q refl, low_by)

-- By the code's test of who sent what something was made from.
pub made_other : (m : Made) (q : ℕ) (o : Maybe ℕ) → SenderIs m o → not (option_eq eqb o (Some q)) ≡ true → Other q (origin_is m)
made_other m q None is e = rw is tt
made_other m q (Some k) is e = rw is.0 (λ same. absurd (true≢false (sym e ∙ ap not (eq-eqb k q same))))

pub made_own : (m : Made) (q : ℕ) (o : Maybe ℕ) → SenderIs m o → not (option_eq eqb o (Some q)) ≡ false → origin_is m ≡ made q m.time
made_own m q None is e = absurd (true≢false e)
made_own m q (Some k) is e = is.0 ∙ ap (λ (x : ℕ). made x m.time) (eqb-true k q (not-false (eqb k q) e))

set_first : (low : List ℕ) (v : ℕ) → 0 < length low → set low 0 v ≡ v ∷ drop 1 low
set_first [] v h = let no : ⊥ = omega arith in absurd no
set_first (k ∷ ks) v h = refl

module _ (s : List ℕ) (b : ℕ) (at : AtLane s b) where
  abbrev on : Lane
  on = lane_at (line_of s) b

  abbrev q : ℕ
  q = (channel_at (plan_of s) b).sender

  abbrev pub by_entry : Origin → Origin → Lane → Lane
  by_entry o before x = with_low (low_by (parents (line_of s).plan (sender_of (line_of s) b)) (sender_of (line_of s) b) o before x.low) x

  pub low_counted : length on.low ≡ suc (length (entering (plan_of s) q))
  low_counted = low_entering s b (record { ready = at.holds.ready; below = at.below })

  abbrev those : List ℕ
  those = map (λ (c : ℕ). (channel_at (plan_of s) c).sender) (entering (plan_of s) q)

  low_is : (o before : Origin) → low_by (parents (line_of s).plan (sender_of (line_of s) b)) (sender_of (line_of s) b) o before on.low ≡ low_by those q o before on.low
  unfolding parents
  low_is o before = ap (λ (p : Plan). low_by (parents p (channel_at p b).sender) (channel_at p b).sender o before on.low) (line-plan s)

  pub raised_other : (o before : Origin) → Other (channel_at (plan_of s) b).sender o → on ≡ by_entry o before on
  raised_other o before h = ap (λ (ks : List ℕ). with_low ks on) (sym (low_is o before ∙ other_low those q o before on.low h))

  module _ (time : ℕ) where
    -- The sender's entry is raised, and the rest as what it was made from says.
    raised_own : (before : Origin) (ks : List ℕ) → raise_heard those (drop 1 on.low) before ≡ ks → with_low (max (get_or on.low 0 0) time ∷ ks) on ≡ by_entry (made q time) before on
    raised_own before ks e =
        ap (λ (xs : List ℕ). with_low xs on)
        (sym (low_is (made q time) before ∙ own_low those q time before on.low (omega (arith, low_counted)) ∙ ap (λ (xs : List ℕ). max (get_or on.low 0 0) time ∷ xs) e))

    first_raised : low_to 0 time on ≡ with_low (max (get_or on.low 0 0) time ∷ drop 1 on.low) on
    first_raised = ap (λ (xs : List ℕ). with_low xs on) (set_first on.low (max (get_or on.low 0 0) time) (omega (arith, low_counted)))

    pub raised_fed : low_to 0 time on ≡ by_entry (made (channel_at (plan_of s) b).sender time) fed on
    raised_fed = first_raised ∙ raised_own fed (drop 1 on.low) (raise_fed those (drop 1 on.low))

    module _ (earlier sent : ℕ) where
      pub raised_unplaced : place_from (plan_of s) earlier 0 (entering (plan_of s) (channel_at (plan_of s) b).sender) ≡ none → low_to 0 time on ≡ by_entry (made (channel_at (plan_of s) b).sender time) (made earlier sent) on
      raised_unplaced e = first_raised ∙ raised_own (made earlier sent) (drop 1 on.low) (raise_unplaced (plan_of s) earlier sent 0 (entering (plan_of s) q) (drop 1 on.low) e)

      pub raised_placed : (i : ℕ) → place_from (plan_of s) earlier 0 (entering (plan_of s) (channel_at (plan_of s) b).sender) ≡ some i
          → low_to (1 + i) sent (low_to 0 time on) ≡ by_entry (made (channel_at (plan_of s) b).sender time) (made earlier sent) on
      raised_placed i e =
          let ordered = ordered_channels (plan_of s) (fitting (plan_of s) at.holds.ready.fits).channels in
          let (j, is, raises) = raise_placed (plan_of s) earlier sent 0 i (drop 1 on.low) (entering-apart (plan_of s) ordered q) (length-drop 1 on.low ∙ omega (arith, low_counted)) e in
          let place : 1 + i ≡ suc j = omega arith in
          ap (λ (k : ℕ). low_to k sent (low_to 0 time on)) place ∙ ap (low_to (suc j) sent) first_raised
          ∙ raised_own (made earlier sent) (set (drop 1 on.low) j (max (get_or (drop 1 on.low) j 0) sent)) raises

-- ---- by the first entries of a log

after_more : (ps : List ℕ) (q : ℕ) (es : List Entry) (e : Entry) (low : List ℕ) → low_after ps q (es ++ e ∷ []) low ≡ low_by ps q e.origin e.before (low_after ps q es low)
after_more ps q [] e low = refl
after_more ps q (d ∷ es) e low = after_more ps q es e (low_by ps q d.origin d.before low)

-- What a change of a lane leaves as it was.
module _ {s t : List ℕ} {b : ℕ} {f : Lane → Lane} (at : AtLane s b) (now : LaneNow s b f t) where
  pub later : Onward s t
  later = lane-onward at (f (lane_at (line_of s) b)) now.holds

  pub plan-later : (line_of t).plan ≡ (line_of s).plan
  plan-later = ap (λ (l : Line). l.plan) now.holds.same ∙ plan_same b (f (lane_at (line_of s) b)) (line_of s)

  pub node-later : (n : ℕ) → node_at (line_of t) n ≡ node_at (line_of s) n
  node-later n = ap (λ (l : Line). node_at l n) now.holds.same ∙ node_kept b (f (lane_at (line_of s) b)) (line_of s) n

module _ (s : List ℕ) (n b : ℕ) (at : AtLane s b) where
  abbrev l : Line
  l = line_of s

  pub raise_start : LaneNow s b (raised_on (line_of s) n 0 b) s
  unfolding raised_on low_raised
  raise_start = lane_now (raised_on l n 0 b) at (lane_kept s b at (raised_on l n 0 b (lane_at l b)) refl)

  pub raise_turn : (i : ℕ) (t : List ℕ) (now : LaneNow s b (raised_on (line_of s) n i b) t) → i < length (node_at (line_of s) n).log → (e : Entry) → e ≡ get_or (node_at (line_of t) n).log i no_entry
      → (u : List ℕ) → LaneNow t b (by_entry t b now.on e.origin e.before) u → LaneNow s b (raised_on (line_of s) n (i + 1) b) u
  unfolding raised_on low_raised
  raise_turn i t now h e is u then =
      let log = (node_at l n).log in
      let same : e ≡ get_or log i no_entry = is ∙ ap (λ (x : Node). get_or x.log i no_entry) (node-later at now n) in
      let more : take i log ++ e ∷ [] ≡ take (i + 1) log = rw (add-one i, take-suc log i no_entry h, same) refl in
      lane_as
      (ap (λ (p : Plan). with_low (low_by (parents p (channel_at p b).sender) (channel_at p b).sender e.origin e.before (raised_on l n i b (lane_at l b)).low) (lane_at l b)) (plan-later at now)
      ∙ ap (λ (ks : List ℕ). with_low ks (lane_at l b)) (sym (after_more (parents l.plan (sender_of l b)) (sender_of l b) (take i log) e (lane_at l b).low)
      ∙ ap (λ (es : List Entry). low_after (parents l.plan (sender_of l b)) (sender_of l b) es (lane_at l b).low) more))
      (lane_then at now then)

-- ---- channel by channel

module _ (s : List ℕ) (n count : ℕ) where
  abbrev raises : ℕ → Lane → Lane
  raises = raised_on (line_of s) n count

  -- The state t, with the channels left still to be raised.
  pub record RaisedLeft (left : List ℕ) (t : List ℕ) : Type 0 where
    pub below : Each (λ (b : ℕ). b < plan_channels s) left
    pub onward : Onward s t
    pub node : node_at (line_of t) n ≡ node_at (line_of s) n
    pub whole : with_lanes (raised_on (line_of s) n count) left (line_of t) ≡ with_lanes (raised_on (line_of s) n count) (entering (line_of s).plan n) (line_of s)

  pub left_start : AtNode s n → (left : List ℕ) → left ≡ entering (plan_of s) n → RaisedLeft left s
  left_start at left e =
      record {
        below = rw e (entering_below s n);
        onward = record { holds = at.holds; plan = refl; nodes = refl; channels = refl };
        node = refl;
        whole = rw e (ap (λ (p : Plan). with_lanes raises (entering p n) (line_of s)) (sym (line-plan s)));
      }

  module _ (left rest : List ℕ) (b : ℕ) (t : List ℕ) (now : RaisedLeft left t) (first : left ≡ b ∷ rest) where
    pub left_lane : AtLane t b
    left_lane = let below = rw first at now.below in record { holds = now.onward.holds; below = rw now.onward.channels below.0 }

    pub left_turn : (u : List ℕ) → LaneNow t b (raised_on (line_of t) n count b) u → RaisedLeft rest u
    unfolding raised_on
    left_turn u then =
        let plan : (line_of t).plan ≡ (line_of s).plan = line-plan t ∙ now.onward.plan ∙ sym (line-plan s) in
        let same : raised_on (line_of t) n count b (lane_at (line_of t) b) ≡ raises b (lane_at (line_of t) b) =
        ap (λ (x : Node). low_raised (parents (line_of t).plan (sender_of (line_of t) b)) (sender_of (line_of t) b) (take count x.log) (lane_at (line_of t) b)) now.node
        ∙ ap (λ (p : Plan). low_raised (parents p (channel_at p b).sender) (channel_at p b).sender (take count (node_at (line_of s) n).log) (lane_at (line_of t) b)) plan in
        let o = later left_lane then in
        let below = rw first at now.below in
        record {
          below = below.1;
          onward = record { holds = o.holds; plan = o.plan ∙ now.onward.plan; nodes = o.nodes ∙ now.onward.nodes; channels = o.channels ∙ now.onward.channels };
          node = node-later left_lane then n ∙ now.node;
          whole =
              ap (with_lanes raises rest) (then.holds.same ∙ ap (λ (x : Lane). with_lane b x (line_of t)) same)
              ∙ ap (λ (bs : List ℕ). with_lanes raises bs (line_of t)) (sym first) ∙ now.whole;
        }

  pub left_end : (left : List ℕ) → left ≡ [] → (t : List ℕ) → RaisedLeft left t → Holds t (with_lanes (raised_on (line_of s) n count) (entering (line_of s).plan n) (line_of s))
  left_end left e t now = subst (Holds t) (ap (λ (bs : List ℕ). with_lanes raises bs (line_of t)) (sym e) ∙ now.whole) now.onward.holds
