-- What something was made from: the conditions of Damaged on it, taken together, are the item's test.
use Prim.Native.Nat.{ℕ, suc, ◌<◌, ◌≤◌}
use mathlib.Core.Path.{◌≡◌, refl, sym, ap, ◌∙◌}
use mathlib.Core.Bool.{Bool, true, false, not, ◌&&◌, ◌||◌, true≢false, and-true, and-false}
use mathlib.Core.List.{List, [], ◌∷◌, ◌++◌, map}
use mathlib.Core.Option.{Option, none, some}
use native.Mathlib.Omega.{arith}
use lib.ListN.{length, get_or, length-map}
use lib.Dec.{leb, ltb, eqb}
use borrow.Author.Tests.{ltb-true, ltb-false, leb-true, eqb-true, eqb-false, lt-ltb, le-ltb, le-leb, ne_eqb, not-true, not-false}
use Rattle.basics.specs.Bools.{both_true, neither_true}
use Rattle.plan.specs.Plan.{Plan, is_none, channel_at, node_count, channel_count, entering, is_source}
use Rattle.plan.specs.Check.{plan_fits}
use Rattle.plan.proofs.FitsLaws.{fitting}
use Rattle.rules.proofs.Lists.Members.{none_any, all_in, in_up_to}
use Rattle.rules.specs.Lists.{all_of, any_of}
use Rattle.rules.specs.Line.{Origin, fed, made, Line, lane_at, channel_numbers_of, sender_of, parents, accepted_steps, console_count}
use Rattle.rules.specs.Damaged.{is_parent, not_parent, before_not_parent, origin_times, origin_wrong, is_fed, before_wrong, past_heard, past_lane, marks_joined, channel_holds, low_wrong, misshapen}
use Rattle.rules.proofs.Invariant.Inv.{Ordered}
use Rattle.rules.proofs.Steps.PlanOrder.{ordered_channels}
use Rattle.rules.proofs.Line.Joins.{entering_in}
use Rattle.items.specs.Items.{from_sender, place_from, if_found, time_right, named_right, before_right, origin_right, clock_right, queue_right, channel_right}
use Rattle.items.proofs.Tests.{not_above, all_true, all_false, all_at, each_none}
use Rattle.items.proofs.Lookup.{sender_found, sender_placed, found_in, only_found, heard_placed, entering-apart}

-- A line whose plan fits, whose lists are as long as the plan says, and whose clocks are within its steps.
pub record Formed (l : Line) : Type 0 where
  pub ordered : Ordered l.plan
  pub few : node_count l.plan ≤ 12
  pub nodes_long : length l.nodes ≡ node_count l.plan
  pub lanes_long : length l.lanes ≡ channel_count l.plan
  pub heard_long : (b : ℕ) → b < channel_count l.plan → length (lane_at l b).heard ≡ length (parents l.plan (sender_of l b))
  pub taken_within : (b : ℕ) → b < channel_count l.plan → (lane_at l b).taken ≤ accepted_steps l
  pub heard_within : (b : ℕ) → b < channel_count l.plan → (i : ℕ) → get_or (lane_at l b).heard i 0 ≤ accepted_steps l

-- A clock's entries are within the steps by the channel's own test.
clock_within : (l : Line) (b : ℕ) → channel_right l b ≡ true → ((lane_at l b).taken ≤ accepted_steps l) × ((i : ℕ) → get_or (lane_at l b).heard i 0 ≤ accepted_steps l)
unfolding channel_right clock_right
clock_within l b e =
    let s = lane_at l b in
    let within : ℕ → Bool = λ t. leb t (accepted_steps l) in
    let (clock, _) = all_true (clock_right (accepted_steps l) s) (queue_right l b s.queue ∷ not (marks_joined l b) ∷ not (channel_holds l b) ∷ not (low_wrong s) ∷ []) e in
    let (_, (taken, heard)) = all_true (within s.mark) (within s.taken ∷ all_of within s.heard ∷ []) clock in
    (leb-true s.taken (accepted_steps l) taken, λ i. leb-true (get_or s.heard i 0) (accepted_steps l) (all_at within s.heard i 0 (le-leb 0 (accepted_steps l) (omega arith)) heard))

pub formed : (l : Line) → plan_fits l.plan ≡ true → misshapen l ≡ false → all_of (channel_right l) (channel_numbers_of l) ≡ true → Formed l
unfolding misshapen
formed l fits shape right =
    let p = l.plan in
    let f = fitting p fits in
    let short : ℕ → Bool = λ b. not (eqb (length (lane_at l b).heard) (length (parents p (sender_of l b)))) in
    let clock : (b : ℕ) → b < channel_count p → ((lane_at l b).taken ≤ accepted_steps l) × ((i : ℕ) → get_or (lane_at l b).heard i 0 ≤ accepted_steps l) = λ b h. clock_within l b (all_in (channel_right l) right (in_up_to 0 (channel_count p) b (omega arith) (omega arith))) in
    let (_, (nodes, (lanes, (heard, _)))) = all_false (not (eqb (length l.steps) console_count)) (not (eqb (length l.nodes) (node_count p)) ∷ not (eqb (length l.lanes) (channel_count p)) ∷ any_of short (channel_numbers_of l) ∷ any_of (λ (b : ℕ). not (eqb (length (lane_at l b).low) (suc (length (parents p (sender_of l b)))))) (channel_numbers_of l) ∷ []) shape in
    record {
      ordered = ordered_channels p f.channels;
      few = f.nodes_most;
      nodes_long = eqb-true (length l.nodes) (node_count p) (not-false (eqb (length l.nodes) (node_count p)) nodes);
      lanes_long = eqb-true (length l.lanes) (channel_count p) (not-false (eqb (length l.lanes) (channel_count p)) lanes);
      heard_long = λ b h.
          eqb-true (length (lane_at l b).heard) (length (parents p (sender_of l b)))
          (not-false (eqb (length (lane_at l b).heard) (length (parents p (sender_of l b)))) (none_any short heard (in_up_to 0 (channel_count p) b (omega arith) (omega arith))));
      taken_within = λ b h. (clock b h).0;
      heard_within = λ b h. (clock b h).1;
    }

-- A parent is found, and a node with one is no source.
module _ (p : Plan) (n s : ℕ) where
  pub parent_found : is_parent p n s ≡ if_found (from_sender p s (entering p n)) (λ (b : ℕ). true)
  unfolding parents
  parent_found = sender_found p s (entering p n)

  parent_placed : is_parent p n s ≡ if_found (place_from p s 0 (entering p n)) (λ (b : ℕ). true)
  unfolding parents
  parent_placed = sender_placed p s 0 (entering p n)

  parent_no_source : is_parent p n s ≡ true → is_source p n ≡ false
  unfolding parents is_source
  parent_no_source e = one (entering p n) e
    where
      one : (bs : List ℕ) → any_of (λ (q : ℕ). eqb q s) (map (λ (b : ℕ). (channel_at p b).sender) bs) ≡ true → is_none bs ≡ false
      one [] k = absurd (true≢false (sym k))
      one (b ∷ bs) k = refl

-- A time within the steps and not 0.
time_right_lem : (steps t : ℕ) → ltb steps t ≡ false → eqb 0 t ≡ false → time_right steps t ≡ true
time_right_lem steps t past nought =
    let late = ltb-false steps t past in
    let some_time = eqb-false 0 t nought in
    rw (lt-ltb 0 t (omega arith), le-leb t steps late)

right_time : (steps t : ℕ) → time_right steps t ≡ true → (ltb steps t ≡ false) × (eqb 0 t ≡ false)
right_time steps t e =
    let (a, b) = both_true (ltb 0 t) (leb t steps) e in
    (le-ltb steps t (leb-true t steps b), ne_eqb 0 t (λ q. omega (arith, ltb-true 0 t a)))

-- Where a test of what is found keeps a time within the steps, the time need not be held against them.
within_found : (steps t : ℕ) (o : Option ℕ) (f : ℕ → Bool) → ((b : ℕ) → o ≡ some b → f b ≡ true → t ≤ steps) → (ltb 0 t && if_found o f) ≡ (time_right steps t && if_found o f)
within_found steps t none f h = and-false (ltb 0 t) ∙ sym (and-false (time_right steps t))
within_found steps t (some b) f h = one (f b) (h b refl)
  where
    one : (v : Bool) → (v ≡ true → t ≤ steps) → (ltb 0 t && v) ≡ (time_right steps t && v)
    one true k = rw (le-leb t steps (k refl), and-true, and-true) refl
    one false k = and-false (ltb 0 t) ∙ sym (and-false (time_right steps t))

-- The conditions on what node s made something from.
pub record Named (l : Line) (s : ℕ) (o : Origin) : Type 0 where
  pub parent : not_parent l.plan s o ≡ false
  pub past : any_of (ltb (accepted_steps l)) (origin_times o) ≡ false
  pub nought : any_of (eqb 0) (origin_times o) ≡ false
  pub maker : origin_wrong l.plan s o ≡ false

pub named_right_lem : (l : Line) (s : ℕ) (o : Origin) → Named l s o → named_right l s o ≡ true
unfolding named_right
named_right_lem l s fed c = not-false (is_source l.plan s) c.maker
named_right_lem l s (made q u) c =
    rw (time_right_lem (accepted_steps l) u (neither_true (ltb (accepted_steps l) u) false c.past).0 (neither_true (eqb 0 u) false c.nought).0)
    (sym (parent_found l.plan s q) ∙ not-false (is_parent l.plan s q) c.parent)

pub right_named : (l : Line) (s : ℕ) (o : Origin) → named_right l s o ≡ true → Named l s o
unfolding named_right
right_named l s fed e = record { parent = refl; past = refl; nought = refl; maker = ap not e }
right_named l s (made q u) e =
    let (time, found) = both_true (time_right (accepted_steps l) u) (if_found (from_sender l.plan q (entering l.plan s)) (λ (b : ℕ). true)) e in
    let (late, some_time) = right_time (accepted_steps l) u time in
    let parent = parent_found l.plan s q ∙ found in
    record { parent = ap not parent; past = rw late; nought = rw some_time; maker = parent_no_source l.plan s q parent }

heard_fed : (ps hs : List ℕ) → past_heard ps hs fed ≡ false
heard_fed ps [] = refl
heard_fed [] (h ∷ hs) = refl
heard_fed (p ∷ ps) (h ∷ hs) = refl

-- What came on channel b from node s: its conditions are those of its maker, and that it does not pass what was heard.
module _ (l : Line) (line : Formed l) (s b : ℕ) (here : b < channel_count l.plan) (from : (channel_at l.plan b).sender ≡ s) where
  heard_as_long : length (lane_at l b).heard ≡ length (entering l.plan s)
  unfolding parents
  heard_as_long = line.heard_long b here ∙ ap (λ (x : ℕ). length (parents l.plan x)) from ∙ length-map (entering l.plan s) (λ (c : ℕ). (channel_at l.plan c).sender)

  heard_at_lem : (q u i : ℕ) → place_from l.plan q 0 (entering l.plan s) ≡ some i → past_heard (parents l.plan s) (lane_at l b).heard (made q u) ≡ ltb (get_or (lane_at l b).heard i 0) u
  unfolding parents
  heard_at_lem q u i e =
      let (j, at, is) = heard_placed l.plan q u 0 i (lane_at l b).heard (entering-apart l.plan line.ordered s) heard_as_long e in
      let same : j ≡ i = omega arith in
      is ∙ ap (λ (x : ℕ). ltb (get_or (lane_at l b).heard x 0) u) same

  before-named : (o : Origin) → before_right l s b o ≡ (named_right l s o && not (past_heard (parents l.plan s) (lane_at l b).heard o))
  unfolding before_right named_right
  before-named fed = rw (heard_fed (parents l.plan s) (lane_at l b).heard, and-true (is_source l.plan s))
  before-named (made q u) =
      within_found (accepted_steps l) u (place_from l.plan q 0 (entering l.plan s)) (λ (i : ℕ). leb u (get_or (lane_at l b).heard i 0)) (λ i e k. omega (arith, leb-true u (get_or (lane_at l b).heard i 0) k, line.heard_within b here i))
      ∙ one (time_right (accepted_steps l) u) (place_from l.plan q 0 (entering l.plan s)) refl
    where
      one : (t : Bool) (o : Option ℕ) → place_from l.plan q 0 (entering l.plan s) ≡ o
          → (t && if_found o (λ (i : ℕ). leb u (get_or (lane_at l b).heard i 0))) ≡ (t && if_found (from_sender l.plan q (entering l.plan s)) (λ (c : ℕ). true) && not (past_heard (parents l.plan s) (lane_at l b).heard (made q u)))
      one false o e = refl
      one true none e = sym (ap (λ (x : Bool). x && not (past_heard (parents l.plan s) (lane_at l b).heard (made q u))) (sym (parent_found l.plan s q) ∙ parent_placed l.plan s q ∙ ap (λ (x : Option ℕ). if_found x (λ (c : ℕ). true)) e))
      one true (some i) e =
          not_above u (get_or (lane_at l b).heard i 0) ∙ ap not (sym (heard_at_lem q u i e))
          ∙ sym (ap (λ (x : Bool). x && not (past_heard (parents l.plan s) (lane_at l b).heard (made q u))) (sym (parent_found l.plan s q) ∙ parent_placed l.plan s q ∙ ap (λ (x : Option ℕ). if_found x (λ (c : ℕ). true)) e))

-- A test of what is found, from its being found, and back.
found_more : (t : Bool) (o : Option ℕ) (f : ℕ → Bool) → (t && if_found o (λ (b : ℕ). true)) ≡ true → ((b : ℕ) → o ≡ some b → f b ≡ true) → (t && if_found o f) ≡ true
found_more true (some b) f e h = h b refl
found_more true none f e h = e
found_more false o f e h = e

found_less : (t : Bool) (o : Option ℕ) (f : ℕ → Bool) → (t && if_found o f) ≡ true → (b : ℕ) × (o ≡ some b) × (f b ≡ true) × ((t && if_found o (λ (b : ℕ). true)) ≡ true)
found_less true (some b) f e = (b, refl, e, refl)
found_less true none f e = absurd (true≢false (sym e))
found_less false o f e = absurd (true≢false (sym e))

-- The conditions on what node n made something from, and on what that was made from.
pub record Clean (l : Line) (n : ℕ) (o before : Origin) : Type 0 where
  pub parents : (not_parent l.plan n o || before_not_parent l.plan o before) ≡ false
  pub past : any_of (ltb (accepted_steps l)) (origin_times o ++ origin_times before) ≡ false
  pub nought : any_of (eqb 0) (origin_times o ++ origin_times before) ≡ false
  pub makers : (origin_wrong l.plan n o || before_wrong l.plan o before) ≡ false
  pub clock : any_of (λ (b : ℕ). past_lane l b o before) (entering l.plan n) ≡ false

module _ (l : Line) (line : Formed l) (n : ℕ) where
  -- What passes the clock does so on the channel found.
  abbrev past_at : ℕ → ℕ → Origin → ℕ → Bool
  past_at s t before b = ltb (lane_at l b).taken t || past_heard (parents l.plan s) (lane_at l b).heard before

  clock_at : (s t : ℕ) (before : Origin) (b : ℕ) → from_sender l.plan s (entering l.plan n) ≡ some b → any_of (λ (c : ℕ). past_lane l c (made s t) before) (entering l.plan n) ≡ past_at s t before b
  clock_at s t before b e = only_found l.plan s (past_at s t before) b (entering-apart l.plan line.ordered n) e

  module _ (s t : ℕ) (before : Origin) (b : ℕ) (e : from_sender l.plan s (entering l.plan n) ≡ some b) where
    before_is : before_right l s b before ≡ (named_right l s before && not (past_heard (parents l.plan s) (lane_at l b).heard before))
    before_is =
        let (i, from) = found_in l.plan s (entering l.plan n) b e in
        before-named l line s b (entering_in l.plan n b i).0 from before

    clean_on : Clean l n (made s t) before → (leb t (lane_at l b).taken && before_right l s b before) ≡ true
    clean_on c =
        let (late, heard) = neither_true (ltb (lane_at l b).taken t) (past_heard (parents l.plan s) (lane_at l b).heard before) (sym (clock_at s t before b e) ∙ c.clock) in
        let named = named_right_lem l s before (record {
          parent = (neither_true (not_parent l.plan n (made s t)) (not_parent l.plan s before) c.parents).1;
          past = (neither_true (ltb (accepted_steps l) t) (any_of (ltb (accepted_steps l)) (origin_times before)) c.past).1;
          nought = (neither_true (eqb 0 t) (any_of (eqb 0) (origin_times before)) c.nought).1;
          maker = (neither_true (is_source l.plan n) (origin_wrong l.plan s before) c.makers).1;
        }) in
        rw (not_above t (lane_at l b).taken, late, before_is, named, heard)

    on_clean : named_right l n (made s t) ≡ true → (leb t (lane_at l b).taken && before_right l s b before) ≡ true → Clean l n (made s t) before
    on_clean own h =
        let (late, right) = both_true (leb t (lane_at l b).taken) (before_right l s b before) h in
        let (named, heard) = both_true (named_right l s before) (not (past_heard (parents l.plan s) (lane_at l b).heard before)) (sym before_is ∙ right) in
        let a = right_named l n (made s t) own in
        let c = right_named l s before named in
        record {
          parents = rw (a.parent, c.parent);
          past = rw ((neither_true (ltb (accepted_steps l) t) false a.past).0, c.past);
          nought = rw ((neither_true (eqb 0 t) false a.nought).0, c.nought);
          makers = rw (a.maker, c.maker);
          clock = clock_at s t before b e ∙ rw (le-ltb (lane_at l b).taken t (leb-true t (lane_at l b).taken late), not-true (past_heard (parents l.plan s) (lane_at l b).heard before) heard);
        }

  clean_named : (s t : ℕ) (before : Origin) → Clean l n (made s t) before → Named l n (made s t)
  clean_named s t before c = record {
    parent = (neither_true (not_parent l.plan n (made s t)) (not_parent l.plan s before) c.parents).0;
    past = rw (neither_true (ltb (accepted_steps l) t) (any_of (ltb (accepted_steps l)) (origin_times before)) c.past).0;
    nought = rw (neither_true (eqb 0 t) (any_of (eqb 0) (origin_times before)) c.nought).0;
    maker = (neither_true (is_source l.plan n) (origin_wrong l.plan s before) c.makers).0;
  }

  -- The same test, with the time held against the steps.
  origin-timed : (s t : ℕ) (before : Origin) → origin_right l n (made s t) before ≡ (time_right (accepted_steps l) t && if_found (from_sender l.plan s (entering l.plan n)) (λ (b : ℕ). leb t (lane_at l b).taken && before_right l s b before))
  unfolding origin_right
  origin-timed s t before =
      within_found (accepted_steps l) t (from_sender l.plan s (entering l.plan n)) (λ (b : ℕ). leb t (lane_at l b).taken && before_right l s b before)
      (λ b e k.
      (let (i, _) = found_in l.plan s (entering l.plan n) b e in
      let (late, _) = both_true (leb t (lane_at l b).taken) (before_right l s b before) k in
      omega (arith, leb-true t (lane_at l b).taken late, line.taken_within b (entering_in l.plan n b i).0)))

  pub clean_right : (o before : Origin) → Clean l n o before → origin_right l n o before ≡ true
  unfolding origin_right named_right
  clean_right fed before c =
      let (source, none_before) = neither_true (not (is_source l.plan n)) (not (is_fed before)) c.makers in
      rw (not-false (is_source l.plan n) source, not-false (is_fed before) none_before)
  clean_right (made s t) before c =
      origin-timed s t before
      ∙ found_more (time_right (accepted_steps l) t) (from_sender l.plan s (entering l.plan n)) (λ (b : ℕ). leb t (lane_at l b).taken && before_right l s b before)
      (named_right_lem l n (made s t) (clean_named s t before c)) (λ b e. clean_on s t before b e c)

  pub right_clean : (o before : Origin) → origin_right l n o before ≡ true → Clean l n o before
  unfolding origin_right named_right
  right_clean fed fed e = record {
    parents = refl;
    past = refl;
    nought = refl;
    makers = rw (both_true (is_source l.plan n) true e).0;
    clock = each_none (λ (b : ℕ). past_lane l b fed fed) (entering l.plan n) (λ b i. refl);
  }
  right_clean fed (made q u) e = absurd (true≢false (sym (both_true (is_source l.plan n) false e).1))
  right_clean (made s t) before e =
      let (b, found, on, own) = found_less (time_right (accepted_steps l) t) (from_sender l.plan s (entering l.plan n)) (λ (b : ℕ). leb t (lane_at l b).taken && before_right l s b before) (sym (origin-timed s t before) ∙ e) in
      on_clean s t before b found own on
