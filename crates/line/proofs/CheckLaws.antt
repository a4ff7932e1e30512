-- What the check's functions find, tied to the definitions of the whole state.
use Prim.Native.Nat.{ℕ, suc, ◌+◌, ◌*◌, ◌-◌, ◌≤◌, ◌<◌}
use mathlib.Core.Path.{◌≡◌, refl, sym, ap, ◌∙◌}
use mathlib.Core.Bool.{Bool, true, false, true≢false, not, ◌&&◌, ◌||◌, and-true}
use mathlib.Core.List.{List, [], ◌∷◌}
use native.Mathlib.Nat.{sub-zero}
use native.Mathlib.Omega.{arith}
use borrow.Author.Tests.{ne_eqb, le-leb, lt-leb}
use lib.ListN.{length, get_or, take, drop, length-take, drop_of_length-le}
use lib.Seq.{drop-cons}
use Rattle.std.specs.Result.{is_ok}
use Rattle.std.specs.declared.result.Result.{Result}
use Rattle.std.specs.declared.result.Result.TheVariants.{Ok, Err}
use Rattle.answers.specs.declared.Refusal.{Refusal}
use Rattle.answers.specs.Number.{number}
use Rattle.step.proofs.StepLaws.{refusal_some}
use Rattle.basics.specs.Bools.{both_true, and_left}
use Rattle.plan.specs.Lawful.{Bytes}
use Rattle.plan.specs.Plan.{size_by_head, plan_nodes, plan_channels}
use Rattle.plan.specs.Check.{plan_refusal}
use Rattle.rules.specs.Lists.{all_of, up_to}
use Rattle.rules.specs.Line.{Line, node_at, step_limit, accepted_steps}
use Rattle.rules.specs.Step.{replaying}
use Rattle.state.specs.Sizes.{state_size, page_size, plan_area, steps_at, steps_rest, node_pages, page_at, lane_blocks, block_size, blocks_at, block_at, tail_at, tail_size, steps_size}
use Rattle.state.specs.State.{line_of}
use Rattle.state.proofs.StoredPlan.{stored_plan, stored_accepted}
use Rattle.items.specs.Items.{replay_right, kept_right, node_plain, restart_right, steps_right}
use Rattle.buffer.specs.Exact.{zero_at, page_exact}
use Rattle.buffer.specs.Ready.{Ready}
use Rattle.line.specs.Whole.{PagesRight, plan_exact, rest_exact, node_checked, channel_checked, state_checked}
use Rattle.line.proofs.LoadLaws.{plan_short}
use Rattle.line.proofs.ExactLaws.{page_stands}
use Rattle.state.proofs.PlanFitting.{fits_counted}
use Rattle.line.proofs.WholeLaws.{all_stands, plan_stands}
use Rattle.plan.specs.Layout.{sum_of}

-- What a call that may be refused answers, by its number.
pub number_ok : (r : Result (Unit {0}) Refusal) → is_ok r ≡ true → number r ≡ 0
number_ok (Ok u) e = refl
number_ok (Err r) e = absurd (true≢false (sym e))

pub number_err : (r : Result (Unit {0}) Refusal) → is_ok r ≡ false → number r ≡ 0 → ⊥
number_err (Ok u) e = absurd (true≢false e)
number_err (Err r) e = refusal_some r

-- The stored plan: the part of the state from 0 up to its size.
module _ (s : List ℕ) (size : ℕ) (is : size ≡ size_by_head s) where
  abbrev pub front : List ℕ
  front = take (size - 0) s

  pub front_stored : front ≡ stored_plan s
  front_stored = ap (λ (k : ℕ). take k s) (sub-zero size ∙ is)

  pub plan_bad : (r : ℕ) → r ≡ plan_refusal front → (r ≡ 0 → ⊥) → false ≡ plan_exact s
  unfolding plan_exact
  plan_bad r e h = rw (← front_stored, ← e, ne_eqb r 0 h)

  pub plan-within : length s ≡ state_size → size ≤ 3575 → plan_refusal front ≡ 0 → size ≤ plan_area
  plan-within long few z = omega (arith, plan_short front z, length-take (size - 0) s)

  pub plan_good : plan_refusal front ≡ 0 → zero_at size (plan_area - size) s ≡ plan_exact s
  unfolding plan_exact
  plan_good z = let e : plan_refusal (stored_plan s) ≡ 0 = rw front_stored at z in rw (e, is)

-- What the plan leaves unused: as far as the pages, the blocks and the state go.
pub rest_found : (s : List ℕ) (n m : ℕ) {a b c d : Bool} → n ≡ plan_nodes s → m ≡ plan_channels s → n ≤ node_pages → m ≤ lane_blocks
    → a ≡ zero_at (steps_at + steps_size) steps_rest s → b ≡ zero_at (page_at n) (blocks_at - page_at n) s → c ≡ zero_at (block_at m) (tail_at - block_at m) s → d ≡ zero_at tail_at tail_size s
    → (a && b && c && d) ≡ rest_exact s
unfolding rest_exact
rest_found s n m e f few few' a b c d =
    let pages : blocks_at - page_at n ≡ page_size * (node_pages - n) = omega arith in
    let blocks : tail_at - block_at m ≡ block_size * (lane_blocks - m) = omega arith in
    rw (a, b, c, d, pages, blocks, e, f)

-- ---- the whole state

-- A state whose stored plan would not be refused can be read.
pub plan_ready : (s : List ℕ) → length s ≡ state_size → Bytes s → plan_exact s ≡ true → Ready s
plan_ready s long bytes e =
    let fits = ((stored_accepted s bytes).0 ((plan_stands s).0 e).0).0 in
    let few = fits_counted s fits in
    record { long = long; fits = fits; nodes = few.nodes; channels = few.channels }

-- What a restart asks, of the replay and of the kept answer.
pub restart_parts : (l : Line) (k : ℕ) → ((not (replaying l k) || replay_right l k) && kept_right l k (node_at l k).asked) ≡ restart_right l k
unfolding restart_right
restart_parts l k = refl

-- The counts, one for each console: those before the i-th are within the limit, and added up.
pub record Counting (l : Line) (all i : ℕ) : Type 0 where
  pub within : i ≤ length l.steps
  pub few : all ≤ i * step_limit
  pub sum : all + sum_of (drop i l.steps) ≡ accepted_steps l
  pub right : steps_right (drop i l.steps) ≡ steps_right l.steps

pub counting_start : (l : Line) → Counting l 0 0
counting_start l = record { within = omega arith; few = omega arith; sum = omega arith; right = refl }

module _ (l : Line) (all i : ℕ) (c : Counting l all i) where
  -- One more.
  module _ (h : i < length l.steps) where
    next : drop i l.steps ≡ get_or l.steps i 0 ∷ drop (suc i) l.steps
    next = drop-cons l.steps i 0 h

    pub counting_more : get_or l.steps i 0 ≤ step_limit → Counting l (all + get_or l.steps i 0) (i + 1)
    counting_more few =
        let one : i + 1 ≡ suc i = omega arith in
        rw one
        (record {
          within = h;
          few = omega (arith, c.few);
          sum = let s = ap sum_of next in omega (arith, c.sum, s);
          right = sym (ap steps_right next ∙ rw (le-leb (get_or l.steps i 0) step_limit few) refl) ∙ c.right;
        })

    pub counting_past : step_limit < get_or l.steps i 0 → steps_right l.steps ≡ false
    counting_past many = sym c.right ∙ ap steps_right next ∙ rw (lt-leb (get_or l.steps i 0) step_limit many) refl

  pub counting_end : length l.steps ≤ i → (steps_right l.steps ≡ true) × (all ≡ accepted_steps l)
  counting_end h =
      let none : drop i l.steps ≡ [] = drop_of_length-le l.steps h in
      let sum = ap sum_of none in
      (sym c.right ∙ ap steps_right none, omega (arith, c.sum, sum))

pub steps_wrong : (s : List ℕ) → plan_exact s ≡ true → steps_right (line_of s).steps ≡ false → false ≡ state_checked s
unfolding state_checked
steps_wrong s plan e = rw (plan, e) (one (rest_exact s))
  where
    one : (t : Bool) → false ≡ (t && false && all_of (node_checked s) (up_to 0 (plan_nodes s)) && all_of (channel_checked s) (up_to 0 (plan_channels s)) && all_of (restart_right (line_of s)) (up_to 0 (plan_nodes s)))
    one true = refl
    one false = refl

pub plan_wrong : (s : List ℕ) → plan_exact s ≡ false → false ≡ state_checked s
unfolding state_checked
plan_wrong s e = rw e refl

module _ (s : List ℕ) (n m : ℕ) {rest nodes channels : Bool} (plan : plan_exact s ≡ true) (same : n ≡ plan_nodes s) (same' : m ≡ plan_channels s) (within : steps_right (line_of s).steps ≡ true)
    (a : rest ≡ rest_exact s) (b : nodes ≡ all_of (node_checked s) (up_to 0 n)) (c : channels ≡ all_of (channel_checked s) (up_to 0 m)) where
  abbrev found : Bool
  found = rest && nodes && channels

  found_is : state_checked s ≡ (found && all_of (restart_right (line_of s)) (up_to 0 n))
  unfolding state_checked
  found_is = rw (plan, a, b, c, within, and-true (rest_exact s), same, same') refl

  pub found_wrong : found ≡ false → false ≡ state_checked s
  found_wrong e = sym (found_is ∙ rw e refl)

  pub found_restarts : found ≡ true → {r : Bool} → r ≡ all_of (restart_right (line_of s)) (up_to 0 n) → r ≡ state_checked s
  found_restarts e k = k ∙ sym (found_is ∙ rw e refl)

  -- Where nothing wrong is found so far, every page has right bytes.
  pub found_pages : found ≡ true → PagesRight s
  unfolding node_checked
  found_pages e k h =
      let all : all_of (node_checked s) (up_to 0 n) ≡ true = sym b ∙ (both_true rest nodes (and_left (rest && nodes) channels e)).1 in
      (page_stands s (page_at k)).0 (and_left (page_exact (page_at k) s) (node_plain (line_of s) k) ((all_stands (node_checked s) n).0 all k (omega arith)))
