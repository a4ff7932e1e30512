-- The check over the whole state: it finds nothing exactly where `state_answer` is 0.
use Prim.Native.Nat.{ℕ, zero, suc, ◌+◌, ◌*◌, ◌-◌, ◌<◌, ◌≤◌}
use mathlib.Core.Path.{◌≡◌, refl, sym, ap, ◌∙◌}
use mathlib.Core.Bool.{Bool, true, false, not, ◌&&◌, true≢false}
use mathlib.Core.List.{List}
use native.Mathlib.Omega.{arith}
use lib.ListN.{length, take}
use lib.Dec.{eqb}
use borrow.Author.Tests.{eq-eqb}
use Rattle.plan.specs.Lawful.{Bytes}
use Rattle.plan.specs.Plan.{Plan, plan_of, plan_bytes, size_by_head, plan_nodes, plan_channels, node_count, channel_count, channel_at}
use Rattle.plan.specs.Check.{plan_refusal, plan_fits}
use Rattle.plan.proofs.PlanLaws.{node_count_lem, channel_count_lem}
use Rattle.basics.specs.Bools.{both_true}
use Rattle.rules.specs.Lists.{all_of, up_to}
use Rattle.rules.specs.Line.{Line, lane_at, node_numbers, channel_numbers_of, parents, sender_of, console_count}
use Rattle.rules.specs.Damaged.{damaged}
use Rattle.rules.proofs.Lists.Members.{all_in, in_up_to}
use Rattle.state.specs.Sizes.{state_size, plan_area, steps_at, steps_rest, page_at, page_size, block_at, block_size, node_pages, lane_blocks, tail_at, tail_size, steps_size}
use Rattle.state.specs.Lane.{heard_count}
use Rattle.state.specs.State.{line_of, state_answer}
use Rattle.state.specs.Right.{ZerosAt, StateRight}
use Rattle.state.proofs.InPlace.{Counted, line-plan, nodes-counted, lanes_counted, line-counts}
use Rattle.state.proofs.PlanFitting.{fits_counted, few_heard, heard_long, low_long}
use Rattle.state.proofs.StoredPlan.{stored_plan, stored_accepted}
use Rattle.state.proofs.AcceptedState.{state_checked_lem}
use Rattle.items.specs.Items.{node_right, channel_right, shape_right, line_right, node_plain, restart_right, steps_right}
use Rattle.items.proofs.LineItems.{line_items}
use Rattle.buffer.specs.Exact.{page_exact, block_exact}
use Rattle.line.specs.Whole.{plan_exact, rest_exact, node_checked, channel_checked, state_checked}
use Rattle.line.proofs.ExactLaws.{Stands, and_stands, eqb_stands, zero_stands, page_stands, block_stands}

-- A test of each of some numbers.
all_from : (f : ℕ → Bool) (k n : ℕ) → ((i : ℕ) → k ≤ i → i < k + n → f i ≡ true) → all_of f (up_to k n) ≡ true
all_from f k zero h = refl
all_from f k (suc n) h = rw (h k (omega arith) (omega arith)) (all_from f (suc k) n (λ i l m. h i (omega arith) (omega arith)))

pub all_stands : (f : ℕ → Bool) (n : ℕ) → Stands (all_of f (up_to 0 n)) ((i : ℕ) → i < n → f i ≡ true)
all_stands f n = (λ e i h. all_in f e (in_up_to 0 n i (omega arith) (omega arith)), λ g. all_from f 0 n (λ i l m. g i (omega arith)))

-- A node's check is the plain part and what its restart asks.
pub node-parts : (l : Line) (n : ℕ) → Stands (node_right l n) ((node_plain l n ≡ true) × (restart_right l n ≡ true))
unfolding node_right node_plain restart_right
node-parts l n = and_stands (λ e. e, λ e. e) (λ e. e, λ e. e)

module _ (s : List ℕ) (fits : plan_fits (plan_of s) ≡ true) where
  abbrev l : Line
  l = line_of s

  counted : Counted s
  counted = fits_counted s fits

  -- The line has the plan's shape.
  shaped : shape_right l ≡ true
  unfolding shape_right heard_count
  shaped =
      let steps : eqb (length l.steps) console_count ≡ true = ap (λ (ks : List ℕ). eqb (length ks) console_count) (line-counts s counted) in
      let nodes : eqb (length l.nodes) (node_count l.plan) ≡ true = eq-eqb (length l.nodes) (node_count l.plan) (nodes-counted s counted ∙ sym (node_count_lem s) ∙ ap node_count (sym (line-plan s))) in
      let lanes : eqb (length l.lanes) (channel_count l.plan) ≡ true = eq-eqb (length l.lanes) (channel_count l.plan) (lanes_counted s counted ∙ sym (channel_count_lem s) ∙ ap channel_count (sym (line-plan s))) in
      let below : (b : ℕ) → b < channel_count l.plan → b < plan_channels s = λ b h. omega (arith, h, channel_count_lem s, ap channel_count (line-plan s)) in
      let same : (b : ℕ) → heard_count (plan_of s) (channel_at (plan_of s) b) ≡ length (parents l.plan (sender_of l b)) = λ b. ap (λ (p : Plan). length (parents p (channel_at p b).sender)) (sym (line-plan s)) in
      let heard = (all_stands (λ (b : ℕ). eqb (length (lane_at l b).heard) (length (parents l.plan (sender_of l b)))) (channel_count l.plan)).1
      (λ b h. eq-eqb (length (lane_at l b).heard) (length (parents l.plan (sender_of l b))) (heard_long s fits b (below b h) ∙ same b)) in
      rw (steps, nodes, lanes, heard)
      ((all_stands (λ (b : ℕ). eqb (length (lane_at l b).low) (suc (length (parents l.plan (sender_of l b))))) (channel_count l.plan)).1
      (λ b h. eq-eqb (length (lane_at l b).low) (suc (length (parents l.plan (sender_of l b)))) (low_long s fits b (below b h) ∙ ap suc (same b))))

  -- The line is right exactly where its nodes and channels are.
  line_stands : Stands (line_right l) ((steps_right l.steps ≡ true) × (((n : ℕ) → n < plan_nodes s → node_right l n ≡ true) × ((b : ℕ) → b < plan_channels s → channel_right l b ≡ true)))
  unfolding line_right
  line_stands =
      let p : plan_fits l.plan ≡ true = ap plan_fits (line-plan s) ∙ fits in
      let nodes = all_stands (node_right l) (node_count l.plan) in
      let channels = all_stands (channel_right l) (channel_count l.plan) in
      let same : node_count l.plan ≡ plan_nodes s = ap node_count (line-plan s) ∙ node_count_lem s in
      let same' : channel_count l.plan ≡ plan_channels s = ap channel_count (line-plan s) ∙ channel_count_lem s in (
        λ e.
            (let (abc, d) = both_true _ (all_of (channel_right l) (channel_numbers_of l)) e in
            let (ab, c) = both_true _ (all_of (node_right l) (node_numbers l)) abc in
            let (a, b) = both_true (plan_fits l.plan && shape_right l) (steps_right l.steps) ab in
            (b, (λ n h. nodes.0 c n (omega (arith, h, same)), λ k h. channels.0 d k (omega (arith, h, same'))))),
        λ r. rw (p, shaped, r.0, nodes.1 (λ n h. r.1.0 n (omega (arith, h, same))), channels.1 (λ k h. r.1.1 k (omega (arith, h, same')))),
      )

  -- The line is not damaged exactly where it is right.
  undamaged_stands : Stands (line_right l) (damaged l ≡ false)
  undamaged_stands = (λ e. line_items l ∙ ap not e, λ e. not_not (line_right l) (sym (line_items l) ∙ e))
    where
      not_not : (b : Bool) → not b ≡ false → b ≡ true
      not_not true e = refl
      not_not false e = absurd (true≢false e)

  -- Bytes and line together, node by node and channel by channel.
  abbrev Found : Type 0
  Found = (rest_exact s ≡ true) × ((steps_right l.steps ≡ true) × (((n : ℕ) → n < plan_nodes s → node_checked s n ≡ true) × (((b : ℕ) → b < plan_channels s → channel_checked s b ≡ true) × ((n : ℕ) → n < plan_nodes s → restart_right l n ≡ true))))

  rest_stands : Stands (rest_exact s) (((ZerosAt (steps_at + steps_size) steps_rest s × ZerosAt (page_at (plan_nodes s)) (page_size * (node_pages - plan_nodes s)) s) × ZerosAt (block_at (plan_channels s)) (block_size * (lane_blocks - plan_channels s)) s) × ZerosAt tail_at tail_size s)
  unfolding rest_exact
  rest_stands =
      and_stands (and_stands (and_stands (zero_stands (steps_at + steps_size) steps_rest s) (zero_stands (page_at (plan_nodes s)) (page_size * (node_pages - plan_nodes s)) s)) (zero_stands (block_at (plan_channels s)) (block_size * (lane_blocks - plan_channels s)) s))
      (zero_stands tail_at tail_size s)

  abbrev size : ℕ
  size = size_by_head s

  found_right : plan_bytes (plan_of s) ≡ take size s → ZerosAt size (plan_area - size) s → Found → StateRight s × (damaged l ≡ false)
  unfolding node_checked channel_checked
  found_right bytes behind (rest, (steps, (nodes, (channels, restarts)))) =
      let (((a, b), c), d) = rest_stands.0 rest in
      let node : (n : ℕ) → n < plan_nodes s → (page_exact (page_at n) s ≡ true) × (node_plain l n ≡ true) = λ n h. both_true (page_exact (page_at n) s) (node_plain l n) (nodes n h) in
      let channel : (k : ℕ) → k < plan_channels s → (block_exact (heard_count (plan_of s) (channel_at (plan_of s) k)) (block_at k) s ≡ true) × (channel_right l k ≡ true) =
      λ k h. both_true (block_exact (heard_count (plan_of s) (channel_at (plan_of s) k)) (block_at k) s) (channel_right l k) (channels k h) in (
        record {
          plan = bytes;
          plan_rest = behind;
          steps_rest = a;
          node = λ n h. (page_stands s (page_at n)).0 (node n h).0;
          nodes_rest = b;
          lane = λ k h. (block_stands s (heard_count (plan_of s) (channel_at (plan_of s) k)) (block_at k) (few_heard s fits k h)).0 (channel k h).0;
          lanes_rest = c;
          tail = d;
        },
        undamaged_stands.0 (line_stands.1 (steps, (λ n h. (node-parts l n).1 ((node n h).1, restarts n h), λ k h. (channel k h).1))),
      )

  right_found : StateRight s × (damaged l ≡ false) → Found
  unfolding node_checked channel_checked
  right_found (r, e) =
      let (steps, (nodes, channels)) = line_stands.0 (undamaged_stands.1 e) in (
        rest_stands.1 (((r.steps_rest, r.nodes_rest), r.lanes_rest), r.tail),
        (
          steps,
          (
            λ n h. and_true ((page_stands s (page_at n)).1 (r.node n h)) ((node-parts l n).0 (nodes n h)).0,
            (λ k h. and_true ((block_stands s (heard_count (plan_of s) (channel_at (plan_of s) k)) (block_at k) (few_heard s fits k h)).1 (r.lane k h)) (channels k h), λ n h. ((node-parts l n).0 (nodes n h)).1),
          ),
        ),
      )
    where
      and_true : {a b : Bool} → a ≡ true → b ≡ true → (a && b) ≡ true
      and_true {a} {b} x y = rw (x, y)

-- The check's test, taken apart.
checked_parts : (s : List ℕ) → Stands (state_checked s)
    ((((((plan_exact s ≡ true) × (rest_exact s ≡ true)) × (steps_right (line_of s).steps ≡ true)) × ((n : ℕ) → n < plan_nodes s → node_checked s n ≡ true)) × ((b : ℕ) → b < plan_channels s → channel_checked s b ≡ true)) × ((n : ℕ) → n < plan_nodes s → restart_right (line_of s) n ≡ true))
unfolding state_checked
checked_parts s =
    and_stands (and_stands (and_stands (and_stands (and_stands same same) same) (all_stands (node_checked s) (plan_nodes s))) (all_stands (channel_checked s) (plan_channels s))) (all_stands (restart_right (line_of s)) (plan_nodes s))
  where
    same : {b : Bool} → Stands b (b ≡ true)
    same = (λ e. e, λ e. e)

pub plan_stands : (s : List ℕ) → Stands (plan_exact s) ((plan_refusal (stored_plan s) ≡ 0) × ZerosAt (size_by_head s) (plan_area - size_by_head s) s)
unfolding plan_exact
plan_stands s = and_stands (eqb_stands (plan_refusal (stored_plan s)) 0) (zero_stands (size_by_head s) (plan_area - size_by_head s) s)

-- The check finds nothing exactly where the answer is 0.
pub check_answer : (s : List ℕ) → length s ≡ state_size → Bytes s → Stands (state_checked s) (state_answer s ≡ 0)
check_answer s long bytes =
    let known = state_checked_lem s long bytes in (
      λ e.
          (let (((((p, rest), steps), nodes), channels), restarts) = (checked_parts s).0 e in
          let (accepted, behind) = (plan_stands s).0 p in
          let (fits, same) = (stored_accepted s bytes).0 accepted in
          known.1 (accepted, found_right s fits same behind (rest, (steps, (nodes, (channels, restarts)))))),
      λ z.
          (let (accepted, (right, undamaged)) = known.0 z in
          let (fits, same) = (stored_accepted s bytes).0 accepted in
          let (rest, (steps, (nodes, (channels, restarts)))) = right_found s fits (right, undamaged) in
          (checked_parts s).1 ((((((plan_stands s).1 (accepted, right.plan_rest), rest), steps), nodes), channels), restarts)),
    )
