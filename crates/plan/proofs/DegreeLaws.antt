-- A plan's channels counted at their ends, one channel at a time.
use Prim.Native.Nat.{ℕ, suc, ◌+◌, ◌≤◌, ◌<◌}
use mathlib.Core.Path.{◌≡◌, refl, sym, ap, ◌∙◌}
use mathlib.Core.Bool.{Bool, true, false, cond}
use mathlib.Core.List.{List, [], ◌∷◌}
use native.Mathlib.Numerals.{add-one}
use native.Mathlib.Omega.{arith}
use borrow.Author.Tests.{eqb-true, eqb-false, not-false}
use lib.Dec.{eqb}
use lib.ListN.{length, get_or, set, drop, replicate, length-set, length-replicate, drop_of_length-le}
use lib.Seq.{drop-cons, get_or-set_same, get_or-set_other}
use Rattle.plan.specs.declared.Channel.{Channel}
use Rattle.plan.specs.Plan.{plan_of, plan_version, plan_nodes, plan_channels, channel_from, channel_at, channel_count, no_channel, keep_if, numbers_from, entering, leaving}
use Rattle.plan.specs.Check.{bad_counts, bad_size, bad_channels}
use Rattle.plan.specs.declared.checks.Degree.{Degree}
use Rattle.plan.specs.Degrees.{Joined, Degrees, no_degree}
use Rattle.basics.specs.Replicate.{replicate_default}
use Rattle.plan.proofs.ReadLaws.{channel_size-within, channel-ends, channel-at}
use Rattle.plan.proofs.CheckLaws.{counts-within}
use Rattle.plan.proofs.PlanLaws.{plan_size_lem, head_size, channel_count_lem}
use Rattle.plan.proofs.AcceptedLaws.{channels_at, fits_forward}

-- ---- counting by one end

abbrev ends_at : (Channel → ℕ) → ℕ → Channel → Bool
ends_at node n c = eqb (node c) n

-- The channels before b are counted by the node at one end.
pub record Tally (node : Channel → ℕ) (cs : List Channel) (count : ℕ → ℕ) (b : ℕ) : Type 0 where
  pub each : (n : ℕ) → count n + length (numbers_from b (ends_at node n) (drop b cs)) ≡ length (numbers_from 0 (ends_at node n) cs)

kept_length : (t : Bool) (k : ℕ) (ks : List ℕ) → length (keep_if t k ks) ≡ cond t 1 0 + length ks
kept_length true k ks = omega arith
kept_length false k ks = omega arith

numbers_most : (k : ℕ) (f : Channel → Bool) (cs : List Channel) → length (numbers_from k f cs) ≤ length cs
numbers_most k f [] = omega arith
numbers_most k f (c ∷ cs) = most (f c) (numbers_most (suc k) f cs)
  where
    most : (t : Bool) → length (numbers_from (suc k) f cs) ≤ length cs → length (keep_if t k (numbers_from (suc k) f cs)) ≤ suc (length cs)
    most true h = omega arith
    most false h = omega arith

module _ (node : Channel → ℕ) (cs : List Channel) where
  tally_start : (count : ℕ → ℕ) → ((n : ℕ) → count n ≡ 0) → Tally node cs count 0
  tally_start count none = record { each = λ n. omega (arith, none n) }

  tally_small : (count : ℕ → ℕ) (b : ℕ) → Tally node cs count b → (n : ℕ) → count n ≤ length cs
  tally_small count b t n = omega (arith, t.each n, numbers_most 0 (ends_at node n) cs)

  tally_more : (count more : ℕ → ℕ) (b k : ℕ) → Tally node cs count b → b < length cs → k ≡ node (get_or cs b no_channel) → ((n : ℕ) → more n ≡ count n + cond (eqb k n) 1 0) → Tally node cs more (b + 1)
  tally_more count more b k t h e one = rw (add-one b) (record { each = λ n. turn n })
    where
      turn : (n : ℕ) → more n + length (numbers_from (suc b) (ends_at node n) (drop (suc b) cs)) ≡ length (numbers_from 0 (ends_at node n) cs)
      turn n =
          let was = rw (drop-cons cs b no_channel h, ← e, kept_length (eqb k n) b (numbers_from (suc b) (ends_at node n) (drop (suc b) cs))) at (t.each n) in
          omega (arith, one n)

  tally_end : (count : ℕ → ℕ) (b : ℕ) → Tally node cs count b → length cs ≤ b → (n : ℕ) → count n ≡ length (numbers_from 0 (ends_at node n) cs)
  tally_end count b t h n = let all = rw (drop_of_length-le cs h) at (t.each n) in omega arith

-- ---- counting by both

abbrev pub enter_at : List Degree → ℕ → ℕ
enter_at ds n = (get_or ds n no_degree).enter

abbrev pub leave_at : List Degree → ℕ → ℕ
leave_at ds n = (get_or ds n no_degree).leave

-- One channel more that leaves a node, and one more that enters it.
abbrev pub one_leaves : List Degree → ℕ → List Degree
one_leaves ds k = set ds k (record { enter = enter_at ds k; leave = leave_at ds k + 1 })

abbrev pub one_enters : List Degree → ℕ → List Degree
one_enters ds k = set ds k (record { enter = enter_at ds k + 1; leave = leave_at ds k })

module _ (ds : List Degree) (k : ℕ) (within : k < length ds) where
  changed : (d : Degree) (part : Degree → ℕ) (n : ℕ) (u : Bool) → eqb k n ≡ u → part (get_or (set ds k d) n no_degree) ≡ cond u (part d) (part (get_or ds n no_degree))
  changed d part n true q = rw (← eqb-true k n q) (ap part (get_or-set_same ds k d no_degree within))
  changed d part n false q = ap part (get_or-set_other ds k n d no_degree (λ z. eqb-false k n q (sym z)))

  kept : (f : ℕ → ℕ) (n : ℕ) (u : Bool) → eqb k n ≡ u → cond u (f k) (f n) ≡ f n
  kept f n true q = ap f (eqb-true k n q)
  kept f n false q = refl

  raised : (f : ℕ → ℕ) (n : ℕ) (u : Bool) → eqb k n ≡ u → cond u (f k + 1) (f n) ≡ f n + cond u 1 0
  raised f n true q = rw (eqb-true k n q)
  raised f n false q = omega arith

  leaves_leave : (n : ℕ) → leave_at (one_leaves ds k) n ≡ leave_at ds n + cond (eqb k n) 1 0
  leaves_leave n = changed (record { enter = enter_at ds k; leave = leave_at ds k + 1 }) (λ (d : Degree). d.leave) n (eqb k n) refl ∙ raised (leave_at ds) n (eqb k n) refl

  leaves_enter : (n : ℕ) → enter_at (one_leaves ds k) n ≡ enter_at ds n
  leaves_enter n = changed (record { enter = enter_at ds k; leave = leave_at ds k + 1 }) (λ (d : Degree). d.enter) n (eqb k n) refl ∙ kept (enter_at ds) n (eqb k n) refl

  enters_enter : (n : ℕ) → enter_at (one_enters ds k) n ≡ enter_at ds n + cond (eqb k n) 1 0
  enters_enter n = changed (record { enter = enter_at ds k + 1; leave = leave_at ds k }) (λ (d : Degree). d.enter) n (eqb k n) refl ∙ raised (enter_at ds) n (eqb k n) refl

  enters_leave : (n : ℕ) → leave_at (one_enters ds k) n ≡ leave_at ds n
  enters_leave n = changed (record { enter = enter_at ds k + 1; leave = leave_at ds k }) (λ (d : Degree). d.leave) n (eqb k n) refl ∙ kept (leave_at ds) n (eqb k n) refl

pub record Counting (s : List ℕ) (ds : List Degree) (b : ℕ) : Type 0 where
  pub long : length ds ≡ 12
  pub enters : Tally (λ (c : Channel). c.receiver) (plan_of s).channels (enter_at ds) b
  pub leaves : Tally (λ (c : Channel). c.sender) (plan_of s).channels (leave_at ds) b

pub counting_start : (s : List ℕ) → Counting s (replicate 12 no_degree) 0
counting_start s =
    record {
      long = length-replicate {A = Degree} 12 no_degree;
      enters = tally_start (λ (c : Channel). c.receiver) (plan_of s).channels (enter_at (replicate 12 no_degree)) (λ n. ap (λ (d : Degree). d.enter) (replicate_default {A = Degree} 12 n no_degree));
      leaves = tally_start (λ (c : Channel). c.sender) (plan_of s).channels (leave_at (replicate 12 no_degree)) (λ n. ap (λ (d : Degree). d.leave) (replicate_default {A = Degree} 12 n no_degree));
    }

pub counting_end : (s : List ℕ) (ds : List Degree) (b : ℕ) → Counting s ds b → plan_channels s ≤ b → Degrees (plan_of s) ds
unfolding entering leaving
counting_end s ds b c all =
    let end : length (plan_of s).channels ≤ b = omega (arith, channel_count_lem s) in
    record {
      long = c.long;
      enters = tally_end (λ (c : Channel). c.receiver) (plan_of s).channels (enter_at ds) b c.enters end;
      leaves = tally_end (λ (c : Channel). c.sender) (plan_of s).channels (leave_at ds) b c.leaves end;
    }

module _ (s : List ℕ) (joined : Joined s) where
  pub few_nodes : plan_nodes s ≤ 12
  unfolding bad_counts
  few_nodes = (counts-within (plan_nodes s) (plan_channels s) (not-false _ joined.counts)).1

  few_channels : plan_channels s ≤ 24
  unfolding bad_counts
  few_channels = (counts-within (plan_nodes s) (plan_channels s) (not-false _ joined.counts)).3

  joined_size : length s ≡ channel_from s (plan_channels s)
  unfolding bad_size
  joined_size = eqb-true _ _ (not-false _ joined.size) ∙ head_size s ∙ plan_size_lem (plan_version s) (plan_nodes s) (plan_channels s)

  ends_small : (b : ℕ) → b < channel_count (plan_of s) → ((channel_at (plan_of s) b).sender < 12) × ((channel_at (plan_of s) b).receiver < 12)
  unfolding bad_channels
  ends_small b h =
      let f = fits_forward (plan_nodes s) (channel_at (plan_of s) b) (channels_at (plan_nodes s) 0 0 (plan_of s).channels b (not-false _ joined.channels) h) in
      (omega (arith, few_nodes), omega (arith, few_nodes))

  -- One channel, by the bytes of its ends.
  module _ (ds : List Degree) (b at : ℕ) (so_far : Counting s ds b) (within : b < plan_channels s) (there : at ≡ channel_from s b) where
    -- Its first six bytes are all there.
    pub channel_there : at + 6 ≤ length s
    channel_there = omega (arith, joined_size, channel-ends (plan_version s) within, (channel_size-within (plan_version s)).0)

    module _ (sender receiver : ℕ) (e : sender ≡ get_or s at 0) (f : receiver ≡ get_or s (at + 1) 0) where
      here : b < channel_count (plan_of s)
      here = rw channel_count_lem within

      sender_is : sender ≡ (channel_at (plan_of s) b).sender
      sender_is = e ∙ rw there (ap (λ (c : Channel). c.sender) (sym (channel-at s b within)))

      receiver_is : receiver ≡ (channel_at (plan_of s) b).receiver
      receiver_is = f ∙ rw there (ap (λ (c : Channel). c.receiver) (sym (channel-at s b within)))

      leave_ready : (sender < 12) × (leave_at ds sender + 1 < 256)
      leave_ready =
          (rw sender_is (ends_small b here).0, omega (arith, tally_small (λ (c : Channel). c.sender) (plan_of s).channels (leave_at ds) b so_far.leaves sender, channel_count_lem s, few_channels))

      enter_ready : (receiver < 12) × (enter_at (one_leaves ds sender) receiver + 1 < 256)
      enter_ready =
          let small = leave_ready.0 in (
            rw receiver_is (ends_small b here).1,
            omega (arith, leaves_enter ds sender (omega (arith, so_far.long)) receiver, tally_small (λ (c : Channel). c.receiver) (plan_of s).channels (enter_at ds) b so_far.enters receiver, channel_count_lem s, few_channels),
          )

      pub ends_ready : (sender < 12) × (leave_at ds sender + 1 < 256) × (receiver < 12) × (enter_at (one_leaves ds sender) receiver + 1 < 256)
      ends_ready = (leave_ready.0, leave_ready.1, enter_ready.0, enter_ready.1)

      pub counting_more : Counting s (one_enters (one_leaves ds sender) receiver) (b + 1)
      counting_more =
          let one : List Degree = one_leaves ds sender in
          let k : sender < length ds = omega (arith, leave_ready.0, so_far.long) in
          let long : length one ≡ 12 = length-set ds sender (record { enter = enter_at ds sender; leave = leave_at ds sender + 1 }) ∙ so_far.long in
          let m : receiver < length one = omega (arith, enter_ready.0) in
          record {
            long = length-set one receiver (record { enter = enter_at one receiver + 1; leave = leave_at one receiver }) ∙ long;
            enters = tally_more (λ (c : Channel). c.receiver) (plan_of s).channels (enter_at ds) (enter_at (one_enters one receiver)) b receiver so_far.enters here receiver_is
                (λ n. enters_enter one receiver m n ∙ ap (λ (x : ℕ). x + cond (eqb receiver n) 1 0) (leaves_enter ds sender k n));
            leaves = tally_more (λ (c : Channel). c.sender) (plan_of s).channels (leave_at ds) (leave_at (one_enters one receiver)) b sender so_far.leaves here sender_is
                (λ n. enters_leave one receiver m n ∙ leaves_leave ds sender k n);
          }
