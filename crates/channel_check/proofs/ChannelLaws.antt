-- The parts of a channel's check.
use Prim.Native.Nat.{ℕ, zero, suc, ◌+◌, ◌*◌, ◌-◌, max, min, ◌≤◌, ◌<◌}
use mathlib.Core.Path.{◌≡◌, refl, sym, ap, ◌∙◌}
use mathlib.Core.Bool.{Bool, not, ◌&&◌, ◌||◌, and_assoc, and-true}
use mathlib.Core.Logic.{inl, inr}
use mathlib.Core.List.{List, [], ◌∷◌}
use native.Mathlib.Nat.{add-zero}
use native.Mathlib.Omega.{arith}
use borrow.Author.Tests.{ne_eqb, lt-ltb, le-leb, lt-leb}
use lib.Bits.{bit_or}
use lib.Dec.{leb, ltb, eqb}
use lib.ListN.{length, get_or, take, drop, drop_of_length-le}
use lib.Seq.{drop-cons}
use Rattle.rules.specs.Lists.{is_empty, all_of, any_of, greatest_of}
use Rattle.plan.specs.Layout.{spelled}
use Rattle.rules.specs.Line.{queue_limit, Lane, Line, node_at, lane_at}
use Rattle.rules.specs.Step.{node_down, end_down, replaying}
use Rattle.rules.specs.Damaged.{marks_joined, channel_holds}
use Rattle.state.specs.Sizes.{block_at, queue_at}
use Rattle.state.specs.Right.{word_at}
use Rattle.state.specs.State.{line_of}
use Rattle.state.proofs.InPlace.{line-plan}
use Rattle.state.proofs.OffsetLaws.{line-mark, line_queue_count}
use Rattle.buffer.specs.Ready.{OnChannel}
use Rattle.buffer.proofs.ReadyLaws.{counted}
use Rattle.buffer.proofs.BytesLaws.{or_zero, zero_parts}
use Rattle.buffer.specs.Zero.{zero_bytes}
use Rattle.buffer.specs.Exact.{zero_at}
use Rattle.basics.specs.Bools.{below_or_not}
use Rattle.channel_check.specs.Channel.{Ends}

-- ---- the greatest of some numbers

pub greatest_more : (hs : List ℕ) (most i : ℕ) → i < length hs → max most (greatest_of (drop i hs)) ≡ max (max most (get_or hs i 0)) (greatest_of (drop (i + 1) hs))
greatest_more hs most i l =
    let one : i + 1 ≡ suc i = omega arith in
    rw (one, drop-cons hs i 0 l) (omega arith)

pub greatest_end : (hs : List ℕ) (most i : ℕ) → length hs ≤ i → max most (greatest_of (drop i hs)) ≡ most
greatest_end hs most i l = rw (drop_of_length-le hs l) (omega arith)

max_within : (a b top : ℕ) → leb (max a b) top ≡ (leb a top && leb b top)
max_within a b top = elim (below_or_not top a) [
  | inl h ↦ lt-leb (max a b) top (omega arith) ∙ sym (rw (lt-leb a top h))
  | inr h ↦ elim (below_or_not top b) [
    | inl k ↦ lt-leb (max a b) top (omega arith) ∙ sym (rw (le-leb a top h, lt-leb b top k))
    | inr k ↦ le-leb (max a b) top (omega arith) ∙ sym (rw (le-leb a top h, le-leb b top k))
  ]
]

pub greatest-within : (ns : List ℕ) (top : ℕ) → leb (greatest_of ns) top ≡ all_of (λ (t : ℕ). leb t top) ns
greatest-within [] top = le-leb 0 top (omega arith)
greatest-within (n ∷ ns) top = max_within n (greatest_of ns) top ∙ ap (λ (t : Bool). leb n top && t) (greatest-within ns top)

max_above : (a b : ℕ) → ltb 0 (max a b) ≡ (ltb 0 a || ltb 0 b)
max_above zero zero = refl
max_above zero (suc b) = lt-ltb 0 (max 0 (suc b)) (omega arith) ∙ sym (rw (lt-ltb 0 (suc b) (omega arith)))
max_above (suc a) b = lt-ltb 0 (max (suc a) b) (omega arith) ∙ sym (rw (lt-ltb 0 (suc a) (omega arith)))

pub greatest_above : (ns : List ℕ) → ltb 0 (greatest_of ns) ≡ any_of (ltb 0) ns
greatest_above [] = refl
greatest_above (n ∷ ns) = max_above n (greatest_of ns) ∙ ap (λ (t : Bool). ltb 0 n || t) (greatest_above ns)

-- A number is 0 where all its bytes are.
digit_zero : (n b : ℕ) → eqb 0 (n * 256 + b) ≡ (eqb 0 n && eqb 0 b)
digit_zero zero b = let same : 0 * 256 + b ≡ b = omega arith in ap (eqb 0) same
digit_zero (suc n) b = ne_eqb 0 (suc n * 256 + b) (λ e. omega arith) ∙ sym (rw (ne_eqb 0 (suc n) (λ e. omega arith)))

spelled_zero : (n : ℕ) (s : List ℕ) → eqb 0 (spelled n s) ≡ (eqb 0 n && zero_bytes s)
spelled_zero n [] = sym (and-true (eqb 0 n))
spelled_zero n (b ∷ s) = spelled_zero (n * 256 + b) s ∙ ap (λ (t : Bool). t && zero_bytes s) (digit_zero n b) ∙ and_assoc (eqb 0 n) (eqb 0 b) (zero_bytes s)

pub word_zero : (s : List ℕ) (i : ℕ) → eqb 0 (word_at i s) ≡ zero_at i 4 s
word_zero s i = spelled_zero 0 (take 4 (drop i s))

-- One word more.
pub word_turn : (s : List ℕ) (from k i seen word : ℕ) → from + 4 * k ≡ i → word ≡ word_at i s → eqb 0 seen ≡ zero_at from (4 * k) s → eqb 0 (bit_or seen word) ≡ zero_at from (4 * (k + 1)) s
word_turn s from k i seen word e f g =
    let more : 4 * (k + 1) ≡ 4 * k + 4 = omega arith in
    or_zero seen word ∙ rw (g, f, more, zero_parts from (4 * k) 4 s, e) (ap (λ (t : Bool). zero_at from (4 * k) s && t) (word_zero s i))

-- What a block leaves unused behind the queue: up to the low clock.
pub behind-at : (s : List ℕ) (a count : ℕ) → zero_at (a + 28 + 20 * count) (a + 188 - (a + 28 + 20 * count)) s ≡ zero_at (a + 24 + 4 + 20 * count) (20 * (queue_limit - count)) s
behind-at s a count =
    let same : a + 28 + 20 * count ≡ a + 24 + 4 + 20 * count = omega arith in
    let wide : a + 188 - (a + 24 + 4 + 20 * count) ≡ 20 * (queue_limit - count) = omega arith in
    rw (same, wide)

-- ---- empty queues

pub empty_counted : {A : Type 0} (xs : List A) (n limit : ℕ) → length xs ≡ min n (suc limit) → eqb n 0 ≡ is_empty xs
empty_counted [] zero limit e = refl
empty_counted [] (suc n) limit e = let no : ⊥ = omega arith in absurd no
empty_counted (x ∷ xs) zero limit e = let no : ⊥ = omega arith in absurd no
empty_counted (x ∷ xs) (suc n) limit e = ne_eqb (suc n) 0 (λ q. omega arith)

-- ---- a lane by its bytes

module _ (s : List ℕ) (b : ℕ) (on : OnChannel s b) where
  abbrev line : Line
  line = line_of s

  abbrev lane : Lane
  lane = lane_at (line_of s) b

  pub mark_word : lane.mark ≡ word_at (block_at b) s
  mark_word = line-mark s (counted on.ready) b on.below ∙ ap (λ (a : ℕ). word_at a s) (add-zero (block_at b))

  pub queue_empty : eqb (word_at (block_at b + queue_at) s) 0 ≡ is_empty lane.queue
  queue_empty = empty_counted lane.queue (word_at (block_at b + queue_at) s) 7 (line_queue_count s (counted on.ready) b on.below)

-- ---- a lane by its ends

module _ (s : List ℕ) (b sender receiver : ℕ) (ends : Ends s b sender receiver) where
  abbrev l : Line
  l = line_of s

  abbrev x : Lane
  x = lane_at l b

  pub down_ends : (node_down l sender || node_down l receiver) ≡ end_down l b
  down_ends = rw (ends.from, ends.to, line-plan s)

  joined_at : ((node_at l sender).crashed && (node_at l receiver).crashed) ≡ marks_joined l b
  unfolding marks_joined
  joined_at = rw (ends.from, ends.to, line-plan s)

  holds_at :
      ((end_down l b && not (eqb (word_at (block_at b) s) 0 && eqb (word_at (block_at b + queue_at) s) 0))
      || (node_down l receiver && ltb 0 (greatest_of (x.taken ∷ x.heard)))
      || (replaying l sender && not (eqb (word_at (block_at b + queue_at) s) 0)))
      ≡ channel_holds l b
  unfolding channel_holds
  holds_at = rw (greatest_above (x.taken ∷ x.heard), ← mark_word s b ends.on, queue_empty s b ends.on, ends.from, ends.to, line-plan s)

  pub ends_at : (stopped : Bool) (mark count most : ℕ) → stopped ≡ end_down l b → mark ≡ word_at (block_at b) s → count ≡ word_at (block_at b + queue_at) s → most ≡ greatest_of (x.taken ∷ x.heard)
      → (not ((node_at l sender).crashed && (node_at l receiver).crashed)
      && not ((stopped && not (eqb mark 0 && eqb count 0)) || (node_down l receiver && ltb 0 most) || (replaying l sender && not (eqb count 0))))
      ≡ (not (marks_joined l b) && not (channel_holds l b))
  ends_at stopped mark count most e f g h = rw (e, f, g, h, joined_at, holds_at)
