-- A channel's block, from the tests of its parts.
use Prim.Native.Nat.{ℕ, ◌+◌, ◌*◌, ◌-◌, ◌<◌}
use mathlib.Core.Path.{◌≡◌, refl, sym, ap, ◌∙◌}
use mathlib.Core.Bool.{Bool, true, false, not, ◌&&◌, and_assoc, and-false}
use mathlib.Core.List.{List, ◌∷◌}
use borrow.Author.Tests.{le-leb, lt-leb}
use lib.Dec.{leb}
use Rattle.plan.specs.Plan.{plan_of, channel_at}
use Rattle.rules.specs.Lists.{all_of, greatest_of}
use Rattle.rules.specs.Line.{queue_limit, Lane, Line, lane_at, accepted_steps}
use Rattle.rules.specs.Damaged.{marks_joined, channel_holds, low_wrong}
use Rattle.state.specs.Sizes.{block_at, heard_at, parent_limit, queue_at, count_size, message_size, low_at, low_limit, lane_rest_at, lane_rest}
use Rattle.state.specs.Right.{word_at}
use Rattle.state.specs.Lane.{heard_count}
use Rattle.state.specs.State.{line_of}
use Rattle.items.specs.Items.{clock_right, queue_right, channel_right}
use Rattle.buffer.specs.Exact.{zero_at, slots_exact, list_exact, message_exact, block_exact}
use Rattle.channel_check.specs.Channel.{QueueFits, lows_within}
use Rattle.channel_check.proofs.ChannelLaws.{mark_word, greatest-within}
use Rattle.channel_check.proofs.LowLaws.{low_tested}

clock_is : (steps : ℕ) (x : Lane) → (leb x.mark steps && leb (greatest_of (x.taken ∷ x.heard)) steps) ≡ clock_right steps x
unfolding clock_right
clock_is steps x =
    ap (λ (t : Bool). leb x.mark steps && t) (greatest-within (x.taken ∷ x.heard) steps)
    ∙ sym (and_assoc (leb x.mark steps) (leb x.taken steps) (all_of (λ (t : ℕ). leb t steps) x.heard))

channel_is : (l : Line) (b : ℕ)
    → channel_right l b ≡ (clock_right (accepted_steps l) (lane_at l b) && queue_right l b (lane_at l b).queue && (not (marks_joined l b) && not (channel_holds l b)) && not (low_wrong (lane_at l b)))
unfolding channel_right
channel_is l b =
    ap (λ (t : Bool). t && not (low_wrong (lane_at l b))) (and_assoc (clock_right (accepted_steps l) (lane_at l b) && queue_right l b (lane_at l b).queue) (not (marks_joined l b)) (not (channel_holds l b)))

block_is : (heard a used : ℕ) (s : List ℕ) → used ≡ word_at (a + queue_at) s
    → block_exact heard a s
    ≡ (zero_at (a + heard_at + 4 * heard) (4 * (parent_limit - heard)) s
    && (leb used queue_limit && slots_exact message_exact message_size (a + queue_at + count_size) used s && zero_at (a + queue_at + count_size + message_size * used) (message_size * (queue_limit - used)) s)
    && zero_at (a + low_at + 4 + 4 * heard) (4 * (parent_limit - heard)) s && zero_at (a + lane_rest_at) lane_rest s)
unfolding block_exact list_exact
block_is heard a used s e = rw e refl

parts : (h u r c e q k : Bool) → ((((h && (u && r)) && c) && (e && q)) && k) ≡ (((h && ((true && e) && u)) && r) && ((c && q) && k))
parts true true true c true q k = refl
parts true true true true false q k = refl
parts true true true false false q k = refl
parts true true false c true q k = refl
parts true true false c false q k = refl
parts true false r c true q k = refl
parts true false r c false q k = refl
parts false u r c e q k = refl

-- The low clock's test stands for two, where the clock's unused words are 0.
low_parts : (h m z r x n low : Bool) → (h ≡ true → low ≡ (z && n)) → ((((h && m) && r) && x) && low) ≡ ((((h && m) && z) && r) && (x && n))
low_parts true true true r x n low f = ap (λ (t : Bool). (r && x) && t) (f refl) ∙ and_assoc r x n
low_parts true true false r x n low f = ap (λ (t : Bool). (r && x) && t) (f refl) ∙ and-false (r && x)
low_parts true false z r x n low f = refl
low_parts false m z r x n low f = refl

none_pass : (h e u z r x : Bool) → false ≡ ((((h && ((false && e) && u)) && z) && r) && x)
none_pass true e u z r x = refl
none_pass false e u z r x = refl

module _ (s : List ℕ) (b heard used : ℕ) where
  abbrev line : Line
  line = line_of s

  abbrev heard_zero : Bool
  heard_zero = zero_at (block_at b + heard_at + 4 * heard) (4 * (parent_limit - heard)) s

  abbrev slots : Bool
  slots = slots_exact message_exact message_size (block_at b + queue_at + count_size) used s

  abbrev behind : Bool
  behind = zero_at (block_at b + queue_at + count_size + message_size * used) (message_size * (queue_limit - used)) s

  abbrev low_zero : Bool
  low_zero = zero_at (block_at b + low_at + 4 + 4 * heard) (4 * (parent_limit - heard)) s

  abbrev rest : Bool
  rest = zero_at (block_at b + lane_rest_at) lane_rest s

  abbrev ends_free : Bool
  ends_free = not (marks_joined line b) && not (channel_holds line b)

  pub too_many_lem : used ≡ word_at (block_at b + queue_at) s → queue_limit < used → false ≡ (block_exact heard (block_at b) s && channel_right line b)
  too_many_lem e h = none_pass heard_zero slots behind low_zero rest (channel_right line b) ∙ sym (rw (block_is heard (block_at b) used s e, lt-leb used queue_limit h) refl)

  pub block_tested : (steps mark most : ℕ) (zeros queue ends low : Bool) → steps ≡ accepted_steps line → QueueFits s b used → heard ≡ heard_count (plan_of s) (channel_at (plan_of s) b) → mark ≡ word_at (block_at b) s
      → most ≡ greatest_of ((lane_at line b).taken ∷ (lane_at line b).heard) → zeros ≡ (heard_zero && (behind && rest)) → queue ≡ (slots && queue_right line b (lane_at line b).queue) → ends ≡ ends_free
      → low ≡ lows_within s (block_at b) low_limit → ((((zeros && (leb mark steps && leb most steps)) && queue) && ends) && low) ≡ (block_exact heard (block_at b) s && channel_right line b)
  block_tested steps mark most zeros queue ends low same fits many e f g h i j =
      let marked : mark ≡ (lane_at line b).mark = e ∙ sym (mark_word s b fits.on) in
      let clock : Bool = clock_right (accepted_steps line) (lane_at line b) in
      let messages : Bool = queue_right line b (lane_at line b).queue in
      rw (g, h, i, marked, f, clock_is steps (lane_at line b), same, block_is heard (block_at b) used s fits.same, le-leb used queue_limit fits.few, channel_is line b)
      (ap (λ (t : Bool). t && low) (parts heard_zero behind rest clock slots messages ends_free)
      ∙ low_parts heard_zero ((true && slots) && behind) low_zero rest ((clock && messages) && ends_free) (not (low_wrong (lane_at line b))) low (λ z. j ∙ low_tested s b heard fits.on many z))
