-- A channel's queue, message by message.
use Prim.Native.Nat.{ℕ, zero, suc, ◌+◌, ◌*◌, ◌-◌, ◌≤◌, ◌<◌}
use mathlib.Core.Path.{◌≡◌, refl, sym, ap, ◌∙◌}
use mathlib.Core.Bool.{Bool, true, false, ◌&&◌, ◌||◌, and_assoc}
use mathlib.Core.List.{List, [], ◌∷◌}
use native.Mathlib.Omega.{arith}
use borrow.Author.Tests.{le-leb}
use lib.Dec.{leb, ltb}
use lib.ListN.{length, get_or}
use lib.Seq.{ext_get_or}
use Rattle.plan.specs.Plan.{plan_of, channel_at}
use Rattle.rules.specs.Lists.{all_of}
use Rattle.rules.specs.Line.{queue_limit, Message, lane_at}
use Rattle.rules.specs.Step.{end_down}
use Rattle.state.specs.Sizes.{block_at, taken_at, queue_at, count_size, message_size}
use Rattle.state.specs.Right.{word_at}
use Rattle.state.specs.State.{line_of}
use Rattle.state.proofs.InPlace.{line-plan}
use Rattle.state.proofs.OffsetLaws.{line_taken, line_queue_count, line-queue_at}
use Rattle.items.specs.Items.{times_rise, message_right, queue_right}
use Rattle.buffer.specs.Exact.{message_exact, slots_exact}
use Rattle.channel_check.specs.Channel.{QueueFits, message_at, message_ok, messages_ok}
use Rattle.buffer.proofs.ReadyLaws.{counted}
use Rattle.channel_check.proofs.ChannelLaws.{mark_word}

-- ---- the messages as a list

abbrev messages_in : List ℕ → ℕ → ℕ → List Message
messages_in s a zero = []
messages_in s a (suc k) = message_at s a ∷ messages_in s (a + message_size) k

module _ (s : List ℕ) where
  length_in : (a k : ℕ) → length (messages_in s a k) ≡ k
  length_in a zero = refl
  length_in a (suc k) = ap suc (length_in (a + message_size) k)

  message_place : (d : Message) (a k i : ℕ) → i < k → get_or (messages_in s a k) i d ≡ message_at s (a + message_size * i)
  message_place d a zero i h = let no : ⊥ = omega arith in absurd no
  message_place d a (suc k) zero h = let same : a ≡ a + message_size * 0 = omega arith in ap (message_at s) same
  message_place d a (suc k) (suc i) h = let same : a + message_size + message_size * i ≡ a + message_size * suc i = omega arith in message_place d (a + message_size) k i (omega arith) ∙ ap (message_at s) same

-- ---- their tests

step-parts : (x m f r e a t : Bool) → (((x && m) && (f || r)) && ((e && a) && (f || t))) ≡ (((x && e) && (m && a)) && (f || (r && t)))
step-parts true true true r e a t = refl
step-parts true true false true e a t = refl
step-parts true true false false true true t = refl
step-parts true true false false true false t = refl
step-parts true true false false false a t = refl
step-parts true false f r true a t = refl
step-parts true false f r false a t = refl
step-parts false m f r e a t = refl

none-parts : (f : Bool) → true ≡ (f || true)
none-parts true = refl
none-parts false = refl

whole_parts : (f m e a r : Bool) → ((f || m) && ((e && a) && (f || r))) ≡ (e && (a && (f || (m && r))))
whole_parts true m true a r = refl
whole_parts true m false a r = refl
whole_parts false true true a r = refl
whole_parts false true false a r = refl
whole_parts false false true true r = refl
whole_parts false false true false r = refl
whole_parts false false false a r = refl

module _ (s : List ℕ) (b sender : ℕ) (stopped : Bool) (mark : ℕ) (e : sender ≡ (channel_at (plan_of s) b).sender) where
  abbrev right : Message → Bool
  right = message_right (line_of s) b

  abbrev rise : ℕ → List Message → Bool
  rise last ms = times_rise (λ (m : Message). m.time) last mark ms

  message_right_lem : (a : ℕ) → message_ok s sender a ≡ (message_exact a s && right (message_at s a))
  unfolding message_ok message_right
  message_right_lem a = rw (e, line-plan s)

  messages_split : (last a k : ℕ)
      → messages_ok s sender stopped mark last a k ≡ (slots_exact message_exact message_size a k s && all_of right (messages_in s a k) && (stopped || rise last (messages_in s a k)))
  messages_split last a zero = none-parts stopped
  messages_split last a (suc k) =
      let m = message_at s a in
      let next = a + message_size in
      let now : Bool = ltb last m.time && leb m.time mark in
      ap (λ (t : Bool). t && (stopped || now) && messages_ok s sender stopped mark m.time next k) (message_right_lem a)
      ∙ ap (λ (t : Bool). (message_exact a s && right m) && (stopped || now) && t) (messages_split m.time next k)
      ∙ step-parts (message_exact a s) (right m) stopped now (slots_exact message_exact message_size next k s) (all_of right (messages_in s next k)) (rise m.time (messages_in s next k))

-- One message more.
pub messages_turn : (s : List ℕ) (sender : ℕ) (stopped : Bool) (mark last a left time : ℕ) (ok here : Bool) → 0 < left → time ≡ (message_at s a).time → here ≡ message_ok s sender a
    → (ok && messages_ok s sender stopped mark last a left)
    ≡ (((ok && here) && (stopped || (ltb last time && leb time mark))) && messages_ok s sender stopped mark time (a + message_size) (left - 1))
messages_turn s sender stopped mark last a left time ok here h e f =
    let one : left ≡ suc (left - 1) = omega arith in
    ap (λ (k : ℕ). ok && messages_ok s sender stopped mark last a k) one
    ∙ rw (e, f)
    (sym (and_assoc (ok && message_ok s sender a) now rest ∙ and_assoc ok (message_ok s sender a) (now && rest) ∙ ap (λ (t : Bool). ok && t) (sym (and_assoc (message_ok s sender a) now rest))))
  where
    now : Bool
    now = stopped || (ltb last (message_at s a).time && leb (message_at s a).time mark)

    rest : Bool
    rest = messages_ok s sender stopped mark (message_at s a).time (a + message_size) (left - 1)

pub messages_end : (s : List ℕ) (sender : ℕ) (stopped : Bool) (mark last a left : ℕ) (ok : Bool) → left ≤ 0 → (ok && messages_ok s sender stopped mark last a left) ≡ ok
messages_end s sender stopped mark last a left ok h = let none : left ≡ 0 = omega arith in ap (λ (k : ℕ). ok && messages_ok s sender stopped mark last a k) none ∙ one ok
  where
    one : (t : Bool) → (t && true) ≡ t
    one true = refl
    one false = refl

-- ---- the queue

module _ (s : List ℕ) (b count : ℕ) (fits : QueueFits s b count) where
  abbrev first : ℕ
  first = block_at b + queue_at + count_size

  queue_in : (lane_at (line_of s) b).queue ≡ messages_in s first count
  queue_in =
      let few = counted fits.on.ready in
      let long : length (lane_at (line_of s) b).queue ≡ count = line_queue_count s few b fits.on.below ∙ omega (arith, fits.same, fits.few) in
      ext_get_or none (lane_at (line_of s) b).queue (messages_in s first count) (long ∙ sym (length_in s first count))
      (λ i h.
      (let low : i < count = rw long at h in
      let place : block_at b + (queue_at + count_size + message_size * i) ≡ first + message_size * i = omega arith in
      line-queue_at s few b fits.on.below i none (rw fits.same at low) (omega (arith, fits.few)) ∙ ap (message_at s) place ∙ sym (message_place s none first count i low)))
    where
      none : Message
      none = message_at [] 0

  pub queue_whole : (sender : ℕ) (stopped : Bool) (mark taken : ℕ) → sender ≡ (channel_at (plan_of s) b).sender → stopped ≡ end_down (line_of s) b → mark ≡ word_at (block_at b) s → taken ≡ word_at (block_at b + taken_at) s
      → ((stopped || leb taken mark) && messages_ok s sender stopped mark taken first count) ≡ (slots_exact message_exact message_size first count s && queue_right (line_of s) b (lane_at (line_of s) b).queue)
  unfolding queue_right
  queue_whole sender stopped mark taken e f g h =
      let ms = messages_in s first count in
      let right = message_right (line_of s) b in
      let few : leb (length ms) queue_limit ≡ true = le-leb (length ms) queue_limit (omega (arith, length_in s first count, fits.few)) in
      let marked : mark ≡ (lane_at (line_of s) b).mark = g ∙ sym (mark_word s b fits.on) in
      let took : taken ≡ (lane_at (line_of s) b).taken = h ∙ sym (line_taken s (counted fits.on.ready) b fits.on.below) in
      ap (λ (t : Bool). (stopped || leb taken mark) && t) (messages_split s b sender stopped mark e taken first count)
      ∙ whole_parts stopped (leb taken mark) (slots_exact message_exact message_size first count s) (all_of right ms) (times_rise (λ (m : Message). m.time) taken mark ms)
      ∙ rw (queue_in, few, ← f, ← marked, ← took)
