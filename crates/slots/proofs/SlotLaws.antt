-- What stands in a slot, written part by part; and slots moved.
use Prim.Native.Nat.{ℕ, zero, suc, ◌+◌, ◌*◌, ◌-◌, ◌≤◌, ◌<◌}
use mathlib.Core.Path.{◌≡◌, refl, sym, ap, ◌∙◌}
use mathlib.Core.List.{List, [], ◌∷◌, ◌++◌, append_assoc}
use native.Mathlib.Nat.{mul-zero, mul-one, mul-add}
use native.Mathlib.Omega.{arith}
use lib.ListN.{length, take, drop, replicate}
use lib.Seq.{paste}
use Rattle.basics.specs.Put.{put, put-none, put-parts, puts, puts-joined}
use Rattle.plan.specs.Layout.{bytes_of}
use Rattle.plan.specs.Lawful.{Bytes}
use Rattle.plan.specs.Record.{record_layout}
use Rattle.rules.specs.Line.{Origin, Message, Entry, Held, Target}
use Rattle.state.specs.Pieces.{origin_from, origin_layout, message_layout, entry_layout, held_layout, target_layout}
use Rattle.state.proofs.PieceLaws.{origin_sound}
use Rattle.state.proofs.RightAt.{part_long}
use Rattle.buffer.specs.Words.{number64}
use Rattle.buffer.proofs.BytesLaws.{gap_turn, gap_closed}
use Rattle.buffer.proofs.WordLaws.{part_written}
use Rattle.slots.specs.Slots.{time_of}

pub time_none : (from time : ℕ) → from ≡ 0 → 0 ≡ time_of from time
time_none zero time h = refl
time_none (suc f) time h = let no : ⊥ = omega arith in absurd no

pub time_some : (from time : ℕ) → 0 < from → time ≡ time_of from time
time_some zero time h = let no : ⊥ = omega arith in absurd no
time_some (suc f) time h = refl

-- The parts of a slot, each with its place.
module _ (at : ℕ) where
  abbrev made_parts : ℕ → ℕ → List (ℕ × List ℕ)
  made_parts from time = (at, bytes_of 1 from) ∷ (at + 1, bytes_of 4 (time_of from time)) ∷ []

  abbrev message_parts : Message → List (ℕ × List ℕ)
  message_parts m = (at, record_layout.write m.what) ∷ (at + 8, bytes_of 4 m.time) ∷ (at + 12, origin_layout.write m.origin) ∷ (at + 17, bytes_of 2 0) ∷ (at + 19, bytes_of 1 0) ∷ []

  abbrev entry_parts : Entry → List (ℕ × List ℕ)
  entry_parts e =
      (at, record_layout.write e.what) ∷ (at + 8, bytes_of 4 e.time) ∷ (at + 12, origin_layout.write e.origin) ∷ (at + 17, origin_layout.write e.before) ∷ (at + 22, bytes_of 1 e.set) ∷ (at + 23, bytes_of 1 0) ∷ []

  abbrev held_parts : Held → List (ℕ × List ℕ)
  held_parts g = (at, record_layout.write g.what) ∷ (at + 8, bytes_of 1 g.sender) ∷ (at + 9, bytes_of 4 g.time) ∷ (at + 13, origin_layout.write g.before) ∷ (at + 18, bytes_of 2 0) ∷ []

  abbrev target_parts : Target → List (ℕ × List ℕ)
  target_parts t = (at, bytes_of 4 t.time) ∷ (at + 4, bytes_of 4 t.parent_time) ∷ (at + 8, bytes_of 1 t.parent) ∷ (at + 9, bytes_of 1 0) ∷ (at + 10, bytes_of 2 0) ∷ []

origin_long : (o : Origin) → length (origin_layout.write o) ≡ 5
unfolding origin_layout
origin_long o = origin_sound.sized o

module _ (s : List ℕ) (at : ℕ) (h : at ≤ length s) where
  pub made_written : (from time : ℕ) → puts s (made_parts at from time) ≡ put s at (origin_layout.write (origin_from from time))
  unfolding origin_layout
  made_written zero time = puts-joined s at (made_parts at 0 time) h (refl, (omega arith, tt))
  made_written (suc from) time = puts-joined s at (made_parts at (suc from) time) h (refl, (omega arith, tt))

  pub message-written : (m : Message) → puts s (message_parts at m) ≡ put s at (message_layout.write m)
  unfolding message_layout
  message-written m =
      let long = origin_long m.origin in
      puts-joined s at (message_parts at m) h (refl, (omega arith, (omega arith, (omega arith, (omega arith, tt)))))

  pub entry-written : (e : Entry) → puts s (entry_parts at e) ≡ put s at (entry_layout.write e)
  unfolding entry_layout
  entry-written e =
      let long = origin_long e.origin in
      let long-before = origin_long e.before in
      puts-joined s at (entry_parts at e) h (refl, (omega arith, (omega arith, (omega arith, (omega arith, (omega arith, tt)))))) ∙ simp append_assoc

  pub held-written : (g : Held) → puts s (held_parts at g) ≡ put s at (held_layout.write g)
  unfolding held_layout
  held-written g =
      let long = origin_long g.before in
      puts-joined s at (held_parts at g) h (refl, (omega arith, (omega arith, (omega arith, (omega arith, tt)))))

  pub target-written : (t : Target) → puts s (target_parts at t) ≡ put s at (target_layout.write t)
  unfolding target_layout
  target-written t = puts-joined s at (target_parts at t) h (refl, (omega arith, (omega arith, (omega arith, (omega arith, tt)))))

-- ---- a slot moved to one before it, eight bytes at a time

module _ (s₀ : List ℕ) (from to : ℕ) where
  -- The first i bytes have moved.
  pub record Gone (s : List ℕ) (i : ℕ) : Type 0 where
    pub bytes : Bytes s
    pub same : length s ≡ length s₀
    pub now : s ≡ put s₀ to (take i (drop from s₀))

  pub none_gone : Bytes s₀ → Gone s₀ 0
  none_gone h = record { bytes = h; same = refl; now = sym (put-none s₀ to) }

  part_gone : (s t : List ℕ) (i w : ℕ) → to ≤ from → Gone s i → from + i + w ≤ length s₀ → t ≡ put s (to + i) (take w (drop (from + i) s)) → t ≡ put s₀ to (take (i + w) (drop from s₀))
  part_gone s t i w down m below e =
      let (gap, is) : (gap : ℕ) × (to + gap ≡ from) = (from - to, omega arith) in
      e ∙ rw m.now (rw is at (gap_turn s₀ to gap i w (omega arith)))

  -- Eight bytes more.
  pub word_gone : (s t : List ℕ) (i v : ℕ) → to ≤ from → Gone s i → from + i + 8 ≤ length s₀ → v ≡ number64 (from + i) s → Bytes t → length t ≡ length s → t ≡ put s (to + i) (bytes_of 8 v) → Gone t (i + 8)
  word_gone s t i v down m below read h long e =
      let word : bytes_of 8 v ≡ take 8 (drop (from + i) s) = ap (bytes_of 8) read ∙ part_written 8 (from + i) s m.bytes (omega (arith, m.same)) in
      record { bytes = h; same = long ∙ m.same; now = part_gone s t i 8 down m below (e ∙ ap (put s (to + i)) word) }

  -- And what is left.
  pub rest_gone : (s t : List ℕ) (i size : ℕ) → to ≤ from → Gone s i → i ≤ size → from + size ≤ length s₀ → t ≡ paste s (to + i) (drop (from + i) s) (from + size - (from + i)) → t ≡ put s₀ to (take size (drop from s₀))
  rest_gone s t i size down m h below e =
      let n = from + size - (from + i) in
      let all : i + n ≡ size = omega arith in
      let here : t ≡ put s (to + i) (take n (drop (from + i) s)) =
      e ∙ put-parts s (to + i) (take n (drop (from + i) s)) (to + i + n) (ap (λ (k : ℕ). to + i + k) (part_long (from + i) n s (omega (arith, m.same))))
      in
      rw all at (part_gone s t i n down m (omega arith) here)

-- ---- slots moved to the front, over a gap

module _ (s₀ : List ℕ) (at gap size count : ℕ) where
  -- The first i of those behind the gap have moved.
  pub record Moved (s : List ℕ) (i : ℕ) : Type 0 where
    pub within : i ≤ count
    pub same : length s ≡ length s₀
    pub now : s ≡ put s₀ at (take (size * i) (drop (at + gap) s₀))

  pub none-moved : Moved s₀ 0
  none-moved = record { within = omega arith; same = refl; now = rw mul-zero (sym (put-none s₀ at)) }

  pub one_moved : {s t : List ℕ} {i : ℕ} → Moved s i → i < count → at + gap + size * i + size ≤ length s₀ → length t ≡ length s
      → t ≡ put s (at + size * i) (take size (drop (at + size * i + gap) s)) → Moved t (i + 1)
  one_moved {s} {i = i} m below h long e =
      let place : at + size * i + gap ≡ at + gap + size * i = omega arith in
      record {
        within = omega arith;
        same = long ∙ m.same;
        now = e ∙ rw (place, m.now, mul-add, mul-one) (gap_turn s₀ at gap (size * i) size h);
      }

  pub all_moved : {s t : List ℕ} {i : ℕ} → Moved s i → count ≤ i → at + gap + size * count ≤ length s₀
      → t ≡ take (at + size * count) s ++ replicate (at + size * count + gap - (at + size * count)) 0 ++ drop (at + size * count + gap) s
      → t ≡ put s₀ at (take (size * count) (drop (at + gap) s₀) ++ replicate gap 0)
  all_moved {i = i} m done h e =
      let all : i ≡ count = omega (arith, m.within) in
      e ∙ rw (m.now, all) (gap_closed s₀ at gap (size * count) (at + size * count + gap) h refl)
