-- The pieces' bytes are right exactly where their parts are.
use Prim.Native.Nat.{ℕ, zero, suc, ◌+◌, ◌≤◌, ◌<◌}
use mathlib.Core.Path.{◌≡◌, refl, sym, ap, ◌∙◌}
use mathlib.Core.Logic.{◌↔◌}
use mathlib.Core.List.{List, [], ◌∷◌}
use native.Mathlib.Omega.{arith}
use lib.Dec.{lit<, lit≤}
use lib.ListN.{length, get_or, take, drop}
use lib.Seq.{drop-drop}
use Rattle.plan.specs.Layout.{spelled, number, pair, fields}
use Rattle.plan.specs.Lawful.{Bytes}
use Rattle.plan.specs.Record.{record_widths, record_numbers, record_of, record_layout}
use Rattle.plan.proofs.ReadLaws.{byte_field}
use Rattle.state.specs.Pieces.{origin_widths, origin_numbers, origin_of, origin_from, origin_layout, message_layout, entry_layout, held_layout, target_widths, target_layout, asked_widths, asked_numbers, asked_of, asked_fields, asked_layout}
use Rattle.state.specs.Right.{word_at, RecordRight, OriginRight, MessageRight, EntryRight, HeldRight, TargetRight}
use Rattle.state.proofs.SoundLaws.{number_sound, fields_sound}
use Rattle.state.proofs.PieceLaws.{record_sound, origin_sound, message_body_sound, entry_body_sound, held_body_sound, target_body_sound, asked_known, asked_sound}
use Rattle.state.proofs.ReadLaws.{part_part, byte_part}
use Rattle.state.proofs.RightAt.{RightAt, part_bytes, number_at, fields_at, pair-at, padded-at, via-at}

-- A byte of a part.
pub byte_in : (i n a : ℕ) (s : List ℕ) → i < n → spelled 0 (take 1 (drop i (take n (drop a s)))) ≡ get_or s (a + i) 0
byte_in i n a s h = byte_field i (take n (drop a s)) ∙ byte_part i n a s h

module _ (s : List ℕ) (k : Bytes s) where
  pub record_at : (a : ℕ) → a + 8 ≤ length s → RightAt record_layout a s ↔ RecordRight a s
  unfolding record_layout
  record_at a h =
      let t = take 8 (drop a s) in
      let zero-byte : spelled 0 (take 1 (drop 1 (drop 4 t))) ≡ get_or s (a + 5) 0 = ap (λ (u : List ℕ). spelled 0 (take 1 u)) (drop-drop 1 4 t) ∙ byte_in 5 8 a s (lit< tt) in
      let split = via-at (fields_sound record_widths) a s record_numbers record_of (record_sound.fits t (part_bytes a 8 s k)) in (
        λ r. sym zero-byte ∙ sym (ap (λ (ns : List ℕ). get_or ns 2 0) (split.0 r).1),
        λ e. split.1 (
          fields_at record_widths a s h k,
          ap (λ (z : ℕ). spelled 0 (take 4 t) ∷ spelled 0 (take 1 (drop 4 t)) ∷ z ∷ spelled 0 (take 2 (drop 1 (drop 1 (drop 4 t)))) ∷ []) (sym (zero-byte ∙ e)),
        ),
      )

-- An origin's two numbers.
origin_numbers_lem : (a b : ℕ) → (origin_numbers (origin_from a b) ≡ a ∷ b ∷ []) ↔ (a ≡ 0 → b ≡ 0)
origin_numbers_lem zero b = (λ e q. sym (ap (λ (ns : List ℕ). get_or ns 1 0) e), λ f. ap (λ (z : ℕ). 0 ∷ z ∷ []) (sym (f refl)))
origin_numbers_lem (suc a) b = (λ e q. let no : ⊥ = omega arith in absurd no, λ f. refl)

module _ (s : List ℕ) (k : Bytes s) where
  -- At an offset, however it is added up.
  pub origin-at : (a b : ℕ) → a ≡ b → b + 5 ≤ length s → RightAt origin_layout a s ↔ OriginRight b s
  unfolding origin_layout
  origin-at a b same h =
      let t = take 5 (drop a s) in
      let split = via-at (fields_sound origin_widths) a s origin_numbers origin_of (origin_sound.fits t (part_bytes a 5 s k)) in
      let numbers = origin_numbers_lem (spelled 0 (take 1 t)) (spelled 0 (take 4 (drop 1 t))) in
      let sender : spelled 0 (take 1 t) ≡ get_or s b 0 = byte_in 0 5 a s (lit< tt) ∙ ap (λ (i : ℕ). get_or s i 0) (let e : a + 0 ≡ b = omega arith in e) in
      let time : spelled 0 (take 4 (drop 1 t)) ≡ word_at (b + 1) s = ap (spelled 0) (part_part 4 1 5 a s (lit≤ tt)) ∙ ap (λ (i : ℕ). word_at (i + 1) s) same in (
        λ r q. sym time ∙ numbers.0 (split.0 r).1 (sender ∙ q),
        λ f. split.1 (fields_at origin_widths a s (omega arith) k, numbers.1 (λ q. time ∙ f (sym sender ∙ q))),
      )

  pub message-at : (a : ℕ) → a + 20 ≤ length s → RightAt message_layout a s ↔ MessageRight a s
  unfolding message_layout
  message-at a h =
      let whole = padded-at message_body_sound a s 3 h in
      let first = pair-at record_sound a s (pair (number 4) origin_layout) in
      let second = pair-at (number_sound 4) (a + 8) s origin_layout in
      let what = record_at s k a (omega arith) in
      let origin = origin-at (a + 8 + 4) (a + 12) (omega arith) (omega arith) in (
        λ r.
            let x = first.0 (whole.0 r).0 in
            record { what = what.0 x.0; origin = origin.0 (second.0 x.1).1; unused = (whole.0 r).1 },
        λ r. whole.1 (first.1 (what.1 r.what, second.1 (number_at 4 (a + 8) s (omega arith) k, origin.1 r.origin)), r.unused),
      )

  pub entry_at : (a : ℕ) → a + 24 ≤ length s → RightAt entry_layout a s ↔ EntryRight a s
  unfolding entry_layout
  entry_at a h =
      let whole = padded-at entry_body_sound a s 1 h in
      let first = pair-at record_sound a s (pair (number 4) (pair origin_layout (pair origin_layout (number 1)))) in
      let second = pair-at (number_sound 4) (a + 8) s (pair origin_layout (pair origin_layout (number 1))) in
      let third = pair-at origin_sound (a + 8 + 4) s (pair origin_layout (number 1)) in
      let fourth = pair-at origin_sound (a + 8 + 4 + 5) s (number 1) in
      let what = record_at s k a (omega arith) in
      let origin = origin-at (a + 8 + 4) (a + 12) (omega arith) (omega arith) in
      let before = origin-at (a + 8 + 4 + 5) (a + 17) (omega arith) (omega arith) in (
        λ r.
            let x = first.0 (whole.0 r).0 in
            let y = third.0 (second.0 x.1).1 in
            record { what = what.0 x.0; origin = origin.0 y.0; before = before.0 (fourth.0 y.1).0; unused = (whole.0 r).1 },
        λ r.
            let set = number_at 1 (a + 8 + 4 + 5 + 5) s (omega arith) k in
            whole.1 (first.1 (what.1 r.what, second.1 (number_at 4 (a + 8) s (omega arith) k, third.1 (origin.1 r.origin, fourth.1 (before.1 r.before, set)))), r.unused),
      )

  pub held-at : (a : ℕ) → a + 20 ≤ length s → RightAt held_layout a s ↔ HeldRight a s
  unfolding held_layout
  held-at a h =
      let whole = padded-at held_body_sound a s 2 h in
      let first = pair-at record_sound a s (pair (number 1) (pair (number 4) origin_layout)) in
      let second = pair-at (number_sound 1) (a + 8) s (pair (number 4) origin_layout) in
      let third = pair-at (number_sound 4) (a + 8 + 1) s origin_layout in
      let what = record_at s k a (omega arith) in
      let before = origin-at (a + 8 + 1 + 4) (a + 13) (omega arith) (omega arith) in (
        λ r.
            let x = first.0 (whole.0 r).0 in
            record { what = what.0 x.0; before = before.0 (third.0 (second.0 x.1).1).1; unused = (whole.0 r).1 },
        λ r.
            whole.1 (
              first.1 (what.1 r.what, second.1 (number_at 1 (a + 8) s (omega arith) k, third.1 (number_at 4 (a + 8 + 1) s (omega arith) k, before.1 r.before))),
              r.unused,
            ),
      )

  pub target_at : (a : ℕ) → a + 12 ≤ length s → RightAt target_layout a s ↔ TargetRight a s
  unfolding target_layout
  target_at a h =
      let whole = padded-at target_body_sound a s 3 h in
      (λ r. (whole.0 r).1, λ r. whole.1 (fields_at target_widths a s (omega arith) k, r))

  -- All bytes of a kept answer are used.
  pub asked_at : (a : ℕ) → a + 24 ≤ length s → RightAt asked_layout a s
  unfolding asked_layout asked_fields
  asked_at a h =
      let t = take 24 (drop a s) in
      let numbers = (fields asked_widths).read t in
      (via-at (fields_sound asked_widths) a s asked_numbers asked_of (asked_sound.fits t (part_bytes a 24 s k))).1 (fields_at asked_widths a s h k, asked_known numbers ((fields_sound asked_widths).fits t (part_bytes a 24 s k)))
