-- Right bytes, taken apart: for each way to build a layout, its bytes are right exactly where its parts' are.
use Prim.Native.Nat.{ℕ, zero, suc, ◌+◌, ◌*◌, ◌^◌, ◌≤◌, ◌<◌}
use mathlib.Core.Path.{◌≡◌, sym, ap, ap₂, subst, ◌∙◌}
use mathlib.Core.Logic.Iff
use mathlib.Core.Logic.{◌↔◌}
use mathlib.Core.List.{List, [], ◌++◌}
use native.Mathlib.Nat.{suc-mul, zero-mul, add_comm}
use native.Mathlib.Omega.{arith}
use lib.ListN.{length, take, drop, replicate, length-take, length-drop, take-append-drop, drop_of_length-le}
use lib.Seq.{take_at, drop_at, drop-drop, take-take, take_all}
use Rattle.plan.specs.Layout.{Layout, spelled, bytes_of, number, fields, sum_of, via, pair, zeros, slots, up_to_slots, padded, write_slots, read_slots}
use Rattle.plan.specs.Lawful.{Bytes, Zeros, EachSlot, UpToRight}
use Rattle.plan.proofs.LayoutLaws.{number_lawful, fields_lawful, up_to_lawful, length-read_slots, unused_written}
use Rattle.plan.proofs.NumberLaws.{number_read, length-bytes_of}
use Rattle.state.specs.Sound.{Right, Sound}
use Rattle.state.proofs.SoundLaws.{lawful}
use Rattle.state.proofs.ListLaws.{zeros-many, all_zero}

-- Two parts are a list exactly where each is its part of it.
pub append_cut : {A : Type 0} (a b s : List A) (n : ℕ) → length a ≡ n → (a ++ b ≡ s) ↔ ((a ≡ take n s) × (b ≡ drop n s))
append_cut a b s n e = (
  λ q. (sym (take_at a b n e) ∙ ap (take n) q, sym (drop_at a b n e) ∙ ap (drop n) q),
  λ q. ap₂ ◌++◌ q.0 q.1 ∙ take-append-drop n s,
)

pub zeros_same : (n : ℕ) (s : List ℕ) → length s ≡ n → (replicate n 0 ≡ s) ↔ Zeros s
zeros_same n s e = (λ q. subst Zeros q (zeros-many n), λ z. sym (all_zero s z ∙ ap (λ (k : ℕ). replicate k 0) e))

pub number_right : (w : ℕ) (s : List ℕ) → length s ≡ w → Bytes s → Right (number w) s
unfolding number
number_right w s e h = (number_lawful w).write_back s e h tt

pub fields_right : (ws s : List ℕ) → length s ≡ sum_of ws → Bytes s → Right (fields ws) s
unfolding fields
fields_right ws s e h = (fields_lawful ws).write_back s e h tt

pub zeros_right : (n : ℕ) (s : List ℕ) → length s ≡ n → Right (zeros n) s ↔ Zeros s
unfolding zeros
zeros_right n s e = zeros_same n s e

module _ {A : Type 0} {l : Layout A} {Fits : A → Type 0} (inner : Sound l Fits) where
  pub pair_right : {B : Type 0} (k : Layout B) (s : List ℕ) → Right (pair l k) s ↔ (Right l (take l.size s) × Right k (drop l.size s))
  unfolding pair
  pair_right k s = append_cut (l.write (l.read (take l.size s))) (k.write (k.read (drop l.size s))) s l.size (inner.sized (l.read (take l.size s)))

  pub padded_right : (n : ℕ) (s : List ℕ) → length s ≡ l.size + n → Right (padded n l) s ↔ (Right l (take l.size s) × Zeros (drop l.size s))
  unfolding padded
  padded_right n s e = Iff.trans (pair_right (zeros n) s) (Iff.and (λ r. r, λ r. r) (zeros_right n (drop l.size s) (simp length-drop (omega arith))))

  -- A value seen as another.
  pub via_right : {B : Type 0} (seen : B → A) (value : A → B) (s : List ℕ) → Fits (seen (value (l.read s)))
      → Right (via l seen value) s ↔ (Right l s × (seen (value (l.read s)) ≡ l.read s))
  unfolding via
  via_right seen value s h =
      let x = l.read s in
      let known : (l.write (seen (value x)) ≡ s) → seen (value x) ≡ x = λ e. sym (inner.read_back (seen (value x)) h) ∙ ap l.read e in (
        λ e. (ap l.write (sym (known e)) ∙ e, known e),
        λ r. ap l.write r.1 ∙ r.0,
      )

  -- Slots of which so many are used: these are right, and the bytes behind them are 0.
  used_right : (n c : ℕ) (s : List ℕ) → c ≤ n → length s ≡ n * l.size
      → (write_slots l n (take c (read_slots l n s)) ≡ s) ↔ (EachSlot (Right l) l.size c s × Zeros (drop (c * l.size) s))
  used_right n zero s h e =
      let front : drop (zero * l.size) s ≡ s = ap (λ (k : ℕ). drop k s) (zero-mul l.size) in
      let none = zeros_same (n * l.size) s e in (
        λ q. (tt, rw front (none.0 (sym (unused_written (lawful inner) n) ∙ q))),
        λ r. unused_written (lawful inner) n ∙ none.1 (rw front at r.1),
      )
  used_right zero (suc c) s h e = let no : ⊥ = omega arith in absurd no
  used_right (suc n) (suc c) s h e =
      let size = l.size in
      let long : length s ≡ size + n * size = e ∙ suc-mul n size ∙ add_comm (n * size) size in
      let first = append_cut (l.write (l.read (take size s))) (write_slots l n (take c (read_slots l n (drop size s)))) s size (inner.sized (l.read (take size s))) in
      let rest = used_right n c (drop size s) (omega arith) (simp length-drop (omega arith)) in
      let shift : drop (c * size) (drop size s) ≡ drop (suc c * size) s = drop-drop (c * size) size s ∙ ap (λ (k : ℕ). drop k s) (add_comm size (c * size) ∙ sym (suc-mul c size)) in (
        λ q. (((first.0 q).0, (rest.0 (first.0 q).1).0), rw shift at (rest.0 (first.0 q).1).1),
        λ r. first.1 (r.0.0, rest.1 (r.0.1, rw shift r.1)),
      )

  pub slots_right : (n : ℕ) (s : List ℕ) → length s ≡ n * l.size → Right (slots n l) s ↔ EachSlot (Right l) l.size n s
  unfolding slots
  slots_right n s e =
      let all : take n (read_slots l n s) ≡ read_slots l n s = take_all n (read_slots l n s) (rw length-read_slots (omega arith)) in
      let used = used_right n n s (omega arith) e in
      let none : drop (n * l.size) s ≡ [] = drop_of_length-le s {i = n * l.size} (omega arith) in (
        λ q. (used.0 (ap (write_slots l n) all ∙ q)).0,
        λ r. ap (write_slots l n) (sym all) ∙ used.1 (r, rw none tt),
      )

  up_to-apart : (width limit : ℕ) → limit < 256 ^ width → (s : List ℕ) → length s ≡ width + limit * l.size
      → Right (up_to_slots width limit l) s → UpToRight (Right l) limit l.size (spelled 0 (take width s)) (drop width s)
  unfolding up_to_slots
  up_to-apart width limit wide s e q =
      let count = spelled 0 (take width s) in
      let xs = take count (read_slots l limit (drop width s)) in
      let short : length xs ≤ limit = rw (length-take, length-read_slots) (omega arith) in
      let cut = (append_cut (bytes_of width (length xs)) (write_slots l limit xs) s width (length-bytes_of width (length xs))).0 (rw (take-take width width s (omega arith)) at q) in
      let whole : count ≡ length xs = ap (spelled 0) (sym cut.0) ∙ number_read width (length xs) (omega arith) in
      let few : count ≤ limit = omega arith in
      let used = (used_right limit count (drop width s) few (simp length-drop (omega arith))).0 cut.1 in
      record { few = few; used = used.0; unused = used.1 }

  -- Lists up to a limit that the count's bytes can spell.
  pub up_to_right : (width limit : ℕ) → limit < 256 ^ width → (s : List ℕ) → length s ≡ width + limit * l.size → Bytes s
      → Right (up_to_slots width limit l) s ↔ UpToRight (Right l) limit l.size (spelled 0 (take width s)) (drop width s)
  unfolding up_to_slots
  up_to_right width limit wide s e h = (up_to-apart width limit wide s e, (up_to_lawful (lawful inner) width limit wide).write_back s e h)
