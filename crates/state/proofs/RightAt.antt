-- Right bytes at an offset, taken apart.
use Prim.Native.Nat.{ℕ, zero, suc, ◌+◌, ◌*◌, ◌-◌, ◌^◌, ◌≤◌, ◌<◌}
use mathlib.Core.Path.{◌≡◌, sym, ap, subst, subst₂, ◌∙◌}
use mathlib.Core.Logic.Iff
use mathlib.Core.Logic.{◌↔◌}
use mathlib.Core.List.{List}
use native.Mathlib.Nat.{add_comm, mul_comm, mul-suc, mul-zero, add-mul, mul-le-mul_left, add-sub_cancel_left}
use native.Mathlib.Omega.{arith}
use lib.ListN.{length, take, drop, length-drop}
use lib.Seq.{drop-drop, take-take, length-take-le}
use Rattle.plan.specs.Layout.{Layout, spelled, number, fields, sum_of, via, pair, slots, up_to_slots, padded}
use Rattle.plan.specs.Lawful.{Bytes, Zeros, EachSlot, UpToRight}
use Rattle.plan.proofs.BytesLaws.{bytes_take, bytes_drop, drop-take}
use Rattle.state.specs.Sound.{Right, Sound}
use Rattle.state.specs.Sizes.{count_size}
use Rattle.state.specs.Right.{ZerosAt, word_at, ListRight}
use Rattle.state.proofs.ReadLaws.{part_part}
use Rattle.state.proofs.RightLaws.{number_right, fields_right, pair_right, padded_right, via_right, up_to_right, slots_right}

-- The bytes of a layout's size at an offset are right.
abbrev pub RightAt : {A : Type 0} → Layout A → ℕ → List ℕ → Type 0
RightAt l a s = Right l (take l.size (drop a s))

-- What is said of equal bytes.
iff_at : {s t : List ℕ} (P : List ℕ → Type 0) → s ≡ t → P s ↔ P t
iff_at P e = (subst P e, subst P (sym e))

iff_both : {s t u v : List ℕ} (P : List ℕ → List ℕ → Type 0) → s ≡ t → u ≡ v → P s u ↔ P t v
iff_both P e f = (subst₂ P e f, subst₂ P (sym e) (sym f))

pub part_long : (a w : ℕ) (s : List ℕ) → a + w ≤ length s → length (take w (drop a s)) ≡ w
part_long a w s h = length-take-le w (drop a s) (simp length-drop (omega arith))

pub part_bytes : (a w : ℕ) (s : List ℕ) → Bytes s → Bytes (take w (drop a s))
part_bytes a w s h = bytes_take w (drop a s) (bytes_drop a s h)

-- The first and the second part of a part.
pub part_first : (a n m : ℕ) (s : List ℕ) → take n (take (n + m) (drop a s)) ≡ take n (drop a s)
part_first a n m s = take-take n (n + m) (drop a s) (omega arith)

pub part_second : (a n m : ℕ) (s : List ℕ) → drop n (take (n + m) (drop a s)) ≡ take m (drop (a + n) s)
part_second a n m s = drop-take n (n + m) (drop a s) ∙ rw (add-sub_cancel_left, drop-drop)

pub number_at : (w a : ℕ) (s : List ℕ) → a + w ≤ length s → Bytes s → RightAt (number w) a s
unfolding number
number_at w a s h k = number_right w (take w (drop a s)) (part_long a w s h) (part_bytes a w s k)

pub fields_at : (ws : List ℕ) (a : ℕ) (s : List ℕ) → a + sum_of ws ≤ length s → Bytes s → RightAt (fields ws) a s
unfolding fields
fields_at ws a s h k = fields_right ws (take (sum_of ws) (drop a s)) (part_long a (sum_of ws) s h) (part_bytes a (sum_of ws) s k)

module _ {A : Type 0} {l : Layout A} {Fits : A → Type 0} (inner : Sound l Fits) (a : ℕ) (s : List ℕ) where
  pub pair-at : {B : Type 0} (k : Layout B) → RightAt (pair l k) a s ↔ (RightAt l a s × RightAt k (a + l.size) s)
  unfolding pair
  pair-at k =
      Iff.trans (pair_right inner k (take (l.size + k.size) (drop a s))) (Iff.and (iff_at (Right l) (part_first a l.size k.size s)) (iff_at (Right k) (part_second a l.size k.size s)))

  pub padded-at : (n : ℕ) → a + (l.size + n) ≤ length s → RightAt (padded n l) a s ↔ (RightAt l a s × ZerosAt (a + l.size) n s)
  unfolding padded
  padded-at n h =
      Iff.trans (padded_right inner n (take (l.size + n) (drop a s)) (part_long a (l.size + n) s h)) (Iff.and (iff_at (Right l) (part_first a l.size n s)) (iff_at Zeros (part_second a l.size n s)))

  pub via-at : {B : Type 0} (seen : B → A) (value : A → B) → Fits (seen (value (l.read (take l.size (drop a s)))))
      → RightAt (via l seen value) a s ↔ (RightAt l a s × (seen (value (l.read (take l.size (drop a s)))) ≡ l.read (take l.size (drop a s))))
  unfolding via
  via-at seen value h = via_right inner seen value (take l.size (drop a s)) h

-- ---- slots

module _ (P : List ℕ → Type 0) (size : ℕ) where
  next_slot : (i : ℕ) (s : List ℕ) → drop (size * i) (drop size s) ≡ drop (size * suc i) s
  next_slot i s = drop-drop (size * i) size s ∙ ap (λ (k : ℕ). drop k s) (add_comm size (size * i) ∙ sym (mul-suc size i))

  slots_each : (n : ℕ) (s : List ℕ) → EachSlot P size n s → (i : ℕ) → i < n → P (take size (drop (size * i) s))
  slots_each zero s h i k = let no : ⊥ = omega arith in absurd no
  slots_each (suc n) s h zero k = rw mul-zero h.0
  slots_each (suc n) s h (suc i) k = subst (λ (t : List ℕ). P (take size t)) (next_slot i s) (slots_each n (drop size s) h.1 i (omega arith))

  each_slots : (n : ℕ) (s : List ℕ) → ((i : ℕ) → i < n → P (take size (drop (size * i) s))) → EachSlot P size n s
  each_slots zero s h = tt
  each_slots (suc n) s h = (
    rw mul-zero at (h zero (omega arith)),
    each_slots n (drop size s) (λ i k. subst (λ (t : List ℕ). P (take size t)) (sym (next_slot i s)) (h (suc i) (omega arith))),
  )

  -- Each of some slots, by number.
  pub slots_by_number : (n : ℕ) (s : List ℕ) → EachSlot P size n s ↔ ((i : ℕ) → i < n → P (take size (drop (size * i) s)))
  slots_by_number n s = (slots_each n s, each_slots n s)

-- A slot that is within so many lies within their bytes.
slot_within : (size n i : ℕ) → i < n → size * i + size ≤ n * size
slot_within size n i h = rw (mul_comm n size) (subst (λ (k : ℕ). k ≤ size * n) (mul-suc size i) (mul-le-mul_left size h))

module _ {A : Type 0} {l : Layout A} {Fits : A → Type 0} (inner : Sound l Fits) (n a : ℕ) (s : List ℕ) where
  slot_part : (i : ℕ) → i < n → take l.size (drop (l.size * i) (take (n * l.size) (drop a s))) ≡ take l.size (drop (a + l.size * i) s)
  slot_part i h = part_part l.size (l.size * i) (n * l.size) a s (slot_within l.size n i h)

  pub slots_at : a + n * l.size ≤ length s → RightAt (slots n l) a s ↔ ((i : ℕ) → i < n → RightAt l (a + l.size * i) s)
  unfolding slots
  slots_at h =
      let u = take (n * l.size) (drop a s) in
      let all = Iff.trans (slots_right inner n u (part_long a (n * l.size) s h)) (slots_by_number (Right l) l.size n u) in (
        λ r i k. subst (Right l) (slot_part i k) (all.0 r i k),
        λ r. all.1 (λ i k. subst (Right l) (sym (slot_part i k)) (r i k)),
      )

-- The bytes behind the slots that are used.
behind_used : (size limit c a : ℕ) (s : List ℕ) → c ≤ limit → drop (c * size) (take (limit * size) (drop a s)) ≡ take (size * (limit - c)) (drop (a + size * c) s)
behind_used size limit c a s h =
    let whole : c + (limit - c) ≡ limit = omega arith in
    let split : limit * size ≡ c * size + size * (limit - c) = ap (λ (k : ℕ). k * size) (sym whole) ∙ add-mul c (limit - c) size ∙ ap (λ (k : ℕ). c * size + k) (mul_comm (limit - c) size) in
    ap (λ (k : ℕ). drop (c * size) (take k (drop a s))) split
    ∙ part_second a (c * size) (size * (limit - c)) s
    ∙ ap (λ (k : ℕ). take (size * (limit - c)) (drop (a + k) s)) (mul_comm c size)

module _ {A : Type 0} {l : Layout A} {Fits : A → Type 0} (inner : Sound l Fits) (limit a : ℕ) (s : List ℕ) where
  up_to_list : UpToRight (Right l) limit l.size (word_at a s) (take (limit * l.size) (drop (a + count_size) s)) ↔ ListRight (RightAt l) limit l.size a s
  up_to_list =
      let size = l.size in
      let c = word_at a s in
      let u = take (limit * size) (drop (a + count_size) s) in (
        λ r. record {
          few = r.few;
          used = λ i h. subst (Right l) (slot_part inner limit (a + count_size) s i (omega (arith, r.few))) ((slots_by_number (Right l) size c u).0 r.used i h);
          unused = subst Zeros (behind_used size limit c (a + count_size) s r.few) r.unused;
        },
        λ r. record {
          few = r.few;
          used = (slots_by_number (Right l) size c u).1 (λ i h. subst (Right l) (sym (slot_part inner limit (a + count_size) s i (omega (arith, r.few)))) (r.used i h));
          unused = subst Zeros (sym (behind_used size limit c (a + count_size) s r.few)) r.unused;
        },
      )

  pub list_at : limit < 256 ^ count_size → a + (count_size + limit * l.size) ≤ length s → Bytes s → RightAt (up_to_slots count_size limit l) a s ↔ ListRight (RightAt l) limit l.size a s
  unfolding up_to_slots
  list_at wide h k =
      let long = count_size + limit * l.size in
      let Up : List ℕ → List ℕ → Type 0 = λ x y. UpToRight (Right l) limit l.size (spelled 0 x) y in
      Iff.trans (up_to_right inner count_size limit wide (take long (drop a s)) (part_long a long s h) (part_bytes a long s k))
      (Iff.trans (iff_both Up (part_first a count_size (limit * l.size) s) (part_second a count_size (limit * l.size) s)) up_to_list)

-- A list's slots said otherwise.
pub list_slots : (P Q : ℕ → List ℕ → Type 0) (limit size a : ℕ) (s : List ℕ) → ((i : ℕ) → i < limit → P (a + count_size + size * i) s ↔ Q (a + count_size + size * i) s) → ListRight P limit size a s ↔ ListRight Q limit size a s
list_slots P Q limit size a s e = (
  λ r. record { few = r.few; used = λ i h. (e i (omega (arith, r.few))).0 (r.used i h); unused = r.unused },
  λ r. record { few = r.few; used = λ i h. (e i (omega (arith, r.few))).1 (r.used i h); unused = r.unused },
)
