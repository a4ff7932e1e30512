-- Layouts: what each is written as is read back, and right bytes are written back.
use Prim.Native.Nat.{ℕ, zero, suc, ◌+◌, ◌*◌, ◌^◌, ◌≤◌, ◌<◌}
use mathlib.Core.Path.{◌≡◌, refl, sym, ap, ◌∙◌}
use mathlib.Core.List.{List, [], ◌∷◌}
use native.Mathlib.Nat.{pow-le-pow_right, lt_of_lt_of_le, suc-mul, zero-mul, add_comm, add-sub_cancel_left}
use native.Mathlib.Omega.{arith}
use lib.Dec.{lit<}
use lib.ListN.{length, get_or, take, drop, replicate, length-append, length-take, length-drop, length-replicate, replicate-append-replicate, drop_of_length-le, take-append-drop}
use lib.Seq.{take_at, drop_at, length-take-le, take-take, drop-drop, take_all}
use Rattle.plan.specs.Layout.{Layout, bytes_of, spelled, number, sum_of, write_fields, read_fields, fields, via, pair, zeros, write_slots, read_slots, slots, up_to_slots, padded}
use Rattle.plan.specs.Lawful.{Bytes, Each, EachSlot, FieldsFit, Zeros, SlotsFit, UpToFit, UpToRight, Lawful}
use Rattle.plan.proofs.NumberLaws.{length-bytes_of, bytes_bytes_of, spelled_below, number_read, bytes_written}
use Rattle.plan.proofs.BytesLaws.{bytes_take, bytes_drop, bytes_append, drop-take, each_take}

-- ---- numbers

number_below : (w : ℕ) (s : List ℕ) → Bytes s → spelled 0 (take w s) < 256 ^ w
number_below w s h =
    let short : length (take w s) ≤ w = simp length-take (omega arith) in
    lt_of_lt_of_le (spelled_below (take w s) (bytes_take w s h)) (pow-le-pow_right (lit< tt) short)

pub number-written : (w : ℕ) (s : List ℕ) → w ≤ length s → Bytes s → bytes_of w (spelled 0 (take w s)) ≡ take w s
number-written w s e h = rw (length-take-le w s e) at (bytes_written 0 (take w s) (bytes_take w s h))

pub number_lawful : (w : ℕ) → Lawful (number w) (λ v. v < 256 ^ w) (λ s. Unit {0})
unfolding number
number_lawful w = record {
  sized = length-bytes_of w;
  bytes = bytes_bytes_of w;
  fits = number_below w;
  read_back = λ v h. rw (take_all w (bytes_of w v) (omega (arith, length-bytes_of w v))) (number_read w v h);
  write_back = λ s e h r. number-written w s (omega arith) h ∙ take_all w s (omega arith);
}

-- ---- fields

length_fields : (ws vs : List ℕ) → length (write_fields ws vs) ≡ sum_of ws
length_fields [] vs = refl
length_fields (w ∷ ws) [] = rw (length-append, length-bytes_of, length_fields ws [])
length_fields (w ∷ ws) (v ∷ vs) = rw (length-append, length-bytes_of, length_fields ws vs)

bytes_fields : (ws vs : List ℕ) → Bytes (write_fields ws vs)
bytes_fields [] vs = tt
bytes_fields (w ∷ ws) [] = bytes_append (bytes_of w 0) (write_fields ws []) (bytes_bytes_of w 0) (bytes_fields ws [])
bytes_fields (w ∷ ws) (v ∷ vs) = bytes_append (bytes_of w v) (write_fields ws vs) (bytes_bytes_of w v) (bytes_fields ws vs)

pub fields_fit : (ws s : List ℕ) → Bytes s → FieldsFit ws (read_fields ws s)
fields_fit [] s h = tt
fields_fit (w ∷ ws) s h = (number_below w s h, fields_fit ws (drop w s) (bytes_drop w s h))

pub fields_read : (ws vs : List ℕ) → FieldsFit ws vs → read_fields ws (write_fields ws vs) ≡ vs
fields_read [] [] h = refl
fields_read [] (v ∷ vs) h = absurd h
fields_read (w ∷ ws) [] h = absurd h
fields_read (w ∷ ws) (v ∷ vs) h =
    rw (take_at (bytes_of w v) (write_fields ws vs) w (length-bytes_of w v), drop_at (bytes_of w v) (write_fields ws vs) w (length-bytes_of w v), number_read w v h.0, fields_read ws vs h.1)

fields-written : (ws s : List ℕ) → length s ≡ sum_of ws → Bytes s → write_fields ws (read_fields ws s) ≡ s
fields-written [] [] e h = refl
fields-written [] (b ∷ s) e h = let no : ⊥ = omega arith in absurd no
fields-written (w ∷ ws) s e h =
    rw (number-written w s (omega arith) h, fields-written ws (drop w s) (simp length-drop (omega arith)) (bytes_drop w s h)) (take-append-drop w s)

-- Fields read no more than their size.
pub fields_front : (ws s : List ℕ) → read_fields ws (take (sum_of ws) s) ≡ read_fields ws s
fields_front [] s = refl
fields_front (w ∷ ws) s =
    rw (take-take w (w + sum_of ws) s (omega arith), drop-take w (w + sum_of ws) s, add-sub_cancel_left, fields_front ws (drop w s))

pub fields_lawful : (ws : List ℕ) → Lawful (fields ws) (FieldsFit ws) (λ s. Unit {0})
unfolding fields
fields_lawful ws = record {
  sized = length_fields ws;
  bytes = bytes_fields ws;
  fits = fields_fit ws;
  read_back = fields_read ws;
  write_back = λ s e h r. fields-written ws s e h;
}

-- ---- a value seen as another

module _ {A B : Type 0} (l : Layout B) (seen : A → B) (value : B → A) {FitsA : A → Type 0} {FitsB : B → Type 0} {RightSeen Right : List ℕ → Type 0} where
  pub via_lawful : Lawful l FitsB RightSeen → ((a : A) → FitsA a → FitsB (seen a)) → ((a : A) → FitsA a → value (seen a) ≡ a)
      → ((b : B) → FitsB b → FitsA (value b))
      → ((s : List ℕ) → FitsB (l.read s) → Right s → RightSeen s × (seen (value (l.read s)) ≡ l.read s))
      → Lawful (via l seen value) FitsA Right
  unfolding via
  via_lawful lawful fitting valued fits right = record {
    sized = λ a. lawful.sized (seen a);
    bytes = λ a. lawful.bytes (seen a);
    fits = λ s h. fits (l.read s) (lawful.fits s h);
    read_back = λ a h. ap value (lawful.read_back (seen a) (fitting a h)) ∙ valued a h;
    write_back = λ s e h r. ap l.write (right s (lawful.fits s h) r).1 ∙ lawful.write_back s e h (right s (lawful.fits s h) r).0;
  }

-- ---- one behind the other

module _ {A B : Type 0} {l : Layout A} {k : Layout B} {FitsA : A → Type 0} {FitsB : B → Type 0} {RightA RightB : List ℕ → Type 0} where
  pub pair_lawful : Lawful l FitsA RightA → Lawful k FitsB RightB
      → Lawful (pair l k) (λ p. FitsA p.0 × FitsB p.1) (λ s. RightA (take l.size s) × RightB (drop l.size s))
  unfolding pair
  pair_lawful first second = record {
    sized = λ p. rw (length-append, first.sized p.0, second.sized p.1);
    bytes = λ p. bytes_append (l.write p.0) (k.write p.1) (first.bytes p.0) (second.bytes p.1);
    fits = λ s h. (first.fits (take l.size s) (bytes_take l.size s h), second.fits (drop l.size s) (bytes_drop l.size s h));
    read_back = λ p h.
        rw (
          take_at (l.write p.0) (k.write p.1) l.size (first.sized p.0),
          drop_at (l.write p.0) (k.write p.1) l.size (first.sized p.0),
          first.read_back p.0 h.0,
          second.read_back p.1 h.1,
        );
    write_back = λ s e h r.
        rw (
          first.write_back (take l.size s) (length-take-le l.size s (omega arith)) (bytes_take l.size s h) r.0,
          second.write_back (drop l.size s) (simp length-drop (omega arith)) (bytes_drop l.size s h) r.1,
        )
        (take-append-drop l.size s);
  }

-- ---- unused bytes

bytes_zeros : (n : ℕ) → Bytes (replicate n 0)
bytes_zeros zero = tt
bytes_zeros (suc n) = (lit< tt, bytes_zeros n)

zeros-written : (n : ℕ) (s : List ℕ) → length s ≡ n → Zeros s → replicate n 0 ≡ s
zeros-written zero [] e z = refl
zeros-written zero (b ∷ s) e z = let no : ⊥ = omega arith in absurd no
zeros-written (suc n) [] e z = let no : ⊥ = omega arith in absurd no
zeros-written (suc n) (b ∷ s) e z = rw (z.0, zeros-written n s (omega arith) z.1)

pub zeros_lawful : (n : ℕ) → Lawful (zeros n) (λ u. Unit {0}) Zeros
unfolding zeros
zeros_lawful n = record {
  sized = λ u. length-replicate n 0;
  bytes = λ u. bytes_zeros n;
  fits = λ s h. tt;
  read_back = λ u h. refl;
  write_back = λ s e h z. zeros-written n s e z;
}

module _ {A : Type 0} {l : Layout A} {Fits : A → Type 0} {Right : List ℕ → Type 0} where
  pub padded_lawful : Lawful l Fits Right → (n : ℕ) → Lawful (padded n l) Fits (λ s. Right (take l.size s) × Zeros (drop l.size s))
  unfolding padded
  padded_lawful lawful n =
      let parts = pair_lawful lawful (zeros_lawful n) in
      record {
        sized = λ a. parts.sized (a, tt);
        bytes = λ a. parts.bytes (a, tt);
        fits = λ s h. (parts.fits s h).0;
        read_back = λ a h. ap (λ (p : A × Unit {0}). p.0) (parts.read_back (a, tt) (h, tt));
        write_back = parts.write_back;
      }

-- ---- slots

pub length-read_slots : {A : Type 0} (l : Layout A) (n : ℕ) (s : List ℕ) → length (read_slots l n s) ≡ n
length-read_slots l zero s = refl
length-read_slots l (suc n) s = ap suc (length-read_slots l n (drop l.size s))

pub slot_at : {A : Type 0} (l : Layout A) (n : ℕ) (s : List ℕ) (i : ℕ) (d : A) → i < n → get_or (read_slots l n s) i d ≡ l.read (take l.size (drop (i * l.size) s))
slot_at l zero s i d h = let no : ⊥ = omega arith in absurd no
slot_at l (suc n) s zero d h = rw zero-mul
slot_at l (suc n) s (suc i) d h = slot_at l n (drop l.size s) i d (omega arith) ∙ rw (drop-drop, suc-mul, add_comm (i * l.size) l.size)

-- Slots read no more than their size.
pub slots_front : {A : Type 0} (l : Layout A) (n : ℕ) (s : List ℕ) → read_slots l n (take (n * l.size) s) ≡ read_slots l n s
slots_front l zero s = refl
slots_front l (suc n) s =
    rw (
      suc-mul n l.size,
      add_comm (n * l.size) l.size,
      take-take l.size (l.size + n * l.size) s (omega arith),
      drop-take l.size (l.size + n * l.size) s,
      add-sub_cancel_left,
      slots_front l n (drop l.size s),
    )

pub each_slot : (P : List ℕ → Type 0) → ((s : List ℕ) → P s) → (size n : ℕ) (s : List ℕ) → EachSlot P size n s
each_slot P h size zero s = tt
each_slot P h size (suc n) s = (h (take size s), each_slot P h size n (drop size s))

module _ {A : Type 0} {l : Layout A} {Fits : A → Type 0} {Right : List ℕ → Type 0} (lawful : Lawful l Fits Right) where
  length-slots : (n : ℕ) (xs : List A) → length (write_slots l n xs) ≡ n * l.size
  length-slots zero xs = rw zero-mul
  length-slots (suc n) [] = rw (length-append, length-replicate, length-slots n [], suc-mul) (omega arith)
  length-slots (suc n) (x ∷ xs) = rw (length-append, lawful.sized x, length-slots n xs, suc-mul) (omega arith)

  bytes_slots : (n : ℕ) (xs : List A) → Bytes (write_slots l n xs)
  bytes_slots zero xs = tt
  bytes_slots (suc n) [] = bytes_append (replicate l.size 0) (write_slots l n []) (bytes_zeros l.size) (bytes_slots n [])
  bytes_slots (suc n) (x ∷ xs) = bytes_append (l.write x) (write_slots l n xs) (lawful.bytes x) (bytes_slots n xs)

  slots_fit : (n : ℕ) (s : List ℕ) → Bytes s → Each Fits (read_slots l n s)
  slots_fit zero s h = tt
  slots_fit (suc n) s h = (lawful.fits (take l.size s) (bytes_take l.size s h), slots_fit n (drop l.size s) (bytes_drop l.size s h))

  -- The slots that a list fills are read back.
  used_read : (n : ℕ) (xs : List A) → length xs ≤ n → Each Fits xs → take (length xs) (read_slots l n (write_slots l n xs)) ≡ xs
  used_read n [] e h = refl
  used_read zero (x ∷ xs) e h = let no : ⊥ = omega arith in absurd no
  used_read (suc n) (x ∷ xs) e h =
      rw (
        take_at (l.write x) (write_slots l n xs) l.size (lawful.sized x),
        drop_at (l.write x) (write_slots l n xs) l.size (lawful.sized x),
        lawful.read_back x h.0,
        used_read n xs (omega arith) h.1,
      )

  pub unused_written : (n : ℕ) → write_slots l n [] ≡ replicate (n * l.size) 0
  unused_written zero = rw zero-mul
  unused_written (suc n) = rw (unused_written n, replicate-append-replicate, suc-mul, add_comm (n * l.size) l.size)

  -- Slots of which so many are used are written back.
  used_written : (n c : ℕ) (s : List ℕ) → length s ≡ n * l.size → Bytes s → UpToRight Right n l.size c s → write_slots l n (take c (read_slots l n s)) ≡ s
  used_written n zero s e h r = unused_written n ∙ zeros-written (n * l.size) s e (rw zero-mul at r.unused)
  used_written zero (suc c) s e h r = let no : ⊥ = omega (arith, r.few) in absurd no
  used_written (suc n) (suc c) s e h r =
      let long : length s ≡ l.size + n * l.size = e ∙ suc-mul n l.size ∙ add_comm (n * l.size) l.size in
      let rest : Zeros (drop (c * l.size) (drop l.size s)) = rw drop-drop (rw (suc-mul, add_comm (c * l.size) l.size) at r.unused) in
      rw (
        lawful.write_back (take l.size s) (length-take-le l.size s (omega arith)) (bytes_take l.size s h) r.used.0,
        used_written n c (drop l.size s) (simp length-drop (omega arith)) (bytes_drop l.size s h) (record { few = omega (arith, r.few); used = r.used.1; unused = rest }),
      )
      (take-append-drop l.size s)

  all_read : (n : ℕ) (s : List ℕ) → take n (read_slots l n s) ≡ read_slots l n s
  all_read n s = take_all n (read_slots l n s) (rw length-read_slots (omega arith))

  pub slots_lawful : (n : ℕ) → Lawful (slots n l) (SlotsFit n Fits) (EachSlot Right l.size n)
  unfolding slots
  slots_lawful n = record {
    sized = length-slots n;
    bytes = bytes_slots n;
    fits = λ s h. (length-read_slots l n s, slots_fit n s h);
    read_back = λ xs h. sym (all_read n (write_slots l n xs)) ∙ rw h.0 at (used_read n xs (omega arith) h.1);
    write_back = λ s e h r. ap (write_slots l n) (sym (all_read n s)) ∙ used_written n n s e h (record { few = omega arith; used = r; unused = rw (drop_of_length-le s {i = n * l.size} (omega arith)) tt });
  }

  -- Lists up to a limit that the count's bytes can spell.
  pub up_to_lawful : (width limit : ℕ) → limit < 256 ^ width
      → Lawful (up_to_slots width limit l) (UpToFit limit Fits) (λ s. UpToRight Right limit l.size (spelled 0 (take width s)) (drop width s))
  unfolding up_to_slots
  up_to_lawful width limit wide =
      let parts = pair_lawful (number_lawful width) (slots_lawful limit) in
      record {
        sized = λ xs. parts.sized (length xs, xs);
        bytes = λ xs. parts.bytes (length xs, xs);
        fits = λ s h. (
          simp length-take (omega (arith, length-read_slots l limit (drop width s))),
          each_take Fits (spelled 0 (take width (take width s))) (read_slots l limit (drop width s)) (slots_fit limit (drop width s) (bytes_drop width s h)),
        );
        read_back = λ xs h.
            rw (
              take_at (bytes_of width (length xs)) (write_slots l limit xs) width (length-bytes_of width (length xs)),
              drop_at (bytes_of width (length xs)) (write_slots l limit xs) width (length-bytes_of width (length xs)),
              (number_lawful width).read_back (length xs) (omega arith),
            )
            (used_read limit xs h.0 h.1);
        write_back = λ s e h r.
            rw (
              take-take width width s (omega arith),
              length-take-le (spelled 0 (take width s)) (read_slots l limit (drop width s)) (rw length-read_slots r.few),
              number-written width s (omega arith) h,
              used_written limit (spelled 0 (take width s)) (drop width s) (simp length-drop (omega arith)) (bytes_drop width s h) r,
            )
            (take-append-drop width s);
      }
