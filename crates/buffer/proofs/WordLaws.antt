-- Numbers of eight bytes, and a record as one (2026-03).
use Prim.Native.Nat.{ℕ, ◌+◌, ◌*◌, ◌/◌, ◌%◌, ◌^◌, ◌≤◌, ◌<◌}
use mathlib.Core.Path.{◌≡◌, refl, sym, ap, ◌∙◌}
use mathlib.Core.Logic.{◌⊎◌, inl, inr}
use mathlib.Core.List.{List, [], ◌∷◌, ◌++◌}
use native.Mathlib.Nat.{add_assoc, div-one, mod-eq_of_lt}
use native.Mathlib.Omega.{arith}
use lib.Arith.{digits_div, digits_mod}
use lib.Dec.{lit<}
use lib.ListN.{length, get_or, take, drop, get_or-append, length-drop, take-append-drop}
use lib.Seq.{length-take-le, take-append_seam, take-add, drop_at, drop-drop, get_or-take}
use Rattle.basics.specs.Put.{put, length-put, get_d_put}
use Rattle.plan.specs.Layout.{spelled, bytes_of}
use Rattle.plan.specs.Lawful.{Bytes}
use Rattle.plan.specs.declared.Record.{Record}
use Rattle.plan.specs.Record.{record_fields, record_layout}
use Rattle.plan.proofs.BytesLaws.{bytes_take, bytes_drop}
use Rattle.plan.proofs.LayoutLaws.{number-written}
use Rattle.plan.proofs.NumberLaws.{length-bytes_of, bytes_bytes_of, spelled_split, spelled_below, spelled-bytes_of, number_read, bytes_written}
use Rattle.plan.proofs.ValueLaws.{record_lawful}
use Rattle.state.specs.Right.{word_at}
use Rattle.state.proofs.RightAt.{part_long}
use Rattle.buffer.specs.Words.{number64, Spells64, ReadsBack64, KeepsBeside64}
use Rattle.buffer.proofs.BytesLaws.{four_field}

-- ---- numbers by their parts

spelled-append : (n : ℕ) (xs ys : List ℕ) → spelled n (xs ++ ys) ≡ spelled (spelled n xs) ys
spelled-append n [] ys = refl
spelled-append n (x ∷ xs) ys = spelled-append (n * 256 + x) xs ys

-- Bytes read as a number are written back.
pub part_written : (w at : ℕ) (s : List ℕ) → Bytes s → at + w ≤ length s → bytes_of w (spelled 0 (take w (drop at s))) ≡ take w (drop at s)
part_written w at s k h = number-written w (drop at s) (simp length-drop (omega arith)) (bytes_drop at s k)

halves : (at : ℕ) (s : List ℕ) → at + 8 ≤ length s → word_at at s * 4_294_967_296 + word_at (at + 4) s ≡ number64 at s
halves at s h =
    let high : List ℕ = take 4 (drop at s) in
    let low : List ℕ = take 4 (drop (at + 4) s) in
    let cut : take 8 (drop at s) ≡ high ++ low = take-add 4 4 (drop at s) ∙ ap (λ (t : List ℕ). high ++ take 4 t) (drop-drop 4 at s) in
    sym (ap (spelled 0) cut ∙ spelled-append 0 high low ∙ spelled_split (spelled 0 high) low ∙ ap (λ (n : ℕ). spelled 0 high * 256 ^ n + spelled 0 low) (part_long (at + 4) 4 s (omega arith)))

-- ---- the request's laws

pub two_halves : (a b c d e f g h : ℕ)
    → (((a * 256 + b) * 256 + c) * 256 + d) * 4_294_967_296 + (((e * 256 + f) * 256 + g) * 256 + h) ≡ a * 256 ^ 7 + b * 256 ^ 6 + c * 256 ^ 5 + d * 256 ^ 4 + e * 256 ^ 3 + f * 256 ^ 2 + g * 256 + h
two_halves a b c d e f g h = omega arith

pub spells64 : Spells64
spells64 at s h =
    sym (halves at s h)
    ∙ rw (four_field at s (omega arith), four_field (at + 4) s (omega arith), add_assoc at 4 1, add_assoc at 4 2, add_assoc at 4 3)
    (two_halves (get_or s at 0) (get_or s (at + 1) 0) (get_or s (at + 2) 0) (get_or s (at + 3) 0) (get_or s (at + 4) 0) (get_or s (at + 5) 0) (get_or s (at + 6) 0) (get_or s (at + 7) 0))

module _ (s : List ℕ) (at : ℕ) (xs : List ℕ) (h : at ≤ length s) where
  part_put : take (length xs) (drop at (put s at xs)) ≡ xs
  unfolding put
  part_put =
      let behind : List ℕ = drop (at + length xs) s in
      ap (take (length xs)) (drop_at (take at s) (xs ++ behind) at (length-take-le at s h)) ∙ take-append_seam xs behind

  before-put : (i : ℕ) → i < at → get_or (put s at xs) i 0 ≡ get_or s i 0
  unfolding put
  before-put i l = get_or-append (take at s) (xs ++ drop (at + length xs) s) 0 i (rw (length-take-le at s h) l) ∙ get_or-take at s i 0 l

pub reads_back64 : ReadsBack64
reads_back64 at v s h k = ap (spelled 0) (part_put s at (bytes_of 8 v) (omega arith)) ∙ number_read 8 v k

pub keeps_beside64 : KeepsBeside64
keeps_beside64 at v s h = (length-put s at (bytes_of 8 v) h, beside)
  where
    beside : (i : ℕ) → (i < at) ⊎ (at + 8 ≤ i) → get_or (put s at (bytes_of 8 v)) i 0 ≡ get_or s i 0
    beside i (inl l) = before-put s at (bytes_of 8 v) (omega arith) i l
    beside i (inr l) = get_d_put s at i (bytes_of 8 v) 0 (omega arith) l

-- ---- a record in a number

-- Some bytes of a number, between others.
between : (xs ys zs : List ℕ) → Bytes ys → Bytes zs → spelled 0 ys ≡ spelled 0 (xs ++ (ys ++ zs)) / 256 ^ length zs % 256 ^ length ys
between xs ys zs h k =
    let upper : ℕ = spelled 0 xs * 256 ^ length ys + spelled 0 ys in
    let whole : spelled 0 (xs ++ (ys ++ zs)) ≡ upper * 256 ^ length zs + spelled 0 zs =
    spelled-append 0 xs (ys ++ zs) ∙ spelled-append (spelled 0 xs) ys zs ∙ spelled_split (spelled (spelled 0 xs) ys) zs ∙ ap (λ (n : ℕ). n * 256 ^ length zs + spelled 0 zs) (spelled_split (spelled 0 xs) ys) in
    sym (ap (λ (n : ℕ). n / 256 ^ length zs % 256 ^ length ys) whole ∙ ap (λ (n : ℕ). n % 256 ^ length ys) (digits_div upper (spelled_below zs k)) ∙ digits_mod (spelled 0 xs) (spelled_below ys h))

-- The field of w bytes behind n bytes and before m.
field_of : (n w m v : ℕ) → v < 256 ^ (n + (w + m)) → spelled 0 (take w (drop n (bytes_of (n + (w + m)) v))) ≡ v / 256 ^ m % 256 ^ w
field_of n w m v h =
    let bs : List ℕ = bytes_of (n + (w + m)) v in
    let xs : List ℕ = take n bs in
    let ys : List ℕ = take w (drop n bs) in
    let zs : List ℕ = drop w (drop n bs) in
    let long = length-bytes_of (n + (w + m)) v in
    let bytes = bytes_bytes_of (n + (w + m)) v in
    let middle : length ys ≡ w = part_long n w bs (omega arith) in
    let last : length zs ≡ m = simp (length-drop, long) (omega arith) in
    let all : xs ++ (ys ++ zs) ≡ bs = ap (λ (t : List ℕ). xs ++ t) (take-append-drop w (drop n bs)) ∙ take-append-drop n bs in
    between xs ys zs (bytes_take w (drop n bs) (bytes_drop n bs bytes)) (bytes_drop w (drop n bs) (bytes_drop n bs bytes))
    ∙ rw (all, middle, last, number_read (n + (w + m)) v h)

-- A record's fields.
module _ (v : ℕ) (h : v < 18_446_744_073_709_551_616) where
  abbrev field_at : ℕ → ℕ
  field_at i = get_or (record_fields.read (bytes_of 8 v)) i 0

  pub piece_field : v / 4_294_967_296 ≡ field_at 0
  unfolding record_fields
  piece_field =
      let upper : v / 4_294_967_296 < 4_294_967_296 = omega arith in
      sym (field_of 0 4 4 v h ∙ mod-eq_of_lt upper)

  pub material_field : v / 16_777_216 % 256 ≡ field_at 1
  unfolding record_fields
  material_field = sym (field_of 4 1 3 v h)

  pub zero_field : v / 65_536 % 256 ≡ field_at 2
  unfolding record_fields
  zero_field = sym (field_of 5 1 2 v h)

  pub mass_field : v % 65_536 ≡ field_at 3
  unfolding record_fields
  mass_field = sym (field_of 6 2 0 v h ∙ ap (λ (n : ℕ). n % 65_536) (div-one v))

-- One field more.
spelled_more : (n w v : ℕ) (ys : List ℕ) → v < 256 ^ w → spelled n (bytes_of w v ++ ys) ≡ spelled (n * 256 ^ w + v) ys
spelled_more n w v ys h = spelled-append n (bytes_of w v) ys ∙ ap (λ (x : ℕ). spelled x ys) (spelled-bytes_of n w v ∙ ap (λ (x : ℕ). n * 256 ^ w + x) (mod-eq_of_lt h))

pub number_of_record : (r : Record) → r.piece < 4_294_967_296 → r.material < 256 → r.mass < 65_536 → r.piece * 4_294_967_296 + r.material * 16_777_216 + r.mass ≡ spelled 0 (record_layout.write r)
unfolding record_layout
number_of_record r p m g =
    let last : List ℕ = bytes_of 2 r.mass ++ [] in
    let zero-byte : List ℕ = bytes_of 1 0 ++ last in
    let whole =
    spelled_more 0 4 r.piece (bytes_of 1 r.material ++ zero-byte) p ∙ spelled_more (0 * 4_294_967_296 + r.piece) 1 r.material zero-byte m
    ∙ spelled_more ((0 * 4_294_967_296 + r.piece) * 256 + r.material) 1 0 last (lit< tt) ∙ spelled_more (((0 * 4_294_967_296 + r.piece) * 256 + r.material) * 256 + 0) 2 r.mass [] g in
    omega (arith, whole)

-- A record's bytes are those of its number.
pub record_bytes : (r : Record) → bytes_of 8 (spelled 0 (record_layout.write r)) ≡ record_layout.write r
unfolding record_layout
record_bytes r = bytes_written 0 (record_layout.write r) (record_lawful.bytes r)
