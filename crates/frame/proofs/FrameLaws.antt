-- What a frame's bytes give, and its refusals among a step's.
use Prim.Native.Nat.{ℕ, ◌+◌, ◌-◌, ◌≤◌, ◌<◌}
use mathlib.Core.Path.{◌≡◌, refl, sym, ap, ◌∙◌}
use mathlib.Core.Logic.{◌≢◌}
use mathlib.Core.Bool.{Bool, true, false, cond, not, ◌&&◌}
use mathlib.Core.List.{List}
use native.Mathlib.Omega.{arith}
use borrow.Author.Tests.{ne_eqb, le-leb, lt-leb, ltb-false}
use lib.Dec.{leb, ltb, eqb}
use lib.ListN.{length, get_or, take, drop}
use Rattle.std.proofs.Common.{length-drop, get_or-drop, add-zero}
use Rattle.std.proofs.lemmas.List.{take_rest}
use Rattle.std.proofs.lemmas.Bool.Decides.{nat_tests}
use lib.Seq.{drop-drop}
use Rattle.basics.specs.Bools.{neither_true}
use Rattle.plan.specs.Layout.{spelled}
use Rattle.plan.specs.Record.{record_widths, record_of, record_layout, record_fits, known_record}
use Rattle.plan.proofs.LayoutLaws.{fields_front}
use Rattle.rules.specs.Line.{console_count, Line}
use Rattle.rules.specs.Frame.{frame_head, frame_number, frame_version, frame_kind, console_bytes, frame_console, frame_of_kind, frame_of, bad_frame_length, bad_frame_version, bad_kind, bad_console, frame_refusal}
use Rattle.rules.specs.Step.{refusal}
use Rattle.answers.specs.declared.Refusal.{Refusal}
use Rattle.answers.specs.Number.{refusal_number}
use Rattle.frame.specs.Reading.{Versioned, kind_known}

-- ---- the head

pub size_field : (f : List ℕ) → spelled 0 (take 2 (drop 0 f)) ≡ frame_number 0 f
unfolding frame_head
size_field f = refl

pub version_field : (f : List ℕ) → spelled 0 (take 1 (drop 2 f)) ≡ frame_version f
unfolding frame_head
version_field f = refl

pub kind_field : (f : List ℕ) → spelled 0 (take 1 (drop 3 f)) ≡ frame_kind f
unfolding frame_head
kind_field f = rw drop-drop

-- ---- the record behind it

pub record_front : (s : List ℕ) → record_layout.read s ≡ record_layout.read (take 8 s)
unfolding record_layout
record_front s = ap record_of (sym (fields_front record_widths s))

pub fits_front : (s : List ℕ) → record_fits s ≡ record_fits (take 8 s)
unfolding record_fits
fits_front s = ap (λ (ns : List ℕ). known_record (record_of ns) && eqb (get_or ns 2 0) 0) (sym (fields_front record_widths s))

-- ---- refusals

-- What the four tests give.
pub by_tests : (f : List ℕ) {a b c d : Bool} → bad_frame_length f ≡ a → bad_frame_version f ≡ b → bad_kind f ≡ c → bad_console f ≡ d
    → frame_refusal f ≡ (elim a [ true ↦ 9 | false ↦ elim b [ true ↦ 10 | false ↦ elim c [ true ↦ 11 | false ↦ elim d [ true ↦ 25 | false ↦ 0 ] ] ] ])
unfolding frame_refusal
by_tests f ea eb ec ed = λ i. elim (ea i) [ true ↦ 9 | false ↦ elim (eb i) [ true ↦ 10 | false ↦ elim (ec i) [ true ↦ 11 | false ↦ elim (ed i) [ true ↦ 25 | false ↦ 0 ] ] ] ]

pub long_enough : (f : List ℕ) → bad_frame_length f ≡ false → 5 ≤ length f
unfolding bad_frame_length
long_enough f e = ltb-false (length f) 5 (neither_true (ltb (length f) 5) (not (eqb (frame_number 0 f) (length f))) e).0

-- By the version.
pub version_one : (f : List ℕ) → bad_frame_length f ≡ false → frame_version f ≡ 1 → Versioned f 0 4
unfolding bad_frame_version console_bytes frame_console
version_one f sized v = record { sized = sized; known = rw v; whose = rw v; behind = rw v; head = long_enough f sized; few = omega arith }

pub version_two : (f : List ℕ) (c : ℕ) → bad_frame_length f ≡ false → frame_version f ≡ 2 → c ≡ get_or f 4 0 → Versioned f c 5
unfolding bad_frame_version console_bytes frame_console
version_two f c sized v e = record { sized = sized; known = rw v; whose = rw v e; behind = rw v; head = long_enough f sized; few = omega arith }

pub version_unknown : (f : List ℕ) → frame_version f ≢ 1 → frame_version f ≢ 2 → bad_frame_version f ≡ true
unfolding bad_frame_version
version_unknown f one two = rw (ne_eqb (frame_version f) 1 one, ne_eqb (frame_version f) 2 two)

-- The length that the kind and the version ask for, by what stands behind the console.
length_behind : (t : Bool) (n extra : ℕ) → 4 + extra ≤ n → eqb n (cond t 13 5 + extra) ≡ eqb (n - (4 + extra)) (cond t 9 1)
length_behind true n extra l = grind (arith, nat_tests)
length_behind false n extra l = grind (arith, nat_tests)

pub console_above : (f : List ℕ) (c : ℕ) → c ≡ frame_console f → console_count ≤ c → bad_console f ≡ true
unfolding bad_console
console_above f c e above = rw (← e) (le-leb console_count c above)

pub console_there : (f : List ℕ) (c : ℕ) → c ≡ frame_console f → c < console_count → bad_console f ≡ false
unfolding bad_console
console_there f c e there = rw (← e) (lt-leb console_count c there)

-- Of a frame whose length and version are right, with what stands behind its console.
module _ (f : List ℕ) (kind console from : ℕ) (k : kind ≡ frame_kind f) (v : Versioned f console from) where
  kind_tested : bad_kind f ≡ not (kind_known kind (length (take (length f - from) (drop from f))))
  unfolding bad_kind
  kind_tested =
      rw (take_rest f from, k, v.behind, length-drop) (ap (λ t. not (leb 1 (frame_kind f) && leb (frame_kind f) 8 && t)) (length_behind (eqb (frame_kind f) 1) (length f) (console_bytes f) (omega (arith, v.behind, v.few, v.head))))

  pub unknown_kind : kind_known kind (length (take (length f - from) (drop from f))) ≡ false → frame_refusal f ≡ 11
  unknown_kind unlike = by_tests f {d = bad_console f} v.sized v.known (rw unlike at kind_tested) refl

  pub unknown_console : kind_known kind (length (take (length f - from) (drop from f))) ≡ true → console_count ≤ console → frame_refusal f ≡ 25
  unknown_console like above = by_tests f v.sized v.known (rw like at kind_tested) (console_above f console v.whose above)

  pub well_formed : kind_known kind (length (take (length f - from) (drop from f))) ≡ true → console < console_count → frame_refusal f ≡ 0
  well_formed like below = by_tests f v.sized v.known (rw like at kind_tested) (console_there f console v.whose below)

  pub asked_behind : frame_of f ≡ frame_of_kind kind (get_or (take (length f - from) (drop from f)) 0 0) (drop 1 (take (length f - from) (drop from f)))
  unfolding frame_of
  asked_behind =
      let second : drop 1 (drop from f) ≡ drop (5 + console_bytes f) f = rw (v.behind, drop-drop) (ap (λ n. drop n f) (omega arith)) in
      let first : get_or (drop from f) 0 0 ≡ get_or f (4 + console_bytes f) 0 = rw (v.behind, get_or-drop, add-zero) in
      rw (take_rest f from, k, first, second)

-- A refused frame is refused by every line with the same number.
pub frame_refused : (f : List ℕ) (r : Refusal) → frame_refusal f ≡ refusal_number r → (l : Line) → refusal l f ≡ refusal_number r
unfolding refusal
frame_refused f r e l = rw (ne_eqb (frame_refusal f) 0 (λ z. refused r (sym e ∙ z)), refusal) e
  where
    refused : (q : Refusal) → refusal_number q ≢ 0
    refused q z = grind arith
