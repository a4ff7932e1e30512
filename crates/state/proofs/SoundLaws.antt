-- Each way to build a layout keeps it sound.
use Prim.Native.Nat.{ℕ, ◌+◌, ◌^◌, ◌<◌}
use mathlib.Core.Path.{◌≡◌, refl, ap, ◌∙◌}
use mathlib.Core.List.{List}
use native.Mathlib.Nat.{add-sub_cancel_left}
use native.Mathlib.Omega.{arith}
use lib.ListN.{take, drop}
use lib.Seq.{take-take}
use Rattle.plan.specs.Layout.{Layout, number, fields, via, pair, zeros, slots, up_to_slots, padded}
use Rattle.plan.specs.Lawful.{FieldsFit, SlotsFit, UpToFit, Lawful}
use Rattle.plan.proofs.BytesLaws.{drop-take}
use Rattle.plan.proofs.LayoutLaws.{number_lawful, fields_lawful, fields_front, pair_lawful, zeros_lawful, padded_lawful, slots_lawful, slots_front, up_to_lawful}
use Rattle.state.specs.Sound.{Right, Sound}

-- From a lawful layout, and back.
pub sound : {A : Type 0} {l : Layout A} {Fits : A → Type 0} {R : List ℕ → Type 0} → Lawful l Fits R → ((s : List ℕ) → l.read (take l.size s) ≡ l.read s) → Sound l Fits
sound w f = record { sized = w.sized; bytes = w.bytes; fits = w.fits; read_back = w.read_back; front = f }

pub lawful : {A : Type 0} {l : Layout A} {Fits : A → Type 0} → Sound l Fits → Lawful l Fits (Right l)
lawful w = record { sized = w.sized; bytes = w.bytes; fits = w.fits; read_back = w.read_back; write_back = λ s e h r. r }

pub number_sound : (w : ℕ) → Sound (number w) (λ v. v < 256 ^ w)
unfolding number
number_sound w = sound (number_lawful w) (λ s. rw (take-take w w s (omega arith)))

pub fields_sound : (ws : List ℕ) → Sound (fields ws) (FieldsFit ws)
unfolding fields
fields_sound ws = sound (fields_lawful ws) (fields_front ws)

pub zeros_sound : (n : ℕ) → Sound (zeros n) (λ u. Unit {0})
unfolding zeros
zeros_sound n = sound (zeros_lawful n) (λ s. refl)

module _ {A B : Type 0} {l : Layout A} {k : Layout B} {FitsA : A → Type 0} {FitsB : B → Type 0} (first : Sound l FitsA) (second : Sound k FitsB) where
  pub pair_sound : Sound (pair l k) (λ p. FitsA p.0 × FitsB p.1)
  unfolding pair
  pair_sound =
      sound (pair_lawful (lawful first) (lawful second))
      (λ s. rw (take-take l.size (l.size + k.size) s (omega arith), drop-take l.size (l.size + k.size) s, add-sub_cancel_left, second.front (drop l.size s)))

-- A value seen as another: it fits where what it is seen as does.
module _ {A B : Type 0} {l : Layout B} {FitsB : B → Type 0} (inner : Sound l FitsB) (seen : A → B) (value : B → A) {FitsA : A → Type 0} where
  pub via_sound : ((a : A) → FitsA a → FitsB (seen a)) → ((a : A) → FitsA a → value (seen a) ≡ a) → ((b : B) → FitsB b → FitsA (value b)) → Sound (via l seen value) FitsA
  unfolding via
  via_sound fitting valued fits = record {
    sized = λ a. inner.sized (seen a);
    bytes = λ a. inner.bytes (seen a);
    fits = λ s h. fits (l.read s) (inner.fits s h);
    read_back = λ a h. ap value (inner.read_back (seen a) (fitting a h)) ∙ valued a h;
    front = λ s. ap value (inner.front s);
  }

module _ {A : Type 0} {l : Layout A} {Fits : A → Type 0} (inner : Sound l Fits) where
  pub padded_sound : (n : ℕ) → Sound (padded n l) Fits
  unfolding padded
  padded_sound n = sound (padded_lawful (lawful inner) n) (λ s. ap (λ (p : A × Unit {0}). p.0) ((pair_sound inner (zeros_sound n)).front s))

  pub slots_sound : (n : ℕ) → Sound (slots n l) (SlotsFit n Fits)
  unfolding slots
  slots_sound n = sound (slots_lawful (lawful inner) n) (slots_front l n)

  pub up_to_sound : (width limit : ℕ) → limit < 256 ^ width → Sound (up_to_slots width limit l) (UpToFit limit Fits)
  unfolding up_to_slots
  up_to_sound width limit wide =
      sound (up_to_lawful (lawful inner) width limit wide)
      (λ s. ap (λ p. take p.0 p.1) ((pair_sound (number_sound width) (slots_sound limit)).front s))
