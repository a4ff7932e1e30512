-- The pieces' layouts are sound.
use Prim.Native.Nat.{ℕ, zero, suc, ◌/◌, ◌%◌, ◌<◌}
use mathlib.Core.Path.{◌≡◌, refl, sym, ap, subst, ◌∙◌}
use mathlib.Core.List.{List, [], ◌∷◌, ◌++◌, append_assoc}
use native.Mathlib.Omega.{arith}
use lib.ListN.{length, set, length-append}
use lib.Seq.{set-append_seam}
use lib.Dec.{lit<}
use Rattle.plan.specs.Layout.{bytes_of, via}
use Rattle.plan.specs.Lawful.{FieldsFit}
use Rattle.plan.specs.Fits.{RecordFits}
use Rattle.plan.specs.Record.{record_widths, record_of, record_layout}
use Rattle.plan.proofs.LayoutLaws.{fields_front}
use Rattle.plan.proofs.ValueLaws.{record_lawful}
use Rattle.rules.specs.Line.{Origin, fed, made, Entry}
use Rattle.rules.specs.Sets.{without_set}
use Rattle.state.specs.Sound.{Sound}
use Rattle.state.specs.Pieces.{origin_numbers, origin_from, origin_of, origin_widths, origin_layout, message_seen, message_from, message_parts, message_layout, entry_seen, entry_from, entry_parts, entry_layout, held_seen, held_from, held_parts, held_layout, target_widths, target_numbers, target_of, asked_widths, asked_numbers, asked_of, asked_fields, asked_layout, target_fields, target_layout}
use Rattle.state.specs.Fits.{TimeFits, OriginFits, MessageFits, EntryFits, HeldFits, TargetFits, AskedFits}
use Rattle.state.proofs.SoundLaws.{sound, number_sound, fields_sound, pair_sound, via_sound, padded_sound}

pub record_sound : Sound record_layout RecordFits
unfolding record_layout
record_sound = sound record_lawful (λ s. ap record_of (fields_front record_widths s))

-- ---- origins

origin_known : (o : Origin) → origin_of (origin_numbers o) ≡ o
origin_known fed = refl
origin_known (made s t) = refl

pub from_fits : (s t : ℕ) → s < 256 → TimeFits t → OriginFits (origin_from s t)
from_fits zero t h k = (lit< tt, (lit< tt, tt))
from_fits (suc s) t h k = (h, (k, tt))

origin_fits : (ns : List ℕ) → FieldsFit origin_widths ns → OriginFits (origin_of ns)
origin_fits [] h = absurd h
origin_fits (a ∷ []) h = absurd h.1
origin_fits (a ∷ b ∷ []) h = from_fits a b h.0 h.1.0
origin_fits (a ∷ b ∷ c ∷ ns) h = absurd h.1.1

pub origin_sound : Sound origin_layout OriginFits
unfolding origin_layout
origin_sound = via_sound (fields_sound origin_widths) origin_numbers origin_of (λ o h. h) (λ o h. origin_known o) origin_fits

-- ---- what stands in the slots

pub message_body_sound : Sound (via message_parts message_seen message_from) MessageFits
unfolding message_parts
message_body_sound =
    via_sound (pair_sound record_sound (pair_sound (number_sound 4) origin_sound)) message_seen message_from
    (λ m h. (h.what, (h.time, h.origin))) (λ m h. refl) (λ p h. record { what = h.0; time = h.1.0; origin = h.1.1 })

pub message_sound : Sound message_layout MessageFits
unfolding message_layout
message_sound = padded_sound message_body_sound 3

pub entry_body_sound : Sound (via entry_parts entry_seen entry_from) EntryFits
unfolding entry_parts
entry_body_sound =
    via_sound (pair_sound record_sound (pair_sound (number_sound 4) (pair_sound origin_sound (pair_sound origin_sound (number_sound 1))))) entry_seen entry_from
    (λ e h. (h.what, (h.time, (h.origin, (h.before, h.set))))) (λ e h. refl) (λ p h. record { what = h.0; time = h.1.0; origin = h.1.1.0; before = h.1.1.1.0; set = h.1.1.1.1 })

pub entry_sound : Sound entry_layout EntryFits
unfolding entry_layout
entry_sound = padded_sound entry_body_sound 1

pub held_body_sound : Sound (via held_parts held_seen held_from) HeldFits
unfolding held_parts
held_body_sound =
    via_sound (pair_sound record_sound (pair_sound (number_sound 1) (pair_sound (number_sound 4) origin_sound))) held_seen held_from
    (λ g h. (h.what, (h.sender, (h.time, h.before)))) (λ g h. refl) (λ p h. record { what = h.0; sender = h.1.0; time = h.1.1.0; before = h.1.1.1 })

pub held_sound : Sound held_layout HeldFits
unfolding held_layout
held_sound = padded_sound held_body_sound 2

target_fits : (ns : List ℕ) → FieldsFit target_widths ns → TargetFits (target_of ns)
target_fits [] h = absurd h
target_fits (a ∷ []) h = absurd h.1
target_fits (a ∷ b ∷ []) h = absurd h.1.1
target_fits (a ∷ b ∷ c ∷ []) h = record { time = h.0; parent = h.1.1.0; parent_time = h.1.0 }
target_fits (a ∷ b ∷ c ∷ d ∷ ns) h = absurd h.1.1.1

pub target_body_sound : Sound (via target_fields target_numbers target_of) TargetFits
unfolding target_fields
target_body_sound = via_sound (fields_sound target_widths) target_numbers target_of (λ t h. (h.time, (h.parent_time, (h.parent, tt)))) (λ t h. refl) target_fits

pub target_sound : Sound target_layout TargetFits
unfolding target_layout
target_sound = padded_sound target_body_sound 3

pub asked_known : (ns : List ℕ) → FieldsFit asked_widths ns → asked_numbers (asked_of ns) ≡ ns
asked_known [] h = absurd h
asked_known (a ∷ []) h = absurd h.1
asked_known (a ∷ b ∷ ns) h = refl

pub asked_sound : Sound asked_layout AskedFits
unfolding asked_layout asked_fields
asked_sound = via_sound (fields_sound asked_widths) asked_numbers asked_of (λ a h. h) (λ a h. refl) (λ ns h. subst (FieldsFit asked_widths) (sym (asked_known ns h)) h)

-- ---- a set is one byte of its slot

four_then : (r t o b : List ℕ) (x y : ℕ) → (r ++ (t ++ (o ++ (b ++ x ∷ [])))) ++ y ∷ [] ≡ (r ++ (t ++ (o ++ b))) ++ x ∷ y ∷ []
four_then r t o b x y = simp append_assoc

four_long : (r t o b : List ℕ) → length r ≡ 8 → length t ≡ 4 → length o ≡ 5 → length b ≡ 5 → length (r ++ (t ++ (o ++ b))) ≡ 22
four_long r t o b i j k l = omega (arith, length-append r (t ++ (o ++ b)), length-append t (o ++ b), length-append o b, i, j, k, l)

pub set_in_slot : (e : Entry) → e.set < 256 → entry_layout.write e ≡ set (entry_layout.write (without_set e)) 22 e.set
unfolding entry_layout
set_in_slot e h =
    let what = record_layout.write e.what in
    let time = bytes_of 4 e.time in
    let origin = origin_layout.write e.origin in
    let before = origin_layout.write e.before in
    let long = four_long what time origin before (record_sound.sized e.what) refl (origin_sound.sized e.origin) (origin_sound.sized e.before) in
    let small : e.set / 1 % 256 ≡ e.set = omega (arith, h) in
    four_then what time origin before (e.set / 1 % 256) 0
    ∙ ap (λ (x : ℕ). (what ++ (time ++ (origin ++ before))) ++ x ∷ 0 ∷ []) small
    ∙ sym (ap (λ (k : ℕ). set ((what ++ (time ++ (origin ++ before))) ++ 0 ∷ 0 ∷ []) k e.set) (sym long) ∙ set-append_seam (what ++ (time ++ (origin ++ before))) 0 (0 ∷ []) e.set)
    ∙ ap (λ (s : List ℕ). set s 22 e.set) (sym (four_then what time origin before 0 0))
