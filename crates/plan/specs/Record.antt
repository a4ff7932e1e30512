-- A record and its eight bytes (document 01, "The line"; document 02, 2026-05).
use Rattle.std.specs.Prelude.{ℕ, Bool, ◌&&◌, ◌||◌, List, [], ◌∷◌, get_or, leb, eqb}
use Rattle.plan.specs.declared.Record.{Record}
use Rattle.plan.specs.Layout.{Layout, fields, via}

-- "A record is 8 bytes: piece number (4), material 0..15, a zero byte, mass in tenths of a gram (2)."
abbrev pub record_numbers : Record → List ℕ
record_numbers r = r.piece ∷ r.material ∷ 0 ∷ r.mass ∷ []

abbrev pub record_of : List ℕ → Record
record_of ns = record { piece = get_or ns 0 0; material = get_or ns 1 0; mass = get_or ns 3 0 }

abbrev pub record_widths : List ℕ
record_widths = 4 ∷ 1 ∷ 1 ∷ 2 ∷ []

unfoldable pub record_fields : Layout (List ℕ)
unfolding fields
record_fields = fields record_widths

unfoldable pub record_layout : Layout Record
unfolding record_fields via
record_layout = via record_fields record_numbers record_of

-- The material is 0..15.
abbrev pub material_fits : ℕ → Bool
material_fits m = leb m 15

-- 2026-05: "A record with material 255, piece 0 and mass 0 is a tick".
abbrev pub is_tick : Record → Bool
is_tick r = eqb r.material 255 && eqb r.piece 0 && eqb r.mass 0

-- "Refusal 17 and the state check let this one record through."
abbrev pub known_record : Record → Bool
known_record r = material_fits r.material || is_tick r

-- Eight bytes that are a record: of a material 0..15 or a tick, and the zero byte 0.
unfoldable pub record_fits : List ℕ → Bool
unfolding record_fields
record_fits s = known_record (record_of (record_fields.read s)) && eqb (get_or (record_fields.read s) 2 0) 0
