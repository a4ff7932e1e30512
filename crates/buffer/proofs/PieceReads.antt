-- What stands in a slot at an offset, by its bytes.
use Prim.Native.Nat.{ℕ, ◌+◌}
use mathlib.Core.Path.{◌≡◌, ap, ◌∙◌}
use mathlib.Core.List.{List}
use native.Mathlib.Nat.{add-zero}
use lib.Dec.{lit≤, lit<}
use lib.ListN.{get_or, take, drop}
use lib.Seq.{take-take}
use Rattle.plan.specs.Layout.{spelled}
use Rattle.plan.specs.Record.{record_layout}
use Rattle.rules.specs.Line.{Origin}
use Rattle.state.specs.Sizes.{entry_size, held_size, target_size, message_size}
use Rattle.state.specs.Pieces.{origin_from, origin_layout, message_layout, entry_layout, held_layout, target_layout}
use Rattle.state.specs.Right.{word_at}
use Rattle.state.proofs.ReadLaws.{part_part, byte_part, origin_read, message_read, entry_read, held_read, target_read}
use Rattle.buffer.specs.Check.{record_in}

abbrev pub origin_in : ℕ → List ℕ → Origin
origin_in a s = origin_from (get_or s a 0) (word_at (a + 1) s)

module _ (a : ℕ) (s : List ℕ) where
  pub origin_in_lem : origin_layout.read (take 5 (drop a s)) ≡ origin_in a s
  origin_in_lem =
      origin_read (take 5 (drop a s))
      ∙ (λ i. origin_from ((byte_part 0 5 a s (lit< tt) ∙ ap (λ (x : ℕ). get_or s x 0) (add-zero a)) i) (spelled 0 (part_part 4 1 5 a s (lit≤ tt) i)))

module _ (a : ℕ) (s : List ℕ) where
  pub message_in : message_layout.read (take message_size (drop a s)) ≡ record { what = record_in a s; time = word_at (a + 8) s; origin = origin_in (a + 12) s }
  message_in =
      message_read (take message_size (drop a s))
      ∙ (λ i. record {
        what = record_layout.read (take-take 8 message_size (drop a s) (lit≤ tt) i);
        time = spelled 0 (part_part 4 8 message_size a s (lit≤ tt) i);
        origin = (ap origin_layout.read (part_part 5 12 message_size a s (lit≤ tt)) ∙ origin_in_lem (a + 12) s) i;
      })

  pub entry_in_lem : entry_layout.read (take entry_size (drop a s)) ≡ record { what = record_in a s; time = word_at (a + 8) s; origin = origin_in (a + 12) s; before = origin_in (a + 17) s; set = get_or s (a + 22) 0 }
  entry_in_lem =
      entry_read (take entry_size (drop a s))
      ∙ (λ i. record {
        what = record_layout.read (take-take 8 entry_size (drop a s) (lit≤ tt) i);
        time = spelled 0 (part_part 4 8 entry_size a s (lit≤ tt) i);
        origin = (ap origin_layout.read (part_part 5 12 entry_size a s (lit≤ tt)) ∙ origin_in_lem (a + 12) s) i;
        before = (ap origin_layout.read (part_part 5 17 entry_size a s (lit≤ tt)) ∙ origin_in_lem (a + 17) s) i;
        set = byte_part 22 entry_size a s (lit< tt) i;
      })

  pub held_in_lem : held_layout.read (take held_size (drop a s)) ≡ record { what = record_in a s; sender = get_or s (a + 8) 0; time = word_at (a + 9) s; before = origin_in (a + 13) s }
  held_in_lem =
      held_read (take held_size (drop a s))
      ∙ (λ i. record {
        what = record_layout.read (take-take 8 held_size (drop a s) (lit≤ tt) i);
        sender = byte_part 8 held_size a s (lit< tt) i;
        time = spelled 0 (part_part 4 9 held_size a s (lit≤ tt) i);
        before = (ap origin_layout.read (part_part 5 13 held_size a s (lit≤ tt)) ∙ origin_in_lem (a + 13) s) i;
      })

  pub target_in_lem : target_layout.read (take target_size (drop a s)) ≡ record { time = word_at a s; parent = get_or s (a + 8) 0; parent_time = word_at (a + 4) s }
  target_in_lem =
      target_read (take target_size (drop a s))
      ∙ (λ i. record {
        time = spelled 0 (take-take 4 target_size (drop a s) (lit≤ tt) i);
        parent = byte_part 8 target_size a s (lit< tt) i;
        parent_time = spelled 0 (part_part 4 4 target_size a s (lit≤ tt) i);
      })
