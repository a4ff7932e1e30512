-- What layouts read, in place.
use Prim.Native.Nat.{ℕ, ◌+◌, ◌*◌, ◌-◌, min, ◌≤◌, ◌<◌}
use mathlib.Core.Path.{◌≡◌, sym, ap, ◌∙◌}
use mathlib.Core.List.{List}
use native.Mathlib.Nat.{mul_comm}
use native.Mathlib.Omega.{arith}
use lib.Dec.{lit≤}
use lib.ListN.{length, get_or, take, drop, length-take}
use lib.Seq.{take-take, drop-drop, get_or-take, get_or-drop}
use Rattle.plan.specs.Layout.{Layout, spelled, read_fields, read_slots, pair, padded, up_to_slots}
use Rattle.plan.proofs.BytesLaws.{drop-take}
use Rattle.plan.proofs.LayoutLaws.{length-read_slots, slot_at, fields_front}
use Rattle.plan.proofs.ReadLaws.{byte_field}
use Rattle.plan.specs.Record.{record_layout}
use Rattle.state.specs.Sound.{Sound}
use Rattle.state.specs.Sizes.{count_size, crashed_at, status_at, time_at, log_at, held_at, targets_at, kept_at, mark_at, taken_at, heard_at, queue_at, low_at}
use Rattle.state.specs.Pieces.{origin_from, origin_layout, message_from, message_layout, entry_from, entry_layout, held_from, held_layout, target_widths, target_of, target_layout}
use Rattle.state.specs.Node.{status_of, crash_of, node_widths, node_from, log_layout, held_list_layout, targets_layout, kept_layout, node_layout}
use Rattle.state.specs.Lane.{heard_widths, lane_widths, low_widths, low_fields, lane_from, queue_layout, lane_layout}
use Rattle.state.proofs.SoundLaws.{number_sound, pair_sound}
use Rattle.state.proofs.PieceLaws.{record_sound, origin_sound}
use Rattle.state.proofs.BlockLaws.{queue_sound, log_sound, held_list_sound, targets_sound, node_parts_sound, lane_parts_sound}

-- ---- parts of parts

-- A part of a block of the state is a part of the state.
pub part_part : (w a n b : ℕ) (s : List ℕ) → a + w ≤ n → take w (drop a (take n (drop b s))) ≡ take w (drop (b + a) s)
part_part w a n b s h = ap (take w) (drop-take a n (drop b s)) ∙ take-take w (n - a) (drop a (drop b s)) (omega arith) ∙ ap (take w) (drop-drop a b s)

pub byte_part : (i n b : ℕ) (s : List ℕ) → i < n → get_or (take n (drop b s)) i 0 ≡ get_or s (b + i) 0
byte_part i n b s h = get_or-take n (drop b s) i 0 h ∙ get_or-drop b s i 0

-- ---- the ways to build a layout

module _ {A : Type 0} {l : Layout A} {Fits : A → Type 0} (inner : Sound l Fits) where
  pub padded_read : (n : ℕ) (s : List ℕ) → (padded n l).read s ≡ l.read s
  unfolding padded
  padded_read n s = inner.front s

  pub pair_read : {B : Type 0} (k : Layout B) (s : List ℕ) → (pair l k).read s ≡ (l.read s, k.read (drop l.size s))
  unfolding pair
  pair_read k s = λ i. (inner.front s i, k.read (drop l.size s))

-- A list at an offset: its count, and each thing in it.
module _ {A : Type 0} (l : Layout A) (limit a : ℕ) (s : List ℕ) where
  abbrev pub count_in : ℕ
  count_in = spelled 0 (take count_size (drop a s))

  list_read : (up_to_slots count_size limit l).read (drop a s) ≡ take count_in (read_slots l limit (drop (a + count_size) s))
  unfolding up_to_slots
  list_read = λ i. take (spelled 0 (take-take 4 4 (drop a s) (lit≤ tt) i)) (read_slots l limit (drop-drop 4 a s i))

  pub list_count : length ((up_to_slots count_size limit l).read (drop a s)) ≡ min count_in limit
  list_count = ap length list_read ∙ length-take count_in (read_slots l limit (drop (a + count_size) s)) ∙ ap (min count_in) (length-read_slots l limit (drop (a + count_size) s))

  pub list_at : (i : ℕ) (d : A) → i < count_in → i < limit → get_or ((up_to_slots count_size limit l).read (drop a s)) i d ≡ l.read (take l.size (drop (a + count_size + l.size * i) s))
  list_at i d h k =
      ap (λ (xs : List A). get_or xs i d) list_read
      ∙ get_or-take count_in (read_slots l limit (drop (a + count_size) s)) i d h
      ∙ slot_at l limit (drop (a + count_size) s) i d k
      ∙ rw (drop-drop, mul_comm i l.size)

-- ---- the pieces

pub record_read : (b : List ℕ) → record_layout.read b ≡ record { piece = spelled 0 (take 4 b); material = get_or b 4 0; mass = spelled 0 (take 2 (drop 6 b)) }
unfolding record_layout
record_read b = λ i. record { piece = spelled 0 (take 4 b); material = byte_field 4 b i; mass = spelled 0 (take 2 ((ap (drop 1) (drop-drop 1 4 b) ∙ drop-drop 1 5 b) i)) }

pub origin_read : (b : List ℕ) → origin_layout.read b ≡ origin_from (get_or b 0 0) (spelled 0 (take 4 (drop 1 b)))
unfolding origin_layout
origin_read b = ap (λ (n : ℕ). origin_from n (spelled 0 (take 4 (drop 1 b)))) (byte_field 0 b)

pub message_read : (b : List ℕ) → message_layout.read b ≡ record { what = record_layout.read (take 8 b); time = spelled 0 (take 4 (drop 8 b)); origin = origin_layout.read (take 5 (drop 12 b)) }
unfolding message_layout
message_read b =
    ap message_from ((pair_sound record_sound (pair_sound (number_sound 4) origin_sound)).front b)
    ∙ (λ i. record {
      what = record_layout.read (take 8 b);
      time = spelled 0 (take-take 4 4 (drop 8 b) (lit≤ tt) i);
      origin = (ap origin_layout.read (drop-drop 4 8 b) ∙ sym (origin_sound.front (drop 12 b))) i;
    })

pub entry_read : (b : List ℕ)
    → entry_layout.read b ≡ record { what = record_layout.read (take 8 b); time = spelled 0 (take 4 (drop 8 b)); origin = origin_layout.read (take 5 (drop 12 b)); before = origin_layout.read (take 5 (drop 17 b)); set = get_or b 22 0 }
unfolding entry_layout
entry_read b =
    ap entry_from ((pair_sound record_sound (pair_sound (number_sound 4) (pair_sound origin_sound (pair_sound origin_sound (number_sound 1))))).front b)
    ∙ (λ i. record {
      what = record_layout.read (take 8 b);
      time = spelled 0 (take-take 4 4 (drop 8 b) (lit≤ tt) i);
      origin = origin_layout.read (take 5 (drop-drop 4 8 b i));
      before = origin_layout.read (take 5 (input i));
      set = (ap (λ (t : List ℕ). spelled 0 (take 1 (drop 5 t))) input ∙ ap (λ (t : List ℕ). spelled 0 (take 1 t)) (drop-drop 5 17 b) ∙ byte_field 22 b) i;
    })
  where
    input : drop 5 (drop 4 (drop 8 b)) ≡ drop 17 b
    input = ap (drop 5) (drop-drop 4 8 b) ∙ drop-drop 5 12 b

pub held_read : (b : List ℕ)
    → held_layout.read b ≡ record { what = record_layout.read (take 8 b); sender = get_or b 8 0; time = spelled 0 (take 4 (drop 9 b)); before = origin_layout.read (take 5 (drop 13 b)) }
unfolding held_layout
held_read b =
    ap held_from ((pair_sound record_sound (pair_sound (number_sound 1) (pair_sound (number_sound 4) origin_sound))).front b)
    ∙ (λ i. record {
      what = record_layout.read (take 8 b);
      sender = (ap (spelled 0) (take-take 1 1 (drop 8 b) (lit≤ tt)) ∙ byte_field 8 b) i;
      time = spelled 0 ((take-take 4 4 (drop 1 (drop 8 b)) (lit≤ tt) ∙ ap (take 4) (drop-drop 1 8 b)) i);
      before = (ap origin_layout.read (ap (drop 4) (drop-drop 1 8 b) ∙ drop-drop 4 9 b) ∙ sym (origin_sound.front (drop 13 b))) i;
    })

pub target_read : (b : List ℕ) → target_layout.read b ≡ record { time = spelled 0 (take 4 b); parent = get_or b 8 0; parent_time = spelled 0 (take 4 (drop 4 b)) }
unfolding target_layout
target_read b =
    ap target_of (fields_front target_widths b)
    ∙ (λ i. record { time = spelled 0 (take 4 b); parent = (ap (λ (t : List ℕ). spelled 0 (take 1 t)) (drop-drop 4 4 b) ∙ byte_field 8 b) i; parent_time = spelled 0 (take 4 (drop 4 b)) })

-- ---- a node's page

-- Behind the log and the held records.
lists_behind : (b : List ℕ) → drop 1284 (drop 1540 (drop 8 b)) ≡ drop targets_at b
lists_behind b = ap (drop 1284) (drop-drop 1540 8 b) ∙ drop-drop 1284 1548 b

pub node_read : (b : List ℕ)
    → node_layout.read b ≡ record {
      status = status_of (get_or b status_at 0);
      crashed = crash_of (get_or b crashed_at 0);
      time = spelled 0 (take 4 (drop time_at b));
      log = log_layout.read (drop log_at b);
      held = held_list_layout.read (drop held_at b);
      targets = targets_layout.read (drop targets_at b);
      asked = kept_layout.read (drop kept_at b);
    }
unfolding node_layout
node_read b =
    ap node_from (node_parts_sound.front b)
    ∙ ap (λ ns. node_from (ns, (log_layout.read (take 1540 (drop 8 b)), (held_list_layout.read (take 1284 (drop 1540 (drop 8 b))), (targets_layout.read (take 772 (drop 1284 (drop 1540 (drop 8 b)))), kept_layout.read (drop 772 (drop 1284 (drop 1540 (drop 8 b))))))))) (fields_front node_widths b)
    ∙ (λ i. record {
      status = status_of (byte_field 0 b i);
      crashed = crash_of (byte_field 1 b i);
      time = spelled 0 (take 4 ((ap (drop 2) (drop-drop 1 1 b) ∙ drop-drop 2 2 b) i));
      log = log_sound.front (drop 8 b) i;
      held = (held_list_sound.front (drop 1540 (drop 8 b)) ∙ ap held_list_layout.read (drop-drop 1540 8 b)) i;
      targets = (targets_sound.front (drop 1284 (drop 1540 (drop 8 b))) ∙ ap targets_layout.read (lists_behind b)) i;
      asked = kept_layout.read ((ap (drop 772) (lists_behind b) ∙ drop-drop 772 2832 b) i);
    })

pub lane_read : (b : List ℕ)
    → lane_layout.read b ≡ record {
      mark = spelled 0 (take 4 (drop mark_at b));
      taken = spelled 0 (take 4 (drop taken_at b));
      heard = read_fields heard_widths (drop heard_at b);
      queue = queue_layout.read (drop queue_at b);
      low = read_fields low_widths (drop low_at b);
    }
unfolding lane_layout low_fields
lane_read b =
    ap lane_from (lane_parts_sound.front b)
    ∙ ap (λ ns. lane_from (ns, (queue_layout.read (take 164 (drop 24 b)), read_fields low_widths (drop 164 (drop 24 b))))) (fields_front lane_widths b)
    ∙ (λ i. record {
      mark = spelled 0 (take 4 b);
      taken = spelled 0 (take 4 (drop 4 b));
      heard = read_fields heard_widths (drop-drop 4 4 b i);
      queue = queue_sound.front (drop 24 b) i;
      low = read_fields low_widths (drop-drop 164 24 b i);
    })
