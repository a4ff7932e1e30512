-- What a plan's bytes give in place, for all bytes.
use Prim.Native.Nat.{ℕ, ◌+◌, ◌*◌, ◌≤◌, ◌<◌}
use mathlib.Core.Path.{◌≡◌, refl, ap, ◌∙◌}
use mathlib.Core.Bool.{Bool, true, false, cond}
use mathlib.Core.List.{List, [], ◌∷◌}
use native.Mathlib.Nat.{add_assoc, mul_comm, add-zero, mul-le-mul_left, mul-le-mul_right}
use native.Mathlib.Omega.{arith}
use lib.Dec.{eqb}
use lib.ListN.{length, get_or, take, drop, length-drop, get_or-eq_default}
use lib.Seq.{drop-drop, get_or-drop}
use Rattle.plan.specs.declared.Rule.TheVariants.{Keep}
use Rattle.plan.specs.declared.Channel.{Channel}
use Rattle.plan.specs.Layout.{spelled, sum_of, read_fields, read_slots}
use Rattle.plan.specs.Rule.{rule_widths, rule_fields, rule_layout, rule_of, rule_of_kind}
use Rattle.plan.specs.Channel.{channel_widths, channel_fields, channel_layout, channel_size, channel_of}
use Rattle.plan.specs.Plan.{plan_of, plan_version, plan_nodes, plan_channels, channel_from, rule_at, channel_at, no_channel}
use Rattle.plan.proofs.LayoutLaws.{fields_front, slot_at, slots_front, length-read_slots}

first_spelled : (s : List ℕ) → spelled 0 (take 1 s) ≡ get_or s 0 0
first_spelled [] = refl
first_spelled (b ∷ s) = omega arith

pub byte_field : (i : ℕ) (s : List ℕ) → spelled 0 (take 1 (drop i s)) ≡ get_or s i 0
byte_field i s = rw (first_spelled (drop i s), get_or-drop, add-zero)

two_spelled : (s : List ℕ) → 1 < length s → spelled 0 (take 2 s) ≡ get_or s 0 0 * 256 + get_or s 1 0
two_spelled [] h = let no : ⊥ = omega arith in absurd no
two_spelled (a ∷ []) h = let no : ⊥ = omega arith in absurd no
two_spelled (a ∷ b ∷ s) h = omega arith

pub word_field : (i : ℕ) (s : List ℕ) → i + 1 < length s → spelled 0 (take 2 (drop i s)) ≡ get_or s i 0 * 256 + get_or s (i + 1) 0
word_field i s h = two_spelled (drop i s) (simp length-drop (omega arith)) ∙ simp (get_or-drop, add-zero)

pub nodes_byte : (s : List ℕ) → plan_nodes s ≡ get_or s 3 0
unfolding plan_nodes
nodes_byte s = rw (drop-drop, byte_field)

pub channels_byte : (s : List ℕ) → plan_channels s ≡ get_or s 4 0
unfolding plan_channels
channels_byte s = rw (drop-drop, drop-drop, byte_field)

pub version_byte : (s : List ℕ) → plan_version s ≡ get_or s 2 0
unfolding plan_version
version_byte s = byte_field 2 s

rule_fields_lem : (a : ℕ) (s : List ℕ) → rule_fields.read (take 4 (drop a s)) ≡ get_or s a 0 ∷ get_or s (a + 1) 0 ∷ spelled 0 (take 2 (drop (a + 2) s)) ∷ []
unfolding rule_fields
rule_fields_lem a s = fields_front rule_widths (drop a s) ∙ simp (drop-drop, add_assoc, byte_field)

-- What is read behind the remainder.
abbrev behind : Bool → List ℕ → List ℕ
behind windows s = read_fields (cond windows (2 ∷ 2 ∷ []) []) s

channel-fields : (v a : ℕ) (s : List ℕ)
    → (channel_fields v).read (take (channel_size v) (drop a s))
    ≡ get_or s a 0 ∷ get_or s (a + 1) 0 ∷ spelled 0 (take 2 (drop (a + 2) s)) ∷ get_or s (a + 4) 0 ∷ get_or s (a + 5) 0 ∷ behind (eqb v 2) (drop (a + 6) s)
unfolding channel_fields channel_size
channel-fields v a s = fields_front (channel_widths v) (drop a s) ∙ simp (drop-drop, add_assoc, byte_field)

bounds_read : (windows : Bool) (a : ℕ) (s : List ℕ)
    → (get_or (behind windows (drop (a + 6) s)) 0 0 ≡ cond windows (spelled 0 (take 2 (drop (a + 6) s))) 0)
    × (get_or (behind windows (drop (a + 6) s)) 1 65_535 ≡ cond windows (spelled 0 (take 2 (drop (a + 8) s))) 65_535)
bounds_read true a s = (refl, rw (drop-drop 2 (a + 6) s, add_assoc a 6 2))
bounds_read false a s = (refl, refl)

-- ---- how many bytes a channel has

pub channel_size_lem : (v : ℕ) → channel_size v ≡ cond (eqb v 2) 10 6
unfolding channel_size
channel_size_lem v = one (eqb v 2)
  where
    one : (t : Bool) → 1 + (1 + (2 + (1 + (1 + sum_of (cond t (2 ∷ 2 ∷ []) []))))) ≡ cond t 10 6
    one true = refl
    one false = refl

pub channel_size-within : (v : ℕ) → (6 ≤ channel_size v) × (channel_size v ≤ 10)
channel_size-within v = rw (channel_size_lem v) (one (eqb v 2))
  where
    one : (t : Bool) → (6 ≤ cond t 10 6) × (cond t 10 6 ≤ 10)
    one true = (omega arith, omega arith)
    one false = (omega arith, omega arith)

-- So many channels have at most ten bytes each; one of them ends where the next begins.
pub channels_most : (v m : ℕ) → channel_size v * m ≤ 10 * m
channels_most v m = mul-le-mul_right m (channel_size-within v).1

pub channel-ends : (v : ℕ) {b m : ℕ} → b < m → channel_size v * b + channel_size v ≤ channel_size v * m
channel-ends v {b} h = let e = mul-le-mul_left (channel_size v) h in omega arith

-- The rules and the channels are slots of the bytes.
pub rules_of : (s : List ℕ) → (plan_of s).rules ≡ read_slots rule_layout (plan_nodes s) (drop 5 s)
unfolding plan_of
rules_of s = slots_front rule_layout (plan_nodes s) (drop 5 s)

pub channels_of : (s : List ℕ) → (plan_of s).channels ≡ read_slots (channel_layout (plan_version s)) (plan_channels s) (drop (5 + 4 * plan_nodes s) s)
unfolding plan_of
channels_of s = ap (read_slots (channel_layout (plan_version s)) (plan_channels s)) (drop-drop (plan_nodes s * 4) 5 s ∙ ap (λ (n : ℕ). drop (5 + n) s) (mul_comm (plan_nodes s) 4))

-- One of them, by number.
pub rule_past : (s : List ℕ) (n : ℕ) → plan_nodes s ≤ n → rule_at (plan_of s) n ≡ Keep
rule_past s n h = rw (rules_of s) (get_or-eq_default (read_slots rule_layout (plan_nodes s) (drop 5 s)) Keep (rw length-read_slots h))

pub rule_numbers-at : (s : List ℕ) (n : ℕ) (d : List ℕ) → n < plan_nodes s
    → get_or (read_slots rule_fields (plan_nodes s) (drop 5 s)) n d ≡ get_or s (5 + 4 * n) 0 ∷ get_or s (5 + 4 * n + 1) 0 ∷ spelled 0 (take 2 (drop (5 + 4 * n + 2) s)) ∷ []
unfolding rule_fields
rule_numbers-at s n d h = slot_at rule_fields (plan_nodes s) (drop 5 s) n d h ∙ rw (drop-drop, mul_comm n 4) (rule_fields_lem (5 + 4 * n) s)

pub rule_at_lem : (s : List ℕ) (n : ℕ) → n < plan_nodes s
    → rule_at (plan_of s) n ≡ rule_of_kind (get_or s (5 + 4 * n) 0) (get_or s (5 + 4 * n + 1) 0) (spelled 0 (take 2 (drop (5 + 4 * n + 2) s)))
unfolding rule_layout
rule_at_lem s n h = rw (rules_of s) (slot_at rule_layout (plan_nodes s) (drop 5 s) n Keep h ∙ rw (drop-drop, mul_comm n 4) (ap rule_of (rule_fields_lem (5 + 4 * n) s)))

pub channel_past : (s : List ℕ) (b : ℕ) → plan_channels s ≤ b → channel_at (plan_of s) b ≡ no_channel
channel_past s b h = rw (channels_of s) (get_or-eq_default (read_slots (channel_layout (plan_version s)) (plan_channels s) (drop (5 + 4 * plan_nodes s) s)) no_channel (rw length-read_slots h))

-- The channel whose bytes start at a, its mask given.
abbrev pub channel_read : List ℕ → ℕ → ℕ → Channel
channel_read s a mask = record {
  sender = get_or s a 0;
  receiver = get_or s (a + 1) 0;
  mask = mask;
  modulus = get_or s (a + 4) 0;
  remainder = get_or s (a + 5) 0;
  least = cond (eqb (plan_version s) 2) (spelled 0 (take 2 (drop (a + 6) s))) 0;
  greatest = cond (eqb (plan_version s) 2) (spelled 0 (take 2 (drop (a + 8) s))) 65_535;
}

pub channel-at : (s : List ℕ) (b : ℕ) → b < plan_channels s → channel_at (plan_of s) b ≡ channel_read s (channel_from s b) (spelled 0 (take 2 (drop (channel_from s b + 2) s)))
unfolding channel_layout channel_size
channel-at s b h =
    let v = plan_version s in
    let a = channel_from s b in
    let (least, greatest) = bounds_read (eqb v 2) a s in
    rw (channels_of s)
    (slot_at (channel_layout v) (plan_channels s) (drop (5 + 4 * plan_nodes s) s) b no_channel h
    ∙ rw (drop-drop, mul_comm b (channel_size v)) (ap channel_of (channel-fields v a s) ∙ rw (least, greatest)))

-- One whose first six bytes are all there.
pub channel-whole : (s : List ℕ) (b : ℕ) → b < plan_channels s → channel_from s b + 6 ≤ length s
    → channel_at (plan_of s) b ≡ channel_read s (channel_from s b) (get_or s (channel_from s b + 2) 0 * 256 + get_or s (channel_from s b + 3) 0)
channel-whole s b h l =
    let a : ℕ = channel_from s b in
    channel-at s b h ∙ rw (word_field (a + 2) s (omega arith), add_assoc a 2 1)
