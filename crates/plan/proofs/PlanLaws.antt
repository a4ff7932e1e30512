-- A plan is read back and written back, since its layout is lawful.
use Prim.Native.Nat.{ℕ, zero, suc, ◌+◌, ◌*◌, ◌≤◌, ◌<◌}
use mathlib.Core.Path.{◌≡◌, refl, sym, ap, ◌∙◌}
use mathlib.Core.Bool.{true}
use mathlib.Core.List.{List, [], ◌∷◌}
use native.Mathlib.Omega.{arith}
use lib.ListN.{length, get_or, take, drop}
use Rattle.plan.specs.Layout.{pair, slots, read_slots}
use Rattle.plan.specs.Lawful.{Bytes, EachSlot, FieldsFit, Lawful}
use Rattle.plan.specs.Rule.{rule_fields, rule_layout, rule_fits}
use Rattle.plan.specs.Channel.{channel_layout, channel_size}
use Rattle.plan.specs.Plan.{Plan, node_count, channel_count, plan_of, plan_bytes, plan_length, plan_version, plan_nodes, plan_channels, plan_size, size_by_head, head_widths, head_layout, body_layout, plan_layout, head_numbers}
use Rattle.plan.specs.Check.{rules_fit, plan_refusal}
use Rattle.plan.specs.Fits.{BodyFits, PlanFits}
use Rattle.plan.proofs.LayoutLaws.{fields_fit, fields_front, fields_lawful, via_lawful, pair_lawful, slots_lawful, slots_front, each_slot, length-read_slots}
use Rattle.plan.proofs.ValueLaws.{rule_lawful, channel_lawful}
use Rattle.plan.proofs.ReadLaws.{channels_most, rules_of, channels_of}
use Rattle.plan.proofs.CheckLaws.{Accepted, accepted}
use Rattle.basics.specs.Bools.{both_true}

-- ---- the layout

pub plan_size_lem : (v n m : ℕ) → plan_size v n m ≡ 5 + 4 * n + channel_size v * m
unfolding plan_size channel_size
plan_size_lem v n m = omega arith

pub plan_size-most : (v n m : ℕ) → plan_size v n m ≤ 5 + 4 * n + 10 * m
plan_size-most v n m = omega (arith, plan_size_lem v n m, channels_most v m)

pub head_size : (s : List ℕ) → size_by_head s ≡ plan_size (plan_version s) (plan_nodes s) (plan_channels s)
unfolding size_by_head
head_size s = refl

-- Check 5 says which bytes are a body's.
rules_right : (n : ℕ) (s : List ℕ) → rules_fit (read_slots rule_fields n s) ≡ true → EachSlot (λ (t : List ℕ). rule_fits (rule_fields.read t) ≡ true) 4 n s
unfolding rule_fields
rules_right zero s e = tt
rules_right (suc n) s e =
    let t = both_true (rule_fits (rule_fields.read (take 4 s))) (rules_fit (read_slots rule_fields n (drop 4 s))) e in
    (t.0, rules_right n (drop 4 s) t.1)

-- The version is not in the body's bytes.
pub body_read : (v n m : ℕ) (p : Plan) → BodyFits v n m p → record { version = v; rules = p.rules; channels = p.channels } ≡ p
body_read v n m p h = λ i. record { version = sym h.same i; rules = p.rules; channels = p.channels }

body_lawful : (v n m : ℕ) → Lawful (body_layout v n m) (BodyFits v n m) (λ s. rules_fit (read_slots rule_fields n s) ≡ true)
unfolding body_layout channel_size
body_lawful v n m =
    via_lawful (pair (slots n rule_layout) (slots m (channel_layout v))) (λ p. (p.rules, p.channels)) (λ b. record { version = v; rules = b.0; channels = b.1 })
    (pair_lawful (slots_lawful rule_lawful n) (slots_lawful (channel_lawful v) m)) (λ p h. (h.rules, h.channels)) (body_read v n m) (λ b h. record { same = refl; rules = h.0; channels = h.1 })
    (λ s h e. ((rules_right n (take (n * 4) s) (ap rules_fit (slots_front rule_fields n s) ∙ e), each_slot (λ t. Unit {0}) (λ t. tt) (channel_size v) m (drop (n * 4) s)), refl))

pub plan_lawful : (v n m : ℕ) → Lawful (plan_layout v n m) (λ x. FieldsFit head_widths x.0 × BodyFits v n m x.1) (λ s. Unit {0} × (rules_fit (read_slots rule_fields n (drop 5 s)) ≡ true))
unfolding plan_layout
plan_lawful v n m = pair_lawful (fields_lawful head_widths) (body_lawful v n m)

-- ---- what is written

pub plan-length : (p : Plan) → length (plan_bytes p) ≡ plan_size p.version (node_count p) (channel_count p)
unfolding plan_bytes
plan-length p = (plan_lawful p.version (node_count p) (channel_count p)).sized (head_numbers p, p)

pub plan_bytes_lem : (p : Plan) → Bytes (plan_bytes p)
unfolding plan_bytes
plan_bytes_lem p = (plan_lawful p.version (node_count p) (channel_count p)).bytes (head_numbers p, p)

-- ---- what is read

pub version_of : (s : List ℕ) → (plan_of s).version ≡ plan_version s
unfolding plan_of
version_of s = refl

pub node_count_lem : (s : List ℕ) → node_count (plan_of s) ≡ plan_nodes s
node_count_lem s = ap length (rules_of s) ∙ length-read_slots rule_layout (plan_nodes s) (drop 5 s)

pub channel_count_lem : (s : List ℕ) → channel_count (plan_of s) ≡ plan_channels s
channel_count_lem s = ap length (channels_of s) ∙ length-read_slots (channel_layout (plan_version s)) (plan_channels s) (drop (5 + 4 * plan_nodes s) s)

pub version_below : (s : List ℕ) → Bytes s → plan_version s < 256
unfolding plan_version
version_below s h = (fields_fit head_widths s h).1.0

pub nodes_below : (s : List ℕ) → Bytes s → plan_nodes s < 256
unfolding plan_nodes
nodes_below s h = (fields_fit head_widths s h).1.1.0

pub channels_below : (s : List ℕ) → Bytes s → plan_channels s < 256
unfolding plan_channels
channels_below s h = (fields_fit head_widths s h).1.1.1.0

pub plan_fits_lem : (s : List ℕ) → Bytes s → PlanFits (plan_of s)
unfolding plan_of
plan_fits_lem s h =
    let f = ((plan_lawful (plan_version s) (plan_nodes s) (plan_channels s)).fits s h).1 in
    record { version = version_below s h; nodes = rw node_count_lem (nodes_below s h); channels = rw channel_count_lem (channels_below s h); rule = f.rules.1; channel = f.channels.1 }

-- ---- what is written is read back

pub head_fits : (p : Plan) → PlanFits p → FieldsFit head_widths (head_numbers p)
head_fits p h = (omega (arith, plan_size-most p.version (node_count p) (channel_count p)), (omega (arith, h.version), (omega arith, (omega arith, tt))))

pub plan_body : (p : Plan) → PlanFits p → BodyFits p.version (node_count p) (channel_count p) p
plan_body p h = record { same = refl; rules = (refl, h.rule); channels = (refl, h.channel) }

layout_read : (p : Plan) → PlanFits p → (plan_layout p.version (node_count p) (channel_count p)).read (plan_bytes p) ≡ (head_numbers p, p)
unfolding plan_bytes
layout_read p h = (plan_lawful p.version (node_count p) (channel_count p)).read_back (head_numbers p, p) (head_fits p h, plan_body p h)

pub head_front : (s : List ℕ) → head_layout.read (take 5 s) ≡ head_layout.read s
unfolding head_layout
head_front s = fields_front head_widths s

pub head_read : (p : Plan) → PlanFits p → head_layout.read (plan_bytes p) ≡ head_numbers p
unfolding plan_layout
head_read p h = sym (head_front (plan_bytes p)) ∙ ap (λ (x : List ℕ × Plan). x.0) (layout_read p h)

pub version_read : (p : Plan) → PlanFits p → plan_version (plan_bytes p) ≡ p.version
unfolding plan_version
version_read p h = ap (λ (ns : List ℕ). get_or ns 1 0) (head_read p h)

pub nodes_read : (p : Plan) → PlanFits p → plan_nodes (plan_bytes p) ≡ node_count p
unfolding plan_nodes
nodes_read p h = ap (λ (ns : List ℕ). get_or ns 2 0) (head_read p h)

pub channels_read : (p : Plan) → PlanFits p → plan_channels (plan_bytes p) ≡ channel_count p
unfolding plan_channels
channels_read p h = ap (λ (ns : List ℕ). get_or ns 3 0) (head_read p h)

pub plan_read : (p : Plan) → PlanFits p → plan_of (plan_bytes p) ≡ p
unfolding plan_of
plan_read p h = (λ i. ((plan_layout (version_read p h i) (nodes_read p h i) (channels_read p h i)).read (plan_bytes p)).1) ∙ ap (λ (x : List ℕ × Plan). x.1) (layout_read p h)

-- ---- bytes that no check refuses are written back

pub head_list : (s : List ℕ) → head_layout.read s ≡ plan_length s ∷ plan_version s ∷ plan_nodes s ∷ plan_channels s ∷ []
unfolding plan_length plan_version plan_nodes plan_channels
head_list s = refl

pub head_numbers_lem : (s : List ℕ) → Accepted s → head_numbers (plan_of s) ≡ head_layout.read (take 5 s)
head_numbers_lem s a = cc (version_of s, node_count_lem s, channel_count_lem s, a.length_field, a.sized, head_size s, head_list s, head_front s)

pub plan-written : (s : List ℕ) → Bytes s → plan_refusal s ≡ 0 → plan_bytes (plan_of s) ≡ s
unfolding plan_bytes plan_of
plan-written s h z =
    let a = accepted s z in
    (λ i. (plan_layout (version_of s i) (node_count_lem s i) (channel_count_lem s i)).write (head_numbers (plan_of s), plan_of s))
    ∙ ap (λ (ns : List ℕ). (plan_layout (plan_version s) (plan_nodes s) (plan_channels s)).write (ns, plan_of s)) (head_numbers_lem s a)
    ∙ (plan_lawful (plan_version s) (plan_nodes s) (plan_channels s)).write_back s (a.sized ∙ head_size s) h (tt, a.rules)
