-- Plans at the bounds of the checks 1 to 7, and records, rules and channels, computed.
use Rattle.std.specs.Prelude.{ℕ, ◌+◌, ◌*◌, ◌/◌, ◌%◌, ◌≡◌, refl, true, false, List, [], ◌∷◌, ◌++◌, map, length, replicate}
use Rattle.plan.specs.declared.Record.{Record}
use Rattle.plan.specs.declared.Rule.{Rule}
use Rattle.plan.specs.declared.Rule.TheVariants.{Keep, Relabel, Cap}
use Rattle.plan.specs.declared.Channel.{Channel}
use Rattle.plan.specs.Record.{record_layout, record_fits}
use Rattle.plan.specs.Rule.{applied}
use Rattle.plan.specs.Channel.{takes}
use Rattle.plan.specs.Plan.{Plan, plan_of, plan_bytes, is_source, is_sink}
use Rattle.plan.specs.Mask.{set_of}
use Rattle.plan.specs.Check.{plan_refusal, plan_fits}
use Rattle.plan.specs.Ticks.{tick}
use Rattle.plan.specs.Versions.{in_version_two}

-- A plan of so many nodes and belts, its length field right.
abbrev plan : ℕ → ℕ → ℕ → List ℕ → List ℕ
plan version n m rest = (5 + length rest) / 256 ∷ (5 + length rest) % 256 ∷ version ∷ n ∷ m ∷ rest

abbrev keeps : ℕ → List ℕ
keeps n = replicate (4 * n) 0

-- Belts that take everything: one, from a sender to each of some, and to one from each.
abbrev belt : ℕ → ℕ → List ℕ
belt sender receiver = sender ∷ receiver ∷ 255 ∷ 255 ∷ 1 ∷ 0 ∷ []

abbrev out : ℕ → List ℕ → List ℕ
out sender [] = []
out sender (receiver ∷ rest) = belt sender receiver ++ out sender rest

abbrev into : ℕ → List ℕ → List ℕ
into receiver [] = []
into receiver (sender ∷ rest) = belt sender receiver ++ into receiver rest

-- Node 0 to node 1, node 1 with a rule; the same with a belt's four last numbers.
abbrev ruled : List ℕ → List ℕ
ruled rule = plan 1 2 1 (keeps 1 ++ (rule ++ belt 0 1))

abbrev belted : List ℕ → List ℕ
belted numbers = plan 1 2 1 (keeps 2 ++ (0 ∷ 1 ∷ numbers))

-- A belt with a window of masses, and a plan of version 2 with one.
abbrev window : ℕ → ℕ → List ℕ → List ℕ
window sender receiver masses = belt sender receiver ++ masses

abbrev windowed : List ℕ → List ℕ
windowed masses = plan 2 2 1 (keeps 2 ++ window 0 1 masses)

-- 12 nodes: each sends to the next two, 0 to 2 also to the third, 24 belts in all; with one more of node 3.
abbrev most : ℕ → List ℕ → List ℕ
most m third =
    plan 1 12 m
    (keeps 12 ++ (out 0 (1 ∷ 2 ∷ 3 ∷ []) ++ (out 1 (2 ∷ 3 ∷ 4 ∷ []) ++ (out 2 (3 ∷ 4 ∷ 5 ∷ []) ++ (out 3 (4 ∷ 5 ∷ third) ++ (out 4 (5 ∷ 6 ∷ []) ++ (out 5 (6 ∷ 7 ∷ []) ++ (out 6 (7 ∷ 8 ∷ []) ++ (out 7 (8 ∷ 9 ∷ []) ++ (out 8 (9 ∷ 10 ∷ []) ++ (out 9 (10 ∷ 11 ∷ []) ++ belt 10 11)))))))))))

-- Plans, and the number that each is answered.
pub record Example : Type 0 where
  pub plans : List (List ℕ)
  pub numbers : List ℕ

unfoldable pub example_table : List Example
example_table =
    -- 1: "plan under 5 bytes", 4 that say so; its length field one less and one more; 1 comes before 2
    record { plans = (0 ∷ 4 ∷ 1 ∷ 2 ∷ []) ∷ (0 ∷ 18 ∷ 1 ∷ 2 ∷ 1 ∷ (keeps 2 ++ belt 0 1)) ∷ (0 ∷ 20 ∷ 1 ∷ 2 ∷ 1 ∷ (keeps 2 ++ belt 0 1)) ∷ (0 ∷ 5 ∷ 0 ∷ []) ∷ []; numbers = replicate 4 1 }
    -- 2: version 0 and 3; 2 comes before 3
    ∷ record { plans = plan 0 2 1 (keeps 2 ++ belt 0 1) ∷ plan 3 2 1 (keeps 2 ++ belt 0 1) ∷ plan 3 2 1 (keeps 2 ++ window 0 1 (0 ∷ 0 ∷ 255 ∷ 255 ∷ [])) ∷ plan 0 13 1 (keeps 13 ++ belt 0 1) ∷ []; numbers = replicate 4 2 }
    -- 3: "node count N 2..12, belt count M 1..24": 1 and 13, 0 and 25; 3 comes before 4
    ∷ record { plans = plan 1 1 1 (keeps 1 ++ belt 0 1) ∷ plan 1 13 1 (keeps 13 ++ belt 0 1) ∷ plan 1 2 0 (keeps 2) ∷ most 25 (6 ∷ []) ∷ plan 1 13 1 [] ∷ []; numbers = replicate 5 3 }
    ∷ record { plans = plan 1 2 1 (keeps 2 ++ belt 0 1) ∷ plan 1 12 1 (keeps 12 ++ belt 0 1) ∷ most 24 [] ∷ []; numbers = replicate 3 0 }
    -- 4: a byte more, a belt less; 4 comes before 5
    ∷ record { plans = plan 1 2 1 (keeps 2 ++ (belt 0 1 ++ 0 ∷ [])) ∷ plan 1 2 1 (keeps 2) ∷ plan 1 2 1 (3 ∷ keeps 2) ∷ []; numbers = replicate 3 4 }
    -- 4: "check 4 counts 10M" of version 2, and 6M of version 1
    ∷ record { plans = plan 2 2 1 (keeps 2 ++ belt 0 1) ∷ plan 1 2 1 (keeps 2 ++ window 0 1 (0 ∷ 0 ∷ 255 ∷ 255 ∷ [])) ∷ plan 2 3 2 (keeps 3 ++ (window 0 1 (0 ∷ 0 ∷ 0 ∷ 0 ∷ []) ++ belt 1 2)) ∷ []; numbers = replicate 3 4 }
    -- 5: kind 3; Keep with p, with q; Relabel with 16; Cap with p, with q 0; 5 comes before 6
    ∷ record { plans = map ruled ((3 ∷ 0 ∷ 0 ∷ 0 ∷ []) ∷ (0 ∷ 1 ∷ 0 ∷ 0 ∷ []) ∷ (0 ∷ 0 ∷ 0 ∷ 1 ∷ []) ∷ (0 ∷ 0 ∷ 1 ∷ 0 ∷ []) ∷ (1 ∷ 16 ∷ 0 ∷ 0 ∷ []) ∷ (1 ∷ 0 ∷ 0 ∷ 16 ∷ []) ∷ (1 ∷ 0 ∷ 1 ∷ 0 ∷ []) ∷ (2 ∷ 1 ∷ 0 ∷ 1 ∷ []) ∷ (2 ∷ 0 ∷ 0 ∷ 0 ∷ []) ∷ []) ++ plan 1 2 1 (3 ∷ 0 ∷ 0 ∷ 0 ∷ (keeps 1 ++ belt 1 0)) ∷ []; numbers = replicate 10 5 }
    -- "both 0..15", "q 1..65535"
    ∷ record { plans = map ruled ((1 ∷ 0 ∷ 0 ∷ 0 ∷ []) ∷ (1 ∷ 15 ∷ 0 ∷ 15 ∷ []) ∷ (2 ∷ 0 ∷ 0 ∷ 1 ∷ []) ∷ (2 ∷ 0 ∷ 255 ∷ 255 ∷ []) ∷ []); numbers = replicate 4 0 }
    -- 6: "sender < receiver < N": the same, the greater, receiver N
    ∷ record { plans = map (λ (b : List ℕ). plan 1 2 1 (keeps 2 ++ b)) (belt 1 1 ∷ belt 1 0 ∷ belt 0 2 ∷ []); numbers = replicate 3 6 }
    -- 6: mask 0, modulus 0, "remainder below the modulus"; masks of one bit, the greatest modulus and remainder
    ∷ record { plans = map belted ((0 ∷ 0 ∷ 1 ∷ 0 ∷ []) ∷ (0 ∷ 1 ∷ 0 ∷ 0 ∷ []) ∷ (0 ∷ 1 ∷ 3 ∷ 3 ∷ []) ∷ (0 ∷ 1 ∷ 1 ∷ 255 ∷ []) ∷ []); numbers = replicate 4 6 }
    ∷ record { plans = map belted ((0 ∷ 1 ∷ 1 ∷ 0 ∷ []) ∷ (128 ∷ 0 ∷ 255 ∷ 254 ∷ []) ∷ []); numbers = replicate 2 0 }
    -- 6: "A least mass above the greatest": by one, by its high byte; the same at both ends, 255 to 256, 0 and 65535 are accepted
    ∷ record { plans = map windowed ((0 ∷ 8 ∷ 0 ∷ 7 ∷ []) ∷ (1 ∷ 0 ∷ 0 ∷ 255 ∷ []) ∷ (255 ∷ 255 ∷ 255 ∷ 254 ∷ []) ∷ []); numbers = replicate 3 6 }
    ∷ record { plans = map windowed ((0 ∷ 7 ∷ 0 ∷ 7 ∷ []) ∷ (0 ∷ 255 ∷ 1 ∷ 0 ∷ []) ∷ (0 ∷ 0 ∷ 0 ∷ 0 ∷ []) ∷ (255 ∷ 255 ∷ 255 ∷ 255 ∷ []) ∷ []); numbers = replicate 4 0 }
    -- 6: of the second belt; 5 comes before 6
    ∷ record { plans = plan 2 3 2 (keeps 3 ++ (window 0 1 (0 ∷ 0 ∷ 0 ∷ 0 ∷ []) ++ window 1 2 (0 ∷ 1 ∷ 0 ∷ 0 ∷ []))) ∷ plan 2 2 1 (3 ∷ 0 ∷ 0 ∷ 0 ∷ (keeps 1 ++ window 0 1 (0 ∷ 1 ∷ 0 ∷ 0 ∷ []))) ∷ []; numbers = 6 ∷ 5 ∷ [] }
    -- 6: "belts rise strictly by sender then receiver": one pair twice, receivers falling, senders falling; a receiver may fall where the sender rises
    ∷ record { plans = map (λ (bs : List ℕ). plan 1 4 2 (keeps 4 ++ bs)) ((belt 0 1 ++ belt 0 1) ∷ (belt 0 2 ++ belt 0 1) ∷ (belt 1 2 ++ belt 0 3) ∷ (belt 0 3 ++ belt 1 2) ∷ []); numbers = replicate 3 6 ++ 0 ∷ [] }
    -- 7: five in, five out; four in and four out are accepted; 6 comes before 7
    ∷ record { plans = plan 1 6 5 (keeps 6 ++ into 5 (0 ∷ 1 ∷ 2 ∷ 3 ∷ 4 ∷ [])) ∷ plan 1 6 5 (keeps 6 ++ out 0 (1 ∷ 2 ∷ 3 ∷ 4 ∷ 5 ∷ [])) ∷ plan 1 9 8 (keeps 9 ++ (into 4 (0 ∷ 1 ∷ 2 ∷ 3 ∷ []) ++ out 4 (5 ∷ 6 ∷ 7 ∷ 8 ∷ []))) ∷ plan 1 6 5 (keeps 6 ++ (out 0 (1 ∷ 2 ∷ 3 ∷ 4 ∷ []) ++ (0 ∷ 5 ∷ 0 ∷ 0 ∷ 1 ∷ 0 ∷ []))) ∷ []; numbers = 7 ∷ 7 ∷ 0 ∷ 6 ∷ [] }
    ∷ []

pub examples_hold : map (λ (x : Example). map plan_refusal x.plans) example_table ≡ map (λ (x : Example). x.numbers) example_table
unfolding example_table plan_refusal
examples_hold = refl

-- The same bounds of a plan itself.
abbrev channel_of : ℕ → ℕ → ℕ → Channel
channel_of mask modulus remainder = record { sender = 0; receiver = 1; mask = mask; modulus = modulus; remainder = remainder; least = 0; greatest = 65_535 }

-- One that takes every record of some masses.
abbrev channel_for : ℕ → ℕ → Channel
channel_for least greatest = record { sender = 0; receiver = 1; mask = 65_535; modulus = 1; remainder = 0; least = least; greatest = greatest }

abbrev with_rule : Rule → Plan
with_rule r = record { version = 1; rules = Keep ∷ r ∷ []; channels = channel_of 1 1 0 ∷ [] }

abbrev with_channel : ℕ → Channel → Plan
with_channel version c = record { version = version; rules = Keep ∷ Keep ∷ []; channels = c ∷ [] }

rules_fit : map (λ (r : Rule). plan_fits (with_rule r)) (Keep ∷ Relabel 15 15 ∷ Relabel 16 0 ∷ Relabel 0 16 ∷ Cap 0 ∷ Cap 1 ∷ Cap 65535 ∷ Cap 65536 ∷ []) ≡ true ∷ true ∷ false ∷ false ∷ false ∷ true ∷ true ∷ false ∷ []
unfolding plan_fits
rules_fit = refl

channels_fit_lem : map (λ (c : Channel). plan_fits (with_channel 1 c)) (channel_of 0 1 0 ∷ channel_of 65535 1 0 ∷ channel_of 65536 1 0 ∷ channel_of 1 0 0 ∷ channel_of 1 255 254 ∷ channel_of 1 255 255 ∷ channel_of 1 256 0 ∷ []) ≡ false ∷ true ∷ false ∷ false ∷ true ∷ false ∷ false ∷ []
unfolding plan_fits
channels_fit_lem = refl

-- A window of its own is version 2's; a version is 1 or 2.
windows_fit : map (λ (c : Channel). plan_fits (with_channel 2 c)) (channel_for 0 65_535 ∷ channel_for 7 7 ∷ channel_for 8 7 ∷ channel_for 0 65_536 ∷ []) ≡ true ∷ true ∷ false ∷ false ∷ []
unfolding plan_fits
windows_fit = refl

versions_fit : map (λ (v : ℕ). plan_fits (with_channel v (channel_for 0 65_535))) (0 ∷ 1 ∷ 2 ∷ 3 ∷ []) ≡ false ∷ true ∷ true ∷ false ∷ []
unfolding plan_fits
versions_fit = refl

first_version : map (λ (c : Channel). plan_fits (with_channel 1 c)) (channel_for 1 65_535 ∷ channel_for 0 65_534 ∷ []) ≡ false ∷ false ∷ []
unfolding plan_fits
first_version = refl

-- "Rule bytes: kind, p, q (2 bytes)"; a belt: "sender, receiver, mask (2 bytes), modulus", remainder
abbrev spelled_plan : List ℕ
spelled_plan = plan 1 3 1 (keeps 1 ++ (1 ∷ 2 ∷ 0 ∷ 3 ∷ 2 ∷ 0 ∷ 1 ∷ 4 ∷ 0 ∷ 2 ∷ 1 ∷ 5 ∷ 7 ∷ 6 ∷ []))

rules_read : (plan_of spelled_plan).rules ≡ Keep ∷ Relabel 2 3 ∷ Cap 260 ∷ []
unfolding plan_of
rules_read = refl

-- "a version 1 belt reads as 0..65535"
channels_read : (plan_of spelled_plan).channels ≡ record { sender = 0; receiver = 2; mask = 261; modulus = 7; remainder = 6; least = 0; greatest = 65_535 } ∷ []
unfolding plan_of
channels_read = refl

-- "a least and a greatest mass, 2 bytes each, after the remainder"
abbrev spelled_window : List ℕ
spelled_window = plan 2 3 1 (keeps 3 ++ (0 ∷ 2 ∷ 1 ∷ 5 ∷ 7 ∷ 6 ∷ 1 ∷ 2 ∷ 3 ∷ 4 ∷ []))

window_read : (plan_of spelled_window).channels ≡ record { sender = 0; receiver = 2; mask = 261; modulus = 7; remainder = 6; least = 258; greatest = 772 } ∷ []
unfolding plan_of
window_read = refl

-- Each is written as it was.
both_written : map (λ (s : List ℕ). plan_bytes (plan_of s)) (spelled_plan ∷ spelled_window ∷ []) ≡ spelled_plan ∷ spelled_window ∷ []
unfolding plan_of plan_bytes
both_written = refl

-- "A node without entering belts is an infeed, without leaving belts an outfeed; it may be both.": 0 to 1 to 2, and 3
abbrev ends : Plan
ends = record { version = 1; rules = Keep ∷ Keep ∷ Keep ∷ Keep ∷ []; channels = channel_of 1 1 0 ∷ record { sender = 1; receiver = 2; mask = 1; modulus = 1; remainder = 0; least = 0; greatest = 65_535 } ∷ [] }

sources : map (is_source ends) (0 ∷ 1 ∷ 2 ∷ 3 ∷ []) ≡ true ∷ false ∷ false ∷ true ∷ []
unfolding is_source
sources = refl

sinks : map (is_sink ends) (0 ∷ 1 ∷ 2 ∷ 3 ∷ []) ≡ false ∷ false ∷ true ∷ true ∷ []
unfolding is_sink
sinks = refl

-- "piece number (4), material 0..15, a zero byte, mass in tenths of a gram (2)"
record_read : record_layout.read (1 ∷ 2 ∷ 3 ∷ 4 ∷ 5 ∷ 0 ∷ 6 ∷ 7 ∷ []) ≡ record { piece = 16_909_060; material = 5; mass = 1543 }
unfolding record_layout
record_read = refl

records_fit : map record_fits ((0 ∷ 0 ∷ 0 ∷ 1 ∷ 15 ∷ 0 ∷ 0 ∷ 0 ∷ []) ∷ (0 ∷ 0 ∷ 0 ∷ 1 ∷ 16 ∷ 0 ∷ 0 ∷ 0 ∷ []) ∷ (0 ∷ 0 ∷ 0 ∷ 1 ∷ 0 ∷ 1 ∷ 0 ∷ 0 ∷ []) ∷ []) ≡ true ∷ false ∷ false ∷ []
unfolding record_fits
records_fit = refl

-- 2026-05: a tick; piece 1, mass 1, material 254, and a zero byte that is not 0
ticks_fit : map record_fits ((0 ∷ 0 ∷ 0 ∷ 0 ∷ 255 ∷ 0 ∷ 0 ∷ 0 ∷ []) ∷ (0 ∷ 0 ∷ 0 ∷ 1 ∷ 255 ∷ 0 ∷ 0 ∷ 0 ∷ []) ∷ (0 ∷ 0 ∷ 0 ∷ 0 ∷ 255 ∷ 0 ∷ 0 ∷ 1 ∷ []) ∷ (0 ∷ 0 ∷ 0 ∷ 0 ∷ 254 ∷ 0 ∷ 0 ∷ 0 ∷ []) ∷ (0 ∷ 0 ∷ 0 ∷ 0 ∷ 255 ∷ 1 ∷ 0 ∷ 0 ∷ []) ∷ []) ≡ true ∷ false ∷ false ∷ false ∷ false ∷ []
unfolding record_fits
ticks_fit = refl

-- "material p becomes q", "a mass above q becomes q": piece 9 of some material and mass
abbrev record_of : ℕ → ℕ → Record
record_of material mass = record { piece = 9; material = material; mass = mass }

relabelled : map (applied (Relabel 1 2)) (record_of 1 50 ∷ record_of 2 50 ∷ record_of 3 50 ∷ []) ≡ record_of 2 50 ∷ record_of 2 50 ∷ record_of 3 50 ∷ []
relabelled = refl

capped : map (applied (Cap 50)) (record_of 1 49 ∷ record_of 1 50 ∷ record_of 1 51 ∷ []) ≡ record_of 1 49 ∷ record_of 1 50 ∷ record_of 1 50 ∷ []
capped = refl

-- "mask bit `material` (bit 0 lowest) is set and piece mod modulus = remainder": bit 0, another bit, bit 15; 9 mod 4 is 1
who_takes : map (λ (c : Channel). takes c (record_of 0 3)) (channel_of 1 1 0 ∷ channel_of 2 1 0 ∷ channel_of 1 4 1 ∷ channel_of 1 4 3 ∷ channel_of 2 4 1 ∷ []) ≡ true ∷ false ∷ true ∷ false ∷ false ∷ []
unfolding takes
who_takes = refl

takes_the_highest : takes (channel_of 32768 1 0) (record_of 15 3) ≡ true
unfolding takes
takes_the_highest = refl

-- 2026-02: "a least and a greatest mass": one below the least, both ends, one above the greatest; after the rule, so a cap of 50 brings a heavier piece in
window-takes : map (λ (m : ℕ). takes (channel_for 50 60) (record_of 0 m)) (49 ∷ 50 ∷ 60 ∷ 61 ∷ []) ≡ false ∷ true ∷ true ∷ false ∷ []
unfolding takes
window-takes = refl

capped_into : map (λ (m : ℕ). takes (channel_for 50 60) (applied (Cap 50) (record_of 0 m))) (49 ∷ 50 ∷ 61 ∷ []) ≡ false ∷ true ∷ true ∷ []
unfolding takes
capped_into = refl

-- 2026-05: neither mask nor modulus nor window is asked of a tick
tick-takes : map (λ (c : Channel). takes c tick) (channel_of 1 1 0 ∷ channel_of 2 4 3 ∷ channel_for 50 60 ∷ []) ≡ true ∷ true ∷ true ∷ []
unfolding takes
tick-takes = refl

-- 2026-06, "one bit a belt": node 1's three belts behind one of node 0, the first lowest; taken by the first and the second, by the second alone, by the third, by none; a tick; at an outfeed
abbrev three : Plan
three = let from : ℕ → ℕ → ℕ → Channel = λ sender receiver mask. record { sender = sender; receiver = receiver; mask = mask; modulus = 1; remainder = 0; least = 0; greatest = 65_535 } in
    record { version = 1; rules = Keep ∷ Keep ∷ Keep ∷ Keep ∷ Keep ∷ []; channels = from 0 1 65_535 ∷ from 1 2 2 ∷ from 1 3 6 ∷ from 1 4 8 ∷ [] }

sets : map (set_of three 1) (record_of 1 3 ∷ record_of 2 3 ∷ record_of 3 3 ∷ record_of 4 3 ∷ tick ∷ []) ++ set_of three 4 tick ∷ [] ≡ 3 ∷ 2 ∷ 4 ∷ 0 ∷ 7 ∷ 0 ∷ []
unfolding set_of
sets = refl

-- The bytes of version 2 with the same rules and channels: four behind each remainder.
in_version_two_lem : in_version_two spelled_plan ≡ plan 2 3 1 (keeps 1 ++ (1 ∷ 2 ∷ 0 ∷ 3 ∷ 2 ∷ 0 ∷ 1 ∷ 4 ∷ 0 ∷ 2 ∷ 1 ∷ 5 ∷ 7 ∷ 6 ∷ 0 ∷ 0 ∷ 255 ∷ 255 ∷ []))
unfolding in_version_two
in_version_two_lem = refl

-- The longest plan, and the bounds of 3 and 7, in version 2.
longest : length (in_version_two (most 24 [])) ≡ 293
unfolding in_version_two
longest = refl

bounds_in_two : map (λ (s : List ℕ). plan_refusal (in_version_two s)) (most 24 [] ∷ most 25 (6 ∷ []) ∷ plan 1 6 5 (keeps 6 ++ into 5 (0 ∷ 1 ∷ 2 ∷ 3 ∷ 4 ∷ [])) ∷ plan 1 6 5 (keeps 6 ++ out 0 (1 ∷ 2 ∷ 3 ∷ 4 ∷ 5 ∷ [])) ∷ []) ≡ 0 ∷ 3 ∷ 7 ∷ 7 ∷ []
unfolding in_version_two plan_refusal
bounds_in_two = refl
