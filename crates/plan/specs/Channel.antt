-- A channel (document 01: belt), and whether it takes a record. Its window of masses is document 02's, request 2026-02.
use Rattle.std.specs.Prelude.{ℕ, ◌/◌, ◌%◌, ◌^◌, Bool, cond, ◌&&◌, ◌||◌, List, [], ◌∷◌, get_or, leb, ltb, eqb}
use Rattle.plan.specs.declared.Record.{Record}
use Rattle.plan.specs.Record.{is_tick}
use Rattle.plan.specs.declared.Channel.{Channel}
use Rattle.plan.specs.Layout.{Layout, fields, via}

-- Bit i of a mask, bit 0 lowest.
unfoldable pub bit_set : ℕ → ℕ → Bool
bit_set mask i = eqb (mask / (2 ^ i) % 2) 1

-- 2026-02: "a least and a greatest mass"; both belong to the window.
abbrev pub in_window : Channel → ℕ → Bool
in_window c mass = leb c.least mass && leb mass c.greatest

-- "A belt takes a record if mask bit `material` (bit 0 lowest) is set and piece mod modulus = remainder"; 2026-02: "The test of whether a belt takes a record gains this window". The record is one that the sender's rule has been applied to. 2026-05, of a tick: "every belt takes it".
unfoldable pub takes : Channel → Record → Bool
unfolding bit_set
takes c r = is_tick r || (bit_set c.mask r.material && eqb (r.piece % c.modulus) c.remainder && in_window c r.mass)

-- 2026-02: "A plan of version 2 gives each belt" numbers "after the remainder"; in another version there are none.
abbrev pub has_windows : ℕ → Bool
has_windows version = eqb version 2

abbrev pub behind_remainder : ℕ → List ℕ → List ℕ
behind_remainder version ns = cond (has_windows version) ns []

-- "A belt: sender, receiver, mask (2 bytes), modulus 1..255, remainder below the modulus."
abbrev pub channel_numbers : ℕ → Channel → List ℕ
channel_numbers version c = c.sender ∷ c.receiver ∷ c.mask ∷ c.modulus ∷ c.remainder ∷ behind_remainder version (c.least ∷ c.greatest ∷ [])

-- "2 bytes each, after the remainder, so a belt is 10 bytes"
abbrev pub channel_widths : ℕ → List ℕ
channel_widths version = 1 ∷ 1 ∷ 2 ∷ 1 ∷ 1 ∷ behind_remainder version (2 ∷ 2 ∷ [])

-- "a version 1 belt reads as 0..65535": where there is no window.
abbrev pub channel_of : List ℕ → Channel
channel_of ns = record { sender = get_or ns 0 0; receiver = get_or ns 1 0; mask = get_or ns 2 0; modulus = get_or ns 3 0; remainder = get_or ns 4 0; least = get_or ns 5 0; greatest = get_or ns 6 65_535 }

unfoldable pub channel_fields : ℕ → Layout (List ℕ)
unfolding fields
channel_fields version = fields (channel_widths version)

unfoldable pub channel_layout : ℕ → Layout Channel
unfolding channel_fields via
channel_layout version = via (channel_fields version) (channel_numbers version) channel_of

unfoldable pub channel_size : ℕ → ℕ
unfolding channel_layout
channel_size version = (channel_layout version).size

-- Check 6 of one channel: "sender < receiver < N, the mask is not 0", modulus and remainder; "A least mass above the greatest is 6."
unfoldable pub channel_fits : ℕ → Channel → Bool
channel_fits n c =
    ltb c.sender c.receiver && ltb c.receiver n && leb 1 c.mask && leb 1 c.modulus && ltb c.remainder c.modulus && leb c.least c.greatest

-- "belts rise strictly by sender then receiver": a channel comes after a sender and a receiver.
unfoldable pub channel_after : ℕ → ℕ → Channel → Bool
channel_after sender receiver c = ltb sender c.sender || (eqb sender c.sender && ltb receiver c.receiver)
