-- The refusals of a plan, 1 to 7 (document 01, "Numbers returned").
use Rattle.std.specs.Prelude.{ℕ, zero, suc, Bool, true, false, not, ◌&&◌, ◌||◌, List, [], ◌∷◌, length, drop, leb, ltb, eqb}
use Rattle.plan.specs.declared.Rule.{Rule}
use Rattle.plan.specs.declared.Rule.TheVariants.{Keep, Relabel, Cap}
use Rattle.plan.specs.declared.Channel.{Channel}
use Rattle.plan.specs.Layout.{read_slots}
use Rattle.plan.specs.Rule.{rule_fields, rule_fits}
use Rattle.plan.specs.Channel.{has_windows, channel_fits, channel_after}
use Rattle.plan.specs.Plan.{Plan, node_count, channel_count, plan_of, plan_length, plan_version, plan_nodes, plan_channels, size_by_head, head_layout, entering, leaving}

-- 1: "plan under 5 bytes, or not its length field"
unfoldable pub bad_length : List ℕ → Bool
unfolding plan_length
bad_length s = ltb (length s) 5 || not (eqb (plan_length s) (length s))

-- 2: "plan version": 1, or 2 (2026-02).
abbrev pub version_fits : ℕ → Bool
version_fits v = eqb v 1 || eqb v 2

unfoldable pub bad_version : List ℕ → Bool
unfolding plan_version
bad_version s = not (version_fits (plan_version s))

-- 3: "N or M": N is 2..12, M is 1..24.
abbrev pub counts_fit : ℕ → ℕ → Bool
counts_fit n m = leb 2 n && leb n 12 && leb 1 m && leb m 24

unfoldable pub bad_counts : List ℕ → Bool
unfolding plan_nodes plan_channels
bad_counts s = not (counts_fit (plan_nodes s) (plan_channels s))

-- 4: "length is not 5 + 4N + 6M"; of version 2 "check 4 counts 10M"
unfoldable pub bad_size : List ℕ → Bool
unfolding size_by_head
bad_size s = not (eqb (length s) (size_by_head s))

-- 5: "rule"
abbrev pub rules_fit : List (List ℕ) → Bool
rules_fit [] = true
rules_fit (r ∷ rest) = rule_fits r && rules_fit rest

unfoldable pub bad_rules : List ℕ → Bool
unfolding plan_nodes head_layout rule_fields
bad_rules s = not (rules_fit (read_slots rule_fields (plan_nodes s) (drop head_layout.size s)))

-- 6: "belt fields or order"
abbrev pub channels_fit : ℕ → ℕ → ℕ → List Channel → Bool
channels_fit n sender receiver [] = true
channels_fit n sender receiver (c ∷ rest) = channel_fits n c && channel_after sender receiver c && channels_fit n c.sender c.receiver rest

unfoldable pub bad_channels : List ℕ → Bool
unfolding plan_nodes plan_of channel_fits channel_after
bad_channels s = not (channels_fit (plan_nodes s) 0 0 (plan_of s).channels)

-- 7: "over 4 belts in or out"
abbrev pub four_at_most : Plan → ℕ → Bool
four_at_most p zero = true
four_at_most p (suc n) = leb (length (entering p n)) 4 && leb (length (leaving p n)) 4 && four_at_most p n

unfoldable pub bad_degrees : List ℕ → Bool
unfolding plan_nodes plan_of entering leaving
bad_degrees s = not (four_at_most (plan_of s) (plan_nodes s))

-- "each in rising order, and the first that applies is returned"; 0 where none does.
unfoldable pub plan_refusal : List ℕ → ℕ
unfolding bad_length bad_version bad_counts bad_size bad_rules bad_channels bad_degrees
plan_refusal s =
    elim (bad_length s) [
      | true ↦ 1
      | false ↦ elim (bad_version s) [
        | true ↦ 2
        | false ↦ elim (bad_counts s) [
          | true ↦ 3
          | false ↦ elim (bad_size s) [
            | true ↦ 4
            | false ↦ elim (bad_rules s) [
              | true ↦ 5
              | false ↦ elim (bad_channels s) [
                | true ↦ 6
                | false ↦ elim (bad_degrees s) [ true ↦ 7 | false ↦ 0 ]
              ]
            ]
          ]
        ]
      ]
    ]

-- The same of a plan itself: its bytes spell it whole, and no check refuses them. A rule's q is at most 65535 and a belt's mask and masses too, being "2 bytes"; its modulus is "1..255"; in version 1 its window is 0..65535.
abbrev pub rule_allowed : Rule → Bool
rule_allowed Keep = true
rule_allowed (Relabel p q) = leb p 15 && leb q 15
rule_allowed (Cap q) = leb 1 q && leb q 65535

abbrev pub rules_allowed : List Rule → Bool
rules_allowed [] = true
rules_allowed (r ∷ rest) = rule_allowed r && rules_allowed rest

abbrev pub channel_spelled : ℕ → Channel → Bool
channel_spelled version c = leb c.mask 65535 && leb c.modulus 255 && leb c.greatest 65535 && (has_windows version || (eqb c.least 0 && eqb c.greatest 65535))

abbrev pub channels_spelled : ℕ → List Channel → Bool
channels_spelled version [] = true
channels_spelled version (c ∷ rest) = channel_spelled version c && channels_spelled version rest

unfoldable pub plan_fits : Plan → Bool
unfolding channel_fits channel_after entering leaving
plan_fits p =
    version_fits p.version && counts_fit (node_count p) (channel_count p) && rules_allowed p.rules && channels_spelled p.version p.channels && channels_fit (node_count p) 0 0 p.channels && four_at_most p (node_count p)
