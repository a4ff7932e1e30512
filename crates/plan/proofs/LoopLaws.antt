-- The checks over a plan's rules, channels and nodes, one turn at a time.
use Prim.Native.Nat.{ℕ, suc, ◌+◌, ◌≤◌, ◌<◌}
use mathlib.Core.Path.{◌≡◌, sym, ◌∙◌}
use mathlib.Core.Bool.{Bool, ◌&&◌, and_assoc, and-true}
use mathlib.Core.List.{List, []}
use native.Mathlib.Numerals.{add-one}
use lib.ListN.{length, get_or, drop, drop_of_length-le}
use lib.Seq.{drop-cons}
use Rattle.plan.specs.declared.Channel.{Channel}
use Rattle.plan.specs.Layout.{read_slots}
use Rattle.plan.specs.Rule.{rule_fields, rule_fits}
use Rattle.plan.specs.Channel.{channel_fits, channel_after}
use Rattle.plan.specs.Plan.{plan_nodes, no_channel}
use Rattle.plan.specs.Check.{rules_fit, channels_fit}

-- The rules' numbers.
abbrev pub rule_slots : List ℕ → List (List ℕ)
rule_slots s = read_slots rule_fields (plan_nodes s) (drop 5 s)

pub rules_more : (ok : Bool) (rs : List (List ℕ)) (i : ℕ) → i < length rs
    → (ok && rules_fit (drop i rs)) ≡ ((ok && rule_fits (get_or rs i [])) && rules_fit (drop (i + 1) rs))
rules_more ok rs i h = rw (add-one i, drop-cons rs i [] h) (sym (and_assoc ok (rule_fits (get_or rs i [])) (rules_fit (drop (suc i) rs))))

pub rules_end : (ok : Bool) (rs : List (List ℕ)) (i : ℕ) → length rs ≤ i → rules_fit rs ≡ (ok && rules_fit (drop i rs)) → ok ≡ rules_fit rs
rules_end ok rs i h e = sym (e ∙ rw (drop_of_length-le rs h) (and-true ok))

pub channels_more : (ok : Bool) (n sender receiver : ℕ) (cs : List Channel) (b : ℕ) → b < length cs
    → (let c : Channel = get_or cs b no_channel in
    (ok && channels_fit n sender receiver (drop b cs))
    ≡ ((ok && (channel_fits n c && channel_after sender receiver c)) && channels_fit n c.sender c.receiver (drop (b + 1) cs)))
channels_more ok n sender receiver cs b h =
    let c : Channel = get_or cs b no_channel in
    rw (add-one b, drop-cons cs b no_channel h)
    (sym (and_assoc ok (channel_fits n c && channel_after sender receiver c) (channels_fit n c.sender c.receiver (drop (suc b) cs))))

pub channels_end : (ok : Bool) (n sender receiver : ℕ) (cs : List Channel) (b : ℕ) → length cs ≤ b
    → channels_fit n 0 0 cs ≡ (ok && channels_fit n sender receiver (drop b cs)) → ok ≡ channels_fit n 0 0 cs
channels_end ok n sender receiver cs b h e = sym (e ∙ rw (drop_of_length-le cs h) (and-true ok))
