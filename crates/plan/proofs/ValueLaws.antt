-- Records, rules and channels are read back and written back.
use Prim.Native.Nat.{ℕ, ◌<◌}
use mathlib.Core.Path.{◌≡◌, refl, sym, ap, subst}
use mathlib.Core.Bool.{Bool, true, false, cond, ◌&&◌, true≢false}
use mathlib.Core.List.{List, [], ◌∷◌}
use native.Mathlib.Omega.{arith}
use borrow.Author.Tests.{eqb-true}
use lib.Dec.{lit<, eqb, leb}
use lib.ListN.{get_or}
use Rattle.plan.specs.declared.Rule.{Rule}
use Rattle.plan.specs.declared.Rule.TheVariants.{Keep, Relabel, Cap}
use Rattle.plan.specs.Lawful.{Lawful, FieldsFit}
use Rattle.plan.specs.Record.{record_numbers, record_of, record_widths, record_fields, record_layout}
use Rattle.plan.specs.Rule.{rule_numbers, rule_of, rule_of_kind, rule_widths, rule_fields, rule_layout, rule_fits, rule_kind_fits}
use Rattle.plan.specs.Channel.{channel_numbers, channel_of, channel_widths, channel_fields, channel_layout}
use Rattle.plan.specs.Fits.{RecordFits, RuleFits, ChannelFits}
use Rattle.plan.proofs.LayoutLaws.{fields_lawful, via_lawful}
use Rattle.basics.specs.Bools.{both_true}

-- ---- records

record_numbers_fit : (ns : List ℕ) → FieldsFit record_widths ns → RecordFits (record_of ns)
record_numbers_fit [] h = absurd h
record_numbers_fit (a ∷ []) h = absurd h.1
record_numbers_fit (a ∷ b ∷ []) h = absurd h.1.1
record_numbers_fit (a ∷ b ∷ c ∷ []) h = absurd h.1.1.1
record_numbers_fit (a ∷ b ∷ c ∷ d ∷ []) h = (h.0, (h.1.0, (lit< tt, (h.1.1.1.0, tt))))
record_numbers_fit (a ∷ b ∷ c ∷ d ∷ e ∷ ns) h = absurd h.1.1.1.1

record_numbers_lem : (ns : List ℕ) → FieldsFit record_widths ns → get_or ns 2 0 ≡ 0 → record_numbers (record_of ns) ≡ ns
record_numbers_lem [] h z = absurd h
record_numbers_lem (a ∷ []) h z = absurd h.1
record_numbers_lem (a ∷ b ∷ []) h z = absurd h.1.1
record_numbers_lem (a ∷ b ∷ c ∷ []) h z = absurd h.1.1.1
record_numbers_lem (a ∷ b ∷ c ∷ d ∷ []) h z = rw z
record_numbers_lem (a ∷ b ∷ c ∷ d ∷ e ∷ ns) h z = absurd h.1.1.1.1

pub record_lawful : Lawful record_layout RecordFits (λ s. get_or (record_fields.read s) 2 0 ≡ 0)
unfolding record_layout
record_lawful =
    via_lawful record_fields record_numbers record_of (fields_lawful record_widths) (λ r h. h) (λ r h. refl) record_numbers_fit (λ s h z. (tt, record_numbers_lem (record_fields.read s) h z))

-- ---- rules

rule_kind_fits_lem : (kind p q : ℕ) → p < 256 → q < 65536 → RuleFits (rule_of_kind kind p q)
rule_kind_fits_lem kind p q hp hq = go (eqb kind 1) (eqb kind 2)
  where
    go : (a b : Bool) → RuleFits (cond a (Relabel p q) (cond b (Cap q) Keep))
    go true b = (lit< tt, (hp, (hq, tt)))
    go false true = (lit< tt, (lit< tt, (hq, tt)))
    go false false = (lit< tt, (lit< tt, (lit< tt, tt)))

rule_numbers_fit : (ns : List ℕ) → FieldsFit rule_widths ns → RuleFits (rule_of ns)
rule_numbers_fit [] h = absurd h
rule_numbers_fit (a ∷ []) h = absurd h.1
rule_numbers_fit (a ∷ b ∷ []) h = absurd h.1.1
rule_numbers_fit (a ∷ b ∷ c ∷ []) h = rule_kind_fits_lem a b c h.1.0 h.1.1.0
rule_numbers_fit (a ∷ b ∷ c ∷ d ∷ ns) h = absurd h.1.1.1

rule_kind : (kind p q : ℕ) → rule_kind_fits kind p q ≡ true → rule_numbers (rule_of_kind kind p q) ≡ kind ∷ p ∷ q ∷ []
rule_kind kind p q e = go (eqb kind 0) (eqb kind 1) (eqb kind 2) refl refl refl e
  where
    go : (a b c : Bool) → eqb kind 0 ≡ a → eqb kind 1 ≡ b → eqb kind 2 ≡ c
        → cond a (eqb p 0 && eqb q 0) (cond b (leb p 15 && leb q 15) (c && eqb p 0 && leb 1 q)) ≡ true
        → rule_numbers (cond b (Relabel p q) (cond c (Cap q) Keep)) ≡ kind ∷ p ∷ q ∷ []
    go true true c ka kb kc e = let no : ⊥ = omega (arith, eqb-true kind 0 ka, eqb-true kind 1 kb) in absurd no
    go true false true ka kb kc e = let no : ⊥ = omega (arith, eqb-true kind 0 ka, eqb-true kind 2 kc) in absurd no
    go true false false ka kb kc e =
        let t = both_true (eqb p 0) (eqb q 0) e in
        cc (eqb-true kind 0 ka, eqb-true p 0 t.0, eqb-true q 0 t.1)
    go false true c ka kb kc e = cc (eqb-true kind 1 kb)
    go false false true ka kb kc e =
        let t = both_true (eqb p 0) (leb 1 q) e in
        cc (eqb-true kind 2 kc, eqb-true p 0 t.0)
    go false false false ka kb kc e = absurd (true≢false (sym e))

rule_numbers_lem : (ns : List ℕ) → FieldsFit rule_widths ns → rule_fits ns ≡ true → rule_numbers (rule_of ns) ≡ ns
rule_numbers_lem [] h e = absurd h
rule_numbers_lem (a ∷ []) h e = absurd h.1
rule_numbers_lem (a ∷ b ∷ []) h e = absurd h.1.1
rule_numbers_lem (a ∷ b ∷ c ∷ []) h e = rule_kind a b c e
rule_numbers_lem (a ∷ b ∷ c ∷ d ∷ ns) h e = absurd h.1.1.1

rule_read : (r : Rule) → rule_of (rule_numbers r) ≡ r
rule_read Keep = refl
rule_read (Relabel p q) = refl
rule_read (Cap q) = refl

pub rule_lawful : Lawful rule_layout RuleFits (λ s. rule_fits (rule_fields.read s) ≡ true)
unfolding rule_layout
rule_lawful =
    via_lawful rule_fields rule_numbers rule_of (fields_lawful rule_widths) (λ r h. h) (λ r h. rule_read r) rule_numbers_fit (λ s h e. (tt, rule_numbers_lem (rule_fields.read s) h e))

-- ---- channels

-- Of the numbers behind the remainder: they are those that the channel read from them gives.
window_numbers : (windows : Bool) (ns : List ℕ) → FieldsFit (cond windows (2 ∷ 2 ∷ []) []) ns → cond windows (get_or ns 0 0 ∷ get_or ns 1 65_535 ∷ []) [] ≡ ns
window_numbers true [] h = absurd h
window_numbers true (a ∷ []) h = absurd h.1
window_numbers true (a ∷ b ∷ []) h = refl
window_numbers true (a ∷ b ∷ c ∷ ns) h = absurd h.1.1
window_numbers false [] h = refl
window_numbers false (a ∷ ns) h = absurd h

channel_numbers_lem : (v : ℕ) (ns : List ℕ) → FieldsFit (channel_widths v) ns → channel_numbers v (channel_of ns) ≡ ns
channel_numbers_lem v [] h = absurd h
channel_numbers_lem v (a ∷ []) h = absurd h.1
channel_numbers_lem v (a ∷ b ∷ []) h = absurd h.1.1
channel_numbers_lem v (a ∷ b ∷ c ∷ []) h = absurd h.1.1.1
channel_numbers_lem v (a ∷ b ∷ c ∷ d ∷ []) h = absurd h.1.1.1.1
channel_numbers_lem v (a ∷ b ∷ c ∷ d ∷ e ∷ ns) h = ap (λ (w : List ℕ). a ∷ b ∷ c ∷ d ∷ e ∷ w) (window_numbers (eqb v 2) ns h.1.1.1.1.1)

channel_numbers_fit : (v : ℕ) (ns : List ℕ) → FieldsFit (channel_widths v) ns → ChannelFits v (channel_of ns)
channel_numbers_fit v ns h = let same = channel_numbers_lem v ns h in record { numbers = subst (FieldsFit (channel_widths v)) (sym same) h; whole = ap channel_of same }

pub channel_lawful : (v : ℕ) → Lawful (channel_layout v) (ChannelFits v) (λ s. Unit {0})
unfolding channel_layout
channel_lawful v =
    via_lawful (channel_fields v) (channel_numbers v) channel_of (fields_lawful (channel_widths v)) (λ c h. h.numbers) (λ c h. h.whole)
    (channel_numbers_fit v) (λ s h u. (tt, channel_numbers_lem v ((channel_fields v).read s) h))
