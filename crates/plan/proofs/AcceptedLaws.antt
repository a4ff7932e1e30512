-- The rules, channels and nodes of a plan that is not refused, one by one.
use Prim.Native.Nat.{ℕ, zero, suc, ◌+◌, ◌*◌, ◌≤◌, ◌<◌}
use mathlib.Core.Path.{◌≡◌, refl, sym, ap, ◌∙◌, subst}
use mathlib.Core.Bool.{Bool, true, false, cond, ◌&&◌}
use mathlib.Core.Logic.{◌⊎◌, inl, inr, ⊎_elim}
use mathlib.Core.List.{List, [], ◌∷◌}
use native.Mathlib.Nat.{mod-eq_of_lt}
use native.Mathlib.Omega.{arith}
use borrow.Author.Tests.{leb-true, ltb-true, eqb-true}
use lib.Dec.{leb, ltb, eqb}
use lib.ListN.{length, get_or, take, drop}
use Rattle.plan.specs.declared.Rule.TheVariants.{Keep, Relabel, Cap}
use Rattle.plan.specs.declared.Channel.{Channel}
use Rattle.plan.specs.Layout.{spelled}
use Rattle.plan.specs.Rule.{rule_fields, rule_fits, rule_kind_fits, rule_of_kind}
use Rattle.plan.specs.Channel.{channel_fits, channel_after}
use Rattle.plan.specs.Plan.{Plan, plan_of, plan_nodes, plan_channels, rule_at, channel_at, no_channel, entering, leaving}
use Rattle.plan.specs.Check.{rules_fit, channels_fit, four_at_most, plan_refusal}
use Rattle.plan.specs.Narrow.{narrowed}
use Rattle.basics.specs.Bools.{both_true, and_left, below_or_not}
use Rattle.plan.proofs.LayoutLaws.{length-read_slots}
use Rattle.plan.proofs.ReadLaws.{rule_numbers-at, rule_at_lem, rule_past}
use Rattle.plan.proofs.CheckLaws.{accepted}
use Rattle.plan.proofs.PlanLaws.{channel_count_lem}
use Rattle.plan.proofs.LoopLaws.{rule_slots}

-- ---- rules

rules_at : (rs : List (List ℕ)) (i : ℕ) → rules_fit rs ≡ true → i < length rs → rule_fits (get_or rs i []) ≡ true
rules_at [] i e h = let no : ⊥ = omega arith in absurd no
rules_at (r ∷ rs) zero e h = (both_true (rule_fits r) (rules_fit rs) e).0
rules_at (r ∷ rs) (suc i) e h = rules_at rs i (both_true (rule_fits r) (rules_fit rs) e).1 (omega arith)

kind_narrow : (kind p q : ℕ) → rule_kind_fits kind p q ≡ true → narrowed (rule_of_kind kind p q) ≡ rule_of_kind kind p q
kind_narrow kind p q e = go (eqb kind 0) (eqb kind 1) (eqb kind 2) refl refl e
  where
    go : (a b c : Bool) → eqb kind 0 ≡ a → eqb kind 1 ≡ b → cond a (eqb p 0 && eqb q 0) (cond b (leb p 15 && leb q 15) (c && eqb p 0 && leb 1 q)) ≡ true
        → narrowed (cond b (Relabel p q) (cond c (Cap q) Keep)) ≡ cond b (Relabel p q) (cond c (Cap q) Keep)
    go true true c ka kb e = let no : ⊥ = omega (arith, eqb-true kind 0 ka, eqb-true kind 1 kb) in absurd no
    go false true c ka kb e = ap (Relabel p) (mod-eq_of_lt (omega (arith, leb-true q 15 (both_true (leb p 15) (leb q 15) e).1)))
    go a false true ka kb e = refl
    go a false false ka kb e = refl

-- The rule that is read in place is the plan's.
pub rule_narrow : (s : List ℕ) → plan_refusal s ≡ 0 → (n : ℕ) → narrowed (rule_at (plan_of s) n) ≡ rule_at (plan_of s) n
rule_narrow s z n = go (below_or_not n (plan_nodes s))
  where
    go : (n < plan_nodes s) ⊎ (plan_nodes s ≤ n) → narrowed (rule_at (plan_of s) n) ≡ rule_at (plan_of s) n
    go (inl h) =
        let l : n < length (rule_slots s) = rw (length-read_slots rule_fields (plan_nodes s) (drop 5 s)) h in
        rw (rule_at_lem s n h)
        (kind_narrow (get_or s (5 + 4 * n) 0) (get_or s (5 + 4 * n + 1) 0) (spelled 0 (take 2 (drop (5 + 4 * n + 2) s)))
        (sym (ap rule_fits (rule_numbers-at s n [] h)) ∙ rules_at (rule_slots s) n (accepted s z).rules l))
    go (inr h) = rw (rule_past s n h)

-- ---- channels

pub channels_at : (n sender receiver : ℕ) (cs : List Channel) (b : ℕ) → channels_fit n sender receiver cs ≡ true → b < length cs → channel_fits n (get_or cs b no_channel) ≡ true
channels_at n sender receiver [] b e h = let no : ⊥ = omega arith in absurd no
channels_at n sender receiver (c ∷ cs) zero e h =
    (both_true (channel_fits n c) (channel_after sender receiver c) (both_true (channel_fits n c && channel_after sender receiver c) (channels_fit n c.sender c.receiver cs) e).0).0
channels_at n sender receiver (c ∷ cs) (suc b) e h =
    channels_at n c.sender c.receiver cs b (both_true (channel_fits n c && channel_after sender receiver c) (channels_fit n c.sender c.receiver cs) e).1 (omega arith)

-- One channel's check: it goes forward, inside the plan.
pub fits_forward : (n : ℕ) (c : Channel) → channel_fits n c ≡ true → (c.sender < c.receiver) × (c.receiver < n)
unfolding channel_fits
fits_forward n c e =
    let forward : Bool = ltb c.sender c.receiver in
    let inside : Bool = ltb c.receiver n in
    let mask : Bool = leb 1 c.mask in
    let modulus : Bool = leb 1 c.modulus in
    let remainder : Bool = ltb c.remainder c.modulus in
    let rest = and_left (forward && inside && mask && modulus && remainder) (leb c.least c.greatest) e in
    let ends = both_true forward inside (and_left (forward && inside) mask (and_left (forward && inside && mask) modulus (and_left (forward && inside && mask && modulus) remainder rest))) in
    (ltb-true c.sender c.receiver ends.0, ltb-true c.receiver n ends.1)

pub channel_fits_lem : (s : List ℕ) → plan_refusal s ≡ 0 → (b : ℕ) → b < plan_channels s → channel_fits (plan_nodes s) (channel_at (plan_of s) b) ≡ true
channel_fits_lem s z b h = channels_at (plan_nodes s) 0 0 (plan_of s).channels b (accepted s z).channels (rw (channel_count_lem s) h)

-- ---- nodes

abbrev pub Four : Plan → ℕ → Type 0
Four p n = (length (entering p n) ≤ 4) × (length (leaving p n) ≤ 4)

four_here : (p : Plan) (n : ℕ) → (leb (length (entering p n)) 4 && leb (length (leaving p n)) 4) ≡ true → Four p n
four_here p n e =
    let t = both_true (leb (length (entering p n)) 4) (leb (length (leaving p n)) 4) e in
    (leb-true (length (entering p n)) 4 t.0, leb-true (length (leaving p n)) 4 t.1)

pub four_at : (p : Plan) (n i : ℕ) → four_at_most p n ≡ true → i < n → Four p i
four_at p zero i e h = let no : ⊥ = omega arith in absurd no
four_at p (suc n) i e h =
    let t = both_true (leb (length (entering p n)) 4 && leb (length (leaving p n)) 4) (four_at_most p n) e in
    ⊎_elim (λ k. four_at p n i t.1 k) (λ k. let same : n ≡ i = omega arith in subst (Four p) same (four_here p n t.0)) (below_or_not i n)
