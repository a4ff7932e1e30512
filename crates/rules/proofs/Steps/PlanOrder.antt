-- The channels of an accepted plan go forward, stay inside the plan and join a pair of nodes once.
use Prim.Native.Nat.{ℕ, zero, suc, ◌≤◌, ◌<◌}
use mathlib.Core.Path.{◌≡◌, refl, sym, ap, ◌∙◌}
use mathlib.Core.Logic.{◌⊎◌, inl, inr}
use mathlib.Core.Bool.{Bool, true, false, ◌&&◌, ◌||◌}
use mathlib.Core.List.{List, [], ◌∷◌}
use native.Mathlib.Omega.{arith}
use native.Mathlib.Decide.{dec_lt}
use lib.ListN.{length, get_or}
use lib.Dec.{ltb, eqb}
use borrow.Author.Tests.{ltb-true, eqb-true}
use Rattle.basics.specs.Bools.{both_true}
use Rattle.plan.specs.declared.Channel.{Channel}
use Rattle.plan.specs.Channel.{channel_fits, channel_after}
use Rattle.plan.specs.Plan.{Plan, plan_of, node_count, channel_count, channel_at, no_channel}
use Rattle.plan.specs.Check.{channels_fit, plan_refusal}
use Rattle.plan.proofs.AcceptedLaws.{fits_forward}
use Rattle.plan.proofs.CheckLaws.{accepted}
use Rattle.plan.proofs.PlanLaws.{node_count_lem}
use Rattle.rules.proofs.Invariant.Inv.{Ordered}

-- A pair of nodes comes before a channel's.
abbrev Before : ℕ → ℕ → Channel → Type 0
Before sender receiver c = (sender < c.sender) ⊎ ((sender ≡ c.sender) × (receiver < c.receiver))

after-before : (s r : ℕ) (c : Channel) → channel_after s r c ≡ true → Before s r c
unfolding channel_after
after-before s r c e = one (ltb s c.sender) refl e
  where
    one : (t : Bool) → ltb s c.sender ≡ t → (t || (eqb s c.sender && ltb r c.receiver)) ≡ true → Before s r c
    one true q k = inl (ltb-true s c.sender q)
    one false q k = let (a, b) = both_true (eqb s c.sender) (ltb r c.receiver) k in inr (eqb-true s c.sender a, ltb-true r c.receiver b)

before_trans : (s r : ℕ) (c d : Channel) → Before s r c → Before c.sender c.receiver d → Before s r d
before_trans s r c d (inl h) (inl k) = inl (omega arith)
before_trans s r c d (inl h) (inr k) = inl (let e = k.0 in omega arith)
before_trans s r c d (inr h) (inl k) = inl (let e = h.0 in omega arith)
before_trans s r c d (inr h) (inr k) = inr (h.0 ∙ k.0, (let a = h.1 in let b = k.1 in omega arith))

before-apart : (c d : Channel) → Before c.sender c.receiver d → c.sender ≡ d.sender → c.receiver ≡ d.receiver → ⊥
before-apart c d (inl h) s r = omega arith
before-apart c d (inr h) s r = let k = h.1 in omega arith

module _ (n : ℕ) where
  first_fits : (s r : ℕ) (c : Channel) (cs : List Channel) → channels_fit n s r (c ∷ cs) ≡ true → (channel_fits n c ≡ true) × (channel_after s r c ≡ true) × (channels_fit n c.sender c.receiver cs ≡ true)
  first_fits s r c cs e =
      let (own, rest) = both_true (channel_fits n c && channel_after s r c) (channels_fit n c.sender c.receiver cs) e in
      let (fits, after) = both_true (channel_fits n c) (channel_after s r c) own in
      (fits, after, rest)

  -- Each channel fits and comes after what went before all.
  channel_fits_lem : (s r : ℕ) (cs : List Channel) → channels_fit n s r cs ≡ true → (b : ℕ) → b < length cs → (channel_fits n (get_or cs b no_channel) ≡ true) × Before s r (get_or cs b no_channel)
  channel_fits_lem s r [] e b h = let no : ⊥ = omega arith in absurd no
  channel_fits_lem s r (c ∷ cs) e zero h = let (fits, after, rest) = first_fits s r c cs e in (fits, after-before s r c after)
  channel_fits_lem s r (c ∷ cs) e (suc b) h =
      let (fits, after, rest) = first_fits s r c cs e in
      let (there, later) = channel_fits_lem c.sender c.receiver cs rest b (omega arith) in
      (there, before_trans s r c (get_or cs b no_channel) (after-before s r c after) later)

  channels_rise : (s r : ℕ) (cs : List Channel) → channels_fit n s r cs ≡ true → (b c : ℕ) → b < c → c < length cs → Before (get_or cs b no_channel).sender (get_or cs b no_channel).receiver (get_or cs c no_channel)
  channels_rise s r [] e b c l h = let no : ⊥ = omega arith in absurd no
  channels_rise s r (x ∷ cs) e b zero l h = let no : ⊥ = omega arith in absurd no
  channels_rise s r (x ∷ cs) e zero (suc c) l h = (channel_fits_lem x.sender x.receiver cs (first_fits s r x cs e).2 c (omega arith)).1
  channels_rise s r (x ∷ cs) e (suc b) (suc c) l h = channels_rise x.sender x.receiver cs (first_fits s r x cs e).2 b c (omega arith) (omega arith)

-- What check 6 says of a plan's channels.
pub senders_rise : (p : Plan) → channels_fit (node_count p) 0 0 p.channels ≡ true → (b c : ℕ) → b < c → c < channel_count p → (channel_at p b).sender ≤ (channel_at p c).sender
senders_rise p e b c l h = elim (channels_rise (node_count p) 0 0 p.channels e b c l h) [ inl k ↦ omega arith | inr k ↦ (let same = k.0 in omega arith) ]

pub ordered_channels : (p : Plan) → channels_fit (node_count p) 0 0 p.channels ≡ true → Ordered p
ordered_channels p e =
    record {
      forward = λ b h. (fits_forward (node_count p) (channel_at p b) (channel_fits_lem (node_count p) 0 0 p.channels e b h).0).0;
      inside = λ b h. (fits_forward (node_count p) (channel_at p b) (channel_fits_lem (node_count p) 0 0 p.channels e b h).0).1;
      alone = λ b c h k s r. elim (dec_lt b c) [
        | yes l ↦ absurd (apart b c l k s r)
        | no d ↦ elim (dec_lt c b) [ yes l ↦ absurd (apart c b l h (sym s) (sym r)) | no f ↦ omega arith ]
      ];
    }
  where
    apart : (b c : ℕ) → b < c → c < channel_count p → (channel_at p b).sender ≡ (channel_at p c).sender → (channel_at p b).receiver ≡ (channel_at p c).receiver → ⊥
    apart b c l k s r = before-apart (channel_at p b) (channel_at p c) (channels_rise (node_count p) 0 0 p.channels e b c l k) s r

pub ordered_plan : (s : List ℕ) → plan_refusal s ≡ 0 → Ordered (plan_of s)
ordered_plan s z = ordered_channels (plan_of s) (ap (λ (n : ℕ). channels_fit n 0 0 (plan_of s).channels) (node_count_lem s) ∙ (accepted s z).channels)
