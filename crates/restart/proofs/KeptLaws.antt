-- The entries of a kept answer, read channel by channel into the parents' rows.
use Prim.Native.Nat.{ℕ, suc, ◌+◌, ◌≤◌, ◌<◌}
use mathlib.Core.Path.{◌≡◌, refl, sym, ap, subst, ◌∙◌}
use mathlib.Core.Logic.{◌≢◌, inl, inr}
use mathlib.Core.Bool.{Bool, true, false, cond}
use mathlib.Core.List.{List, [], ◌∷◌}
use native.Mathlib.Decide.{ℕ_discrete}
use native.Mathlib.Nat.{add-zero}
use native.Mathlib.Omega.{arith}
use borrow.Author.Tests.{eq-eqb, ne_eqb}
use lib.Dec.{eqb}
use lib.ListN.{length, get_or, drop, set, replicate, length-set}
use lib.Seq.{drop-drop, get_or-drop, get_or-set_same, get_or-set_other}
use Rattle.plan.specs.Plan.{plan_of, plan_nodes, plan_channels, channel_count, channel_at, entering}
use Rattle.plan.specs.Lawful.{Each}
use Rattle.plan.specs.Mask.{Rising}
use Rattle.plan.proofs.MaskLaws.{rising_lower, entering_rise, entering_below}
use Rattle.rules.specs.Recover.{beside}
use Rattle.rules.proofs.Lists.Members.{In, here, there, in_none, in_first}
use Rattle.rules.proofs.Line.Joins.{entering_in, in_entering}
use Rattle.rules.proofs.Undamaged.Undamaged.{ordered_fit}
use Rattle.buffer.specs.Ready.{Ready, OnChannel}
use Rattle.buffer.specs.Rows.{rows_long}
use Rattle.buffer.proofs.ReadyLaws.{few_enter, sender_inside}

-- What stands at the place of one of several channels.
beside_none : (bs : List ℕ) (c : ℕ) → beside bs [] c ≡ 0
beside_none [] c = refl
beside_none (b ∷ bs) c = refl

beside_next : (b : ℕ) (bs ts : List ℕ) (c : ℕ) → beside (b ∷ bs) ts c ≡ cond (eqb b c) (get_or ts 0 0) (beside bs (drop 1 ts) c)
beside_next b bs [] c = go (eqb b c)
  where
    go : (t : Bool) → 0 ≡ cond t 0 (beside bs [] c)
    go true = refl
    go false = sym (beside_none bs c)
beside_next b bs (t ∷ ts) c = refl

-- The numbers of a rising list.
rising_above : (k : ℕ) (bs : List ℕ) {c : ℕ} → Rising k bs → In c bs → k ≤ c
rising_above k [] rise i = elim i [ ]
rising_above k (b ∷ bs) rise here = rise.0
rising_above k (b ∷ bs) rise (there i) = let above = rising_above (suc b) bs rise.1 i in omega (arith, above, rise.0)

module _ (s : List ℕ) (n : ℕ) where
  abbrev sender : ℕ → ℕ
  sender c = (channel_at (plan_of s) c).sender

  abbrev all : List ℕ
  all = entering (plan_of s) n

  -- The entries of the channels left stand ahead, those of the others in the rows.
  pub record KeptTo (es channels : List ℕ) (place : ℕ) (entries : List ℕ) : Type 0 where
    pub below : Each (λ (b : ℕ). b < plan_channels s) channels
    pub rise : Rising 0 channels
    pub few : place + length channels ≤ 4
    pub long : length entries ≡ rows_long
    pub within : (c : ℕ) → In c channels → In c all
    pub ahead : (c : ℕ) → In c channels → beside all es c ≡ beside channels (drop place es) c
    pub done : (c : ℕ) → In c all → (In c channels → ⊥) → get_or entries (sender c) 0 ≡ beside all es c

  module _ (ready : Ready s) (inside : n < plan_nodes s) (es : List ℕ) where
    pub kept_start : KeptTo es all 0 (replicate rows_long 0)
    kept_start =
        record { below = entering_below s n; rise = entering_rise (plan_of s) n; few = omega (arith, few_enter ready n inside); long = refl; within = λ c i. i; ahead = λ c i. refl; done = λ c i out. absurd (out i) }

    module _ (channels rest : List ℕ) (place : ℕ) (entries : List ℕ) (b : ℕ) (k : KeptTo es channels place entries) (first : channels ≡ b ∷ rest) where
      pub kept_there : place < 4
      kept_there = omega (arith, k.few, ap length first)

      pub kept_on : OnChannel s b
      kept_on = record { ready = ready; below = (rw first at k.below).0 }

      first_in : In b channels
      first_in = subst (In b) (sym first) here

      later : (c : ℕ) → In c rest → In c channels
      later c i = subst (In c) (sym first) (there i)

      rise : Rising (suc b) rest
      rise = (rw first at k.rise).1

      apart : (c : ℕ) → In c rest → b ≢ c
      apart c i e = let above = rising_above (suc b) rest rise i in omega (arith, above, e)

      -- Another channel that enters the node has another sender.
      other_sender : (c : ℕ) → In c all → c ≢ b → sender c ≢ sender b
      other_sender c i d e =
          let ordered = ordered_fit (plan_of s) ready.fits in
          let (c-there, c-to) = entering_in (plan_of s) n c i in
          let (b_there, b-to) = entering_in (plan_of s) n b (k.within b first_in) in
          d (ordered.alone c b c-there b_there e (c-to ∙ sym b-to))

      sender_small : sender b < 12
      sender_small = omega (arith, sender_inside s b kept_on, ready.nodes)

      next : (c : ℕ) → In c channels → beside all es c ≡ cond (eqb b c) (get_or es place 0) (beside rest (drop (place + 1) es) c)
      next c i =
          k.ahead c i ∙ ap (λ (bs : List ℕ). beside bs (drop place es) c) first ∙ beside_next b rest (drop place es) c
          ∙ rw (get_or-drop place es 0 0, add-zero, drop-drop 1 place es)

      pub kept_turn : KeptTo es rest (place + 1) (set entries (sender b) (get_or es place 0))
      kept_turn =
          record {
            below = (rw first at k.below).1;
            rise = rising_lower 0 (suc b) rest (omega arith) rise;
            few = omega (arith, k.few, ap length first);
            long = length-set entries (sender b) (get_or es place 0) ∙ k.long;
            within = λ c i. k.within c (later c i);
            ahead = λ c i. next c (later c i) ∙ rw (ne_eqb b c (apart c i));
            done = λ c i out. elim (ℕ_discrete c b) [
              | yes e ↦
                  (let put : get_or (set entries (sender b) (get_or es place 0)) (sender c) 0 ≡ get_or es place 0 = rw e (get_or-set_same entries (sender b) (get_or es place 0) 0 (omega (arith, k.long, sender_small))) in
                  put ∙ sym (next c (subst (λ (d : ℕ). In d channels) (sym e) first_in) ∙ rw (eq-eqb b c (sym e))))
              | no d ↦
                  get_or-set_other entries (sender b) (sender c) (get_or es place 0) 0 (other_sender c i d)
                  ∙ k.done c i (λ j. elim (in_first (subst (In c) first j)) [ inl e ↦ d e | inr w ↦ out w ])
            ];
          }

    pub kept_end : (channels : List ℕ) (place : ℕ) (entries : List ℕ) → KeptTo es channels place entries → channels ≡ [] → (c : ℕ) → c < channel_count (plan_of s) → (channel_at (plan_of s) c).receiver ≡ n → get_or entries (sender c) 0 ≡ beside all es c
    kept_end channels place entries k none c h e = k.done c (in_entering (plan_of s) n c h e) (λ i. in_none (subst (In c) none i))
