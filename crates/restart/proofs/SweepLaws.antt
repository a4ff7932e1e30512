-- The channels of a node changed one by one are what the rules change at once.
use Prim.Native.Nat.{ℕ, zero, suc, ◌+◌, ◌≤◌, ◌<◌}
use mathlib.Core.Path.{◌≡◌, refl, sym, ap, subst, ◌∙◌}
use mathlib.Core.Logic.{◌≢◌}
use mathlib.Core.List.{List}
use native.Mathlib.Numerals.{add-one}
use native.Mathlib.Omega.{arith}
use native.Mathlib.Decide.{ℕ_discrete, dec_lt}
use borrow.Author.Tests.{eq-eqb, ne_eqb}
use lib.ListN.{length}
use lib.Seq.{ext_get_or}
use Rattle.plan.specs.declared.Channel.{Channel}
use Rattle.plan.specs.Plan.{Plan, plan_of, channel_at, channel_count}
use Rattle.rules.specs.Line.{Lane, Line, no_lane, lane_at, with_lane}
use Rattle.rules.proofs.Line.LineLaws.{lane_there, lane_else, lanes_long, plan_same}
use Rattle.rules.proofs.Invariant.Inv.{Ordered, Enters, Leaves}
use Rattle.rules.proofs.Invariant.MarkedLaws.{at-ends}
use Rattle.rules.proofs.Invariant.Stays.{moved}
use Rattle.rules.proofs.Invariant.Swept.{swept, swept_line, swept_long, swept_enters, swept_leaves, swept_else}
use Rattle.state.specs.State.{line_of}
use Rattle.state.proofs.InPlace.{line-plan}
use Rattle.buffer.specs.Holds.{Holds, AtLane, LaneNow}
use Rattle.buffer.proofs.HoldsLaws.{lane_same}
use Rattle.restart.specs.Lanes.{swept_to, swept_all, at_ends}
use Rattle.restart.proofs.StateLaws.{at-lane, lane_more}

below : (c b : ℕ) → c < suc b → c ≢ b → c < b
below c b h d = elim (dec_lt c b) [ yes i ↦ i | no i ↦ absurd (d (omega arith)) ]

module _ (f : ℕ → Lane → Lane) (l : Line) where
  pub swept_plan : (b : ℕ) → (swept_to f b l).plan ≡ l.plan
  swept_plan zero = refl
  swept_plan (suc b) = plan_same b (f b (lane_at (swept_to f b l) b)) (swept_to f b l) ∙ swept_plan b

  to_long : (b : ℕ) → length (swept_to f b l).lanes ≡ length l.lanes
  to_long zero = refl
  to_long (suc b) = lanes_long b (f b (lane_at (swept_to f b l) b)) (swept_to f b l) ∙ to_long b

  to_line : (b : ℕ) → swept_to f b l ≡ moved l l.steps l.nodes (swept_to f b l).lanes
  unfolding with_lane
  to_line zero = refl
  to_line (suc b) = ap (with_lane b (f b (lane_at (swept_to f b l) b))) (to_line b)

  -- A channel from b on is as it was; one before is changed.
  to_later : (b c : ℕ) → b ≤ c → lane_at (swept_to f b l) c ≡ lane_at l c
  to_later zero c h = refl
  to_later (suc b) c h = lane_else b (f b (lane_at (swept_to f b l) b)) (swept_to f b l) c (λ q. omega arith) ∙ to_later b c (omega arith)

  to_done : (b c : ℕ) → c < b → c < length l.lanes → lane_at (swept_to f b l) c ≡ f c (lane_at l c)
  to_done zero c h i = let no : ⊥ = omega arith in absurd no
  to_done (suc b) c h i = elim (ℕ_discrete c b) [
    | yes q ↦ rw q (lane_there b (f b (lane_at (swept_to f b l) b)) (swept_to f b l) (omega (arith, to_long b)) ∙ ap (f b) (to_later b b (omega arith)))
    | no d ↦ lane_else b (f b (lane_at (swept_to f b l) b)) (swept_to f b l) c d ∙ to_done b c (below c b h d) i
  ]

  -- The state after so many channels.
  pub record SweptIn (t : List ℕ) (b : ℕ) : Type 0 where
    pub within : b ≤ channel_count l.plan
    pub holds : Holds t (swept_to f b l)

  pub swept_start : (s : List ℕ) → Holds s l → SweptIn s 0
  swept_start s h = record { within = omega arith; holds = h }

  pub swept_on : (t : List ℕ) (b : ℕ) → b < channel_count l.plan → SweptIn t b → AtLane t b
  swept_on t b h i = at-lane i.holds b (rw (swept_plan b) h)

  pub swept_plan_in : (t : List ℕ) (b : ℕ) → SweptIn t b → (line_of t).plan ≡ l.plan
  swept_plan_in t b i = ap (λ (k : Line). k.plan) i.holds.same ∙ swept_plan b

  pub swept_turn : (t : List ℕ) (b : ℕ) (u : List ℕ) → b < channel_count l.plan → SweptIn t b → LaneNow t b (f b) u → SweptIn u (b + 1)
  swept_turn t b u h i now = record { within = omega arith; holds = rw (add-one b) (lane_more i.holds b (f b) u now) }

  pub swept_end : (t : List ℕ) (b : ℕ) → channel_count l.plan ≤ b → SweptIn t b → Holds t (swept_all f l)
  swept_end t b h i = let e : b ≡ channel_count l.plan = omega (arith, i.within) in subst (λ (c : ℕ). Holds t (swept_to f c l)) e i.holds

-- The change of a channel, by its ends.
module _ (p : Plan) (n : ℕ) (f g : ℕ → Lane → Lane) (c : ℕ) (x : Lane) where
  pub ends_enters : (channel_at p c).receiver ≡ n → at_ends p n f g c x ≡ f c x
  ends_enters q = rw (eq-eqb (channel_at p c).receiver n q)

  pub ends_leaves : (channel_at p c).receiver ≢ n → (channel_at p c).sender ≡ n → at_ends p n f g c x ≡ g c x
  ends_leaves d q = rw (ne_eqb (channel_at p c).receiver n d, eq-eqb (channel_at p c).sender n q)

  pub ends_else : (channel_at p c).receiver ≢ n → (channel_at p c).sender ≢ n → at_ends p n f g c x ≡ x
  ends_else d e = rw (ne_eqb (channel_at p c).receiver n d, ne_eqb (channel_at p c).sender n e)

-- A channel's lane so changed, by its ends as they are read.
module _ (s : List ℕ) (n : ℕ) (f g : ℕ → Lane → Lane) (b : ℕ) (t : List ℕ) where
  abbrev x : Lane
  x = lane_at (line_of s) b

  changed : (h k : Lane → Lane) → k x ≡ h x → LaneNow s b h t → LaneNow s b k t
  changed h k e now = record { holds = subst (λ (y : Lane). Holds t (with_lane b y (line_of s))) (sym e) now.holds; on = now.on }

  ends : (h : Channel → ℕ) → h (channel_at (line_of s).plan b) ≡ h (channel_at (plan_of s) b)
  ends h = ap (λ (p : Plan). h (channel_at p b)) (line-plan s)

  pub on_enters : (channel_at (plan_of s) b).receiver ≡ n → LaneNow s b (f b) t → LaneNow s b (at_ends (line_of s).plan n f g b) t
  on_enters q = changed (f b) (at_ends (line_of s).plan n f g b) (ends_enters (line_of s).plan n f g b x (ends (λ c. c.receiver) ∙ q))

  pub on_leaves : (channel_at (plan_of s) b).receiver ≢ n → (channel_at (plan_of s) b).sender ≡ n → LaneNow s b (g b) t → LaneNow s b (at_ends (line_of s).plan n f g b) t
  on_leaves d q = changed (g b) (at_ends (line_of s).plan n f g b) (ends_leaves (line_of s).plan n f g b x (λ e. d (sym (ends (λ c. c.receiver)) ∙ e)) (ends (λ c. c.sender) ∙ q))

  pub on_else : (channel_at (plan_of s) b).receiver ≢ n → (channel_at (plan_of s) b).sender ≢ n → Holds t (line_of s) → AtLane t b → LaneNow s b (at_ends (line_of s).plan n f g b) t
  on_else d e h on = changed (λ y. y) (at_ends (line_of s).plan n f g b) (ends_else (line_of s).plan n f g b x (λ q. d (sym (ends (λ c. c.receiver)) ∙ q)) (λ q. e (sym (ends (λ c. c.sender)) ∙ q))) (record { holds = subst (Holds t) (sym (lane_same b (line_of s))) h; on = on })

module _ (entered left f g : ℕ → Lane → Lane) (l : Line) (n : ℕ) (ordered : Ordered l.plan) (long : length l.lanes ≡ channel_count l.plan)
    (enters : (c : ℕ) → Enters l.plan n c → f c (lane_at l c) ≡ entered c (lane_at l c))
    (leaves : (c : ℕ) → Leaves l.plan n c → g c (lane_at l c) ≡ left c (lane_at l c)) where
  abbrev h : ℕ → Lane → Lane
  h = at_ends l.plan n f g

  lane_swept : (c : ℕ) → c < length l.lanes → lane_at (swept_all h l) c ≡ lane_at (swept entered left l n ordered long) c
  lane_swept c i =
      let here : c < channel_count l.plan = omega arith in
      let x = lane_at l c in
      to_done h l (channel_count l.plan) c here i
      ∙ at-ends l.plan n c here
      (λ e. ends_enters l.plan n f g c x e.1 ∙ enters c e ∙ sym (swept_enters entered left l n ordered long c e))
      (λ e. ends_leaves l.plan n f g c x (λ q. omega (arith, ordered.forward c here, e.1)) e.1 ∙ leaves c e ∙ sym (swept_leaves entered left l n ordered long c e))
      (λ r s. ends_else l.plan n f g c x r s ∙ sym (swept_else entered left l n ordered long c r s))

  pub swept_same : swept_all h l ≡ swept entered left l n ordered long
  swept_same =
      let m = channel_count l.plan in
      to_line h l m
      ∙ ap (moved l l.steps l.nodes)
      (ext_get_or no_lane (swept_all h l).lanes (swept entered left l n ordered long).lanes (to_long h l m ∙ sym (swept_long entered left l n ordered long)) (λ c i. lane_swept c (omega (arith, to_long h l m))))
      ∙ sym (swept_line entered left l n ordered long)
