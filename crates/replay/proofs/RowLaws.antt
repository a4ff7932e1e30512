-- The goals of all rows, target by target, and the rows of a node, one by one.
use Prim.Native.Nat.{ℕ, suc, ◌+◌, ◌-◌, ◌≤◌, ◌<◌, max}
use mathlib.Core.Path.{◌≡◌, refl, sym, ap, ap₂, ◌∙◌}
use mathlib.Core.Logic.{◌≢◌}
use mathlib.Core.Bool.{Bool, true, false, not, cond, ◌&&◌, ◌||◌}
use mathlib.Core.List.{List, ◌∷◌, map}
use native.Mathlib.Numerals.{add-one}
use native.Mathlib.Omega.{arith}
use borrow.Author.Tests.{ne_eqb, eq-eqb}
use lib.Dec.{leb, eqb}
use lib.ListN.{length, get_or, drop}
use lib.Seq.{drop-cons}
use Rattle.plan.specs.declared.Channel.{Channel}
use Rattle.plan.specs.Plan.{Plan, plan_of, channel_count, channel_at, keep_if, entering}
use Rattle.rules.specs.Lists.{keep_one, keep, all_of, greatest_of}
use Rattle.rules.specs.Line.{Target, Line, node_at, lane_at, sender_of, receiver_of}
use Rattle.rules.specs.Recover.{row_goal}
use Rattle.state.specs.State.{line_of}
use Rattle.state.proofs.InPlace.{line-plan}
use Rattle.buffer.specs.Nothing.{no_target}
use Rattle.buffer.proofs.LookLaws.{numbers_on, numbers_turn, numbers_end}
use Rattle.buffer.specs.Rows.{Rows}
use Rattle.recover.specs.Found.{raised_at}
use Rattle.replay.specs.After.{taken_after, row_after}

-- One target in front of others.
goal_cons : (t : Target) (ts : List Target) (parent : ℕ) → row_goal (t ∷ ts) parent ≡ cond (eqb t.parent parent) (max (row_goal ts parent) t.parent_time) (row_goal ts parent)
goal_cons t ts parent = one (eqb t.parent parent)
  where
    one : (b : Bool)
        → greatest_of (map (λ (u : Target). u.parent_time) (keep_one b t (keep (λ (u : Target). eqb u.parent parent) ts)))
        ≡ cond b (max (row_goal ts parent) t.parent_time) (row_goal ts parent)
    one true = omega arith
    one false = refl

-- The goals by the targets from `left` on.
pub record GoalsFrom (ts : List Target) (goals : List ℕ) (left : ℕ) : Type 0 where
  pub few : left ≤ length ts
  pub now : Rows goals (row_goal (drop left ts))

pub goals_turn : (ts : List Target) (goals : List ℕ) (left : ℕ) (g : Target) (next : List ℕ) → 0 < left → g ≡ get_or ts (left - 1) no_target → Rows next (raised_at goals g.parent g.parent_time) → GoalsFrom ts goals left
    → GoalsFrom ts next (left - 1)
goals_turn ts goals left g next h e raised k =
    let i : ℕ = left - 1 in
    let after : suc i ≡ left = omega arith in
    let behind : drop i ts ≡ g ∷ drop left ts = drop-cons ts i no_target (omega (arith, k.few)) ∙ ap₂ (λ (t : Target) (j : ℕ). t ∷ drop j ts) (sym e) after in
    record {
      few = omega (arith, k.few);
      now = record {
        long = raised.long;
        each = λ q l. raised.each q l
            ∙ ap (λ (x : ℕ). cond (eqb g.parent q) (max x g.parent_time) x) (k.now.each q l)
            ∙ sym (ap (λ (us : List Target). row_goal us q) behind ∙ goal_cons g (drop left ts) q);
      };
    }

-- ---- a test of every channel that enters a node

module _ (p : Plan) (n : ℕ) (f : ℕ → Bool) where
  abbrev enters : Channel → Bool
  enters c = eqb c.receiver n

  -- What is left of the test from channel c on.
  abbrev pub all_from : ℕ → Bool
  all_from c = all_of f (numbers_on p (λ (d : Channel). eqb d.receiver n) c)

  all_kept : (t : Bool) (c : ℕ) (cs : List ℕ) → all_of f (keep_if t c cs) ≡ ((not t || f c) && all_of f cs)
  all_kept true c cs = refl
  all_kept false c cs = refl

  pub all_turn : (c : ℕ) → c < channel_count p → all_from c ≡ ((not (eqb (channel_at p c).receiver n) || f c) && all_from (c + 1))
  all_turn c h =
      ap (all_of f) (numbers_turn p enters c h)
      ∙ all_kept (enters (channel_at p c)) c (numbers_on p enters (suc c))
      ∙ ap (λ (d : ℕ). (not (enters (channel_at p c)) || f c) && all_from d) (sym (add-one c))

  pub all_end : (c : ℕ) → channel_count p ≤ c → all_from c ≡ true
  all_end c h = ap (all_of f) (numbers_end p enters c h)

  pub all_start : all_from 0 ≡ all_of f (entering p n)
  unfolding entering
  all_start = refl

-- ---- a row once a message is taken

module _ (s : List ℕ) (n b time c : ℕ) where
  abbrev l : Line
  l = line_of s

  -- What is asked of a channel: that it does not enter the node, or that its row is complete.
  abbrev pub row_asked : Bool
  row_asked = not (eqb (receiver_of (line_of s) c) n) || row_after (line_of s) n b time c

  pub row_else : (r : ℕ) → r ≡ (channel_at (plan_of s) c).receiver → r ≢ n → true ≡ row_asked
  row_else r e d =
      let other : eqb (receiver_of l c) n ≡ false = ne_eqb (receiver_of l c) n (λ q. d (e ∙ ap (λ (p : Plan). (channel_at p c).receiver) (sym (line-plan s)) ∙ q)) in
      sym (ap (λ (t : Bool). not t || row_after l n b time c) other)

  pub row_here : (r from goal taken : ℕ) → r ≡ (channel_at (plan_of s) c).receiver → r ≡ n → from ≡ (channel_at (plan_of s) c).sender → goal ≡ row_goal (node_at (line_of s) n).targets from
      → taken ≡ taken_after (line_of s) b time c → leb goal taken ≡ row_asked
  row_here r from goal taken e d f g t =
      let same : eqb (receiver_of l c) n ≡ true = eq-eqb (receiver_of l c) n (ap (λ (p : Plan). (channel_at p c).receiver) (line-plan s) ∙ sym e ∙ d) in
      let sender : from ≡ sender_of l c = f ∙ ap (λ (p : Plan). (channel_at p c).sender) (sym (line-plan s)) in
      ap₂ leb (g ∙ ap (row_goal (node_at l n).targets) sender) t ∙ sym (ap (λ (u : Bool). not u || row_after l n b time c) same)

  pub taken_else : (taken : ℕ) → taken ≡ (lane_at (line_of s) c).taken → c ≢ b → taken ≡ taken_after (line_of s) b time c
  taken_else taken e d = e ∙ sym (rw (ne_eqb c b d))

  pub taken_here : (taken : ℕ) → taken ≡ max (lane_at (line_of s) c).taken time → c ≡ b → taken ≡ taken_after (line_of s) b time c
  taken_here taken e d = e ∙ sym (rw (eq-eqb c b d))
