-- Changes to several channels at once, and numbers of channels, which rise.
use Prim.Native.Nat.{ℕ, zero, suc, ◌+◌, ◌<◌, ◌≤◌}
use mathlib.Core.Path.{◌≡◌, refl, sym, ap, subst, ◌∙◌}
use mathlib.Core.Logic.{◌≢◌}
use mathlib.Core.Bool.{Bool, true, false}
use mathlib.Core.List.{List, [], ◌∷◌}
use native.Mathlib.Omega.{arith}
use native.Mathlib.Nat.{add-zero}
use lib.ListN.{length, get_or}
use Rattle.plan.specs.Plan.{numbers_from, keep_if}
use Rattle.rules.specs.Line.{Node, Lane, Line, node_at, lane_at, with_node, with_lane, with_lanes}
use Rattle.rules.proofs.Lists.Members.{In, here, there}
use Rattle.rules.proofs.Line.LineLaws.{lane_there, lane_else, node_kept, plan_same, lanes_long}

-- Numbers that rise from above a bound: each stands once.
pub data Rising : ℕ → List ℕ → Type 0 where
  none : {k : ℕ} → Rising k []
  more : {k b : ℕ} {bs : List ℕ} → k ≤ b → Rising (suc b) bs → Rising k (b ∷ bs)

pub in_above : {k b : ℕ} {bs : List ℕ} → Rising k bs → In b bs → k ≤ b
in_above none i = elim i [ ]
in_above (more l r) here = l
in_above (more {b = c} l r) (there i) = let h = in_above r i in omega arith

rising_lower : {j k : ℕ} {bs : List ℕ} → j ≤ k → Rising k bs → Rising j bs
rising_lower l none = none
rising_lower {j} {k} l (more {b = b} h r) = more {k = j} {b = b} (omega arith) r

pub data Away (c : ℕ) : List ℕ → Type 0 where
  away_none : Away c []
  away_more : {b : ℕ} {bs : List ℕ} → b ≢ c → Away c bs → Away c (b ∷ bs)

rising_away : {c k : ℕ} {bs : List ℕ} → c < k → Rising k bs → Away c bs
rising_away l none = away_none
rising_away {c} l (more {b = b} h r) = away_more {b = b} (λ q. omega arith) (rising_away {c = c} {k = suc b} (omega arith) r)

module _ {A : Type 0} (f : A → Bool) where
  pub numbers_rise : (k : ℕ) (xs : List A) → Rising k (numbers_from k f xs)
  numbers_rise k [] = none
  numbers_rise k (x ∷ xs) = one (f x) (numbers_rise (suc k) xs)
    where
      one : (t : Bool) → Rising (suc k) (numbers_from (suc k) f xs) → Rising k (keep_if t k (numbers_from (suc k) f xs))
      one true r = more {k = k} {b = k} (omega arith) r
      one false r = rising_lower (omega arith) r

  -- A number is among them exactly if its thing passes the test.
  pub numbers_in : (k : ℕ) (xs : List A) (d : A) (b : ℕ) → b < length xs → f (get_or xs b d) ≡ true → In (k + b) (numbers_from k f xs)
  numbers_in k [] d b h e = let no : ⊥ = omega arith in absurd no
  numbers_in k (x ∷ xs) d zero h e = rw (e, add-zero) here
  numbers_in k (x ∷ xs) d (suc b) h e = one (f x) (subst (λ (z : ℕ). In z (numbers_from (suc k) f xs)) shift (numbers_in (suc k) xs d b (omega arith) e))
    where
      shift : suc k + b ≡ k + suc b
      shift = omega arith

      one : (t : Bool) → In (k + suc b) (numbers_from (suc k) f xs) → In (k + suc b) (keep_if t k (numbers_from (suc k) f xs))
      one true i = there i
      one false i = i

  pub numbers_away : (k : ℕ) (xs : List A) (d : A) (b : ℕ) → f (get_or xs b d) ≡ false → Away (k + b) (numbers_from k f xs)
  numbers_away k [] d b e = away_none
  numbers_away k (x ∷ xs) d zero e = rw (e, add-zero) (rising_away {c = k} {k = suc k} (omega arith) (numbers_rise (suc k) xs))
  numbers_away k (x ∷ xs) d (suc b) e = one (f x) (subst (λ (z : ℕ). Away z (numbers_from (suc k) f xs)) shift (numbers_away (suc k) xs d b e))
    where
      shift : suc k + b ≡ k + suc b
      shift = omega arith

      one : (t : Bool) → Away (k + suc b) (numbers_from (suc k) f xs) → Away (k + suc b) (keep_if t k (numbers_from (suc k) f xs))
      one true a = away_more {b = k} (λ q. omega arith) a
      one false a = a

module _ (f : ℕ → Lane → Lane) where
  pub lanes_node : (bs : List ℕ) (l : Line) (n : ℕ) → node_at (with_lanes f bs l) n ≡ node_at l n
  lanes_node [] l n = refl
  lanes_node (b ∷ bs) l n = lanes_node bs (with_lane b (f b (lane_at l b)) l) n ∙ node_kept b (f b (lane_at l b)) l n

  -- Before a node is changed, or behind it.
  pub lanes_first : (bs : List ℕ) (n : ℕ) (x : Node) (l : Line) → with_node n x (with_lanes f bs l) ≡ with_lanes f bs (with_node n x l)
  unfolding with_node with_lane
  lanes_first [] n x l = refl
  lanes_first (b ∷ bs) n x l = lanes_first bs n x (with_lane b (f b (lane_at l b)) l)

  pub lanes_plan : (bs : List ℕ) (l : Line) → (with_lanes f bs l).plan ≡ l.plan
  lanes_plan [] l = refl
  lanes_plan (b ∷ bs) l = lanes_plan bs (with_lane b (f b (lane_at l b)) l) ∙ plan_same b (f b (lane_at l b)) l

  pub lanes_count : (bs : List ℕ) (l : Line) → length (with_lanes f bs l).lanes ≡ length l.lanes
  lanes_count [] l = refl
  lanes_count (b ∷ bs) l = lanes_count bs (with_lane b (f b (lane_at l b)) l) ∙ lanes_long b (f b (lane_at l b)) l

  -- A channel that is not among them keeps its state; one that is has the change once.
  kept_away : (c : ℕ) {bs : List ℕ} (l : Line) → Away c bs → lane_at (with_lanes f bs l) c ≡ lane_at l c
  kept_away c l away_none = refl
  kept_away c l (away_more {b = b} d a) = kept_away c (with_lane b (f b (lane_at l b)) l) a ∙ lane_else b (f b (lane_at l b)) l c (λ q. d (sym q))

  pub lanes_away : {bs : List ℕ} (l : Line) (c : ℕ) → Away c bs → lane_at (with_lanes f bs l) c ≡ lane_at l c
  lanes_away l c a = kept_away c l a

  pub lanes_in : {bs : List ℕ} {k : ℕ} (l : Line) (c : ℕ) → c < length l.lanes → Rising k bs → In c bs → lane_at (with_lanes f bs l) c ≡ f c (lane_at l c)
  lanes_in l c h none i = elim i [ ]
  lanes_in l c h (more q r) here = lanes_away (with_lane c (f c (lane_at l c)) l) c (rising_away {k = suc c} (omega arith) r) ∙ lane_there c (f c (lane_at l c)) l h
  lanes_in l c h (more {b = b} q r) (there i) =
      let above = in_above r i in
      lanes_in (with_lane b (f b (lane_at l b)) l) c (rw (lanes_long b (f b (lane_at l b)) l) h) r i ∙ ap (f c) (lane_else b (f b (lane_at l b)) l c (λ z. omega arith))
