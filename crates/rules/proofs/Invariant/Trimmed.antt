-- The line after a Trim, node by node and lane by lane: the node's log without the run, and the low clock on the channels that enter it.
use Prim.Native.Nat.{ℕ, ◌<◌}
use mathlib.Core.Path.{◌≡◌, refl, ap, ◌∙◌}
use mathlib.Core.Logic.{◌≢◌, inl, inr}
use mathlib.Core.Bool.{Bool, true, false}
use mathlib.Core.List.{List, [], ◌∷◌, ◌++◌, map}
use native.Mathlib.Decide.{ℕ_discrete}
use lib.ListN.{length}
use Rattle.plan.specs.Plan.{channel_at, node_count, channel_count, entering}
use Rattle.rules.specs.Line.{Entry, Node, Lane, Line, node_at, lane_at, sender_of, parents, with_node}
use Rattle.rules.specs.Trim.{droppable, leading, behind, low_raised, with_log, trimmed_line}
use Rattle.rules.proofs.Lists.Members.{In, in_none, in_first}
use Rattle.rules.proofs.Line.LineLaws.{node_there, node_else, nodes_long}
use Rattle.rules.proofs.Line.LanesLaws.{lanes_in, lanes_away, lanes_count}
use Rattle.rules.proofs.Line.Joins.{in_entering, entering_rise, away_entering}
use Rattle.rules.proofs.Invariant.Inv.{Enters, Shape}
use Rattle.rules.proofs.Invariant.Stays.{moved, everywhere}
use Rattle.rules.proofs.Invariant.Swept.{lanes_line}

-- The longest leading run and what is behind it are the list.
pub leading-behind : {A : Type 0} (f : A → Bool) (xs : List A) → xs ≡ leading f xs ++ behind f xs
leading-behind f [] = refl
leading-behind {A} f (x ∷ xs) = one (f x) (leading-behind f xs)
  where
    one : (t : Bool) → xs ≡ leading f xs ++ behind f xs → x ∷ xs ≡ (elim t [ true ↦ x ∷ leading f xs | false ↦ [] ]) ++ (elim t [ true ↦ behind f xs | false ↦ x ∷ xs ])
    one true e = ap (λ (ys : List A). x ∷ ys) e
    one false e = refl

pub leading_true : {A : Type 0} (f : A → Bool) (xs : List A) {y : A} → In y (leading f xs) → f y ≡ true
leading_true f [] i = absurd (in_none i)
leading_true {A} f (x ∷ xs) {y} i = one (f x) refl i (λ j. leading_true f xs j)
  where
    one : (t : Bool) → f x ≡ t → In y (elim t [ true ↦ x ∷ leading f xs | false ↦ [] ]) → (In y (leading f xs) → f y ≡ true) → f y ≡ true
    one true e j k = elim (in_first j) [ inl q ↦ ap f q ∙ e | inr m ↦ k m ]
    one false e j k = absurd (in_none j)

module _ {A B : Type 0} (h : A → B) (f : B → Bool) where
  pub leading-map : (xs : List A) → leading f (map h xs) ≡ map h (leading (λ (x : A). f (h x)) xs)
  leading-map [] = refl
  leading-map (x ∷ xs) = one (f (h x)) (leading-map xs)
    where
      one : (t : Bool) → leading f (map h xs) ≡ map h (leading (λ (x : A). f (h x)) xs) → ◌≡◌ {A = List B} (elim t [ true ↦ h x ∷ leading f (map h xs) | false ↦ [] ]) (map h (elim t [ true ↦ x ∷ leading (λ (x : A). f (h x)) xs | false ↦ [] ]))
      one true e = ap (λ (ys : List B). h x ∷ ys) e
      one false e = refl

  pub behind-map : (xs : List A) → behind f (map h xs) ≡ map h (behind (λ (x : A). f (h x)) xs)
  behind-map [] = refl
  behind-map (x ∷ xs) = one (f (h x)) (behind-map xs)
    where
      one : (t : Bool) → behind f (map h xs) ≡ map h (behind (λ (x : A). f (h x)) xs) → ◌≡◌ {A = List B} (elim t [ true ↦ behind f (map h xs) | false ↦ h x ∷ map h xs ]) (map h (elim t [ true ↦ behind (λ (x : A). f (h x)) xs | false ↦ x ∷ xs ]))
      one true e = e
      one false e = refl

module _ (l : Line) (n : ℕ) where
  abbrev pub run : List Entry
  run = leading (droppable l n) (node_at l n).log

  abbrev pub rest : List Entry
  rest = behind (droppable l n) (node_at l n).log

  abbrev pub lower : ℕ → Lane → Lane
  lower b = low_raised (parents l.plan (sender_of l b)) (sender_of l b) (leading (droppable l n) (node_at l n).log)

  abbrev pub node_after : Node
  node_after = with_log (behind (droppable l n) (node_at l n).log) (node_at l n)

  abbrev pub trimmed : Line
  trimmed = moved l l.steps (with_node n node_after l).nodes (trimmed_line n l).lanes

  pub trimmed_is : trimmed_line n l ≡ trimmed
  unfolding trimmed_line with_node
  trimmed_is = lanes_line lower (entering l.plan n) (with_node n node_after l)

  pub trimmed_shape : Shape l → Shape trimmed
  unfolding trimmed_line with_node
  trimmed_shape s = record { nodes_long = nodes_long n node_after l ∙ s.nodes_long; lanes_long = lanes_count lower (entering l.plan n) (with_node n node_after l) ∙ s.lanes_long }

  pub trimmed_node : n < length l.nodes → node_at trimmed n ≡ node_after
  unfolding with_node
  trimmed_node h = node_there n node_after l h

  pub trimmed_else : (m : ℕ) → m ≢ n → node_at trimmed m ≡ node_at l m
  unfolding with_node
  trimmed_else m d = node_else n node_after l m d

  pub trimmed_enters : (c : ℕ) → Enters l.plan n c → c < length l.lanes → lane_at trimmed c ≡ lower c (lane_at l c)
  unfolding trimmed_line with_node
  trimmed_enters c (h, q) here = lanes_in lower (with_node n node_after l) c here (entering_rise l.plan n) (in_entering l.plan n c h q)

  pub trimmed_beside : (c : ℕ) → (channel_at l.plan c).receiver ≢ n → lane_at trimmed c ≡ lane_at l c
  unfolding trimmed_line with_node
  trimmed_beside c d = lanes_away lower (with_node n node_after l) c (away_entering l.plan n c d)

  -- What Trim leaves as it is.
  module _ (shape : Shape l) (inside : n < node_count l.plan) where
    here : n < length l.nodes
    here = rw shape.nodes_long inside

    pub node_same : {A : Type 0} (f : Node → A) → f node_after ≡ f (node_at l n) → (m : ℕ) → f (node_at trimmed m) ≡ f (node_at l m)
    node_same f e = everywhere l l.steps trimmed.nodes trimmed.lanes n trimmed_else f (ap f (trimmed_node here) ∙ e)

    pub lane_same : {A : Type 0} (f : Lane → A) → ((c : ℕ) (x : Lane) → f (lower c x) ≡ f x) → (c : ℕ) → c < channel_count l.plan → f (lane_at trimmed c) ≡ f (lane_at l c)
    lane_same f e c h =
        elim (ℕ_discrete (channel_at l.plan c).receiver n) [
          | yes q ↦ ap f (trimmed_enters c (h, q) (rw shape.lanes_long h)) ∙ e c (lane_at l c)
          | no d ↦ ap f (trimmed_beside c d)
        ]
