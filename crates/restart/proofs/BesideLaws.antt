-- A node's neighbours, channel by channel.
use Prim.Native.Nat.{ℕ, ◌+◌, ◌≤◌, ◌<◌}
use mathlib.Core.Path.{◌≡◌, refl, ap, ap₂, ◌∙◌}
use mathlib.Core.Bool.{Bool, true, false, ◌&&◌, ◌||◌}
use mathlib.Core.List.{List, [], ◌∷◌, ◌++◌}
use lib.Dec.{eqb}
use Rattle.plan.specs.declared.Channel.{Channel}
use Rattle.plan.specs.Plan.{channel_at, channel_count, entering, leaving}
use Rattle.rules.specs.Lists.{keep_one, any_of}
use Rattle.rules.specs.Line.{Line, node_at, sender_of, receiver_of}
use Rattle.rules.specs.Step.{neighbour_crashed}
use Rattle.recover.proofs.ChildLaws.{numbers_to, numbers_turn, numbers_whole}
use Rattle.restart.specs.Answers.{beside_on}

any_more : {A : Type 0} (f : A → Bool) (t : Bool) (x : A) (xs : List A) → any_of f (xs ++ keep_one t x []) ≡ (any_of f xs || (t && f x))
any_more f true x [] = last (f x)
  where
    last : (v : Bool) → (v || false) ≡ v
    last true = refl
    last false = refl
any_more f false x [] = refl
any_more f t x (y ∷ xs) = ap (λ (r : Bool). f y || r) (any_more f t x xs) ∙ after (f y) (any_of f xs) (t && f x)
  where
    after : (a b c : Bool) → (a || (b || c)) ≡ ((a || b) || c)
    after true b c = refl
    after false b c = refl

swap : (a b c d : Bool) → ((a || b) || (c || d)) ≡ ((a || c) || (b || d))
swap true b c d = refl
swap false true true d = refl
swap false true false d = refl
swap false false c d = refl

module _ (l : Line) (n : ℕ) where
  abbrev parent : ℕ → Bool
  parent b = (node_at l (sender_of l b)).crashed

  abbrev child : ℕ → Bool
  child b = (node_at l (receiver_of l b)).crashed

  abbrev enters : Channel → Bool
  enters c = eqb c.receiver n

  abbrev leaves : Channel → Bool
  leaves c = eqb c.sender n

  -- Those on the channels before b.
  abbrev pub beside_to : ℕ → Bool
  beside_to b = any_of (λ (c : ℕ). (node_at l (sender_of l c)).crashed) (numbers_to l.plan (λ (c : Channel). eqb c.receiver n) b)
      || any_of (λ (c : ℕ). (node_at l (receiver_of l c)).crashed) (numbers_to l.plan (λ (c : Channel). eqb c.sender n) b)

  pub beside_turn : (b : ℕ) → b < channel_count l.plan → beside_to (b + 1) ≡ (beside_to b || beside_on l n b)
  beside_turn b h =
      let p = l.plan in
      ap₂ ◌||◌ (ap (any_of parent) (numbers_turn p enters b h) ∙ any_more parent (enters (channel_at p b)) b (numbers_to p enters b)) (ap (any_of child) (numbers_turn p leaves b h) ∙ any_more child (leaves (channel_at p b)) b (numbers_to p leaves b))
      ∙ swap (any_of parent (numbers_to p enters b)) (enters (channel_at p b) && parent b) (any_of child (numbers_to p leaves b)) (leaves (channel_at p b) && child b)

  pub beside-whole : (b : ℕ) → channel_count l.plan ≤ b → beside_to b ≡ neighbour_crashed l n
  unfolding neighbour_crashed entering leaving
  beside-whole b h = ap₂ ◌||◌ (ap (any_of parent) (numbers_whole l.plan enters b h)) (ap (any_of child) (numbers_whole l.plan leaves b h))
