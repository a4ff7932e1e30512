-- What a receiver has heard through a channel, when it takes one more message.
use Prim.Native.Nat.{ℕ, max}
use mathlib.Core.Path.{◌≡◌, refl, sym, ap, ◌∙◌}
use mathlib.Core.Logic.{◌⊎◌, inl, inr}
use mathlib.Core.Bool.{Bool, true, false, cond}
use mathlib.Core.List.{List, [], ◌∷◌, ◌++◌}
use native.Mathlib.Omega.{arith}
use native.Mathlib.Decide.{dec_le}
use lib.Dec.{eqb}
use borrow.Author.Tests.{eqb-true}
use Rattle.rules.specs.Line.{Origin, fed, made, Message}
use Rattle.rules.specs.Clock.{raise_heard, entry_for}
use Rattle.rules.proofs.Lists.Members.{here, in_left, in_right}
use Rattle.rules.proofs.Invariant.Inv.{HeardFrom}

-- The entry for node a is as it was, or what the message was made from.
abbrev pub HeardMore : ℕ → List ℕ → List ℕ → List ℕ → Origin → Type 0
HeardMore a ps old new o = (entry_for a ps new ≡ entry_for a ps old) ⊎ (o ≡ made a (entry_for a ps new))

pub raised_more : (a : ℕ) (ps hs : List ℕ) (o : Origin) → HeardMore a ps hs (raise_heard ps hs o) o
raised_more a [] [] o = inl refl
raised_more a [] (h ∷ hs) o = inl refl
raised_more a (p ∷ ps) [] o = inl refl
raised_more a (p ∷ ps) (h ∷ hs) fed = inl refl
raised_more a (p ∷ ps) (h ∷ hs) (made s t) = one (eqb p a) (eqb p s) refl refl (raised_more a ps hs (made s t))
  where
    one : (x y : Bool) → eqb p a ≡ x → eqb p s ≡ y → HeardMore a ps hs (raise_heard ps hs (made s t)) (made s t)
        → (cond x (cond y (max h t) h) (entry_for a ps (raise_heard ps hs (made s t))) ≡ cond x h (entry_for a ps hs)) ⊎ (made s t ≡ made a (cond x (cond y (max h t) h) (entry_for a ps (raise_heard ps hs (made s t)))))
    one true true e f ih =
        elim (dec_le t h) [
          | yes z ↦ inl (let q : max h t ≡ h = omega arith in q)
          | no z ↦ inr (let q : t ≡ max h t = omega arith in λ i. made ((sym (eqb-true p s f) ∙ eqb-true p a e) i) (q i))
        ]
    one true false e f ih = inl refl
    one false y e f ih = ih

pub heard_more : {ms : List Message} (m : Message) (a : ℕ) (ps old new : List ℕ) → HeardMore a ps old new m.origin → HeardFrom a (entry_for a ps old) ms → HeardFrom a (entry_for a ps new) (ms ++ m ∷ [])
heard_more {ms} m a ps old new (inr o) was = inr (m, in_right ms here, o)
heard_more m a ps old new (inl q) (inl z) = inl (q ∙ z)
heard_more m a ps old new (inl q) (inr (x, i, o)) = inr (x, in_left (m ∷ []) i, o ∙ ap (made a) (sym q))
