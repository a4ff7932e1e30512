-- A low clock raised by the entries of a run: how long it is, that nothing falls, what it holds at least, and where it comes from.
use Prim.Native.Nat.{ℕ, suc, max, ◌≤◌}
use mathlib.Core.Path.{◌≡◌, refl, sym, ap, ◌∙◌}
use mathlib.Core.Logic.{◌⊎◌, inl, inr}
use mathlib.Core.Bool.{Bool, true, false, cond, true≢false}
use mathlib.Core.List.{List, [], ◌∷◌}
use native.Mathlib.Omega.{arith}
use lib.ListN.{length, drop}
use lib.Dec.{eqb}
use borrow.Author.Tests.{eq-eqb, eqb-true}
use Rattle.rules.specs.Line.{Origin, fed, made, Entry}
use Rattle.rules.specs.Clock.{raise_heard, entry_for}
use Rattle.rules.specs.Trim.{low_by, low_after}
use Rattle.rules.proofs.Lists.Members.{In, here, there}
use Rattle.rules.proofs.Invariant.Heard.{raised_more}

-- What was heard, raised by one origin.
pub raise_long : (ps hs : List ℕ) (o : Origin) → length (raise_heard ps hs o) ≡ length hs
raise_long [] [] o = refl
raise_long [] (h ∷ hs) o = refl
raise_long (p ∷ ps) [] o = refl
raise_long (p ∷ ps) (h ∷ hs) fed = refl
raise_long (p ∷ ps) (h ∷ hs) (made s t) = ap suc (raise_long ps hs (made s t))

pub raise_above : (a : ℕ) (ps hs : List ℕ) (o : Origin) → entry_for a ps hs ≤ entry_for a ps (raise_heard ps hs o)
raise_above a [] [] o = omega arith
raise_above a [] (h ∷ hs) o = omega arith
raise_above a (p ∷ ps) [] o = omega arith
raise_above a (p ∷ ps) (h ∷ hs) fed = omega arith
raise_above a (p ∷ ps) (h ∷ hs) (made s t) = one (eqb p a) (eqb p s) (raise_above a ps hs (made s t))
  where
    one : (x y : Bool) → entry_for a ps hs ≤ entry_for a ps (raise_heard ps hs (made s t)) → cond x h (entry_for a ps hs) ≤ cond x (cond y (max h t) h) (entry_for a ps (raise_heard ps hs (made s t)))
    one true true ih = omega arith
    one true false ih = omega arith
    one false y ih = ih

pub raise_holds : (a v : ℕ) (ps hs : List ℕ) → In a ps → length hs ≡ length ps → v ≤ entry_for a ps (raise_heard ps hs (made a v))
raise_holds a v [] hs i q = elim i [ ]
raise_holds a v (p ∷ ps) [] i q = let no : ⊥ = omega arith in absurd no
raise_holds a v (p ∷ ps) (h ∷ hs) here q = rw (eq-eqb a a refl) (omega arith)
raise_holds a v (p ∷ ps) (h ∷ hs) (there i) q = one (eqb p a) (raise_holds a v ps hs i (omega arith))
  where
    one : (x : Bool) → v ≤ entry_for a ps (raise_heard ps hs (made a v)) → v ≤ cond x (cond x (max h v) h) (entry_for a ps (raise_heard ps hs (made a v)))
    one true ih = omega arith
    one false ih = ih

module _ (ps : List ℕ) (s : ℕ) where
  -- Raised by one entry.
  by_long : (o before : Origin) (low : List ℕ) → length (low_by ps s o before low) ≡ length low
  by_long o before [] = refl
  by_long fed before (k ∷ ks) = refl
  by_long (made q t) before (k ∷ ks) = one (eqb q s)
    where
      one : (x : Bool) → length {A = ℕ} (elim x [ true ↦ max k t ∷ raise_heard ps ks before | false ↦ k ∷ ks ]) ≡ suc (length ks)
      one true = ap suc (raise_long ps ks before)
      one false = refl

  by_above : (a : ℕ) (o before : Origin) (low : List ℕ) → entry_for a ps (drop 1 low) ≤ entry_for a ps (drop 1 (low_by ps s o before low))
  by_above a o before [] = omega arith
  by_above a fed before (k ∷ ks) = omega arith
  by_above a (made q t) before (k ∷ ks) = one (eqb q s)
    where
      one : (x : Bool) → entry_for a ps ks ≤ entry_for a ps (drop {A = ℕ} 1 (elim x [ true ↦ max k t ∷ raise_heard ps ks before | false ↦ k ∷ ks ]))
      one true = raise_above a ps ks before
      one false = omega arith

  by_holds : (a v t : ℕ) (low : List ℕ) → In a ps → length low ≡ suc (length ps) → v ≤ entry_for a ps (drop 1 (low_by ps s (made s t) (made a v) low))
  by_holds a v t [] i q = let no : ⊥ = omega arith in absurd no
  by_holds a v t (k ∷ ks) i q = one (eqb s s) (eq-eqb s s refl) (raise_holds a v ps ks i (omega arith))
    where
      one : (x : Bool) → x ≡ true → v ≤ entry_for a ps (raise_heard ps ks (made a v)) → v ≤ entry_for a ps (drop {A = ℕ} 1 (elim x [ true ↦ max k t ∷ raise_heard ps ks (made a v) | false ↦ k ∷ ks ]))
      one true e h = h
      one false e h = absurd (true≢false (sym e))

  by_from : (a : ℕ) (o before : Origin) (low : List ℕ)
      → (entry_for a ps (drop 1 (low_by ps s o before low)) ≡ entry_for a ps (drop 1 low)) ⊎ ((t : ℕ) × (o ≡ made s t) × (before ≡ made a (entry_for a ps (drop 1 (low_by ps s o before low)))))
  by_from a o before [] = inl refl
  by_from a fed before (k ∷ ks) = inl refl
  by_from a (made q t) before (k ∷ ks) = one (eqb q s) refl
    where
      one : (x : Bool) → eqb q s ≡ x → (entry_for a ps (drop {A = ℕ} 1 (elim x [ true ↦ max k t ∷ raise_heard ps ks before | false ↦ k ∷ ks ])) ≡ entry_for a ps ks)
          ⊎ ((u : ℕ) × (made q t ≡ made s u) × (before ≡ made a (entry_for a ps (drop {A = ℕ} 1 (elim x [ true ↦ max k t ∷ raise_heard ps ks before | false ↦ k ∷ ks ])))))
      one true e = elim (raised_more a ps ks before) [ inl z ↦ inl z | inr z ↦ inr (t, ap (λ (y : ℕ). made y t) (eqb-true q s e), z) ]
      one false e = inl refl

  -- Raised by a run.
  pub after_long : (es : List Entry) (low : List ℕ) → length (low_after ps s es low) ≡ length low
  after_long [] low = refl
  after_long (e ∷ es) low = after_long es (low_by ps s e.origin e.before low) ∙ by_long e.origin e.before low

  pub after_above : (a : ℕ) (es : List Entry) (low : List ℕ) → entry_for a ps (drop 1 low) ≤ entry_for a ps (drop 1 (low_after ps s es low))
  after_above a [] low = omega arith
  after_above a (e ∷ es) low = omega (arith, by_above a e.origin e.before low, after_above a es (low_by ps s e.origin e.before low))

  pub after_holds : (a v t : ℕ) {d : Entry} (es : List Entry) (low : List ℕ) → In d es → d.origin ≡ made s t → d.before ≡ made a v → In a ps → length low ≡ suc (length ps) → v ≤ entry_for a ps (drop 1 (low_after ps s es low))
  after_holds a v t [] low h o b i q = elim h [ ]
  after_holds a v t (e ∷ es) low here o b i q =
      let now : v ≤ entry_for a ps (drop 1 (low_by ps s e.origin e.before low)) = rw (o, b) (by_holds a v t low i q) in
      omega (arith, now, after_above a es (low_by ps s e.origin e.before low))
  after_holds a v t (e ∷ es) low (there j) o b i q = after_holds a v t es (low_by ps s e.origin e.before low) j o b i (by_long e.origin e.before low ∙ q)

  pub after_from : (a : ℕ) (es : List Entry) (low : List ℕ)
      → (entry_for a ps (drop 1 (low_after ps s es low)) ≡ entry_for a ps (drop 1 low)) ⊎ ((d : Entry) × (t : ℕ) × In d es × (d.origin ≡ made s t) × (d.before ≡ made a (entry_for a ps (drop 1 (low_after ps s es low)))))
  after_from a [] low = inl refl
  after_from a (e ∷ es) low =
      elim (after_from a es (low_by ps s e.origin e.before low)) [
        | inr (d, t, i, o, b) ↦ inr (d, t, there i, o, b)
        | inl q ↦ elim (by_from a e.origin e.before low) [
          | inl z ↦ inl (q ∙ z)
          | inr (t, o, b) ↦ inr (e, t, here, o, b ∙ ap (made a) (sym q))
        ]
      ]
