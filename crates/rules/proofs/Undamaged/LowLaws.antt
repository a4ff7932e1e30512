-- The low clock beside the clock: it stays below where the clock rises, and where what raises it is covered by the clock.
use Prim.Native.Nat.{ℕ, zero, suc, max, ◌≤◌}
use mathlib.Core.Path.{◌≡◌, refl}
use mathlib.Core.Logic.{inl, inr}
use mathlib.Core.Bool.{Bool, true, false, cond, ◌&&◌}
use mathlib.Core.List.{List, [], ◌∷◌}
use native.Mathlib.Omega.{arith}
use lib.ListN.{length, replicate}
use lib.Dec.{ltb, eqb}
use borrow.Author.Tests.{ltb-false, le-ltb, eqb-true}
use Rattle.basics.specs.Bools.{neither_true}
use Rattle.rules.specs.Line.{Origin, fed, made, Entry}
use Rattle.rules.specs.Clock.{raise_heard, entry_for}
use Rattle.rules.specs.Trim.{low_by, low_after}
use Rattle.rules.specs.Damaged.{past_heard, low_past}
use Rattle.rules.proofs.Lists.Members.{In, here, there, in_none, in_first}
use Rattle.rules.proofs.Undamaged.TestLaws.{unless}

-- The clock's entries for the sender's parents rise.
heard_rises : (ks ps hs : List ℕ) (o : Origin) → low_past ks hs ≡ false → low_past ks (raise_heard ps hs o) ≡ false
heard_rises [] ps hs o e = refl
heard_rises (k ∷ ks) [] [] o e = refl
heard_rises (k ∷ ks) (p ∷ ps) [] o e = refl
heard_rises (k ∷ ks) [] (h ∷ hs) o e = e
heard_rises (k ∷ ks) (p ∷ ps) (h ∷ hs) fed e = e
heard_rises (k ∷ ks) (p ∷ ps) (h ∷ hs) (made s t) e =
    let (a, b) = neither_true (ltb h k) (low_past ks hs) e in
    let up : k ≤ cond (eqb p s) (max h t) h = higher (eqb p s) (ltb-false h k a) in
    rw (le-ltb (cond (eqb p s) (max h t) h) k up) (heard_rises ks ps hs (made s t) b)
  where
    higher : (x : Bool) → k ≤ h → k ≤ cond x (max h t) h
    higher true q = omega arith
    higher false q = q

pub clock_rises : (low ps hs : List ℕ) (taken t : ℕ) (o : Origin) → low_past low (taken ∷ hs) ≡ false → low_past low (max taken t ∷ raise_heard ps hs o) ≡ false
clock_rises [] ps hs taken t o e = refl
clock_rises (k ∷ ks) ps hs taken t o e =
    let (a, b) = neither_true (ltb taken k) (low_past ks hs) e in
    let up = ltb-false taken k a in
    rw (le-ltb (max taken t) k (omega arith)) (heard_rises ks ps hs o b)

-- Nothing is past a clock that has nothing.
pub none_past : (k : ℕ) (ts : List ℕ) → low_past (replicate k 0) ts ≡ false
none_past zero ts = refl
none_past (suc k) [] = refl
none_past (suc k) (t ∷ ts) = rw (le-ltb t 0 (omega arith)) (none_past k ts)

-- Raised by what the clock covers.
low_covered : (ps ks hs : List ℕ) (o : Origin) → low_past ks hs ≡ false → past_heard ps hs o ≡ false → low_past (raise_heard ps ks o) hs ≡ false
low_covered [] [] hs o e c = refl
low_covered (p ∷ ps) [] hs o e c = refl
low_covered [] (k ∷ ks) hs o e c = e
low_covered (p ∷ ps) (k ∷ ks) hs fed e c = e
low_covered (p ∷ ps) (k ∷ ks) [] (made s t) e c = refl
low_covered (p ∷ ps) (k ∷ ks) (h ∷ hs) (made s t) e c =
    let (a, b) = neither_true (ltb h k) (low_past ks hs) e in
    let (x, y) = neither_true (eqb p s && ltb h t) (past_heard ps hs (made s t)) c in
    rw (le-ltb h (cond (eqb p s) (max k t) k) (lower (eqb p s) refl (ltb-false h k a) x)) (low_covered ps ks hs (made s t) b y)
  where
    lower : (x : Bool) → eqb p s ≡ x → k ≤ h → (eqb p s && ltb h t) ≡ false → cond x (max k t) k ≤ h
    lower true q u v = let w = ltb-false h t (unless (eqb p s) (ltb h t) v q) in omega arith
    lower false q u v = u

-- Covered: the clock on a channel from s, `taken` and hs, is not passed by an input that came from s.
abbrev pub Below : List ℕ → ℕ → ℕ → List ℕ → Origin → Origin → Type 0
Below ps s taken hs fed before = Unit {0}
Below ps s taken hs (made q t) before = q ≡ s → (t ≤ taken) × (past_heard ps hs before ≡ false)

by_below : (ps : List ℕ) (s taken : ℕ) (hs low : List ℕ) (o before : Origin) → low_past low (taken ∷ hs) ≡ false → Below ps s taken hs o before → low_past (low_by ps s o before low) (taken ∷ hs) ≡ false
by_below ps s taken hs [] o before e c = refl
by_below ps s taken hs (k ∷ ks) fed before e c = e
by_below ps s taken hs (k ∷ ks) (made q t) before e c = one (eqb q s) refl
  where
    one : (x : Bool) → eqb q s ≡ x → low_past (elim x [ true ↦ max k t ∷ raise_heard ps ks before | false ↦ k ∷ ks ]) (taken ∷ hs) ≡ false
    one true z =
        let (a, b) = neither_true (ltb taken k) (low_past ks hs) e in
        let (x, y) = c (eqb-true q s z) in
        let u = ltb-false taken k a in
        rw (le-ltb taken (max k t) (omega arith)) (low_covered ps ks hs before b y)
    one false z = e

pub after_below : (ps : List ℕ) (s taken : ℕ) (hs : List ℕ) (es : List Entry) (low : List ℕ) → low_past low (taken ∷ hs) ≡ false → ((e : Entry) → In e es → Below ps s taken hs e.origin e.before) → low_past (low_after ps s es low) (taken ∷ hs) ≡ false
after_below ps s taken hs [] low e c = e
after_below ps s taken hs (x ∷ es) low e c = after_below ps s taken hs es (low_by ps s x.origin x.before low) (by_below ps s taken hs low x.origin x.before e (c x here)) (λ d i. c d (there i))

-- What the low clock holds is not past what the clock holds.
pub low_within : (k : ℕ) (ks ts : List ℕ) → length ks ≡ length ts → low_past ks ts ≡ false → ((t : ℕ) → In t ts → t ≤ k) → (u : ℕ) → In u ks → u ≤ k
low_within k [] ts q e f u i = absurd (in_none i)
low_within k (x ∷ ks) [] q e f u i = let no : ⊥ = omega arith in absurd no
low_within k (x ∷ ks) (t ∷ ts) q e f u i =
    let (a, b) = neither_true (ltb t x) (low_past ks ts) e in
    let w = ltb-false t x a in
    let h = f t here in
    elim (in_first i) [ inl z ↦ omega arith | inr j ↦ low_within k ks ts (omega arith) b (λ v m. f v (there m)) u j ]

pub entry-within : (k a : ℕ) (ps hs : List ℕ) → ((u : ℕ) → In u hs → u ≤ k) → entry_for a ps hs ≤ k
entry-within k a [] hs f = omega arith
entry-within k a (p ∷ ps) [] f = omega arith
entry-within k a (p ∷ ps) (h ∷ hs) f = one (eqb p a) (f h here) (entry-within k a ps hs (λ u i. f u (there i)))
  where
    one : (x : Bool) → h ≤ k → entry_for a ps hs ≤ k → cond x h (entry_for a ps hs) ≤ k
    one true u v = u
    one false u v = v
