-- The entries heard, raised by what a message was made from.
use Prim.Native.Nat.{ℕ, suc, max, ◌≤◌}
use mathlib.Core.Path.{◌≡◌, refl, ap}
use mathlib.Core.Logic.{inl, inr}
use mathlib.Core.Bool.{Bool, true, false, cond, ◌&&◌}
use mathlib.Core.List.{List, [], ◌∷◌}
use native.Mathlib.Omega.{arith}
use lib.ListN.{length}
use lib.Dec.{ltb, eqb}
use borrow.Author.Tests.{ltb-false, le-ltb}
use Rattle.basics.specs.Bools.{neither_true}
use Rattle.rules.specs.Line.{Origin, fed, made}
use Rattle.rules.specs.Clock.{raise_heard}
use Rattle.rules.specs.Damaged.{origin_times, past_heard}
use Rattle.rules.proofs.Lists.Members.{In, here, there, in_none, in_first}
use Rattle.rules.proofs.Undamaged.TestLaws.{unless, by_unless}

pub raise_long : (ps hs : List ℕ) (o : Origin) → length (raise_heard ps hs o) ≡ length hs
raise_long ps [] o = refl
raise_long [] (h ∷ hs) o = refl
raise_long (p ∷ ps) (h ∷ hs) fed = refl
raise_long (p ∷ ps) (h ∷ hs) (made s t) = ap suc (raise_long ps hs (made s t))

raised_within : (b : Bool) (h t k : ℕ) → h ≤ k → t ≤ k → cond b (max h t) h ≤ k
raised_within true h t k a c = omega arith
raised_within false h t k a c = a

pub raise_within : (ps hs : List ℕ) (o : Origin) (k : ℕ) → ((u : ℕ) → In u hs → u ≤ k) → ((u : ℕ) → In u (origin_times o) → u ≤ k) → (u : ℕ) → In u (raise_heard ps hs o) → u ≤ k
raise_within ps [] o k f g u i = absurd (in_none i)
raise_within [] (h ∷ hs) o k f g u i = f u i
raise_within (p ∷ ps) (h ∷ hs) fed k f g u i = f u i
raise_within (p ∷ ps) (h ∷ hs) (made s t) k f g u i = elim (in_first i) [
  | inl q ↦ (let w = raised_within (eqb p s) h t k (f h here) (g t here) in omega arith)
  | inr j ↦ raise_within ps hs (made s t) k (λ v m. f v (there m)) g u j
]

raised : (b : Bool) (h t : ℕ) → h ≤ cond b (max h t) h
raised true h t = omega arith
raised false h t = omega arith

-- What was covered stays covered.
pub raise_keeps : (ps hs : List ℕ) (o before : Origin) → past_heard ps hs before ≡ false → past_heard ps (raise_heard ps hs o) before ≡ false
raise_keeps ps [] o before e = refl
raise_keeps [] (h ∷ hs) o before e = e
raise_keeps (p ∷ ps) (h ∷ hs) fed before e = e
raise_keeps (p ∷ ps) (h ∷ hs) (made s t) fed e = refl
raise_keeps (p ∷ ps) (h ∷ hs) (made s t) (made q u) e =
    let (a, b) = neither_true (eqb p q && ltb h u) (past_heard ps hs (made q u)) e in
    let now = cond (eqb p s) (max h t) h in
    rw (by_unless (eqb p q) (ltb now u) (λ z. le-ltb now u (let w = ltb-false h u (unless (eqb p q) (ltb h u) a z) in omega (arith, raised (eqb p s) h t)))) (raise_keeps ps hs (made s t) (made q u) b)

-- What raised them is covered.
pub raise_covers : (ps hs : List ℕ) (o : Origin) → past_heard ps (raise_heard ps hs o) o ≡ false
raise_covers ps [] o = refl
raise_covers [] (h ∷ hs) o = refl
raise_covers (p ∷ ps) (h ∷ hs) fed = refl
raise_covers (p ∷ ps) (h ∷ hs) (made s t) = rw (one (eqb p s)) (raise_covers ps hs (made s t))
  where
    one : (b : Bool) → (b && ltb (cond b (max h t) h) t) ≡ false
    one true = le-ltb (max h t) t (omega arith)
    one false = refl
