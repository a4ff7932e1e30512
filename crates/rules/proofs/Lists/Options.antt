-- Optional values: what is there is one thing, and nothing is not something.
use mathlib.Core.Path.{◌≡◌, refl, sym}
use mathlib.Core.Bool.{true, false, true≢false}
use mathlib.Core.Option.{Option, none, some, some-injective, none-ne-some, map}
use Rattle.rules.specs.Step.{is_nothing}

module _ {A : Type 0} where
  pub some_same : {x y : A} → some x ≡ some y → x ≡ y
  some_same {x} {y} e = some-injective x y e

  pub none_some : {B : Type 0} {x : A} → none ≡ some x → B
  none_some {x = x} e = absurd (none-ne-some x e)

  pub nothing_none : (o : Option A) → is_nothing o ≡ true → o ≡ none
  nothing_none none e = refl
  nothing_none (some x) e = absurd (true≢false (sym e))

  pub something_there : (o : Option A) → is_nothing o ≡ false → (x : A) × (o ≡ some x)
  something_there none e = absurd (true≢false e)
  something_there (some x) e = (x, refl)

module _ {A B : Type 0} (f : A → B) where
  pub mapped_some : (o : Option A) {y : B} → map f o ≡ some y → (x : A) × (o ≡ some x) × (f x ≡ y)
  mapped_some none e = none_some e
  mapped_some (some x) e = (x, refl, some_same e)

  pub mapped_nothing : (o : Option A) → is_nothing (map f o) ≡ is_nothing o
  mapped_nothing none = refl
  mapped_nothing (some x) = refl
