-- A function changed at one number.
use Rattle.std.specs.Prelude.{ℕ, ◌≡◌, ◌≢◌, cond, eqb}
use Rattle.std.proofs.Common.{eq-eqb, ne_eqb}

module _ {A : Type 0} (f : ℕ → A) (i : ℕ) (x : A) where
  abbrev pub changed : ℕ → A
  changed s = cond (eqb s i) x (f s)

  pub changed_there : (s : ℕ) → s ≡ i → changed s ≡ x
  changed_there s e = rw (eq-eqb s i e)

  pub changed_else : (s : ℕ) → s ≢ i → changed s ≡ f s
  changed_else s h = rw (ne_eqb s i h)
