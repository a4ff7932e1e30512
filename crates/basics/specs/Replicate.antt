-- A list of one thing many times.
use Rattle.std.specs.Prelude.{ℕ, zero, suc, ◌≡◌, refl, get_or, replicate}

-- The same thing at every place, the default too.
pub replicate_default : {A : Type 0} (n i : ℕ) (x : A) → get_or (replicate n x) i x ≡ x
replicate_default zero i x = refl
replicate_default (suc n) zero x = refl
replicate_default (suc n) (suc i) x = replicate_default n i x
