-- Layouts whose values are read back, and bytes that are right.
use Rattle.std.specs.Prelude.{ℕ, ◌≡◌, List, length, take}
use Rattle.plan.specs.Layout.{Layout}
use Rattle.plan.specs.Lawful.{Bytes}

-- Bytes are right where what is read from them is written as they are.
abbrev pub Right : {A : Type 0} → Layout A → List ℕ → Type 0
Right l s = l.write (l.read s) ≡ s

-- What is written is as long as it should be, made of bytes, and read back where it fits; what is read from bytes fits; and no more is read than the layout's size.
pub record Sound {A : Type 0} (l : Layout A) (Fits : A → Type 0) : Type 0 where
  pub sized : (a : A) → length (l.write a) ≡ l.size
  pub bytes : (a : A) → Bytes (l.write a)
  pub fits : (s : List ℕ) → Bytes s → Fits (l.read s)
  pub read_back : (a : A) → Fits a → l.read (l.write a) ≡ a
  pub front : (s : List ℕ) → l.read (take l.size s) ≡ l.read s
