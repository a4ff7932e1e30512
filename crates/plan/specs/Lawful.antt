-- What it means that the two directions of a layout are inverse.
use Rattle.std.specs.Prelude.{ℕ, zero, suc, ◌*◌, ◌^◌, ◌≤◌, ◌<◌, ◌≡◌, List, [], ◌∷◌, length, take, drop}
use Rattle.plan.specs.Layout.{Layout}

-- What holds of everything in a list.
abbrev pub Each : {A : Type 0} → (A → Type 0) → List A → Type 0
Each P [] = Unit {0}
Each P (x ∷ xs) = P x × Each P xs

-- Numbers that are bytes, and bytes that are all 0.
abbrev pub Bytes : List ℕ → Type 0
Bytes s = Each (λ (b : ℕ). b < 256) s

abbrev pub Zeros : List ℕ → Type 0
Zeros s = Each (λ (b : ℕ). b ≡ 0) s

-- One number for each width, each below what its bytes can spell.
abbrev pub FieldsFit : List ℕ → List ℕ → Type 0
FieldsFit [] [] = Unit {0}
FieldsFit [] (v ∷ vs) = ⊥
FieldsFit (w ∷ ws) [] = ⊥
FieldsFit (w ∷ ws) (v ∷ vs) = (v < 256 ^ w) × FieldsFit ws vs

-- What holds of each of so many slots of one size.
abbrev pub EachSlot : (List ℕ → Type 0) → ℕ → ℕ → List ℕ → Type 0
EachSlot P size zero s = Unit {0}
EachSlot P size (suc n) s = P (take size s) × EachSlot P size n (drop size s)

-- Lists that fill so many slots, and lists that fill some of them.
abbrev pub SlotsFit : {A : Type 0} → ℕ → (A → Type 0) → List A → Type 0
SlotsFit n Fits xs = (length xs ≡ n) × Each Fits xs

abbrev pub UpToFit : {A : Type 0} → ℕ → (A → Type 0) → List A → Type 0
UpToFit limit Fits xs = (length xs ≤ limit) × Each Fits xs

-- Slots of one size, up to a limit, of which so many are used: these are right, and the bytes behind them are 0.
pub record UpToRight (Right : List ℕ → Type 0) (limit size count : ℕ) (s : List ℕ) : Type 0 where
  pub few : count ≤ limit
  pub used : EachSlot Right size count s
  pub unused : Zeros (drop (count * size) s)

-- A layout whose values that fit are read back, and whose bytes that are right are written back.
pub record Lawful {A : Type 0} (l : Layout A) (Fits : A → Type 0) (Right : List ℕ → Type 0) : Type 0 where
  pub sized : (a : A) → length (l.write a) ≡ l.size
  pub bytes : (a : A) → Bytes (l.write a)
  pub fits : (s : List ℕ) → Bytes s → Fits (l.read s)
  pub read_back : (a : A) → Fits a → l.read (l.write a) ≡ a
  pub write_back : (s : List ℕ) → length s ≡ l.size → Bytes s → Right s → l.write (l.read s) ≡ s
