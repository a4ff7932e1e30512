-- Layouts: one description of some bytes gives both directions, writing a value and reading it back. Numbers are big-endian.
use Rattle.std.specs.Prelude.{ℕ, zero, suc, ◌+◌, ◌*◌, ◌/◌, ◌%◌, ◌^◌, List, [], ◌∷◌, ◌++◌, length, take, drop, replicate}

-- A value's size in bytes, the bytes that it is written as, and the value that bytes are read as.
pub record Layout (A : Type 0) : Type 0 where
  pub size : ℕ
  pub write : A → List ℕ
  pub read : List ℕ → A

-- A number in so many bytes.
abbrev pub bytes_of : ℕ → ℕ → List ℕ
bytes_of zero v = []
bytes_of (suc w) v = v / (256 ^ w) % 256 ∷ bytes_of w v

-- The number that bytes spell, after what went before.
abbrev pub spelled : ℕ → List ℕ → ℕ
spelled n [] = n
spelled n (b ∷ bs) = spelled (n * 256 + b) bs

unfoldable pub number : ℕ → Layout ℕ
number width = record { size = width; write = bytes_of width; read = λ s. spelled 0 (take width s) }

-- Fields of given widths, one behind the other.
abbrev pub sum_of : List ℕ → ℕ
sum_of [] = 0
sum_of (w ∷ ws) = w + sum_of ws

abbrev pub write_fields : List ℕ → List ℕ → List ℕ
write_fields [] vs = []
write_fields (w ∷ ws) [] = bytes_of w 0 ++ write_fields ws []
write_fields (w ∷ ws) (v ∷ vs) = bytes_of w v ++ write_fields ws vs

abbrev pub read_fields : List ℕ → List ℕ → List ℕ
read_fields [] s = []
read_fields (w ∷ ws) s = spelled 0 (take w s) ∷ read_fields ws (drop w s)

unfoldable pub fields : List ℕ → Layout (List ℕ)
fields widths = record { size = sum_of widths; write = write_fields widths; read = read_fields widths }

-- A value seen as another that has a layout.
unfoldable pub via : {A B : Type 0} → Layout B → (A → B) → (B → A) → Layout A
via l seen value = record { size = l.size; write = λ a. l.write (seen a); read = λ s. value (l.read s) }

-- One behind the other.
unfoldable pub pair : {A B : Type 0} → Layout A → Layout B → Layout (A × B)
pair l k = record { size = l.size + k.size; write = λ p. l.write p.0 ++ k.write p.1; read = λ s. (l.read (take l.size s), k.read (drop l.size s)) }

-- Unused bytes, which are 0.
unfoldable pub zeros : ℕ → Layout (Unit {0})
zeros n = record { size = n; write = λ u. replicate n 0; read = λ s. tt }

-- So many slots of one layout; those that a list leaves unused are written 0.
abbrev pub write_slots : {A : Type 0} → Layout A → ℕ → List A → List ℕ
write_slots l zero xs = []
write_slots l (suc n) [] = replicate l.size 0 ++ write_slots l n []
write_slots l (suc n) (x ∷ xs) = l.write x ++ write_slots l n xs

abbrev pub read_slots : {A : Type 0} → Layout A → ℕ → List ℕ → List A
read_slots l zero s = []
read_slots l (suc n) s = l.read (take l.size s) ∷ read_slots l n (drop l.size s)

unfoldable pub slots : {A : Type 0} → ℕ → Layout A → Layout (List A)
slots n l = record { size = n * l.size; write = write_slots l n; read = read_slots l n }

-- A count of so many bytes, and behind it slots up to a limit, of which so many are used.
unfoldable pub up_to_slots : {A : Type 0} → ℕ → ℕ → Layout A → Layout (List A)
unfolding number slots pair via
up_to_slots width limit l = via (pair (number width) (slots limit l)) (λ xs. (length xs, xs)) (λ p. take p.0 p.1)

-- A value, and so many unused bytes behind it.
unfoldable pub padded : {A : Type 0} → ℕ → Layout A → Layout A
unfolding zeros pair via
padded n l = via (pair l (zeros n)) (λ a. (a, tt)) (λ p. p.0)
