-- Texts written one behind the other.
use Prim.Native.Nat.{ℕ, suc, ◌+◌, ◌-◌, ◌*◌, ◌≤◌, ◌<◌}
use mathlib.Core.Path.{◌≡◌, refl, sym, ap, ◌∙◌}
use mathlib.Core.List.{List, [], ◌∷◌, ◌++◌, map, append_assoc}
use native.Mathlib.Nat.{add-zero, add-suc, suc-add, add-mul, one-mul}
use native.Mathlib.Numerals.{add-one}
use native.Mathlib.Omega.{arith}
use lib.ListN.{length, get_or, take, drop, set, length-append, drop_of_length-le}
use lib.Seq.{drop-cons, set_split, take-append-le, take-take, drop_at, drop-drop, length-take-le}
use Rattle.rules.specs.Lists.{joined}
use Rattle.rules.proofs.Lists.ListLaws.{nil_right}
use Rattle.basics.specs.Put.{put, put-none, put-set, put-behind, length-put}
use Rattle.report.specs.declared.text.Text.{Text}
use Rattle.report.specs.Wrote.{Wrote}
use Rattle.report.specs.Writes.{Writes}

-- What a buffer is left as, by where its text ends.
pub wrote_at : (most : ℕ) (s : List ℕ) (at : ℕ) (text t : List ℕ) (r : ℕ) → t ≡ put s at text → r ≡ at + length text → length text ≤ most → r ≤ length s → Wrote most s at text t r
wrote_at most s at text t r e f m w =
    record { left = e; end = f; short = m; within = w; same = ap length e ∙ length-put s at text (omega arith) }

-- Another bound.
pub wrote_most : {most : ℕ} {s : List ℕ} {at : ℕ} {text t : List ℕ} {r : ℕ} (k : ℕ) → length text ≤ k → Wrote most s at text t r → Wrote k s at text t r
wrote_most k h w = record { left = w.left; end = w.end; short = h; within = w.within; same = w.same }

-- One text behind another.
pub wrote_then : {a b : ℕ} {s : List ℕ} {at : ℕ} {x t : List ℕ} {p : ℕ} {y u : List ℕ} {q : ℕ} → Wrote a s at x t p → Wrote b t p y u q → Wrote (a + b) s at (x ++ y) u q
wrote_then {a} {b} {s} {at} {x} {t} {p} {y} {u} {q} v w =
    let long : length (x ++ y) ≡ length x + length y = length-append x y in
    wrote_at (a + b) s at (x ++ y) u q
    (w.left ∙ ap (λ (z : List ℕ). put z p y) v.left ∙ put-behind s at x p y (omega (arith, v.end, v.within)) v.end)
    (omega (arith, v.end, w.end, long))
    (omega (arith, v.short, w.short, long))
    (omega (arith, w.within, v.same))

-- The same of a text's parts.
pub writes_most : {most : ℕ} {part : List ℕ} {s t : Text} (k : ℕ) → length part ≤ k → Writes most part s t → Writes k part s t
writes_most k h w = record { wrote = wrote_most k h w.wrote; lent = w.lent }

pub writes_then : {a b : ℕ} {x y : List ℕ} {s t u : Text} → Writes a x s t → Writes b y t u → Writes (a + b) (x ++ y) s u
writes_then v w = record { wrote = wrote_then v.wrote w.wrote; lent = w.lent ∙ v.lent }

pub writes_none : (s : Text) → s.at ≤ length s.out.now → Writes 0 [] s s
writes_none s h = record {
  wrote = wrote_at 0 s.out.now s.at [] s.out.now s.at (sym (put-none s.out.now s.at)) (sym (add-zero s.at)) (omega arith) h;
  lent = refl;
}

-- ---- a text being written: what is done of it, and what is left

pub record Writing (whole : List ℕ) (done : ℕ) (s t : Text) (rest : List ℕ) : Type 0 where
  pub part : List ℕ
  pub writes : Writes done part s t
  pub splits : whole ≡ part ++ rest

pub writing_of : {whole rest : List ℕ} (s : Text) → whole ≡ rest → s.at ≤ length s.out.now → Writing whole 0 s s rest
writing_of s e h = record { part = []; writes = writes_none s h; splits = e }

pub writing_start : (whole : List ℕ) (s : Text) → s.at ≤ length s.out.now → Writing whole 0 s s whole
writing_start whole s h = writing_of s refl h

pub writing_on : {whole : List ℕ} {done most : ℕ} {s t u : Text} {part rest left : List ℕ} → rest ≡ part ++ left → Writing whole done s t rest → Writes most part t u → Writing whole (done + most) s u left
writing_on {part = part} {left = left} e w x =
    record {
      part = w.part ++ part;
      writes = writes_then w.writes x;
      splits = w.splits ∙ ap (λ (y : List ℕ). w.part ++ y) e ∙ sym (append_assoc w.part part left);
    }

-- The bound said otherwise.
pub writing_as : {whole rest : List ℕ} {done : ℕ} {s t : Text} (k : ℕ) → done ≡ k → Writing whole done s t rest → Writing whole k s t rest
writing_as k e w = rw e at w

pub writing_end : {whole : List ℕ} {done : ℕ} {s t : Text} → Writing whole done s t [] → Writes done whole s t
writing_end w = rw (w.splits, nil_right w.part) w.writes

-- The last part.
pub writing_last : {whole part : List ℕ} {done most : ℕ} {s t u : Text} → Writing whole done s t part → Writes most part t u → Writes (done + most) whole s u
writing_last {part = part} w x = writing_end (writing_on (sym (nil_right part)) w x)

-- ---- one byte

pub byte_written : (s : List ℕ) (at b : ℕ) → at < length s → Wrote 1 s at (b ∷ []) (set s at b) (at + 1)
byte_written s at b h = wrote_at 1 s at (b ∷ []) (set s at b) (at + 1) (put-set s at b h) refl (omega arith) (omega arith)

-- What is written right ahead of a part joins it.
pub put_ahead : (s : List ℕ) (at x : ℕ) (ys : List ℕ) → suc at + length ys ≤ length s → set (put s (suc at) ys) at x ≡ put s at (x ∷ ys)
unfolding put
put_ahead s at x ys h =
    let end : ℕ = suc at + length ys in
    let front : length (take (suc at) s) ≡ suc at = length-take-le (suc at) s (omega arith) in
    let long : length (put s (suc at) ys) ≡ length s = length-put s (suc at) ys h in
    let tail : drop (suc at) (take (suc at) s ++ (ys ++ drop end s)) ≡ ys ++ drop end s = drop_at (take (suc at) s) (ys ++ drop end s) (suc at) front in
    let head : take at (take (suc at) s ++ (ys ++ drop end s)) ≡ take at s = take-append-le at (take (suc at) s) (ys ++ drop end s) (omega (arith, front)) ∙ take-take at (suc at) s (omega arith) in
    set_split (put s (suc at) ys) at x (omega (arith, long))
    ∙ rw (head, tail) (ap (λ (n : ℕ). take at s ++ x ∷ (ys ++ drop n s)) (sym (add-suc at (length ys) ∙ sym (suc-add at (length ys)))))

-- Bytes that take the place of as many.
pub word_written : (s w part : List ℕ) (at : ℕ) → at + length w ≤ length s → part ≡ w → Wrote (length w) s at w (take at s ++ (part ++ drop (at + length w - at) (drop at s))) (at + length w)
unfolding put
word_written s w part at room e =
    let size : at + length w - at ≡ length w = omega arith in
    wrote_at (length w) s at w (take at s ++ (part ++ drop (at + length w - at) (drop at s))) (at + length w) (rw (e, size, drop-drop (length w) at s)) refl (omega arith) room

-- ---- the texts of a list's things, one behind the other

module _ {A : Type 0} (f : A → List ℕ) (d : A) (xs : List A) {s t : Text} (i most : ℕ) where
  pub joined_turn : {u : Text} → i < length xs → Writing (joined (map f xs)) (i * most) s t (joined (map f (drop i xs))) → Writes most (f (get_or xs i d)) t u → Writing (joined (map f xs)) ((i + 1) * most) s u (joined (map f (drop (i + 1) xs)))
  joined_turn h w x =
      let next : joined (map f (drop i xs)) ≡ f (get_or xs i d) ++ joined (map f (drop (i + 1) xs)) = rw add-one (ap (λ (ys : List A). joined (map f ys)) (drop-cons xs i d h)) in
      writing_as ((i + 1) * most) (sym (add-mul i 1 most ∙ ap (λ (k : ℕ). i * most + k) (one-mul most))) (writing_on next w x)

  pub joined_end : length xs ≤ i → Writing (joined (map f xs)) (i * most) s t (joined (map f (drop i xs))) → Writes (i * most) (joined (map f xs)) s t
  joined_end h w = writing_end (rw (ap (λ (ys : List A). joined (map f ys)) (drop_of_length-le xs {i = i} h)) at w)
