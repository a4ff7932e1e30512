-- Rows, a number for each parent: raised one by one, and the restored entries in them, triple by triple.
use Prim.Native.Nat.{ℕ, ◌≤◌, ◌<◌, max}
use mathlib.Core.Path.{◌≡◌, refl, sym, ap, ◌∙◌}
use mathlib.Core.Bool.{Bool, true, false, cond, ◌&&◌, and-true, and-false}
use mathlib.Core.List.{List, [], ◌∷◌, ◌++◌}
use native.Mathlib.Omega.{arith}
use borrow.Author.Tests.{eqb-true, eqb-false, le-leb, lt-leb}
use lib.Dec.{eqb}
use lib.ListN.{length, get_or, set, replicate, length-set}
use lib.Seq.{get_or-set_same, get_or-set_other}
use Rattle.rules.specs.Line.{Target}
use Rattle.basics.specs.Replicate.{replicate_default}
use Rattle.buffer.specs.Rows.{rows_long, Rows}
use Rattle.recover.specs.Found.{restored_over, raised_at, raised_by}
use Rattle.recover.proofs.TripleLaws.{restored-append, restored_one}

-- ---- rows

pub rows_none : Rows (replicate rows_long 0) (λ q. 0)
rows_none = record { long = refl; each = λ q h. replicate_default rows_long q 0 }

module _ (rows : List ℕ) (long : length rows ≡ rows_long) where
  abbrev chosen : Target → ℕ → Bool → ℕ
  chosen t q b = cond b (max (get_or rows q 0) t.parent_time) (get_or rows q 0)

  -- A parent's row raised to a time, and one left as it is: the time is not above it, or the parent has none.
  pub raised_here : (parent time : ℕ) → parent < rows_long → get_or rows parent 0 < time → Rows (set rows parent time) (raised_at rows parent time)
  raised_here parent time h less = record { long = length-set rows parent time ∙ long; each = λ q l. one q (eqb parent q) refl }
    where
      one : (q : ℕ) (t : Bool) → eqb parent q ≡ t → get_or (set rows parent time) q 0 ≡ cond t (max (get_or rows q 0) time) (get_or rows q 0)
      one q true w =
          let greater : time ≡ max (get_or rows parent 0) time = omega arith in
          let same : parent ≡ q = eqb-true parent q w in
          ap (λ (k : ℕ). get_or (set rows parent time) k 0) (sym same) ∙ get_or-set_same rows parent time 0 (omega (arith, long)) ∙ greater ∙ ap (λ (k : ℕ). max (get_or rows k 0) time) same
      one q false w = get_or-set_other rows parent q time 0 (λ r. eqb-false parent q w (sym r))

  pub raised_not : (parent time : ℕ) → (parent < rows_long → time ≤ get_or rows parent 0) → Rows rows (raised_at rows parent time)
  raised_not parent time h = record { long = long; each = λ q l. one q l (eqb parent q) refl }
    where
      one : (q : ℕ) → q < rows_long → (t : Bool) → eqb parent q ≡ t → get_or rows q 0 ≡ cond t (max (get_or rows q 0) time) (get_or rows q 0)
      one q l true w =
          let same : parent ≡ q = eqb-true parent q w in
          omega (arith, h (omega arith), ap (λ (k : ℕ). get_or rows k 0) same)
      one q l false w = refl

  -- One triple, up to low or not.
  pub raised_one : (low : ℕ) (t : Target) (next : List ℕ) → t.time ≤ low → Rows next (raised_at rows t.parent t.parent_time) → Rows next (raised_by rows (λ q. restored_over low q (t ∷ [])))
  raised_one low t next h r = record { long = r.long; each = λ q l. r.each q l ∙ ap (chosen t q) (sym (ap (λ (b : Bool). eqb t.parent q && b) (le-leb t.time low h) ∙ and-true (eqb t.parent q))) ∙ restored_one low q (get_or rows q 0) t }

  pub raised_none : (low : ℕ) (t : Target) → low < t.time → Rows rows (raised_by rows (λ q. restored_over low q (t ∷ [])))
  raised_none low t h = record { long = long; each = λ q l. ap (chosen t q) (sym (ap (λ (b : Bool). eqb t.parent q && b) (lt-leb t.time low h) ∙ and-false (eqb t.parent q))) ∙ restored_one low q (get_or rows q 0) t }

-- No triples in their rows, and some and then others.
pub raised_nothing : (low : ℕ) (rows : List ℕ) → length rows ≡ rows_long → Rows rows (raised_by rows (λ q. restored_over low q []))
raised_nothing low rows long = record { long = long; each = λ q h. omega arith }

pub raised_more : (low : ℕ) (us vs : List Target) (start : List ℕ) {rows next : List ℕ} → Rows rows (raised_by start (λ q. restored_over low q us)) → Rows next (raised_by rows (λ q. restored_over low q vs))
    → Rows next (raised_by start (λ q. restored_over low q (us ++ vs)))
raised_more low us vs start a b = record { long = b.long; each = λ q h. omega (arith, b.each q h, a.each q h, restored-append low q us vs) }
