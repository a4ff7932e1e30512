-- What a read, the opening and a turn leave, by their cases.
use Rattle.std.proofs.Common.{ℕ, zero, suc, Ok, ◌≢◌, ◌+◌, ◌-◌, ◌≤◌, ◌≡◌, refl, List, [], ◌++◌, length, take, drop, sym, subst, arith, length-take, length-drop, take_at}
use Rattle.std.proofs.Math.Seq.{length-take-le}
use Rattle.stream.specs.declared.Phase.{Phase}
use Rattle.stream.specs.declared.Phase.TheVariants.{Planning}
use Rattle.stream.specs.declared.Reader.{Reader}
use Rattle.stream.specs.Reading.{taken, closed}
use Rattle.stream.specs.Reader.{window_size, reading_of, Holding, Gave, Finished}
use Rattle.sheet.specs.Turned.{got_of, Got, Bytes, End, Within, ReadBehind, Between, Went, LastTurn}

-- What is read behind the first bytes leaves them.
pub kept_front : (w : List ℕ) (have : ℕ) → have ≤ length w → (x : List ℕ) → take have (take have w ++ x) ≡ take have w
kept_front w have h x = take_at (take have w) x have (length-take-le have w h)

-- The part of the window behind the bytes that are kept.
pub behind_long : (w : List ℕ) (have : ℕ) → length w ≡ window_size → length (take (length w - have) (drop have w)) ≡ window_size - have
behind_long w have e = rw (length-take, length-drop, e) (omega arith)

pub bytes_within : {g : Got} (n have : ℕ) → g ≡ Bytes n → Within g have → (1 ≤ n) × (have + n ≤ window_size)
bytes_within n have e h = subst (λ (g : Got). Within g have) e h

pub was_got : {g h : Got} {w : List ℕ} {have : ℕ} {window : List ℕ} → g ≡ h → ReadBehind w have window g → ReadBehind w have window h
was_got {w = w} {have = have} {window = window} e read = subst (λ (x : Got). ReadBehind w have window x) e read

pub some_got : (n : ℕ) → n ≢ 0 → got_of (Ok n) ≡ Bytes n
some_got zero h = absurd (h refl)
some_got (suc n) h = refl

pub none_got : {n : ℕ} → n ≡ 0 → got_of (Ok n) ≡ End
none_got e = rw e

-- What a read gave, handed on.
module _ (r : Reader) {s w o came state out : List ℕ} {left : ℕ} where
  abbrev pub went : (n : ℕ) {g : Got} {next : Reader} {window : List ℕ} → g ≡ Bytes n → ReadBehind w r.have came g → Between r left s
      → Gave (taken (reading_of r s came) (take n (drop r.have came))) (r.count + r.have + n) s came o state window out next → Went r s w o next state window out
  went n e read can gave =
      let within = bytes_within n r.have e read.within in
      record {
        came = came;
        n = n;
        read = was_got e read;
        taken = record { kept = read.kept; asked = record { holding = can.holding; room = within.1; few = omega (arith, can.few) }; gave = gave };
      }

  pub ended : {wrote : ℕ} {g : Got} → g ≡ End → ReadBehind w r.have came g → Between r left s
      → Finished (closed (reading_of r s came)) (taken (reading_of r s came) []) s o state out wrote → LastTurn r s w o wrote state came out
  ended e read can finished =
      record {
        read = was_got e read;
        ended = record { kept = read.kept; asked = record { holding = can.holding; room = omega (arith, can.room); few = omega (arith, can.few) }; finished = finished };
      }

-- Nothing is read yet.
pub first_holding : (p : Phase) (k : ℕ) (state : List ℕ) → p ≡ Planning → k ≡ 1 → Holding p k state
first_holding p k state e one = subst (λ (p : Phase). Holding p k state) (sym e) one
