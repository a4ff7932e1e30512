-- The check's tests of bytes, and the properties that they stand for.
use Prim.Native.Nat.{ℕ, zero, suc, ◌+◌, ◌*◌, ◌-◌, ◌<◌, ◌≤◌}
use mathlib.Core.Path.{◌≡◌, refl, sym, subst, ◌∙◌}
use mathlib.Core.Logic.{◌↔◌}
use mathlib.Core.Bool.{Bool, true, false, not, ◌&&◌, ◌||◌, true≢false}
use mathlib.Core.List.{List, [], ◌∷◌}
use native.Mathlib.Nat.{zero-add}
use native.Mathlib.Omega.{arith}
use lib.ListN.{get_or, take, drop}
use lib.Seq.{drop-drop}
use lib.Dec.{leb, eqb}
use borrow.Author.Tests.{eq-eqb, eqb-true, le-leb, leb-true}
use Rattle.plan.specs.Lawful.{Zeros}
use Rattle.basics.specs.Bools.{both_true}
use Rattle.rules.specs.Line.{log_limit, queue_limit, held_limit, target_limit}
use Rattle.state.specs.Sizes.{count_size, entry_size, held_size, target_size, kept_size, message_size, heard_at, parent_limit, low_at}
use Rattle.state.specs.Right.{ZerosAt, word_at, MessageRight, EntryRight, HeldRight, TargetRight, AskedRight, ListRight, NodeRight, LaneRight}
use Rattle.state.proofs.BlockRight.{spelled_zero}
use Rattle.buffer.specs.Zero.{zero_bytes}
use Rattle.buffer.specs.Exact.{zero_at, message_exact, entry_exact, held_exact, target_exact, asked_exact, slots_exact, list_exact, page_exact, block_exact}
use Rattle.buffer.proofs.BytesLaws.{zero_bytes_lem}

-- A test stands for a property.
abbrev pub Stands : Bool → Type 0 → Type 0
Stands b P = (b ≡ true) ↔ P

pub and_stands : {a b : Bool} {P Q : Type 0} → Stands a P → Stands b Q → Stands (a && b) (P × Q)
and_stands {a} {b} f g = (λ e. (let (x, y) = both_true a b e in (f.0 x, g.0 y)), λ r. rw (f.1 r.0) (g.1 r.1))

pub stands_as : {b : Bool} {P Q : Type 0} → Stands b P → (P → Q) → (Q → P) → Stands b Q
stands_as f to back = (λ e. to (f.0 e), λ q. f.1 (back q))

pub leb_stands : (a b : ℕ) → Stands (leb a b) (a ≤ b)
leb_stands a b = (leb-true a b, le-leb a b)

pub eqb_stands : (a b : ℕ) → Stands (eqb a b) (a ≡ b)
eqb_stands a b = (eqb-true a b, eq-eqb a b)

zeros_found : (s : List ℕ) → Zeros s → zero_bytes s ≡ true
zeros_found [] z = refl
zeros_found (b ∷ s) z = rw (eq-eqb 0 b (sym z.0)) (zeros_found s z.1)

pub zero_stands : (a n : ℕ) (s : List ℕ) → Stands (zero_at a n s) (ZerosAt a n s)
zero_stands a n s = (zero_bytes_lem (take n (drop a s)), zeros_found (take n (drop a s)))

unless_stands : (x w : ℕ) → Stands (not (eqb x 0) || eqb w 0) (x ≡ 0 → w ≡ 0)
unless_stands x w = go (eqb x 0) refl
  where
    go : (t : Bool) → eqb x 0 ≡ t → Stands (not t || eqb w 0) (x ≡ 0 → w ≡ 0)
    go true e = (λ h z. eqb-true w 0 h, λ f. eq-eqb w 0 (f (eqb-true x 0 e)))
    go false e = (λ h z. absurd (true≢false (sym (eq-eqb x 0 z) ∙ e)), λ f. refl)

module _ (s : List ℕ) where
  pub message_stands : (a : ℕ) → Stands (message_exact a s) (MessageRight a s)
  unfolding message_exact
  message_stands a =
      stands_as (and_stands (and_stands (eqb_stands (get_or s (a + 5) 0) 0) (unless_stands (get_or s (a + 12) 0) (word_at (a + 12 + 1) s))) (zero_stands (a + 17) 3 s))
      (λ r. record { what = r.0.0; origin = r.0.1; unused = r.1 }) (λ r. ((r.what, r.origin), r.unused))

  pub entry_stands : (a : ℕ) → Stands (entry_exact a s) (EntryRight a s)
  unfolding entry_exact
  entry_stands a =
      stands_as (and_stands (and_stands (and_stands (eqb_stands (get_or s (a + 5) 0) 0) (unless_stands (get_or s (a + 12) 0) (word_at (a + 12 + 1) s))) (unless_stands (get_or s (a + 17) 0) (word_at (a + 17 + 1) s))) (zero_stands (a + 23) 1 s))
      (λ r. record { what = r.0.0.0; origin = r.0.0.1; before = r.0.1; unused = r.1 }) (λ r. (((r.what, r.origin), r.before), r.unused))

  pub held_stands : (a : ℕ) → Stands (held_exact a s) (HeldRight a s)
  unfolding held_exact
  held_stands a =
      stands_as (and_stands (and_stands (eqb_stands (get_or s (a + 5) 0) 0) (unless_stands (get_or s (a + 13) 0) (word_at (a + 13 + 1) s))) (zero_stands (a + 18) 2 s))
      (λ r. record { what = r.0.0; before = r.0.1; unused = r.1 }) (λ r. ((r.what, r.before), r.unused))

  pub target_stands : (a : ℕ) → Stands (target_exact a s) (TargetRight a s)
  unfolding target_exact
  target_stands a = zero_stands (a + 9) 3 s

  asked_stands : (a : ℕ) → Stands (asked_exact a s) (AskedRight a s)
  asked_stands a = (λ e. tt, λ r. refl)

  module _ (slot : ℕ → List ℕ → Bool) (P : ℕ → List ℕ → Type 0) (each : (a : ℕ) → Stands (slot a s) (P a s)) where
    slots_stand : (size a n : ℕ) → Stands (slots_exact slot size a n s) ((i : ℕ) → i < n → P (a + size * i) s)
    slots_stand size a zero = (λ e i h. (let no : ⊥ = omega arith in absurd no), λ f. refl)
    slots_stand size a (suc n) =
        stands_as (and_stands (each a) (slots_stand size (a + size) n)) (λ r i h. at i h r.0 r.1)
        (λ f. (subst (λ (x : ℕ). P x s) start (f 0 (omega arith)), λ i h. subst (λ (x : ℕ). P x s) (next i) (f (suc i) (omega arith))))
      where
        start : a + size * 0 ≡ a
        start = omega arith

        next : (i : ℕ) → a + size * suc i ≡ a + size + size * i
        next i = omega arith

        at : (i : ℕ) → i < suc n → P a s → ((j : ℕ) → j < n → P (a + size + size * j) s) → P (a + size * i) s
        at zero h x f = subst (λ (y : ℕ). P y s) (sym start) x
        at (suc i) h x f = subst (λ (y : ℕ). P y s) (sym (next i)) (f i (omega arith))

    pub list_stands : (limit size a : ℕ) → Stands (list_exact slot limit size a s) (ListRight P limit size a s)
    unfolding list_exact
    list_stands limit size a =
        stands_as (and_stands (and_stands (leb_stands (word_at a s) limit) (slots_stand size (a + count_size) (word_at a s))) (zero_stands (a + count_size + size * word_at a s) (size * (limit - word_at a s)) s))
        (λ r. record { few = r.0.0; used = r.0.1; unused = r.1 }) (λ r. ((r.few, r.used), r.unused))

  pub page_stands : (a : ℕ) → Stands (page_exact a s) (NodeRight a s)
  unfolding page_exact
  page_stands a =
      let head = and_stands (and_stands (leb_stands (get_or s (a + 0) 0) 2) (leb_stands (get_or s (a + 1) 0) 1)) (zero_stands (a + 2) 2 s) in
      let logs = list_stands entry_exact EntryRight entry_stands log_limit entry_size (a + 8) in
      let held = list_stands held_exact HeldRight held_stands held_limit held_size (a + 1548) in
      let targets = list_stands target_exact TargetRight target_stands target_limit target_size (a + 2832) in
      let kept = list_stands asked_exact AskedRight asked_stands 1 kept_size (a + 3604) in
      stands_as (and_stands (and_stands (and_stands (and_stands (and_stands head logs) held) targets) kept) (zero_stands (a + 3632) 464 s))
      (λ r. record { status = r.0.0.0.0.0.0.0; crashed = r.0.0.0.0.0.0.1; unused = r.0.0.0.0.0.1; log = r.0.0.0.0.1; held = r.0.0.0.1; targets = r.0.0.1; kept = r.0.1; rest = r.1 })
      (λ r. (((((((r.status, r.crashed), r.unused), r.log), r.held), r.targets), r.kept), r.rest))

-- Zeros in two parts, and word by word.
zeros_split : (n m : ℕ) (t : List ℕ) → Zeros (take (n + m) t) ↔ (Zeros (take n t) × Zeros (take m (drop n t)))
zeros_split zero m t = (
  λ z. (tt, subst (λ (k : ℕ). Zeros (take k t)) (zero-add m) z),
  λ r. subst (λ (k : ℕ). Zeros (take k t)) (sym (zero-add m)) r.1,
)
zeros_split (suc n) m [] = (
  λ z. (tt, subst (λ (x : List ℕ). Zeros x) (sym (take_none m)) tt),
  λ r. subst (λ (x : List ℕ). Zeros x) (sym (take_none (suc n + m))) tt,
)
  where
    take_none : (k : ℕ) → take {A = ℕ} k [] ≡ []
    take_none zero = refl
    take_none (suc k) = refl
zeros_split (suc n) m (b ∷ t) =
    let rest = zeros_split n m t in (
      λ z. (let y = subst (λ (k : ℕ). Zeros (take k (b ∷ t))) step z in let r = rest.0 y.1 in ((y.0, r.0), r.1)),
      λ r. subst (λ (k : ℕ). Zeros (take k (b ∷ t))) (sym step) (r.0.0, rest.1 (r.0.1, r.1)),
    )
  where
    step : suc n + m ≡ suc (n + m)
    step = omega arith

zeros_words : (n a : ℕ) (s : List ℕ) → ZerosAt a (4 * n) s ↔ ((i : ℕ) → i < n → word_at (a + 4 * i) s ≡ 0)
zeros_words zero a s = (λ z i h. (let no : ⊥ = omega arith in absurd no), λ f. tt)
zeros_words (suc n) a s =
    let split = zeros_split 4 (4 * n) (drop a s) in
    let word = spelled_zero (take 4 (drop a s)) in
    let rest = zeros_words n (a + 4) s in (
      λ z.
          (let (x, y) = split.0 (subst (λ (k : ℕ). Zeros (take k (drop a s))) size z) in
          at (word.1 x) (rest.0 (subst (λ (t : List ℕ). Zeros (take (4 * n) t)) (drop-drop 4 a s) y))),
      λ f.
          subst (λ (k : ℕ). Zeros (take k (drop a s))) (sym size)
          (split.1 (word.0 (subst (λ (k : ℕ). word_at k s ≡ 0) start (f 0 (omega arith))), subst (λ (t : List ℕ). Zeros (take (4 * n) t)) (sym (drop-drop 4 a s)) (rest.1 (λ i h. subst (λ (k : ℕ). word_at k s ≡ 0) (next i) (f (suc i) (omega arith)))))),
    )
  where
    size : 4 * suc n ≡ 4 + 4 * n
    size = omega arith

    start : a + 4 * 0 ≡ a
    start = omega arith

    next : (i : ℕ) → a + 4 * suc i ≡ a + 4 + 4 * i
    next i = omega arith

    at : word_at a s ≡ 0 → ((i : ℕ) → i < n → word_at (a + 4 + 4 * i) s ≡ 0) → (i : ℕ) → i < suc n → word_at (a + 4 * i) s ≡ 0
    at x f zero h = subst (λ (k : ℕ). word_at k s ≡ 0) (sym start) x
    at x f (suc i) h = subst (λ (k : ℕ). word_at k s ≡ 0) (sym (next i)) (f i (omega arith))

-- The words of further parents.
unused_stand : (s : List ℕ) (a count : ℕ) → Stands (zero_at (a + 4 * count) (4 * (parent_limit - count)) s) ((i : ℕ) → count ≤ i → i < parent_limit → word_at (a + 4 * i) s ≡ 0)
unused_stand s a count =
    let words = zeros_words (parent_limit - count) (a + 4 * count) s in
    stands_as (zero_stands (a + 4 * count) (4 * (parent_limit - count)) s)
    (λ z i l h. subst (λ (k : ℕ). word_at k s ≡ 0) (there i l) (words.0 z (i - count) (omega arith)))
    (λ f. words.1 (λ i h. subst (λ (k : ℕ). word_at k s ≡ 0) (back i) (f (count + i) (omega arith) (omega arith))))
  where
    there : (i : ℕ) → count ≤ i → a + 4 * count + 4 * (i - count) ≡ a + 4 * i
    there i l = omega arith

    back : (i : ℕ) → a + 4 * (count + i) ≡ a + 4 * count + 4 * i
    back i = omega arith

-- A block on which so many are heard. The low clock's first word is the sender's.
pub block_stands : (s : List ℕ) (count a : ℕ) → count ≤ parent_limit → Stands (block_exact count a s) (LaneRight count a s)
unfolding block_exact
block_stands s count a few =
    let queue = list_stands s message_exact MessageRight (message_stands s) queue_limit message_size (a + 24) in
    stands_as (and_stands (and_stands (and_stands (unused_stand s (a + heard_at) count) queue) (unused_stand s (a + low_at + 4) count)) (zero_stands (a + 208) 112 s))
    (λ r. record { heard = r.0.0.0; queue = r.0.0.1; low = λ i l h. subst (λ (k : ℕ). word_at k s ≡ 0) (there i l) (r.0.1 (i - 1) (omega arith) (omega arith)); rest = r.1 })
    (λ r. (((r.heard, r.queue), λ i l h. subst (λ (k : ℕ). word_at k s ≡ 0) (back i) (r.low (suc i) (omega arith) (omega arith))), r.rest))
  where
    there : (i : ℕ) → count < i → a + low_at + 4 + 4 * (i - 1) ≡ a + low_at + 4 * i
    there i l = omega arith

    back : (i : ℕ) → a + low_at + 4 * suc i ≡ a + low_at + 4 + 4 * i
    back i = omega arith
