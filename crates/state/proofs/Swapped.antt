-- Two byte lists that differ in one part only: how such a difference lies in a whole, and that the one is the other with that part written over.
use Prim.Native.Nat.{ℕ, zero, suc, ◌+◌, ◌*◌, ◌-◌, ◌^◌, ◌≤◌, ◌<◌}
use mathlib.Core.Path.{◌≡◌, refl, sym, ap, ◌∙◌}
use mathlib.Core.List.{List, [], ◌∷◌, ◌++◌, append_assoc, append-nil}
use native.Mathlib.Nat.{add-zero, add-suc, mul-suc, mul-zero, mul-one, mul-add, add_comm, zero-div, zero-mod}
use native.Mathlib.Omega.{arith}
use lib.ListN.{length, get_or, take, drop, set, replicate, length-append, length-drop, length-replicate, replicate-append-replicate}
use lib.Seq.{take_at, drop_at, drop-append-le, drop-drop}
use Rattle.basics.specs.Put.{put}
use Rattle.plan.specs.Layout.{Layout, bytes_of, spelled, write_fields, sum_of, write_slots, up_to_slots}
use Rattle.plan.proofs.NumberLaws.{length-bytes_of, number_read}
use Rattle.state.specs.Sound.{Sound}

-- At a place, one part in the place of another; what stands before and behind is the same.
pub record Swapped (at : ℕ) (old new s t : List ℕ) : Type 0 where
  pub front : List ℕ
  pub back : List ℕ
  pub was : s ≡ front ++ (old ++ back)
  pub is : t ≡ front ++ (new ++ back)
  pub place : length front ≡ at

-- Two parts, one after the other.
pub record Twice (at : ℕ) (old new : List ℕ) (next : ℕ) (older newer s t : List ℕ) : Type 0 where
  pub between : List ℕ
  pub first : Swapped at old new s between
  pub second : Swapped next older newer between t

-- ---- wholes and parts

pub swap_whole : (old new : List ℕ) → Swapped 0 old new old new
swap_whole old new = record { front = []; back = []; was = sym (append-nil old); is = sym (append-nil new); place = refl }

regrouped : (f g x b c : List ℕ) → f ++ ((g ++ (x ++ b)) ++ c) ≡ (f ++ g) ++ (x ++ (b ++ c))
regrouped f g x b c = simp append_assoc

module _ {a o : ℕ} {whole whole' old new s t : List ℕ} where
  -- A swap in a part that is swapped.
  pub swap_in : Swapped a whole whole' s t → Swapped o old new whole whole' → Swapped (a + o) old new s t
  swap_in w v = record {
    front = w.front ++ v.front;
    back = v.back ++ w.back;
    was = w.was ∙ ap (λ (x : List ℕ). w.front ++ (x ++ w.back)) v.was ∙ regrouped w.front v.front old v.back w.back;
    is = w.is ∙ ap (λ (x : List ℕ). w.front ++ (x ++ w.back)) v.is ∙ regrouped w.front v.front new v.back w.back;
    place = length-append w.front v.front ∙ (let same : length w.front + length v.front ≡ a + o = omega (arith, w.place, v.place) in same);
  }

module _ {a : ℕ} {whole whole' s t : List ℕ} (w : Swapped a whole whole' s t) where
  abbrev filled : List ℕ → List ℕ
  filled x = w.front ++ (x ++ w.back)

  -- Two swaps in a part that is swapped.
  pub twice_in : {o p : ℕ} {old new older newer : List ℕ} → Twice o old new p older newer whole whole' → Twice (a + o) old new (a + p) older newer s t
  twice_in v = record {
    between = filled v.between;
    first = swap_in (record { front = w.front; back = w.back; was = w.was; is = refl; place = w.place }) v.first;
    second = swap_in (record { front = w.front; back = w.back; was = refl; is = w.is; place = w.place }) v.second;
  }

module _ {o : ℕ} {old new s t : List ℕ} (w : Swapped o old new s t) where
  -- With something behind, and with something before.
  pub swap_front : (r : List ℕ) → Swapped o old new (s ++ r) (t ++ r)
  swap_front r = record {
    front = w.front;
    back = w.back ++ r;
    was = ap (λ (x : List ℕ). x ++ r) w.was ∙ simp append_assoc;
    is = ap (λ (x : List ℕ). x ++ r) w.is ∙ simp append_assoc;
    place = w.place;
  }

  pub swap_behind : (r : List ℕ) (n : ℕ) → length r ≡ n → Swapped (n + o) old new (r ++ s) (r ++ t)
  swap_behind r n e = record {
    front = r ++ w.front;
    back = w.back;
    was = ap (λ (x : List ℕ). r ++ x) w.was ∙ simp append_assoc;
    is = ap (λ (x : List ℕ). r ++ x) w.is ∙ simp append_assoc;
    place = length-append r w.front ∙ (let same : length r + length w.front ≡ n + o = omega (arith, w.place) in same);
  }

  -- At the same place under another name.
  pub swap_at : (p : ℕ) → o ≡ p → Swapped p old new s t
  swap_at p e = record { front = w.front; back = w.back; was = w.was; is = w.is; place = w.place ∙ e }

  -- From the same bytes under another name.
  pub swap_from : {r : List ℕ} → r ≡ s → Swapped o old new r t
  swap_from e = record { front = w.front; back = w.back; was = e ∙ w.was; is = w.is; place = w.place }

-- ---- fields and slots

-- Field i of some.
pub field_set : (ws vs : List ℕ) (i v : ℕ) → i < length ws → i < length vs
    → Swapped (sum_of (take i ws)) (bytes_of (get_or ws i 0) (get_or vs i 0)) (bytes_of (get_or ws i 0) v) (write_fields ws vs) (write_fields ws (set vs i v))
field_set [] vs i v h k = let no : ⊥ = omega arith in absurd no
field_set (w ∷ ws) [] i v h k = let no : ⊥ = omega arith in absurd no
field_set (w ∷ ws) (u ∷ vs) zero v h k = swap_front (swap_whole (bytes_of w u) (bytes_of w v)) (write_fields ws vs)
field_set (w ∷ ws) (u ∷ vs) (suc i) v h k = swap_behind (field_set ws vs i v (omega arith) (omega arith)) (bytes_of w u) w (length-bytes_of w u)

zero_bytes_lem : (w : ℕ) → bytes_of w 0 ≡ replicate w 0
zero_bytes_lem zero = refl
zero_bytes_lem (suc w) = rw (zero-div, zero-mod, zero_bytes_lem w)

module _ {A : Type 0} {l : Layout A} {Fits : A → Type 0} (inner : Sound l Fits) where
  -- Slot i of those that a list fills.
  pub slot_set : (n : ℕ) (xs : List A) (i : ℕ) (x d : A) → i < length xs → length xs ≤ n
      → Swapped (l.size * i) (l.write (get_or xs i d)) (l.write x) (write_slots l n xs) (write_slots l n (set xs i x))
  slot_set n [] i x d h k = let no : ⊥ = omega arith in absurd no
  slot_set zero (y ∷ xs) i x d h k = let no : ⊥ = omega arith in absurd no
  slot_set (suc n) (y ∷ xs) zero x d h k = swap_at (swap_front (swap_whole (l.write y) (l.write x)) (write_slots l n xs)) (l.size * zero) (sym (mul-zero l.size))
  slot_set (suc n) (y ∷ xs) (suc i) x d h k =
      swap_at (swap_behind (slot_set n xs i x d (omega arith) (omega arith)) (l.write y) l.size (inner.sized y)) (l.size * suc i) (sym (mul-suc l.size i ∙ add_comm (l.size * i) l.size))

  -- The first slot that is unused.
  pub slot_more : (n : ℕ) (xs : List A) (x : A) → length xs < n
      → Swapped (l.size * length xs) (replicate l.size 0) (l.write x) (write_slots l n xs) (write_slots l n (xs ++ x ∷ []))
  slot_more zero xs x h = let no : ⊥ = omega arith in absurd no
  slot_more (suc n) [] x h = swap_at (swap_front (swap_whole (replicate l.size 0) (l.write x)) (write_slots l n [])) (l.size * zero) (sym (mul-zero l.size))
  slot_more (suc n) (y ∷ xs) x h =
      swap_at (swap_behind (slot_more n xs x (omega arith)) (l.write y) l.size (inner.sized y)) (l.size * suc (length xs)) (sym (mul-suc l.size (length xs) ∙ add_comm (l.size * length xs) l.size))

  -- The slots that a list fills, and those that it does not.
  abbrev pub used : List A → List ℕ
  used xs = write_slots l (length xs) xs

  pub used_long : (xs : List A) → length (used xs) ≡ l.size * length xs
  used_long [] = sym (mul-zero l.size)
  used_long (x ∷ xs) = length-append (l.write x) (used xs) ∙ rw (inner.sized x, used_long xs, mul-suc) (add_comm l.size (l.size * length xs))

  slots_split : (m : ℕ) (xs : List A) → write_slots l (m + length xs) xs ≡ used xs ++ write_slots l m []
  slots_split m [] = rw add-zero
  slots_split m (x ∷ xs) = rw (add-suc, slots_split m xs) (sym (append_assoc (l.write x) (used xs) (write_slots l m [])))

  unused_split : (m k : ℕ) → write_slots l (m + k) [] ≡ replicate (l.size * k) 0 ++ write_slots l m []
  unused_split m zero = rw (mul-zero, add-zero)
  unused_split m (suc k) =
      rw (add-suc, unused_split m k, mul-suc, add_comm (l.size * k) l.size, ← replicate-append-replicate)
      (sym (append_assoc (replicate l.size 0) (replicate (l.size * k) 0) (write_slots l m [])))

  -- So many of the slots used gone at the front.
  pub used_gone : (m : ℕ) (xs : List A) → m ≤ length xs → drop (l.size * m) (used xs) ≡ used (drop m xs)
  used_gone zero xs h = rw mul-zero
  used_gone (suc m) [] h = let no : ⊥ = omega arith in absurd no
  used_gone (suc m) (x ∷ xs) h =
      rw (mul-suc, add_comm (l.size * m) l.size, ← drop-drop (l.size * m) l.size (l.write x ++ used xs), drop_at (l.write x) (used xs) l.size (inner.sized x)) (used_gone m xs (omega arith))

  used_parts : (m : ℕ) (xs : List A) → m ≤ length xs → length (used xs) ≡ l.size * m + l.size * length (drop m xs)
  used_parts m xs h =
      let parts : length xs ≡ m + length (drop m xs) = omega (arith, length-drop m xs) in
      used_long xs ∙ ap (λ (k : ℕ). l.size * k) parts ∙ mul-add l.size m (length (drop m xs))

  -- ---- lists with a count in front

  module _ (width limit : ℕ) (xs : List A) where
    abbrev whole : List A → List ℕ
    whole ys = (up_to_slots width limit l).write ys

    abbrev count : ℕ → List ℕ
    count k = bytes_of width k

    count_swap : (k : ℕ) → Swapped 0 (count (length xs)) (count k) (whole xs) (count k ++ write_slots l limit xs)
    unfolding up_to_slots
    count_swap k = swap_front (swap_whole (count (length xs)) (count k)) (write_slots l limit xs)

    -- One thing more: the count, and the first slot unused.
    pub list_more : (x : A) → length xs < limit
        → Twice 0 (count (length xs)) (count (length xs + 1)) (width + l.size * length xs) (replicate l.size 0) (l.write x) (whole xs) (whole (xs ++ x ∷ []))
    unfolding up_to_slots
    list_more x h = record {
      between = count (length xs + 1) ++ write_slots l limit xs;
      first = count_swap (length xs + 1);
      second = rw length-append (swap_behind (slot_more limit xs x h) (count (length xs + 1)) width (length-bytes_of width (length xs + 1)));
    }

    rest : ℕ
    rest = limit - length xs

    filling : length xs ≤ limit → limit ≡ rest + length xs
    unfolding rest
    filling h = omega arith

    -- Emptied: the count and the slots used become 0.
    pub cleared_long : length (count (length xs) ++ used xs) ≡ width + l.size * length xs
    cleared_long = rw (length-append, length-bytes_of, used_long)

    pub list_cleared : length xs ≤ limit → Swapped 0 (count (length xs) ++ used xs) (replicate (width + l.size * length xs) 0) (whole xs) (whole [])
    unfolding up_to_slots
    list_cleared h = record {
      front = [];
      back = write_slots l rest [];
      was = ap (λ (n : ℕ). count (length xs) ++ write_slots l n xs) (filling h) ∙ ap (λ (s : List ℕ). count (length xs) ++ s) (slots_split rest xs) ∙ sym (append_assoc (count (length xs)) (used xs) (write_slots l rest []));
      is =
          ap (λ (n : ℕ). count 0 ++ write_slots l n []) (filling h)
          ∙ rw (zero_bytes_lem, unused_split rest (length xs))
          (sym (append_assoc (replicate width 0) (replicate (l.size * length xs) 0) (write_slots l rest [])) ∙ rw replicate-append-replicate);
      place = refl;
    }

    -- So many gone at the front: the count, and the slots used, of which as many at the end become 0.
    pub list_gone : (m : ℕ) → m ≤ length xs → length xs ≤ limit
        → Twice 0 (count (length xs)) (count (length (drop m xs))) width (used xs) (used (drop m xs) ++ replicate (l.size * m) 0) (whole xs) (whole (drop m xs))
    unfolding up_to_slots
    list_gone m h k =
        let ys = drop m xs in
        let freed : limit ≡ rest + m + length ys = omega (arith, filling k, length-drop m xs) in
        let slots : Swapped 0 (used xs) (used ys ++ replicate (l.size * m) 0) (write_slots l limit xs) (write_slots l limit ys) = record {
          front = [];
          back = write_slots l rest [];
          was = ap (λ (n : ℕ). write_slots l n xs) (filling k) ∙ slots_split rest xs;
          is =
              ap (λ (n : ℕ). write_slots l n ys) freed
              ∙ rw (slots_split (rest + m) ys, unused_split rest m) (sym (append_assoc (used ys) (replicate (l.size * m) 0) (write_slots l rest [])));
          place = refl;
        } in
        record {
          between = count (length ys) ++ write_slots l limit xs;
          first = count_swap (length ys);
          second = swap_at (swap_behind slots (count (length ys)) width (length-bytes_of width (length ys))) width (add-zero width);
        }

-- ---- the part written over

pub counts_long : (w j k : ℕ) → length (bytes_of w j) ≡ length (bytes_of w k)
counts_long w j k = length-bytes_of w j ∙ sym (length-bytes_of w k)

module _ {at : ℕ} {old new s t : List ℕ} (w : Swapped at old new s t) where
  pub swap_behind_it : drop at s ≡ old ++ w.back
  swap_behind_it = ap (drop at) w.was ∙ drop_at w.front (old ++ w.back) at w.place

  pub swap_put : length old ≡ length new → t ≡ put s at new
  unfolding put
  swap_put e =
      let before : take at s ≡ w.front = ap (take at) w.was ∙ take_at w.front (old ++ w.back) at w.place in
      let behind : drop (at + length new) s ≡ w.back = sym (drop-drop (length new) at s) ∙ ap (drop (length new)) swap_behind_it ∙ drop_at old w.back (length new) e in
      w.is ∙ rw (before, behind)

-- The count of a list that stood there.
pub list_counted : {A : Type 0} (l : Layout A) (width limit : ℕ) (xs : List A) {at : ℕ} {new s t : List ℕ} → Swapped at ((up_to_slots width limit l).write xs) new s t → length xs < 256 ^ width
    → spelled 0 (take width (drop at s)) ≡ length xs
unfolding up_to_slots
list_counted l width limit xs w h =
    ap (λ (x : List ℕ). spelled 0 (take width x)) (swap_behind_it w ∙ append_assoc (bytes_of width (length xs)) (write_slots l limit xs) w.back)
    ∙ ap (spelled 0) (take_at (bytes_of width (length xs)) (write_slots l limit xs ++ w.back) width (length-bytes_of width (length xs)))
    ∙ number_read width (length xs) h

-- Some of what stood there moved to the front of it, over a gap.
pub swap_moved : {at : ℕ} {old s t : List ℕ} (moved left : List ℕ) → Swapped at old (moved ++ left) s t → (gap n : ℕ) → gap ≤ length old → drop gap old ≡ moved → length moved ≡ n
    → length old ≡ length (moved ++ left) → t ≡ put s at (take n (drop (at + gap) s) ++ left)
swap_moved {at} {old} {s} moved left w gap n h e c same =
    let there : take n (drop (at + gap) s) ≡ moved =
    ap (take n) (sym (drop-drop gap at s) ∙ ap (drop gap) (swap_behind_it w) ∙ drop-append-le gap old w.back h ∙ ap (λ (x : List ℕ). x ++ w.back) e)
    ∙ take_at moved w.back n c
    in
    swap_put w same ∙ ap (λ (x : List ℕ). put s at (x ++ left)) (sym there)

pub twice_put : {at next : ℕ} {old new older newer s t : List ℕ} → Twice at old new next older newer s t → length old ≡ length new → length older ≡ length newer → t ≡ put (put s at new) next newer
twice_put {next = next} {newer = newer} w e f = swap_put w.second f ∙ ap (λ (x : List ℕ). put x next newer) (swap_put w.first e)

-- ---- a list with a count, written over

module _ {A : Type 0} {l : Layout A} {Fits : A → Type 0} (inner : Sound l Fits) (width limit : ℕ) (xs : List A) where
  abbrev list : List A → List ℕ
  list ys = (up_to_slots width limit l).write ys

  -- One thing more.
  pub more_put : {at : ℕ} {s t : List ℕ} (x : A) → Swapped at (list xs) (list (xs ++ x ∷ [])) s t → length xs < limit → (next : ℕ) → next ≡ at + width + l.size * length xs
      → t ≡ put (put s at (bytes_of width (length xs + 1))) next (l.write x)
  more_put {at} {s} x w h next e =
      let place : at + (width + l.size * length xs) ≡ next = omega arith in
      twice_put (twice_in w (list_more inner width limit xs x h)) (counts_long width (length xs) (length xs + 1)) (length-replicate l.size 0 ∙ sym (inner.sized x))
      ∙ (λ i. put (put s (add-zero at i) (bytes_of width (length xs + 1))) (place i) (l.write x))

  -- Emptied.
  pub cleared-put : {at : ℕ} {s t : List ℕ} → Swapped at (list xs) (list []) s t → length xs ≤ limit → (to : ℕ) → to ≡ at + width + l.size * length xs
      → t ≡ take at s ++ replicate (to - at) 0 ++ drop to s
  unfolding put
  cleared-put {at} {s} w h to e =
      let size : to - at ≡ width + l.size * length xs = omega arith in
      let end : at + 0 + (width + l.size * length xs) ≡ to = omega arith in
      swap_put (swap_in w (list_cleared inner width limit xs h)) (cleared_long inner width limit xs ∙ sym (length-replicate (width + l.size * length xs) 0))
      ∙ rw (length-replicate, end, add-zero, ← size) (sym (append_assoc (take at s) (replicate (to - at) 0) (drop to s)))

  -- So many gone at the front, and the first alone.
  pub front_gone_put : {at : ℕ} {s t : List ℕ} (m : ℕ) → Swapped at (list xs) (list (drop m xs)) s t → m ≤ length xs → length xs ≤ limit
      → (gap : ℕ) → l.size * m ≡ gap → (b : List ℕ) → b ≡ put s at (bytes_of width (length (drop m xs)))
      → t ≡ put b (at + width) (take (l.size * length (drop m xs)) (drop (at + width + gap) b) ++ replicate gap 0)
  front_gone_put {at} {s} m w h k gap q b e =
      let gone = twice_in w (list_gone inner width limit xs m h k) in
      let ys = drop m xs in
      let parts = used_parts inner m xs h in
      let first : gone.between ≡ b = swap_put gone.first (counts_long width (length xs) (length ys)) ∙ ap (λ (a : ℕ). put s a (bytes_of width (length ys))) (add-zero at) ∙ sym e in
      rw (← q)
      (swap_moved (used inner ys) (replicate (l.size * m) 0) (swap_from gone.second (sym first)) (l.size * m) (l.size * length ys) (omega arith) (used_gone inner m xs h) (used_long inner ys)
      (simp (length-append, length-replicate, used_long inner ys) (omega arith)))

  pub gone_put : {at : ℕ} {s t : List ℕ} → Swapped at (list xs) (list (drop 1 xs)) s t → 0 < length xs → length xs ≤ limit
      → (b : List ℕ) → b ≡ put s at (bytes_of width (length (drop 1 xs)))
      → t ≡ put b (at + width) (take (l.size * length (drop 1 xs)) (drop (at + width + l.size) b) ++ replicate l.size 0)
  gone_put w h k = front_gone_put 1 w (omega arith) k l.size (mul-one l.size)
