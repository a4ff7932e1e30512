-- What Recover reads off the children: low and high, the triples of their logs, and the targets among these.
use Prim.Native.Nat.{ℕ, ◌<◌, ◌≤◌}
use mathlib.Core.Path.{◌≡◌, refl, sym, ap, subst, ◌∙◌}
use mathlib.Core.Logic.{◌⊎◌, inl, inr}
use mathlib.Core.Bool.{Bool, true, false, cond, ◌&&◌}
use mathlib.Core.List.{List, [], ◌∷◌, ◌++◌, map}
use lib.ListN.{drop}
use lib.Dec.{ltb, leb, eqb}
use borrow.Author.Tests.{eq-eqb, eqb-true, lt-ltb, ltb-true, le-leb, leb-true}
use Rattle.basics.specs.Bools.{both_true}
use Rattle.plan.specs.Plan.{Plan, channel_at, channel_count, leaving, is_sink}
use Rattle.rules.specs.Lists.{keep, joined, greatest_of, least_of}
use Rattle.rules.specs.Line.{Origin, fed, made, Entry, Target, Line, node_at, lane_at, parents}
use Rattle.rules.specs.Clock.{entry_for}
use Rattle.rules.specs.Recover.{child_times, low_of, high_of, triple, triples, child_triples, low_through, child_lows, same_target, target_before, add_target, sort_targets, targets_of, restored}
use Rattle.rules.proofs.Lists.Members.{In, here, there, in_none, in_first, in_some, in_keep, keep_in, in_map, map_in, in_left, in_right, append_in, in_joined, joined_in, map_same, in_greatest, greatest_in, in_least, least_above, least_greatest}
use Rattle.rules.proofs.Lists.ListLaws.{nil_right}
use Rattle.rules.proofs.Line.Joins.{in_leaving, leaving_in, some_leaves}

-- The triples of a log.
abbrev target_at : ℕ → ℕ → ℕ → Target
target_at t a s = record { time = t; parent = a; parent_time = s }

triple_in : (n : ℕ) (o before : Origin) {u : Target} → In u (triple n o before) → (o ≡ made n u.time) × (before ≡ made u.parent u.parent_time)
triple_in n fed before i = absurd (in_none i)
triple_in n (made s t) fed i = absurd (in_none i)
triple_in n (made s t) (made a v) {u} i = one (eqb s n) refl i
  where
    one : (x : Bool) → eqb s n ≡ x → In u (cond x (target_at t a v ∷ []) []) → (made s t ≡ made n u.time) × (made a v ≡ made u.parent u.parent_time)
    one true q j =
        elim (in_first j) [
          | inl e ↦ (λ k. made (eqb-true s n q k) (sym e k).time, λ k. made (sym e k).parent (sym e k).parent_time)
          | inr k ↦ absurd (in_none k)
        ]
    one false q j = absurd (in_none j)

triple-of : (n t a s : ℕ) → In (target_at t a s) (triple n (made n t) (made a s))
triple-of n t a s = rw (eq-eqb n n refl) here

in_triples : (n : ℕ) {u : Target} {e : Entry} {log : List Entry} → In e log → In u (triple n e.origin e.before) → In u (triples n log)
in_triples n (here {xs = log}) j = in_left (triples n log) j
in_triples n (there {y = d} i) j = in_right (triple n d.origin d.before) (in_triples n i j)

triples_in : (n : ℕ) (log : List Entry) {u : Target} → In u (triples n log) → (e : Entry) × In e log × In u (triple n e.origin e.before)
triples_in n [] i = absurd (in_none i)
triples_in n (e ∷ log) i =
    elim (append_in (triple n e.origin e.before) i) [
      | inl j ↦ (e, here, j)
      | inr j ↦ (let (d, k, h) = triples_in n log j in (d, there k, h))
    ]

pub triples-entry : (n : ℕ) (log : List Entry) {u : Target} → In u (triples n log) → (e : Entry) × In e log × (e.origin ≡ made n u.time) × (e.before ≡ made u.parent u.parent_time)
triples-entry n log i = let (e, j, k) = triples_in n log i in let (o, before) = triple_in n e.origin e.before k in (e, j, o, before)

-- A triple is an entry in a child's log, made from the node's message at its time, which was made from its parent's message.
pub record TripleAt (l : Line) (n : ℕ) (u : Target) : Type 0 where
  pub channel : ℕ
  pub on_plan : channel < channel_count l.plan
  pub leaves : (channel_at l.plan channel).sender ≡ n
  pub entry : Entry
  pub is_logged : In entry (node_at l (channel_at l.plan channel).receiver).log
  pub origin_is : entry.origin ≡ made n u.time
  pub before_is : entry.before ≡ made u.parent u.parent_time

module _ (l : Line) (n : ℕ) where
  pub in_triples_at : (u : Target) → TripleAt l n u → In u (child_triples l n)
  unfolding child_triples
  in_triples_at u t =
      let named : In u (triple n t.entry.origin t.entry.before) = rw (t.origin_is, t.before_is) (triple-of n u.time u.parent u.parent_time) in
      in_joined (in_triples n t.is_logged named) (in_map (λ (c : ℕ). triples n (node_at l (channel_at l.plan c).receiver).log) (in_leaving l.plan n t.channel t.on_plan t.leaves))

  pub triples_at_in : (u : Target) → In u (child_triples l n) → TripleAt l n u
  unfolding child_triples
  triples_at_in u i =
      let (ts, j, k) = joined_in (map (λ (c : ℕ). triples n (node_at l (channel_at l.plan c).receiver).log) (leaving l.plan n)) i in
      let (c, h, q) = map_in (λ (c : ℕ). triples n (node_at l (channel_at l.plan c).receiver).log) (leaving l.plan n) j in
      let (on_plan, leaves) = leaving_in l.plan n c h in
      let (e, logged, v) = triples_in n (node_at l (channel_at l.plan c).receiver).log (subst (λ (x : List Target). In u x) q k) in
      let (o, before) = triple_in n e.origin e.before v in
      record { channel = c; on_plan = on_plan; leaves = leaves; entry = e; is_logged = logged; origin_is = o; before_is = before }

  -- Low and high lie around every child's entry.
  pub low_below : (c : ℕ) → c < channel_count l.plan → (channel_at l.plan c).sender ≡ n → low_of l n ≤ (lane_at l c).taken
  unfolding low_of
  low_below c h e = in_least (in_map (λ (d : ℕ). (lane_at l d).taken) (in_leaving l.plan n c h e))

  pub high_above : (c : ℕ) → c < channel_count l.plan → (channel_at l.plan c).sender ≡ n → (lane_at l c).taken ≤ high_of l n
  unfolding high_of
  high_above c h e = in_greatest (in_map (λ (d : ℕ). (lane_at l d).taken) (in_leaving l.plan n c h e))

  pub low_above : {k : ℕ} → is_sink l.plan n ≡ false → ((c : ℕ) → c < channel_count l.plan → (channel_at l.plan c).sender ≡ n → k ≤ (lane_at l c).taken) → k ≤ low_of l n
  unfolding low_of child_times
  low_above {k} e f =
      least_above (child_times l n) (let (c, out) = some_leaves l.plan n e in in_some (in_map (λ (d : ℕ). (lane_at l d).taken) (in_leaving l.plan n c out.0 out.1)))
      (λ t i. (let (c, j, q) = map_in (λ (d : ℕ). (lane_at l d).taken) (leaving l.plan n) i in let (h, s) = leaving_in l.plan n c j in subst (λ (x : ℕ). k ≤ x) (sym q) (f c h s)))

  pub low_least : {k c : ℕ} → ((d : ℕ) → d < channel_count l.plan → (channel_at l.plan d).sender ≡ n → k ≤ (lane_at l d).taken) → c < channel_count l.plan → (channel_at l.plan c).sender ≡ n → k ≤ low_of l n
  unfolding low_of child_times
  low_least {k} {c} f h e =
      least_above (child_times l n) (in_some (in_map (λ (d : ℕ). (lane_at l d).taken) (in_leaving l.plan n c h e)))
      (λ t i. (let (d, j, q) = map_in (λ (d : ℕ). (lane_at l d).taken) (leaving l.plan n) i in let (o, s) = leaving_in l.plan n d j in subst (λ (x : ℕ). k ≤ x) (sym q) (f d o s)))

  pub low_high : low_of l n ≤ high_of l n
  unfolding low_of high_of
  low_high = least_greatest (child_times l n)

-- A target in its place: it and those that were there.
pub same_target_lem : (t u : Target) → same_target t u ≡ true → t ≡ u
same_target_lem t u e =
    let (ab, c) = both_true (eqb t.time u.time && eqb t.parent u.parent) (eqb t.parent_time u.parent_time) e in
    let (a, b) = both_true (eqb t.time u.time) (eqb t.parent u.parent) ab in
    λ i. target_at (eqb-true t.time u.time a i) (eqb-true t.parent u.parent b i) (eqb-true t.parent_time u.parent_time c i)

abbrev place_for : Bool → Bool → Target → Target → List Target → List Target → List Target
place_for before same t u us rest = elim before [ true ↦ t ∷ u ∷ us | false ↦ elim same [ true ↦ u ∷ us | false ↦ u ∷ rest ] ]

swapped : {A : Type 0} {x y v : A} {xs : List A} → In v (x ∷ y ∷ xs) → In v (y ∷ x ∷ xs)
swapped here = there here
swapped (there here) = here
swapped (there (there i)) = there (there i)

in_rest : {A : Type 0} {y v : A} {xs ys : List A} → (In v xs → In v ys) → In v (y ∷ xs) → In v (y ∷ ys)
in_rest f here = here
in_rest f (there i) = there (f i)

pub add_in : (t : Target) (us : List Target) {v : Target} → In v (add_target t us) → In v (t ∷ us)
add_in t [] i = i
add_in t (u ∷ us) {v} i = one (target_before t u) (same_target t u) i (λ j. add_in t us j)
  where
    one : (x y : Bool) → In v (place_for x y t u us (add_target t us)) → (In v (add_target t us) → In v (t ∷ us)) → In v (t ∷ u ∷ us)
    one true y j later = j
    one false true j later = there j
    one false false j later = swapped (in_rest later j)

in_add : (t : Target) (us : List Target) {v : Target} → In v (t ∷ us) → In v (add_target t us)
in_add t [] i = i
in_add t (u ∷ us) {v} i = one (target_before t u) (same_target t u) refl i (λ j. in_add t us j)
  where
    known : t ≡ u → In v (t ∷ u ∷ us) → In v (u ∷ us)
    known q j = elim (in_first j) [ inl e ↦ subst (λ (x : Target). In x (u ∷ us)) (sym (e ∙ q)) here | inr k ↦ k ]

    one : (x y : Bool) → same_target t u ≡ y → In v (t ∷ u ∷ us) → (In v (t ∷ us) → In v (add_target t us)) → In v (place_for x y t u us (add_target t us))
    one true y q j later = j
    one false true q j later = known (same_target_lem t u q) j
    one false false q j later = in_rest later (swapped j)

in_sort : (ts sorted : List Target) {v : Target} → In v ts ⊎ In v sorted → In v (sort_targets sorted ts)
in_sort [] sorted (inl i) = absurd (in_none i)
in_sort [] sorted (inr i) = i
in_sort (t ∷ ts) sorted (inl here) = in_sort ts (add_target t sorted) (inr (in_add t sorted here))
in_sort (t ∷ ts) sorted (inl (there i)) = in_sort ts (add_target t sorted) (inl i)
in_sort (t ∷ ts) sorted (inr i) = in_sort ts (add_target t sorted) (inr (in_add t sorted (there i)))

sort_in : (ts sorted : List Target) {v : Target} → In v (sort_targets sorted ts) → In v ts ⊎ In v sorted
sort_in [] sorted i = inr i
sort_in (t ∷ ts) sorted {v} i =
    elim (sort_in ts (add_target t sorted) i) [
      | inl j ↦ inl (there j)
      | inr j ↦ elim (in_first (add_in t sorted j)) [ inl q ↦ inl (subst (λ (x : Target). In x (t ∷ ts)) (sym q) here) | inr k ↦ inr k ]
    ]

-- The targets are the triples above low.
module _ (l : Line) (n : ℕ) (u : Target) where
  pub targets_from : In u (targets_of l n) → In u (child_triples l n) × (low_of l n < u.time)
  unfolding targets_of
  targets_from i =
      elim (sort_in (keep (λ (t : Target). ltb (low_of l n) t.time) (child_triples l n)) [] i) [
        | inl j ↦ (let (k, e) = keep_in (λ (t : Target). ltb (low_of l n) t.time) (child_triples l n) j in (k, ltb-true (low_of l n) u.time e))
        | inr j ↦ absurd (in_none j)
      ]

  pub targets_of_lem : In u (child_triples l n) → low_of l n < u.time → In u (targets_of l n)
  unfolding targets_of
  targets_of_lem i h = in_sort (keep (λ (t : Target). ltb (low_of l n) t.time) (child_triples l n)) [] (inl (in_keep (λ (t : Target). ltb (low_of l n) t.time) i (lt-ltb (low_of l n) u.time h)))

-- A log with one more entry that is not made from node n.
pub triples_snoc : (n : ℕ) (log : List Entry) (e : Entry) → triple n e.origin e.before ≡ [] → triples n (log ++ e ∷ []) ≡ triples n log
triples_snoc n [] e q = nil_right (triple n e.origin e.before) ∙ q
triples_snoc n (d ∷ log) e q = ap (λ (ts : List Target). triple n d.origin d.before ++ ts) (triples_snoc n log e q)

-- A restored entry: what the children's low clocks hold, and the triples up to low; the greatest of them.
module _ (l : Line) (n a : ℕ) where
  abbrev restoring : Target → Bool
  restoring u = eqb u.parent a && leb u.time (low_of l n)

  abbrev rows : List ℕ
  rows = map (λ (u : Target). u.parent_time) (keep restoring (child_triples l n))

  pub low_restored : (c : ℕ) → c < channel_count l.plan → (channel_at l.plan c).sender ≡ n → low_through l n a c ≤ restored l n a
  unfolding restored child_lows
  low_restored c h q = in_greatest (in_left rows (in_map (low_through l n a) (in_leaving l.plan n c h q)))

  pub triple-restored : (u : Target) → In u (child_triples l n) → u.parent ≡ a → u.time ≤ low_of l n → u.parent_time ≤ restored l n a
  unfolding restored
  triple-restored u i q h = in_greatest (in_right (child_lows l n a) (in_map (λ (v : Target). v.parent_time) (in_keep restoring i (rw (eq-eqb u.parent a q, le-leb u.time (low_of l n) h)))))

  pub restored_cases : (restored l n a ≡ 0)
      ⊎ (((c : ℕ) × (c < channel_count l.plan) × ((channel_at l.plan c).sender ≡ n) × (restored l n a ≡ low_through l n a c))
      ⊎ ((u : Target) × In u (child_triples l n) × (u.parent ≡ a) × (u.time ≤ low_of l n) × (u.parent_time ≡ restored l n a)))
  unfolding restored child_lows
  restored_cases =
      elim (greatest_in (map (low_through l n a) (leaving l.plan n) ++ rows)) [
        | inl z ↦ inl z
        | inr i ↦ elim (append_in (map (low_through l n a) (leaving l.plan n)) i) [
          | inl j ↦ (let (c, k, q) = map_in (low_through l n a) (leaving l.plan n) j in let (h, s) = leaving_in l.plan n c k in inr (inl (c, h, s, q)))
          | inr j ↦
              (let (u, k, q) = map_in (λ (v : Target). v.parent_time) (keep restoring (child_triples l n)) j in
              let (found, e) = keep_in restoring (child_triples l n) k in
              let (parent, upto) = both_true (eqb u.parent a) (leb u.time (low_of l n)) e in
              inr (inr (u, found, eqb-true u.parent a parent, leb-true u.time (low_of l n) upto, sym q)))
        ]
      ]

-- Another line with the same children's entries, and one with the same triples in the children's logs.
module _ (l k : Line) (n : ℕ) (plans : k.plan ≡ l.plan) where
  module _ (entries : (c : ℕ) → c < channel_count l.plan → (channel_at l.plan c).sender ≡ n → (lane_at k c).taken ≡ (lane_at l c).taken) where
    pub times_same : child_times k n ≡ child_times l n
    unfolding child_times
    times_same =
        ap (λ (p : Plan). map (λ (c : ℕ). (lane_at k c).taken) (leaving p n)) plans
        ∙ map_same (λ (c : ℕ). (lane_at k c).taken) (λ (c : ℕ). (lane_at l c).taken) (leaving l.plan n) (λ c i. let (h, e) = leaving_in l.plan n c i in entries c h e)

    pub low_same : low_of k n ≡ low_of l n
    unfolding low_of
    low_same = ap least_of times_same

    pub high_same : high_of k n ≡ high_of l n
    unfolding high_of
    high_same = ap greatest_of times_same

  module _ (logs : (c : ℕ) → c < channel_count l.plan → (channel_at l.plan c).sender ≡ n → triples n (node_at k (channel_at l.plan c).receiver).log ≡ triples n (node_at l (channel_at l.plan c).receiver).log) where
    pub triples_same : child_triples k n ≡ child_triples l n
    unfolding child_triples
    triples_same =
        ap joined
        (ap (λ (p : Plan). map (λ (c : ℕ). triples n (node_at k (channel_at p c).receiver).log) (leaving p n)) plans
        ∙ map_same (λ (c : ℕ). triples n (node_at k (channel_at l.plan c).receiver).log) (λ (c : ℕ). triples n (node_at l (channel_at l.plan c).receiver).log) (leaving l.plan n) (λ c i. let (h, e) = leaving_in l.plan n c i in logs c h e))

  -- And with the same low clocks.
  module _ (lows : (c : ℕ) → c < channel_count l.plan → (channel_at l.plan c).sender ≡ n → (lane_at k c).low ≡ (lane_at l c).low) where
    pub lows_same : (a : ℕ) → child_lows k n a ≡ child_lows l n a
    unfolding child_lows
    lows_same a =
        ap (λ (p : Plan). map (λ (c : ℕ). entry_for a (parents p n) (drop 1 (lane_at k c).low)) (leaving p n)) plans
        ∙ map_same (λ (c : ℕ). entry_for a (parents l.plan n) (drop 1 (lane_at k c).low)) (low_through l n a) (leaving l.plan n)
        (λ c i. let (h, e) = leaving_in l.plan n c i in ap (λ (x : List ℕ). entry_for a (parents l.plan n) (drop 1 x)) (lows c h e))

-- Low and the triples decide the targets, and with the low clocks the restored entries.
module _ (l k : Line) (n : ℕ) (lows : low_of k n ≡ low_of l n) (found : child_triples k n ≡ child_triples l n) where
  pub targets_same : targets_of k n ≡ targets_of l n
  unfolding targets_of
  targets_same = λ i. sort_targets [] (keep (λ (t : Target). ltb (lows i) t.time) (found i))

  pub restored_same : (a : ℕ) → child_lows k n a ≡ child_lows l n a → restored k n a ≡ restored l n a
  unfolding restored
  restored_same a kept = λ i. greatest_of (kept i ++ map (λ (t : Target). t.parent_time) (keep (λ (t : Target). eqb t.parent a && leb t.time (lows i)) (found i)))
