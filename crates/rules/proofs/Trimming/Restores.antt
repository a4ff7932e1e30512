-- A line and the same with more of its logs trimmed: what Recover finds is the same.
use Prim.Native.Nat.{ℕ, ◌<◌, ◌≤◌}
use mathlib.Core.Path.{◌≡◌, refl, sym, ap, subst, ◌∙◌}
use mathlib.Core.Logic.{◌≢◌, inl, inr}
use mathlib.Core.Bool.{Bool, false}
use mathlib.Core.List.{List, [], ◌∷◌, ◌++◌, map, append_assoc}
use native.Mathlib.Omega.{arith}
use lib.ListN.{drop}
use lib.Dec.{ltb}
use borrow.Author.Tests.{le-ltb}
use Rattle.plan.specs.declared.Channel.{Channel}
use Rattle.plan.specs.Plan.{channel_at, channel_count, leaving, is_sink}
use Rattle.rules.specs.Lists.{keep, joined}
use Rattle.rules.specs.Line.{made, Entry, Target, down, Node, Lane, Line, node_at, lane_at, parents, sender_of, receiver_of}
use Rattle.rules.specs.Clock.{entry_for, next_to_send}
use Rattle.rules.specs.Recover.{low_of, triple, triples, child_triples, low_through, targets_of, sort_targets, restored}
use Rattle.rules.specs.Trim.{low_after}
use Rattle.rules.specs.Plain.{Act, Receipt}
use Rattle.rules.proofs.Lists.ListLaws.{keep_append}
use Rattle.rules.proofs.Lists.Members.{In, here, there, in_left, in_right, append_in}
use Rattle.rules.proofs.Histories.Witness.{Taken}
use Rattle.rules.proofs.Histories.Ghost.{Ghost, input_of}
use Rattle.rules.proofs.Line.Joins.{leaving_in}
use Rattle.rules.proofs.Ending.Targets.{triples-entry, in_triples_at, triples_at_in, low_least, low_same, low_restored, triple-restored, restored_cases}
use Rattle.rules.proofs.Ending.Children.{Child, triples_from, is_parent}
use Rattle.rules.proofs.Invariant.Inv.{Leaves, UnmarkedEnd, UnmarkedChildren, Inv}
use Rattle.rules.proofs.Invariant.Stays.{moved}
use Rattle.rules.proofs.Invariant.Lows.{after_above, after_holds, after_from}
use Rattle.rules.proofs.Steps.Floors.{child_of}
use Rattle.rules.proofs.Trimming.Alike.{strip, same_lane}

-- k is u with more trimmed: alike but for counts, logs and low clocks, and what is gone in k is up to the entries that a step may ask for.
pub record Thinner (k u : Line) : Type 0 where
  pub alike : strip k ≡ strip u
  pub gone : ℕ → List Entry
  pub logs : (n : ℕ) → (node_at u n).log ≡ gone n ++ (node_at k n).log
  pub lows : (b : ℕ) → b < channel_count u.plan → (lane_at k b).low ≡ low_after (parents u.plan (sender_of u b)) (sender_of u b) (gone (receiver_of u b)) (lane_at u b).low
  pub reached : (n : ℕ) (e : Entry) → In e (gone n) → (c : ℕ) → Leaves u.plan n c → (node_at u (channel_at u.plan c).receiver).status ≢ down → e.time ≤ (lane_at u c).taken
  pub restored_past : (n : ℕ) → (node_at u n).crashed ≡ false → (e : Entry) → In e (gone n) → (c : ℕ) → Leaves u.plan n c → is_sink u.plan (channel_at u.plan c).receiver ≡ false → UnmarkedChildren u (channel_at u.plan c).receiver
      → e.time ≤ restored u (channel_at u.plan c).receiver n
  pub input_reached : (n : ℕ) → (node_at u n).crashed ≡ false → (e : Entry) → In e (gone n) → (s t : ℕ) → e.origin ≡ made s t → (c : ℕ) → Leaves u.plan s c → UnmarkedEnd u c → t ≤ (lane_at u c).taken

-- What is up to the mark is not sent again.
pub next_skips : (c : Channel) (mark : ℕ) (gone log : List Entry) → ((e : Entry) → In e gone → e.time ≤ mark) → next_to_send c mark (gone ++ log) ≡ next_to_send c mark log
next_skips c mark [] log early = refl
next_skips c mark (e ∷ es) log early = rw (le-ltb mark e.time (early e here), next_to_send) (next_skips c mark es log (λ d i. early d (there i)))

triples-append : (n : ℕ) (xs ys : List Entry) → triples n (xs ++ ys) ≡ triples n xs ++ triples n ys
triples-append n [] ys = refl
triples-append n (e ∷ xs) ys = ap (λ (ts : List Target). triple n e.origin e.before ++ ts) (triples-append n xs ys) ∙ sym (append_assoc (triple n e.origin e.before) (triples n xs) (triples n ys))

keep_nothing : {A : Type 0} (f : A → Bool) (xs : List A) → ((x : A) → In x xs → f x ≡ false) → keep f xs ≡ []
keep_nothing f [] h = refl
keep_nothing f (x ∷ xs) h = rw (h x here) (keep_nothing f xs (λ y i. h y (there i)))

keep-joined : {A : Type 0} (f : A → Bool) (F G : ℕ → List A) (cs : List ℕ) → ((c : ℕ) → In c cs → keep f (F c) ≡ keep f (G c)) → keep f (joined (map F cs)) ≡ keep f (joined (map G cs))
keep-joined f F G [] h = refl
keep-joined {A} f F G (c ∷ cs) h =
    keep_append f (F c) (joined (map F cs)) ∙ (λ i. h c here i ++ keep-joined f F G cs (λ d j. h d (there j)) i) ∙ sym (keep_append f (G c) (joined (map G cs)))

module _ (u : Line) (steps : List ℕ) (nodes : List Node) (lanes : List Lane) (thinner : Thinner (moved u steps nodes lanes) u)
    (g : Ghost) (cut base : ℕ → ℕ) (fed : List Act) (receipts : List Receipt) (crashes : List ℕ) (inv : Inv u g cut base fed receipts crashes)
    (n : ℕ) (unmarked : UnmarkedChildren u n) (own : Taken u.plan n (map input_of (g n))) where
  abbrev k : Line
  k = moved u steps nodes lanes

  takens : (c : ℕ) → (lane_at k c).taken ≡ (lane_at u c).taken
  takens c = ap (λ (s : Lane). s.taken) (same_lane k u thinner.alike c)

  pub low_alike : low_of (moved u steps nodes lanes) n ≡ low_of u n
  low_alike = low_same u k n refl (λ c h s. takens c)

  -- What is gone at a child and was made from n's messages is up to low.
  gone_low : (c : ℕ) → Leaves u.plan n c → (e : Entry) → In e (thinner.gone (receiver_of u c)) → (t : ℕ) → e.origin ≡ made n t → t ≤ low_of u n
  gone_low c h e i t q = low_least u n (λ d on s. thinner.input_reached (receiver_of u c) (unmarked c h) e i n t q d (on, s) (unmarked d (on, s))) h.0 h.1

  children : (c : ℕ) → c < channel_count u.plan → (channel_at u.plan c).sender ≡ n → Child u g c
  children c h s = child_of inv c h (unmarked c (h, s))

  abbrev late : Target → Bool
  late t = ltb (low_of u n) t.time

  gone_early : (c : ℕ) → Leaves u.plan n c → (t : Target) → In t (triples n (thinner.gone (receiver_of u c))) → ltb (low_of u n) t.time ≡ false
  gone_early c h t i = let (e, j, o, _) = triples-entry n (thinner.gone (receiver_of u c)) i in le-ltb (low_of u n) t.time (gone_low c h e j t.time o)

  late_same : keep late (child_triples u n) ≡ keep late (child_triples k n)
  unfolding child_triples
  late_same =
      keep-joined late (λ (c : ℕ). triples n (node_at u (channel_at u.plan c).receiver).log) (λ (c : ℕ). triples n (node_at k (channel_at u.plan c).receiver).log) (leaving u.plan n)
      (λ c i.
      (let D = (channel_at u.plan c).receiver in
      let h = leaving_in u.plan n c i in
      ap (λ (x : List Entry). keep late (triples n x)) (thinner.logs D) ∙ ap (keep late) (triples-append n (thinner.gone D) (node_at k D).log) ∙ keep_append late (triples n (thinner.gone D)) (triples n (node_at k D).log)
      ∙ ap (λ (ts : List Target). ts ++ keep late (triples n (node_at k D).log)) (keep_nothing late (triples n (thinner.gone D)) (λ t j. gone_early c h t j))))

  -- So the targets are the same,
  pub targets_alike : targets_of (moved u steps nodes lanes) n ≡ targets_of u n
  unfolding targets_of
  targets_alike = ap (λ (x : ℕ). sort_targets [] (keep (λ (t : Target). ltb x t.time) (child_triples k n))) low_alike ∙ ap (sort_targets []) (sym late_same)

  -- and the restored entries: what is gone from a log is in the low clock, and what a low clock has more was in a log.
  more_in : (c : ℕ) → Leaves u.plan n c → (a : ℕ) → low_through u n a c ≤ low_through k n a c
  more_in c (h, s) a =
      subst (λ (x : ℕ). low_through u x a c ≤ low_through k x a c) s
      (subst (λ (x : List ℕ). low_through u (sender_of u c) a c ≤ entry_for a (parents u.plan (sender_of u c)) (drop 1 x)) (sym (thinner.lows c h)) (after_above (parents u.plan (sender_of u c)) (sender_of u c) a (thinner.gone (receiver_of u c)) (lane_at u c).low))

  back : (a : ℕ) → restored u n a ≤ restored k n a
  back a =
      elim (restored_cases u n a) [
        | inl z ↦ omega (arith, z)
        | inr (inl (c, h, s, q)) ↦ omega (arith, q, more_in c (h, s) a, low_restored k n a c h s)
        | inr (inr (t, i, parent, upto, q)) ↦
            (let at = triples_at_in u n t i in
            let c = at.channel in
            let D = (channel_at u.plan c).receiver in
            elim (append_in (thinner.gone D) (subst (λ (x : List Entry). In at.entry x) (thinner.logs D) at.is_logged)) [
              | inr j ↦
                  (let again = in_triples_at k n t (record { channel = c; on_plan = at.on_plan; leaves = at.leaves; entry = at.entry; is_logged = j; origin_is = at.origin_is; before_is = at.before_is }) in
                  omega (arith, q, triple-restored k n a t again parent (omega (arith, upto, low_alike))))
              | inl j ↦
                  (let (b', m', t', event, is, _) = triples_from u g n inv.ordered own children t i in
                  let among : In t.parent (parents u.plan n) = subst (λ (x : ℕ). In x (parents u.plan n)) (sym (ap (λ (v : Target). v.parent) is)) (is_parent u g n inv.ordered own children b' m' t' event) in
                  let logs = inv.logs D (unmarked c (at.on_plan, at.leaves)) in
                  let low : t.parent_time ≤ entry_for t.parent (parents u.plan (sender_of u c)) (drop 1 (low_after (parents u.plan (sender_of u c)) (sender_of u c) (thinner.gone D) (lane_at u c).low)) =
                  after_holds (parents u.plan (sender_of u c)) (sender_of u c) t.parent t.parent_time t.time (thinner.gone D) (lane_at u c).low j (at.origin_is ∙ ap (λ (x : ℕ). made x t.time) (sym at.leaves)) at.before_is
                  (subst (λ (x : ℕ). In t.parent (parents u.plan x)) (sym at.leaves) among) (logs.low_long c (at.on_plan, refl)) in
                  let held : t.parent_time ≤ low_through k n a c =
                  subst (λ (x : ℕ). t.parent_time ≤ low_through k n x c) parent
                  (subst (λ (x : ℕ). t.parent_time ≤ low_through k x t.parent c) at.leaves
                  (subst (λ (x : List ℕ). t.parent_time ≤ entry_for t.parent (parents u.plan (sender_of u c)) (drop 1 x)) (sym (thinner.lows c at.on_plan)) low)) in
                  omega (arith, q, held, low_restored k n a c at.on_plan at.leaves))
            ])
      ]

  forth : (a : ℕ) → restored k n a ≤ restored u n a
  forth a =
      elim (restored_cases k n a) [
        | inl z ↦ omega (arith, z)
        | inr (inl (c, h, s, q)) ↦
            (let is : restored k n a ≡ entry_for a (parents u.plan (sender_of u c)) (drop 1 (low_after (parents u.plan (sender_of u c)) (sender_of u c) (thinner.gone (receiver_of u c)) (lane_at u c).low)) =
            q ∙ ap (λ (x : ℕ). low_through k x a c) (sym s) ∙ ap (λ (x : List ℕ). entry_for a (parents u.plan (sender_of u c)) (drop 1 x)) (thinner.lows c h) in
            elim (after_from (parents u.plan (sender_of u c)) (sender_of u c) a (thinner.gone (receiver_of u c)) (lane_at u c).low) [
              | inl z ↦ (let old : restored k n a ≡ low_through u n a c = is ∙ z ∙ ap (λ (x : ℕ). low_through u x a c) s in omega (arith, old, low_restored u n a c h s))
              | inr (d, t, i, o, before) ↦
                  (let origin : d.origin ≡ made n t = o ∙ ap (λ (x : ℕ). made x t) s in
                  let v = entry_for a (parents u.plan (sender_of u c)) (drop 1 (low_after (parents u.plan (sender_of u c)) (sender_of u c) (thinner.gone (receiver_of u c)) (lane_at u c).low)) in
                  let x : Target = record { time = t; parent = a; parent_time = v } in
                  let found : In x (child_triples u n) = in_triples_at u n x (record {
                    channel = c;
                    on_plan = h;
                    leaves = s;
                    entry = d;
                    is_logged = subst (λ (y : List Entry). In d y) (sym (thinner.logs (receiver_of u c))) (in_left (node_at k (receiver_of u c)).log i);
                    origin_is = origin;
                    before_is = before;
                  }) in
                  let there = triple-restored u n a x found refl (gone_low c (h, s) d i t origin) in
                  omega (arith, is, there))
            ])
        | inr (inr (t, i, parent, upto, q)) ↦
            (let at = triples_at_in k n t i in
            let D = (channel_at u.plan at.channel).receiver in
            let found : In t (child_triples u n) = in_triples_at u n t (record {
              channel = at.channel;
              on_plan = at.on_plan;
              leaves = at.leaves;
              entry = at.entry;
              is_logged = subst (λ (y : List Entry). In at.entry y) (sym (thinner.logs D)) (in_right (thinner.gone D) at.is_logged);
              origin_is = at.origin_is;
              before_is = at.before_is;
            }) in
            omega (arith, q, triple-restored u n a t found parent (omega (arith, upto, low_alike))))
      ]

  pub restored_alike : (a : ℕ) → restored (moved u steps nodes lanes) n a ≡ restored u n a
  restored_alike a = let x = back a in let y = forth a in omega arith
