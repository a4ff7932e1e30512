-- Floor times, found channel by channel.
use Prim.Native.Nat.{ℕ, zero, suc, ◌+◌, min, ◌≤◌, ◌<◌}
use mathlib.Core.Path.{◌≡◌, refl, sym, ap, subst, ◌∙◌}
use mathlib.Core.Logic.{inl, inr}
use mathlib.Core.Bool.{Bool, true, false, cond}
use mathlib.Core.List.{List, [], ◌∷◌, map}
use mathlib.Core.Option.{Option, none, some}
use native.Mathlib.Omega.{arith}
use lib.Dec.{eqb}
use lib.ListN.{length, get_or, set}
use borrow.Author.Tests.{eqb-true, eqb-false, eq-eqb, ne_eqb}
use Rattle.basics.specs.Bools.{below_or_not}
use Rattle.plan.specs.Plan.{Plan, plan_of, plan_channels, channel_at, channel_count, entering, leaving}
use Rattle.plan.proofs.PlanLaws.{channel_count_lem}
use Rattle.rules.specs.Line.{Line, node_at, lane_at, sender_of, receiver_of, parents}
use Rattle.rules.specs.Clock.{entry_for}
use Rattle.rules.specs.Trim.{entries_for, floor_time}
use Rattle.rules.proofs.Lists.Members.{In, here, in_first, in_map, map_in, append_in, joined_in, any_in, none_any, in_least, least_above}
use Rattle.rules.proofs.Lists.Options.{none_some, some_same}
use Rattle.rules.proofs.Line.Joins.{in_entering, entering_in, leaving_in}
use Rattle.rules.proofs.Invariant.Inv.{heard_on}
use Rattle.rules.proofs.Steps.Floors.{floor_entry, floor_heard}
use Rattle.state.specs.State.{line_of}
use Rattle.state.proofs.InPlace.{line-plan}
use Rattle.state.proofs.PlanFitting.{heard_long}
use Rattle.items.specs.Items.{place_from, if_found}
use Rattle.items.proofs.Lookup.{senders, sender_placed}
use Rattle.buffer.specs.Ready.{Ready}
use Rattle.buffer.specs.Joins.{Missing, Joining}
use Rattle.buffer.specs.declared.joins.Joint.{Joint}
use Rattle.buffer.proofs.ReadyLaws.{heard_entering}
use Rattle.buffer.specs.Rows.{Rows}
use Rattle.trim.specs.Trimmed.{lowers_at, heard_lowers, channel_lowers}
use Rattle.trim.proofs.RowLaws.{rows_one}

-- ---- a node's place among the senders of some channels

module _ (p : Plan) (q : ℕ) where
  -- Its entry stands there.
  pub placed_entry : (k i : ℕ) (bs hs : List ℕ) → place_from p q k bs ≡ some i → (j : ℕ) × (i ≡ k + j) × (entry_for q (senders p bs) hs ≡ get_or hs j 0)
  placed_entry k i [] hs e = none_some e
  placed_entry k i (b ∷ bs) hs e = one (eqb (channel_at p b).sender q) refl hs (λ ks. placed_entry (suc k) i bs ks) e
    where
      one : (v : Bool) → eqb (channel_at p b).sender q ≡ v → (ks : List ℕ) → ((ls : List ℕ) → place_from p q (suc k) bs ≡ some i → (j : ℕ) × (i ≡ suc k + j) × (entry_for q (senders p bs) ls ≡ get_or ls j 0))
          → (elim v [ true ↦ some k | false ↦ place_from p q (suc k) bs ]) ≡ some i → (j : ℕ) × (i ≡ k + j) × (entry_for q (senders p (b ∷ bs)) ks ≡ get_or ks j 0)
      one true z [] later y = let same : k ≡ i = some_same y in (0, omega arith, refl)
      one true z (h ∷ ks) later y = let same : k ≡ i = some_same y in (0, omega arith, rw z refl)
      one false z [] later y = let (j, at, is) = later [] y in (suc j, omega arith, refl)
      one false z (h ∷ ks) later y = let (j, at, is) = later ks y in (suc j, omega arith, rw z is)

  -- It has a place exactly if one of the channels is its own.
  placed_own : (i : ℕ) (bs : List ℕ) → place_from p q 0 bs ≡ some i → (a : ℕ) × In a bs × ((channel_at p a).sender ≡ q)
  placed_own i bs e =
      let (x, m, t) = any_in (λ (c : ℕ). eqb c q) (senders p bs) (sender_placed p q 0 bs ∙ ap (λ (o : Option ℕ). if_found o (λ (b : ℕ). true)) e) in
      let (a, n, is) = map_in (λ (b : ℕ). (channel_at p b).sender) bs m in
      (a, n, sym is ∙ eqb-true x q t)

  own_placed : (a : ℕ) (bs : List ℕ) → In a bs → (channel_at p a).sender ≡ q → (i : ℕ) × (place_from p q 0 bs ≡ some i)
  own_placed a bs m e = one (place_from p q 0 bs) refl
    where
      one : (o : Option ℕ) → place_from p q 0 bs ≡ o → (i : ℕ) × (place_from p q 0 bs ≡ some i)
      one (some i) z = (i, z)
      one none z =
          let away = none_any (λ (c : ℕ). eqb c q) (sender_placed p q 0 bs ∙ ap (λ (o : Option ℕ). if_found o (λ (b : ℕ). true)) z) (in_map (λ (b : ℕ). (channel_at p b).sender) m) in
          absurd (eqb-false (channel_at p a).sender q away e)

-- ---- all channels

module _ (l : Line) (q : ℕ) where
  -- By the channels before b.
  abbrev pub floor_to : ℕ → ℕ
  floor_to zero = (node_at l q).time
  floor_to (suc b) = channel_lowers l b q (floor_to b)

  abbrev place : ℕ → Option ℕ
  place b = place_from l.plan q 0 (entering l.plan (sender_of l b))

  placed_heard : (b i : ℕ) → place b ≡ some i → get_or (lane_at l b).heard i 0 ≡ heard_on l b q
  unfolding parents
  placed_heard b i e =
      let (j, at, is) = placed_entry l.plan q 0 i (entering l.plan (sender_of l b)) (lane_at l b).heard e in
      let same : i ≡ j = omega arith in
      ap (λ (x : ℕ). get_or (lane_at l b).heard x 0) same ∙ sym is

  heard_least : (b k : ℕ) → heard_lowers l b q k ≤ k
  unfolding heard_lowers
  heard_least b k = one (place b)
    where
      one : (o : Option ℕ) → lowers_at o (lane_at l b).heard k ≤ k
      one none = omega arith
      one (some i) = omega arith

  -- A channel leaves no time above what stood, nor above what its receiver holds.
  falls : (b k : ℕ) → channel_lowers l b q k ≤ k
  unfolding channel_lowers
  falls b k = one (eqb (sender_of l b) q) (heard_least b k)
    where
      one : (v : Bool) {h : ℕ} → h ≤ k → cond v (min h (lane_at l b).taken) h ≤ k
      one true e = omega arith
      one false e = omega arith

  under_taken : (b k : ℕ) → sender_of l b ≡ q → channel_lowers l b q k ≤ (lane_at l b).taken
  unfolding channel_lowers
  under_taken b k e = rw (eq-eqb (sender_of l b) q e) (omega arith)

  under_heard : (b k i : ℕ) → place b ≡ some i → channel_lowers l b q k ≤ heard_on l b q
  unfolding channel_lowers heard_lowers
  under_heard b k i e = one (eqb (sender_of l b) q) (rw e (omega (arith, placed_heard b i e)))
    where
      one : (v : Bool) {h : ℕ} → h ≤ heard_on l b q → cond v (min h (lane_at l b).taken) h ≤ heard_on l b q
      one true e = omega arith
      one false e = omega arith

  floor_falls : (b m : ℕ) → b ≤ m → floor_to m ≤ floor_to b
  floor_falls b zero h = let same : b ≡ 0 = omega arith in rw same (omega arith)
  floor_falls b (suc m) h = elim (below_or_not b (suc m)) [
    | inl g ↦ omega (arith, falls m (floor_to m), floor_falls b m (omega arith))
    | inr g ↦ (let same : suc m ≡ b = omega arith in subst (λ (x : ℕ). floor_to (suc m) ≤ floor_to x) same (omega arith))
  ]

  -- The floor time is below it.
  above_heard : (b k : ℕ) → b < channel_count l.plan → floor_time l q ≤ k → floor_time l q ≤ heard_lowers l b q k
  unfolding heard_lowers
  above_heard b k h u = one (place b) refl
    where
      one : (o : Option ℕ) → place b ≡ o → floor_time l q ≤ lowers_at o (lane_at l b).heard k
      one none z = u
      one (some i) z =
          let those = entering l.plan (sender_of l b) in
          let (a, m, own) = placed_own l.plan q i those z in
          let (inside, to) = entering_in l.plan (sender_of l b) a m in
          let held : floor_time l q ≤ heard_on l b q = floor_heard l q a b (inside, own) (h, sym to) in
          omega (arith, u, held, placed_heard b i z)

  above_floor : (b : ℕ) → b ≤ channel_count l.plan → floor_time l q ≤ floor_to b
  unfolding floor_time channel_lowers
  above_floor zero h = in_least (here {xs = entries_for l q})
  above_floor (suc b) h = one (eqb (sender_of l b) q) refl (above_heard b (floor_to b) (omega arith) (above_floor b (omega arith)))
    where
      one : (v : Bool) → eqb (sender_of l b) q ≡ v → {k : ℕ} → floor_time l q ≤ k → floor_time l q ≤ cond v (min k (lane_at l b).taken) k
      one true e u = omega (arith, u, floor_entry l q b (omega arith, eqb-true (sender_of l b) q e))
      one false e u = u

  -- It is below all that any clock holds.
  under_all : (x : ℕ) → In x ((node_at l q).time ∷ entries_for l q) → floor_to (channel_count l.plan) ≤ x
  unfolding entries_for
  under_all x m = elim (in_first m) [
    | inl e ↦ omega (arith, floor_falls 0 (channel_count l.plan) (omega arith), e)
    | inr k ↦ elim (append_in (map (λ (b : ℕ). (lane_at l b).taken) (leaving l.plan q)) k) [
      | inl j ↦
          (let (b, i, is) = map_in (λ (b : ℕ). (lane_at l b).taken) (leaving l.plan q) j in
          let (h, own) = leaving_in l.plan q b i in
          omega (arith, floor_falls (suc b) (channel_count l.plan) h, under_taken b (floor_to b) own, is))
      | inr j ↦
          (let (ks, i, y) = joined_in (map through (leaving l.plan q)) j in
          let (b, w, same) = map_in through (leaving l.plan q) i in
          let (h, own) = leaving_in l.plan q b w in
          let (c, v, is) = map_in (held_on b) (leaving l.plan (receiver_of l b)) (subst (λ (zs : List ℕ). In x zs) same y) in
          let (g, from) = leaving_in l.plan (receiver_of l b) c v in
          let (p, placed) = own_placed l.plan q b (entering l.plan (sender_of l c)) (in_entering l.plan (sender_of l c) b h (sym from)) own in
          omega (arith, floor_falls (suc c) (channel_count l.plan) g, under_heard c (floor_to c) p placed, is, ap (λ (z : ℕ). entry_for q (parents l.plan z) (lane_at l c).heard) from))
    ]
  ]
    where
      held_on : ℕ → ℕ → ℕ
      held_on b c = entry_for q (parents l.plan (receiver_of l b)) (lane_at l c).heard

      through : ℕ → List ℕ
      through b = map (held_on b) (leaving l.plan (receiver_of l b))

  pub floor_whole : floor_to (channel_count l.plan) ≡ floor_time l q
  unfolding floor_time
  floor_whole = omega (arith, above_floor (channel_count l.plan) (omega arith), least_above ((node_at l q).time ∷ entries_for l q) refl under_all)

-- ---- on bytes, by what a lookup finds for a node and a channel's sender

module _ (s : List ℕ) (b q sender : ℕ) (from : sender ≡ (channel_at (plan_of s) b).sender) where
  lowers_is : (k : ℕ) → heard_lowers (line_of s) b q k ≡ lowers_at (place_from (plan_of s) q 0 (entering (plan_of s) sender)) (lane_at (line_of s) b).heard k
  unfolding heard_lowers
  lowers_is k = rw from (ap (λ (p : Plan). lowers_at (place_from p q 0 (entering p (channel_at p b).sender)) (lane_at (line_of s) b).heard k) (line-plan s))

  pub unheard : Missing s q sender → (k : ℕ) → k ≡ heard_lowers (line_of s) b q k
  unheard missing k = sym (lowers_is k ∙ ap (λ (o : Option ℕ). lowers_at o (lane_at (line_of s) b).heard k) missing.placed)

  module _ {j : Joint} (joint : Joining s q sender j) where
    pub heard_place : Ready s → b < plan_channels s → j.place < length (lane_at (line_of s) b).heard
    heard_place ready below = let early = rw from at joint.early in omega (arith, early, heard_long s ready.fits b below, heard_entering s b (record { ready = ready; below = below }))

    pub heard_lowers_lem : (k : ℕ) → min k (get_or (lane_at (line_of s) b).heard j.place 0) ≡ heard_lowers (line_of s) b q k
    heard_lowers_lem k = sym (lowers_is k ∙ ap (λ (o : Option ℕ). lowers_at o (lane_at (line_of s) b).heard k) joint.placed)

-- A channel's turn, and all of them.
pub lowered_on : (s : List ℕ) (b sender : ℕ) (old rows : List ℕ) → sender ≡ (channel_at (plan_of s) b).sender → sender < 12 → Rows rows (λ q. heard_lowers (line_of s) b q (get_or old q 0))
    → Rows (set rows sender (min (get_or rows sender 0) (lane_at (line_of s) b).taken)) (λ q. channel_lowers (line_of s) b q (get_or old q 0))
unfolding channel_lowers
lowered_on s b sender old rows from few heard =
    let same : sender_of (line_of s) b ≡ sender = ap (λ (p : Plan). (channel_at p b).sender) (line-plan s) ∙ sym from in
    rows_one (λ q. channel_lowers (line_of s) b q (get_or old q 0)) rows sender (min (get_or rows sender 0) (lane_at (line_of s) b).taken) heard.long
    (rw (eq-eqb (sender_of (line_of s) b) sender same, heard.each sender few))
    (λ q d h. rw (ne_eqb (sender_of (line_of s) b) q (λ e. d (sym e ∙ same))) (heard.each q h))

pub floors_found : (s : List ℕ) (b : ℕ) (rows : List ℕ) → b ≡ plan_channels s → Rows rows (λ q. floor_to (line_of s) q b) → Rows rows (floor_time (line_of s))
floors_found s b rows e now =
    let all : b ≡ channel_count (line_of s).plan = e ∙ sym (ap channel_count (line-plan s) ∙ channel_count_lem s) in
    record { long = now.long; each = λ q h. now.each q h ∙ ap (floor_to (line_of s) q) all ∙ floor_whole (line_of s) q }
