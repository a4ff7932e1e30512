-- The node's history before the crash is itself a placing: what a replay holds were its events, and their old times keep the rules.
use Prim.Native.Nat.{ℕ, ◌<◌, ◌≤◌}
use mathlib.Core.Path.{◌≡◌, sym, ap, subst, ◌∙◌}
use mathlib.Core.Logic.{◌≢◌, inl, inr}
use mathlib.Core.Bool.{true}
use mathlib.Core.List.{List, map, map-map}
use native.Mathlib.Omega.{arith}
use native.Mathlib.Decide.{dec_le}
use lib.Dec.{ltb, leb}
use borrow.Author.Tests.{eq-eqb}
use Rattle.plan.specs.Rule.{applied}
use Rattle.plan.specs.Plan.{rule_at, channel_at, entering}
use Rattle.plan.specs.Mask.{taking}
use Rattle.placing.specs.Item.{Item}
use Rattle.placing.specs.Rules.{KeepsRules}
use Rattle.rules.specs.Line.{Message, replay, Line, node_at, lane_at}
use Rattle.rules.specs.Recover.{high_of, row_goal}
use Rattle.rules.specs.Replay.{fixed_at, floor_of, item_of, held_by_row, items_by_row}
use Rattle.rules.specs.Plain.{Act, Receipt}
use Rattle.rules.proofs.Lists.Rising.{Rises, rises-keep}
use Rattle.rules.proofs.Lists.Members.{In, in_map, map_in, greatest_in, rises_once}
use Rattle.rules.proofs.Lists.Linked.{Linked, linked_weaken, map_linked, partners}
use Rattle.rules.proofs.Line.Joins.{entering_in, taking_in, entering_rise}
use Rattle.rules.proofs.Histories.Ghost.{took_at, Ghost, sent_of, put}
use Rattle.rules.proofs.Histories.Passing.{goes_on, held_of}
use Rattle.rules.proofs.Invariant.Inv.{time_of, Enters, Replays, Inv}
use Rattle.rules.proofs.Invariant.InvLaws.{past_low, replay_marked, reached_goes}
use Rattle.rules.proofs.Invariant.MarkedLaws.{one_channel, put-taken, got_rises, goal_event, goal_cut}
use Rattle.rules.proofs.Ending.Kept.{in_passing, order_kept}
use Rattle.rules.proofs.Ending.Children.{made_parts}
use Rattle.rules.proofs.Ending.Targets.{high_above}
use Rattle.rules.proofs.Ending.TableRows.{Slot, slot_item, Earlier, slots, slot_in, same_row, slots_order, rows_items}
use Rattle.rules.proofs.Ending.EndInv.{row_of, held_rows, row_parts, fixed_above, fixed_event}
use Rattle.rules.proofs.Restart.Placeable.{Suits, keeps_by}

-- Two events passed on at one time are one input.
pub one_input : {l : Line} {g : Ghost} {cut base : ℕ → ℕ} {fed : List Act} {receipts : List Receipt} {crashes : List ℕ} (inv : Inv l g cut base fed receipts crashes) (n : ℕ) {b c : ℕ} {m k : Message} {t u : ℕ}
    → In (took_at b m t) (g n) → In (took_at c k u) (g n) → goes_on l.plan n m ≡ true → goes_on l.plan n k ≡ true → t ≡ u → ((channel_at l.plan b).sender ≡ (channel_at l.plan c).sender) × (m.time ≡ k.time)
one_input {l} {g} inv n {b} {c} {m} {k} {t} {u} i j d e q =
    let same : sent_of l.plan n (took_at b m t) ≡ sent_of l.plan n (took_at c k u) = rises_once time_of (inv.events n).rise (in_passing l.plan n i d) (in_passing l.plan n j e) q in
    made_parts (ap (λ (x : Message). x.origin) same)

module _ (l : Line) (g : Ghost) (cut base : ℕ → ℕ) (fed : List Act) (receipts : List Receipt) (crashes : List ℕ) (inv : Inv l g cut base fed receipts crashes) (n : ℕ) (replaying : (node_at l n).status ≡ replay) where
  marked : (node_at l n).crashed ≡ true
  marked = replay_marked inv.marks n replaying

  R : Replays l g cut base n
  R = inv.replays n replaying

  abbrev row : ℕ → List Message
  row = row_of l g cut base fed receipts crashes inv n replaying

  -- One held message of channel b.
  module _ (b : ℕ) (h : Enters l.plan n b) (m : Message) (i : In m (row_of l g cut base fed receipts crashes inv n replaying b)) where
    on : In m (put l.plan g b)
    on = (row_parts l g cut base fed receipts crashes inv n replaying b m i).0

    goes : goes_on l.plan n m ≡ true
    goes = (row_parts l g cut base fed receipts crashes inv n replaying b m i).1

    above : base b < m.time
    above = (row_parts l g cut base fed receipts crashes inv n replaying b m i).2

    upto : m.time ≤ (lane_at l b).taken
    upto = (row_parts l g cut base fed receipts crashes inv n replaying b m i).3

    within_goal : m.time ≤ row_goal (node_at l n).targets (channel_at l.plan b).sender
    within_goal = omega (arith, above, upto, (R.rows b h).to_goal)

    -- It was an event of the history.
    pub old_event : (t : ℕ) × In (took_at b m t) (g n)
    old_event = put-taken inv n marked b m h on (omega (arith, within_goal, goal_cut inv n replaying b h))

    module _ (t : ℕ) (e : In (took_at b m t) (g n)) where
      abbrev F : ℕ
      F = fixed_at (node_at l n).targets (held_of l.plan n b m)

      old_low : (node_at l n).time < t
      old_low = past_low R e goes above

      -- Its row goes no further than a target's input, and times rise along a row.
      old_high : t ≤ high_of l n
      old_high =
          let (x, u, j, reached, q) = goal_event inv n replaying b h (λ z. omega (arith, within_goal, above)) in
          let before = order_kept l.plan n (g n) (inv.events n).rise (got_rises inv n marked b h) e j goes (reached_goes reached) (omega (arith, q, within_goal)) in
          omega (arith, before, reached.in_time, high_above l n reached.channel reached.on_plan reached.leaves)

      -- A target keeps its own time.
      old_fixed : fixed_at (node_at l n).targets (held_of l.plan n b m) ≢ 0 → t ≡ fixed_at (node_at l n).targets (held_of l.plan n b m)
      old_fixed d =
          let j = fixed_event l g cut base fed receipts crashes inv n replaying b m h on d in
          let rise = (inv.events n).rise in
          let got = got_rises inv n marked b h in
          let one = order_kept l.plan n (g n) rise got e j goes goes (omega arith) in
          let two = order_kept l.plan n (g n) rise got j e goes goes (omega arith) in
          omega (arith, one, two)

      -- A free record reached no child that takes it.
      old_free : fixed_at (node_at l n).targets (held_of l.plan n b m) ≡ 0 → floor_of l n (applied (rule_at l.plan n) m.what) < t
      unfolding floor_of
      old_free z =
          let what = applied (rule_at l.plan n) m.what in
          elim (greatest_in (map (λ (c : ℕ). (lane_at l c).taken) (taking l.plan n (applied (rule_at l.plan n) m.what)))) [
            | inl q ↦ omega (arith, q, old_low)
            | inr j ↦
                (let (c, k, q) = map_in (λ (c : ℕ). (lane_at l c).taken) (taking l.plan n what) j in
                let (there, leaves, fits) = taking_in l.plan n what c k in
                elim (dec_le t (lane_at l c).taken) [
                  | no y ↦ omega (arith, q)
                  | yes y ↦
                      (let target = R.target_of b m t e old_low (record { channel = c; on_plan = there; leaves = leaves; takes_it = fits; in_time = y }) in
                      let among = fixed_above l g cut base fed receipts crashes inv n replaying b m t target in
                      let no : ⊥ = omega (arith, among, z, old_low) in absurd no)
                ])
          ]

      pub old_suits : (r : ℕ) → Suits (node_at l n).time (high_of l n) (item_of l n r (held_of l.plan n b m)) t
      unfolding item_of
      old_suits r = (old_low, old_high, old_fixed, λ z. rw (eq-eqb F 0 z) (old_free z))

  -- The table, and each slot with its old time.
  abbrev pub table : List Slot
  table = slots (row_of l g cut base fed receipts crashes inv n replaying) 0 (entering l.plan n)

  row_rises : (b : ℕ) → In b (entering l.plan n) → Rises time_of 0 (row_of l g cut base fed receipts crashes inv n replaying b)
  row_rises b i =
      rises-keep time_of (goes_on l.plan n) (rises-keep time_of (λ (x : Message). ltb (base b) x.time) (rises-keep time_of (λ (x : Message). leb x.time (lane_at l b).taken) (inv.channels b (entering_in l.plan n b i).0).rises))

  pub table_order : Linked Earlier table
  table_order = slots_order row 0 (entering l.plan n) row_rises

  -- A slot of the table: its channel enters the node, and its message is in the channel's row.
  pub in_table : {s : Slot} → In s table → Enters l.plan n s.channel × In s.message (row_of l g cut base fed receipts crashes inv n replaying s.channel)
  in_table {s} i = let (c, m) = slot_in row 0 (entering l.plan n) i in (entering_in l.plan n s.channel c, m)

  abbrev Was : Slot → ℕ → Type 0
  Was s t = In (took_at s.channel s.message t) (g n)

  seated : (zs : List (Slot × ℕ)) × (map (λ (z : Slot × ℕ). z.0) zs ≡ table) × ((z : Slot × ℕ) → In z zs → Was z.0 z.1)
  seated = partners {P = Was} table (λ s i. (let (h, m) = in_table i in old_event s.channel h s.message m))

  abbrev seats : List (Slot × ℕ)
  seats = seated.0

  in_seats : {z : Slot × ℕ} → In z seats → In z.0 table
  in_seats {z} i = subst (λ (x : List Slot). In z.0 x) seated.1 (in_map (λ (w : Slot × ℕ). w.0) i)

  -- Two slots of the table with their old times.
  module _ (y z : Slot × ℕ) (i : In y seats) (j : In z seats) (order : Earlier y.0 z.0) where
    first : Enters l.plan n y.0.channel × In y.0.message (row_of l g cut base fed receipts crashes inv n replaying y.0.channel)
    first = in_table (in_seats i)

    second : Enters l.plan n z.0.channel × In z.0.message (row_of l g cut base fed receipts crashes inv n replaying z.0.channel)
    second = in_table (in_seats j)

    apart : y.1 ≢ z.1
    apart q =
        let was = seated.2 y i in
        let (senders, times) = one_input inv n was (seated.2 z j) (goes y.0.channel first.0 y.0.message first.1) (goes z.0.channel second.0 z.0.message second.1) q in
        let same : y.0.channel ≡ z.0.channel = one_channel inv n marked z.0.channel y.0.channel y.0.message y.1 second.0 was senders in
        elim order [
          | inl h ↦ omega (arith, same_row row 0 (entering_rise l.plan n) (in_seats i) (in_seats j) same)
          | inr (_, _, h) ↦ omega (arith, times)
        ]

    rising : y.0.row ≡ z.0.row → y.1 < z.1
    rising q =
        elim order [
          | inl h ↦ (let no : ⊥ = omega arith in absurd no)
          | inr (_, same, h) ↦
              (let b = z.0.channel in
              let was : In (took_at b y.0.message y.1) (g n) = subst (λ (c : ℕ). In (took_at c y.0.message y.1) (g n)) same (seated.2 y i) in
              let before = order_kept l.plan n (g n) (inv.events n).rise (got_rises inv n marked b second.0) was (seated.2 z j)
              (goes y.0.channel first.0 y.0.message first.1) (goes b second.0 z.0.message second.1) (omega arith) in
              omega (arith, before, apart))
        ]

  -- The old times keep the placing's rules.
  pub old_times : (columns : List ℕ) × KeepsRules (node_at l n).time (high_of l n) (items_by_row l n 0 (held_by_row (node_at l n).held l (entering l.plan n))) columns
  unfolding item_of
  old_times =
      let item : Slot × ℕ → Item = λ z. slot_item l n z.0 in
      let column : Slot × ℕ → ℕ = λ z. z.1 in
      let is : items_by_row l n 0 (held_by_row (node_at l n).held l (entering l.plan n)) ≡ map item seats =
      rows_items row l n (node_at l n).held 0 (entering l.plan n) (held_rows l g cut base fed receipts crashes inv n replaying) ∙ ap (map (slot_item l n)) (sym seated.1) ∙ map-map (slot_item l n) (λ (z : Slot × ℕ). z.0) seats in (
        map column seats,
        rw is
            (keeps_by item column (node_at l n).time (high_of l n) seats
            (λ z i. (let (h, m) = in_table (in_seats i) in old_suits z.0.channel h z.0.message m z.1 (seated.2 z i) z.0.row))
            (linked_weaken (λ y z i j order. (apart y z i j order, rising y z i j order)) (map_linked (λ (z : Slot × ℕ). z.0) seats (subst (Linked Earlier) (sym seated.1) table_order)))),
      )
