-- The replay table of a line that keeps its limits is well formed, so that the placing looks for columns.
use Prim.Native.Nat.{ℕ, ◌<◌, ◌≤◌}
use mathlib.Core.Path.{◌≡◌, refl, sym, ap, ◌∙◌}
use mathlib.Core.Logic.{◌≢◌, inl, inr}
use mathlib.Core.Bool.{Bool, true, not, cond}
use mathlib.Core.List.{List, [], ◌∷◌, map}
use native.Mathlib.Omega.{arith}
use native.Mathlib.Decide.{ℕ_discrete}
use lib.ListN.{length, length-append}
use lib.Dec.{eqb, leb}
use borrow.Author.Tests.{eq-eqb, ne_eqb, eqb-true, lt-ltb, le-ltb, le-leb}
use Rattle.plan.specs.declared.Record.{Record}
use Rattle.plan.specs.Rule.{applied}
use Rattle.plan.specs.Plan.{rule_at, channel_at, entering}
use Rattle.plan.specs.Mask.{taking}
use Rattle.placing.specs.Table.{most_items, greatest, table_fits, bounds_fit, item_fits, fixed_fits, comes_after, items_fit}
use Rattle.rules.specs.Lists.{keep, joined}
use Rattle.rules.specs.Line.{accepted_steps, Message, Held, Line, replay, node_at, lane_at, time_limit}
use Rattle.rules.specs.Recover.{high_of}
use Rattle.rules.specs.Replay.{fixed_at, floor_of, item_of, held_by_row, items_by_row}
use Rattle.rules.specs.Plain.{Act, Receipt}
use Rattle.rules.proofs.Lists.ListLaws.{keep_wider}
use Rattle.rules.proofs.Lists.Members.{In, here, there, map_in, greatest_in}
use Rattle.rules.proofs.Lists.Counts.{keep_both}
use Rattle.rules.proofs.Lists.Linked.{Linked, none, more, linked_weaken}
use Rattle.rules.proofs.Line.Joins.{entering_in, entering_rise, taking_in}
use Rattle.rules.proofs.Line.LanesLaws.{Rising, in_above}
use Rattle.rules.proofs.Histories.Ghost.{Ghost}
use Rattle.rules.proofs.Histories.Passing.{held_of}
use Rattle.rules.proofs.Invariant.Inv.{Enters, Inv}
use Rattle.rules.proofs.Invariant.InvLaws.{replay_marked}
use Rattle.rules.proofs.Invariant.Limits.{Limits, high_within}
use Rattle.rules.proofs.Ending.Targets.{high_above}
use Rattle.rules.proofs.Ending.TableRows.{Slot, slot_item, Earlier, slot_row, rows_items}
use Rattle.rules.proofs.Ending.EndInv.{row_of, held_rows, row_parts, fixed_event}
use Rattle.rules.proofs.Undamaged.PlacedLog.{items_long}
use Rattle.rules.proofs.Restart.OldTimes.{old_suits, table, table_order, in_table}
use Rattle.rules.proofs.Restart.Placeable.{fits_by}

-- Rows of different senders hold no more than there is.
module _ (l : Line) where
  abbrev Other : ℕ → ℕ → Type 0
  Other b c = (channel_at l.plan b).sender ≢ (channel_at l.plan c).sender

  rows_else : (b : ℕ) (hs : List Held) (cs : List ℕ) → ((c : ℕ) → In c cs → Other b c) → held_by_row (keep (λ (h : Held). not (eqb h.sender (channel_at l.plan b).sender)) hs) l cs ≡ held_by_row hs l cs
  rows_else b hs [] f = refl
  rows_else b hs (c ∷ cs) f =
      let mine : Held → Bool = λ h. eqb h.sender (channel_at l.plan c).sender in
      let other : Held → Bool = λ h. not (eqb h.sender (channel_at l.plan b).sender) in
      rw (
        keep_wider mine other (λ h e. ap not (ne_eqb h.sender (channel_at l.plan b).sender (λ q. f c here (sym q ∙ eqb-true h.sender (channel_at l.plan c).sender e)))) hs,
        rows_else b hs cs (λ d i. f d (there i)),
      )

  rows_short : (hs : List Held) {bs : List ℕ} → Linked Other bs → length (joined (held_by_row hs l bs)) ≤ length hs
  rows_short hs none = omega arith
  rows_short hs (more {x = b} {xs = bs} f k) =
      let mine : Held → Bool = λ h. eqb h.sender (channel_at l.plan b).sender in
      let ih = rows_short (keep (λ (h : Held). not (eqb h.sender (channel_at l.plan b).sender)) hs) k in
      omega (arith, length-append (keep mine hs) (joined (held_by_row hs l bs)), keep_both mine hs, ih, ap (λ (rows : List (List Held)). length (joined rows)) (rows_else b hs bs f))

rising_linked : {k : ℕ} {bs : List ℕ} → Rising k bs → Linked (λ (b c : ℕ). b < c) bs
rising_linked Rising.none = none
rising_linked (Rising.more h r) = more (λ c i. in_above r i) (rising_linked r)

module _ (l : Line) (g : Ghost) (cut base : ℕ → ℕ) (fed : List Act) (receipts : List Receipt) (crashes : List ℕ) (inv : Inv l g cut base fed receipts crashes) (n : ℕ) (replaying : (node_at l n).status ≡ replay)
    (limits : Limits 1 l) (steps : accepted_steps l < time_limit) (four : length (entering l.plan n) ≤ 4) where
  few : length (items_by_row l n 0 (held_by_row (node_at l n).held l (entering l.plan n))) ≤ most_items
  few =
      let senders : Linked (Other l) (entering l.plan n) =
      linked_weaken (λ b c i j h q. (let (on, into) = entering_in l.plan n b i in let (on', into') = entering_in l.plan n c j in omega (arith, inv.ordered.alone b c on on' q (into ∙ sym into')))) (rising_linked (entering_rise l.plan n)) in
      omega (
        arith,
        items_long l n 0 (held_by_row (node_at l n).held l (entering l.plan n)),
        rows_short l (node_at l n).held senders,
        (inv.rooms n (replay_marked inv.marks n replaying)).held_few replaying,
      )

  -- No floor is above high.
  floor_within : (what : Record) → floor_of l n what ≤ high_of l n
  unfolding floor_of
  floor_within what =
      elim (greatest_in (map (λ (c : ℕ). (lane_at l c).taken) (taking l.plan n what))) [
        | inl q ↦ omega (arith, q)
        | inr i ↦ (let (c, j, q) = map_in (λ (c : ℕ). (lane_at l c).taken) (taking l.plan n what) i in let (on_plan, leaves, _) = taking_in l.plan n what c j in omega (arith, q, high_above l n c on_plan leaves))
      ]

  -- One slot of the table.
  module _ (s : Slot) (i : In s (table l g cut base fed receipts crashes inv n replaying)) where
    abbrev b : ℕ
    b = s.channel

    abbrev m : Message
    m = s.message

    enters : Enters l.plan n s.channel
    enters = (in_table l g cut base fed receipts crashes inv n replaying i).0

    mine : In s.message (row_of l g cut base fed receipts crashes inv n replaying s.channel)
    mine = (in_table l g cut base fed receipts crashes inv n replaying i).1

    abbrev F : ℕ
    F = fixed_at (node_at l n).targets (held_of l.plan n s.channel s.message)

    later : 0 < s.message.time
    later = omega (arith, (row_parts l g cut base fed receipts crashes inv n replaying b m mine).2)

    fixed_fits_lem : (fixed : ℕ) → fixed_at (node_at l n).targets (held_of l.plan n s.channel s.message) ≡ fixed
        → (leb (cond (eqb fixed 0) (floor_of l n (applied (rule_at l.plan n) s.message.what)) 0) greatest ≡ true) × (fixed_fits (node_at l n).time (high_of l n) fixed (cond (eqb fixed 0) (floor_of l n (applied (rule_at l.plan n) s.message.what)) 0) ≡ true)
    unfolding fixed_fits
    fixed_fits_lem fixed q =
        elim (ℕ_discrete fixed 0) [
          | yes z ↦ (let what = applied (rule_at l.plan n) s.message.what in rw (eq-eqb fixed 0 z) (le-leb (floor_of l n what) greatest (omega (arith, floor_within what, high_within limits n)), refl))
          | no d ↦
              (let e = fixed_event l g cut base fed receipts crashes inv n replaying b m enters (row_parts l g cut base fed receipts crashes inv n replaying b m mine).0 (λ z. d (sym q ∙ z)) in
              let (low, high, _, _) = old_suits l g cut base fed receipts crashes inv n replaying b enters m mine F e s.row in
              rw (ne_eqb fixed 0 d, lt-ltb (node_at l n).time fixed (omega (arith, low, q)), le-leb fixed (high_of l n) (omega (arith, high, q))) (refl, refl))
        ]

    slot_fits : item_fits (node_at l n).time (high_of l n) (slot_item l n s) ≡ true
    unfolding item_fits item_of
    slot_fits =
        let (floor, fixed) = fixed_fits_lem F refl in
        rw (
          lt-ltb s.row 4 (omega (arith, (slot_row (row_of l g cut base fed receipts crashes inv n replaying) 0 (entering l.plan n) i).1, four)),
          le-leb 1 m.time later,
          le-leb m.time greatest (omega (arith, (row_parts l g cut base fed receipts crashes inv n replaying b m mine).3, limits.entries b enters.0)),
          floor,
          fixed,
        )

  earlier_after : (s t : Slot) → Earlier s t → comes_after s.row s.message.time t.row t.message.time ≡ true
  unfolding comes_after
  earlier_after s t (inl h) = rw (lt-ltb s.row t.row h)
  earlier_after s t (inr (q, _, h)) = rw (le-ltb s.row t.row (omega arith), eq-eqb s.row t.row q, lt-ltb s.message.time t.message.time h)

  first_after : (row time : ℕ) → 0 < time → comes_after 0 0 row time ≡ true
  unfolding comes_after
  first_after row time h = elim (ℕ_discrete row 0) [ yes z ↦ rw (z, lt-ltb 0 time h) | no d ↦ rw (lt-ltb 0 row (omega arith)) ]

  pub table_fits_lem : (node_at l n).time ≤ high_of l n → table_fits (node_at l n).time (high_of l n) (items_by_row l n 0 (held_by_row (node_at l n).held l (entering l.plan n))) ≡ true
  unfolding table_fits bounds_fit item_of
  table_fits_lem bounds =
      let row = row_of l g cut base fed receipts crashes inv n replaying in
      let items = rows_items row l n (node_at l n).held 0 (entering l.plan n) (held_rows l g cut base fed receipts crashes inv n replaying) in
      let fit : items_fit (node_at l n).time (high_of l n) 0 0 (items_by_row l n 0 (held_by_row (node_at l n).held l (entering l.plan n))) ≡ true =
      rw items
      (fits_by (slot_item l n) (node_at l n).time (high_of l n) (table l g cut base fed receipts crashes inv n replaying) slot_fits
      (linked_weaken (λ s t i j order. earlier_after s t order) (table_order l g cut base fed receipts crashes inv n replaying)) 0 0 (λ s i. first_after s.row s.message.time (later s i))) in
      rw (le-leb (length (items_by_row l n 0 (held_by_row (node_at l n).held l (entering l.plan n)))) most_items few, le-leb (node_at l n).time (high_of l n) bounds, le-leb (high_of l n) greatest (omega (arith, high_within limits n)), fit)
