-- What a replay's end logs, for any columns that keep the placing's rules: the events of the held messages, each at its column.
use Prim.Native.Nat.{ℕ, suc, ◌<◌, ◌≤◌}
use mathlib.Core.Path.{◌≡◌, refl, sym, ap, subst, ◌∙◌}
use mathlib.Core.Logic.{◌≢◌, ◌⊎◌, inl, inr}
use mathlib.Core.Bool.{Bool, true, false, cond}
use mathlib.Core.List.{List, [], ◌∷◌, ◌++◌, map}
use native.Mathlib.Omega.{arith}
use native.Mathlib.Decide.{ℕ_discrete, dec_lt}
use lib.ListN.{length, get_or}
use lib.Dec.{eqb, ltb}
use borrow.Author.Tests.{eq-eqb, ne_eqb, lt-ltb, le-ltb, ltb-false}
use Rattle.plan.specs.Rule.{applied}
use Rattle.plan.specs.Plan.{Plan, rule_at, channel_at, entering}
use Rattle.plan.specs.Mask.{set_of}
use Rattle.placing.specs.Item.{Item, item_at}
use Rattle.placing.specs.Rules.{KeepsRules}
use Rattle.rules.specs.Lists.{keep, joined}
use Rattle.rules.specs.Line.{Message, Entry, Held, Line, node_at}
use Rattle.rules.specs.Recover.{high_of}
use Rattle.rules.specs.Replay.{fixed_at, floor_of, item_of, held_by_row, items_by_row, entry_at, add_entry, placed_log}
use Rattle.rules.proofs.Lists.Rising.{Rises, none, more, Within}
use Rattle.rules.proofs.Lists.Members.{In, here, there, in_none, in_first, within_by}
use Rattle.rules.proofs.Histories.Ghost.{Event, fed_at, took_at, event_time, entry_of, got_one, got_of}
use Rattle.rules.proofs.Histories.Passing.{held_of}
use Rattle.rules.proofs.Histories.Carried.{got_of_in}
use Rattle.rules.proofs.Line.Joins.{entering_rise}
use Rattle.rules.proofs.Ending.TableRows.{Slot, slot_held, slot_item, messages_of, slots, rows_held, rows_items, slot_in, same_row, messages_row}

-- An event in its place by time.
abbrev add_event : Event → List Event → List Event
add_event e [] = e ∷ []
add_event e (d ∷ ds) = elim (ltb (event_time e) (event_time d)) [ true ↦ e ∷ d ∷ ds | false ↦ d ∷ add_event e ds ]

abbrev placed_events : List Slot → List ℕ → List Event
placed_events [] columns = []
placed_events (s ∷ ss) [] = []
placed_events (s ∷ ss) (t ∷ columns) = add_event (took_at s.channel s.message t) (placed_events ss columns)

module _ (p : Plan) (n : ℕ) where
  add_entry_lem : (e : Event) (es : List Event) → add_entry (entry_of p n e) (map (entry_of p n) es) ≡ map (entry_of p n) (add_event e es)
  add_entry_lem e [] = refl
  add_entry_lem e (d ∷ ds) = one (ltb (event_time e) (event_time d)) (add_entry_lem e ds)
    where
      one : (t : Bool) → add_entry (entry_of p n e) (map (entry_of p n) ds) ≡ map (entry_of p n) (add_event e ds)
          → ◌≡◌ {A = List Entry} (elim t [ true ↦ entry_of p n e ∷ entry_of p n d ∷ map (entry_of p n) ds | false ↦ entry_of p n d ∷ add_entry (entry_of p n e) (map (entry_of p n) ds) ])
          (map (entry_of p n) (elim t [ true ↦ e ∷ d ∷ ds | false ↦ d ∷ add_event e ds ]))
      one true q = refl
      one false q = ap (λ (x : List Entry). entry_of p n d ∷ x) q

  log_placed : (ss : List Slot) (columns : List ℕ) → placed_log (set_of p n) (map (slot_held p n) ss) columns ≡ map (entry_of p n) (placed_events ss columns)
  log_placed [] columns = refl
  log_placed (s ∷ ss) [] = refl
  log_placed (s ∷ ss) (t ∷ columns) = ap (add_entry (entry_at (set_of p n) t (slot_held p n s))) (log_placed ss columns) ∙ add_entry_lem (took_at s.channel s.message t) (placed_events ss columns)

add_in : (e : Event) (es : List Event) {d : Event} → In d (add_event e es) → (d ≡ e) ⊎ In d es
add_in e [] i = in_first i
add_in e (c ∷ cs) {d} i = one (ltb (event_time e) (event_time c)) (λ j. add_in e cs j) i
  where
    one : (t : Bool) → (In d (add_event e cs) → (d ≡ e) ⊎ In d cs) → In d (elim t [ true ↦ e ∷ c ∷ cs | false ↦ c ∷ add_event e cs ]) → (d ≡ e) ⊎ In d (c ∷ cs)
    one true ih j = in_first j
    one false ih j = elim (in_first j) [ inl q ↦ inr (rw q here) | inr k ↦ elim (ih k) [ inl q ↦ inl q | inr h ↦ inr (there h) ] ]

-- A time that no other event has keeps the times rising.
rises_add : {a : ℕ} (e : Event) {es : List Event} → a < event_time e → ((d : Event) → In d es → event_time e ≢ event_time d) → Rises event_time a es → Rises event_time a (add_event e es)
rises_add e l other none = more {x = e} l none
rises_add {a} e l other (more {x = d} {xs = ds} h r) =
    elim (dec_lt (event_time e) (event_time d)) [
      | yes u ↦ rw (lt-ltb (event_time e) (event_time d) u, add_event) (more {x = e} l (more {x = d} u r))
      | no u ↦ rw (le-ltb (event_time e) (event_time d) (omega arith), add_event) (more {x = d} h (rises_add e (omega (arith, other d here)) (λ c i. other c (there i)) r))
    ]

-- The messages got of a channel: an event of another one changes nothing, an event before all of this one comes first.
got_else : (b c : ℕ) (m : Message) (t : ℕ) (es : List Event) → c ≢ b → got_of b (add_event (took_at c m t) es) ≡ got_of b es
got_else b c m t [] d = rw (ne_eqb c b d)
got_else b c m t (e ∷ es) d = one (ltb t (event_time e)) (got_else b c m t es d)
  where
    one : (x : Bool) → got_of b (add_event (took_at c m t) es) ≡ got_of b es → got_of b (elim x [ true ↦ took_at c m t ∷ e ∷ es | false ↦ e ∷ add_event (took_at c m t) es ]) ≡ got_of b (e ∷ es)
    one true q = rw (ne_eqb c b d)
    one false q = ap (λ (x : List Message). got_one b e ++ x) q

got_first : (b c : ℕ) (m : Message) (t : ℕ) (es : List Event) → c ≡ b → ((q : Message) (u : ℕ) → In (took_at b q u) es → t < u) → got_of b (add_event (took_at c m t) es) ≡ m ∷ got_of b es
got_first b c m t [] e before = rw (eq-eqb c b e)
got_first b c m t (d ∷ es) e before = one (ltb t (event_time d)) refl (got_first b c m t es e (λ q u i. before q u (there i)))
  where
    behind : (d : Event) → event_time d ≤ t → ((q : Message) (u : ℕ) → d ≡ took_at b q u → t < u) → got_one b d ≡ []
    behind (fed_at r u) l early = refl
    behind (took_at a q u) l early = elim (ℕ_discrete a b) [ yes z ↦ (let no : ⊥ = omega (arith, early q u (ap (λ (x : ℕ). took_at x q u) z)) in absurd no) | no z ↦ rw (ne_eqb a b z) ]

    one : (x : Bool) → ltb t (event_time d) ≡ x → got_of b (add_event (took_at c m t) es) ≡ m ∷ got_of b es
        → got_of b (elim x [ true ↦ took_at c m t ∷ d ∷ es | false ↦ d ∷ add_event (took_at c m t) es ]) ≡ m ∷ got_of b (d ∷ es)
    one true x q = rw (eq-eqb c b e)
    one false x q =
        let none = behind d (ltb-false t (event_time d) x) (λ z u y. before z u (subst (λ (a : Event). In a (d ∷ es)) y here)) in
        rw (none, q)

-- Where an event stands in the table and among the columns.
record Seat (f : Slot → Item) (ss : List Slot) (columns : List ℕ) (e : Event) : Type 0 where
  slot : Slot
  place : ℕ
  among : In slot ss
  in_table : place < length (map f ss)
  item_is : item_at (map f ss) place ≡ f slot
  event_is : e ≡ took_at slot.channel slot.message (get_or columns place 0)

module _ (f : Slot → Item) where
  seat : (ss : List Slot) (columns : List ℕ) {e : Event} → In e (placed_events ss columns) → Seat f ss columns e
  seat [] columns i = absurd (in_none i)
  seat (s ∷ ss) [] i = absurd (in_none i)
  seat (s ∷ ss) (t ∷ columns) {e} i = elim (add_in (took_at s.channel s.message t) (placed_events ss columns) i) [ inl q ↦ first q | inr j ↦ later (seat ss columns j) ]
    where
      first : e ≡ took_at s.channel s.message t → Seat f (s ∷ ss) (t ∷ columns) e
      first q = record { slot = s; place = 0; among = here; in_table = omega arith; item_is = refl; event_is = q }

      later : Seat f ss columns e → Seat f (s ∷ ss) (t ∷ columns) e
      later x = record { slot = x.slot; place = suc x.place; among = there x.among; in_table = omega arith; item_is = x.item_is; event_is = x.event_is }

took_same : {b c : ℕ} {m q : Message} {t u : ℕ} → took_at b m t ≡ took_at c q u → (b ≡ c) × (m ≡ q) × (t ≡ u)
took_same e = (cc, cc, cc)

module _ {low high : ℕ} where
  keeps_rest : {i : Item} {table : List Item} {t : ℕ} {columns : List ℕ} → KeepsRules low high (i ∷ table) (t ∷ columns) → KeepsRules low high table columns
  keeps_rest k =
      record {
        one_each = omega (arith, k.one_each);
        inside = λ a l. k.inside (suc a) (omega arith);
        distinct = λ a b l h. k.distinct (suc a) (suc b) (omega arith) (omega arith);
        rising = λ a b l h e. k.rising (suc a) (suc b) (omega arith) (omega arith) e;
        fixed = λ a l e. k.fixed (suc a) (omega arith) e;
        free = λ a l e. k.free (suc a) (omega arith) e;
      }

  module _ (f : Slot → Item) where
    rises_placed : (ss : List Slot) (columns : List ℕ) → KeepsRules low high (map f ss) columns → Rises event_time low (placed_events ss columns)
    rises_placed [] columns k = none
    rises_placed (s ∷ ss) [] k = none
    rises_placed (s ∷ ss) (t ∷ columns) k =
        rises_add (took_at s.channel s.message t) (k.inside 0 (omega arith)).0
        (λ d i q. (let x = seat f ss columns i in k.distinct 0 (suc x.place) (omega arith) (omega arith) (q ∙ ap event_time x.event_is)))
        (rises_placed ss columns (keeps_rest k))

    within_placed : (ss : List Slot) (columns : List ℕ) → KeepsRules low high (map f ss) columns → Within event_time high (placed_events ss columns)
    within_placed ss columns k =
        within_by event_time (placed_events ss columns) λ e i.
        (let x = seat f ss columns i in
        rw x.event_is (k.inside x.place x.in_table).1)

    -- Where a channel's slots are in one row, what is got of it is their messages in order.
    got_placed : (b : ℕ) (ss : List Slot) (columns : List ℕ) → KeepsRules low high (map f ss) columns → ((s t : Slot) → In s ss → In t ss → s.channel ≡ t.channel → (f s).row ≡ (f t).row)
        → got_of b (placed_events ss columns) ≡ messages_of b ss
    got_placed b [] columns k row = refl
    got_placed b (s ∷ ss) [] k row = let no : ⊥ = omega (arith, k.one_each) in absurd no
    got_placed b (s ∷ ss) (t ∷ columns) k row =
        let ih = got_placed b ss columns (keeps_rest k) (λ u v i j. row u v (there i) (there j)) in
        elim (ℕ_discrete s.channel b) [
          | yes e ↦ rw (eq-eqb s.channel b e) (got_first b s.channel s.message t (placed_events ss columns) e (later e) ∙ ap (λ (x : List Message). s.message ∷ x) ih)
          | no d ↦ rw (ne_eqb s.channel b d) (got_else b s.channel s.message t (placed_events ss columns) d ∙ ih)
        ]
      where
        later : s.channel ≡ b → (q : Message) (u : ℕ) → In (took_at b q u) (placed_events ss columns) → t < u
        later e q u i =
            let x = seat f ss columns i in
            let (c, m, z) = took_same x.event_is in
            rw z (k.rising 0 (suc x.place) (omega arith) (omega arith) (row s x.slot here (there x.among) (e ∙ c) ∙ ap (λ (a : Item). a.row) (sym x.item_is)))

-- What the log of a replay's end is: the events `fs` of node n.
pub record PlacedEvents (l : Line) (n : ℕ) (row_of : ℕ → List Message) (columns : List ℕ) (fs : List Event) : Type 0 where
  pub log_is : placed_log (set_of l.plan n) (joined (held_by_row (node_at l n).held l (entering l.plan n))) columns ≡ map (entry_of l.plan n) fs
  pub rises : Rises event_time (node_at l n).time fs
  pub within : Within event_time (high_of l n) fs
  pub got_is : (b : ℕ) → In b (entering l.plan n) → got_of b fs ≡ row_of b
  pub took : (e : Event) → In e fs → (b : ℕ) × (m : Message) × (t : ℕ) × (e ≡ took_at b m t) × In b (entering l.plan n) × In m (row_of b)
  pub placed : (b : ℕ) (m : Message) → In b (entering l.plan n) → In m (row_of b) → (t : ℕ) × In (took_at b m t) fs
  pub fixed : (b : ℕ) (m : Message) (t : ℕ) → In (took_at b m t) fs → fixed_at (node_at l n).targets (held_of l.plan n b m) ≢ 0 → t ≡ fixed_at (node_at l n).targets (held_of l.plan n b m)
  pub free : (b : ℕ) (m : Message) (t : ℕ) → In (took_at b m t) fs → fixed_at (node_at l n).targets (held_of l.plan n b m) ≡ 0 → floor_of l n (applied (rule_at l.plan n) m.what) < t

module _ (l : Line) (n : ℕ) (ss : List Slot) (columns : List ℕ) (keeps : KeepsRules (node_at l n).time (high_of l n) (map (slot_item l n) ss) columns) where
  -- One event: its column, and the slot that it comes from.
  module _ (b : ℕ) (m : Message) (t : ℕ) (x : Seat (slot_item l n) ss columns (took_at b m t)) where
    column_is : get_or columns x.place 0 ≡ t
    column_is = sym (took_same x.event_is).2

    held_is : slot_held l.plan n x.slot ≡ held_of l.plan n b m
    held_is = let (c, q, z) = took_same x.event_is in λ j. held_of l.plan n (sym c j) (sym q j)

    fixed_is : (item_at (map (slot_item l n) ss) x.place).fixed ≡ fixed_at (node_at l n).targets (held_of l.plan n b m)
    unfolding item_of
    fixed_is = ap (λ (a : Item). a.fixed) x.item_is ∙ ap (fixed_at (node_at l n).targets) held_is

    floor_is : fixed_at (node_at l n).targets (held_of l.plan n b m) ≡ 0 → (item_at (map (slot_item l n) ss) x.place).floor ≡ floor_of l n (applied (rule_at l.plan n) m.what)
    unfolding item_of
    floor_is e =
        ap (λ (a : Item). a.floor) x.item_is
        ∙ ap (λ (h : Held). cond (eqb (fixed_at (node_at l n).targets h) 0) (floor_of l n h.what) 0) held_is
        ∙ ap (λ (f : Bool). cond f (floor_of l n (applied (rule_at l.plan n) m.what)) 0) (eq-eqb (fixed_at (node_at l n).targets (held_of l.plan n b m)) 0 e)

  fixed_placed : (b : ℕ) (m : Message) (t : ℕ) → In (took_at b m t) (placed_events ss columns) → fixed_at (node_at l n).targets (held_of l.plan n b m) ≢ 0 → t ≡ fixed_at (node_at l n).targets (held_of l.plan n b m)
  fixed_placed b m t i d =
      let x = seat (slot_item l n) ss columns i in
      sym (column_is b m t x) ∙ keeps.fixed x.place x.in_table (λ z. d (sym (fixed_is b m t x) ∙ z)) ∙ fixed_is b m t x

  free_placed : (b : ℕ) (m : Message) (t : ℕ) → In (took_at b m t) (placed_events ss columns) → fixed_at (node_at l n).targets (held_of l.plan n b m) ≡ 0 → floor_of l n (applied (rule_at l.plan n) m.what) < t
  free_placed b m t i e =
      let x = seat (slot_item l n) ss columns i in
      omega (arith, keeps.free x.place x.in_table (fixed_is b m t x ∙ e), floor_is b m t x e, column_is b m t x)

module _ (l : Line) (n : ℕ) (row_of : ℕ → List Message) (columns : List ℕ)
    (held_rows : (b : ℕ) → In b (entering l.plan n) → keep (λ (h : Held). eqb h.sender (channel_at l.plan b).sender) (node_at l n).held ≡ map (held_of l.plan n b) (row_of b))
    (keeps : KeepsRules (node_at l n).time (high_of l n) (items_by_row l n 0 (held_by_row (node_at l n).held l (entering l.plan n))) columns) where
  -- The log of a replay's end, for any columns that keep the rules.
  pub placed_events_lem : (fs : List Event) × PlacedEvents l n row_of columns fs
  unfolding item_of
  placed_events_lem =
      let p = l.plan in
      let bs = entering p n in
      let rise = entering_rise p n in
      let ss : List Slot = slots row_of 0 bs in
      let k : KeepsRules (node_at l n).time (high_of l n) (map (slot_item l n) ss) columns = rw (rows_items row_of l n (node_at l n).held 0 bs held_rows) at keeps in
      let got : (b : ℕ) → In b bs → got_of b (placed_events ss columns) ≡ row_of b = λ b i. got_placed (slot_item l n) b ss columns k (λ s t u v e. same_row row_of 0 rise u v e) ∙ messages_row row_of 0 b rise i in (
        placed_events ss columns,
        record {
          log_is = ap (λ (hs : List Held). placed_log (set_of p n) hs columns) (rows_held row_of l n (node_at l n).held 0 bs held_rows) ∙ log_placed p n ss columns;
          rises = rises_placed (slot_item l n) ss columns k;
          within = within_placed (slot_item l n) ss columns k;
          got_is = got;
          took = λ e i. (let x = seat (slot_item l n) ss columns i in let (c, m) = slot_in row_of 0 bs x.among in (x.slot.channel, x.slot.message, get_or columns x.place 0, x.event_is, c, m));
          placed = λ b m i j. got_of_in b (placed_events ss columns) (rw (got b i) j);
          fixed = fixed_placed l n ss columns k;
          free = free_placed l n ss columns k;
        },
      )
