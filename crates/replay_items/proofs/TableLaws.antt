-- The table as it fills: item by item, row by row.
use Prim.Native.Nat.{ℕ, suc, ◌+◌, ◌≤◌, ◌<◌}
use mathlib.Core.Path.{◌≡◌, refl, sym, ap, subst, ◌∙◌}
use mathlib.Core.Bool.{Bool, true, false, cond}
use mathlib.Core.List.{List, [], ◌∷◌, ◌++◌, map, append_assoc}
use native.Mathlib.Omega.{arith}
use native.Mathlib.Numerals.{add-one}
use borrow.Author.Tests.{eq-eqb}
use lib.Dec.{eqb}
use lib.ListN.{length, get_or, drop, length-append, length-map, drop_of_length-le}
use lib.Seq.{drop-cons}
use Rattle.std.proofs.lemmas.List.{get_or-take, length-take-le}
use Rattle.plan.specs.Plan.{Plan, plan_of, plan_channels, channel_at, keep_if, numbers_from, entering}
use Rattle.plan.specs.Lawful.{Each}
use Rattle.plan.proofs.MaskLaws.{entering_below}
use Rattle.rules.specs.Line.{Held, Line, node_at, sender_of}
use Rattle.rules.specs.Replay.{fixed_at, floor_of, item_of}
use Rattle.rules.proofs.Lists.ListLaws.{nil_right, map-append}
use Rattle.state.specs.State.{line_of}
use Rattle.state.proofs.InPlace.{line-plan}
use Rattle.buffer.specs.Holds.{AtNode}
use Rattle.buffer.specs.Nothing.{no_held}
use Rattle.buffer.proofs.ReadyLaws.{few_enter}
use Rattle.replay_items.specs.declared.Ending.{Ending}
use Rattle.replay_items.specs.declared.Listed.{Listed}
use Rattle.replay_items.specs.Items.{held_with, held_by, Asked, Slot, listed_of, slot_of, one_slot, row_slots, slots_from}

-- ---- the held records that the node is to have

pub counted_held : (s : List ℕ) (e : Ending) → Asked s e → length (held_by s e) ≡ e.held
counted_held s e a = length-take-le e.held (held_with (line_of s) e.node e.last) a.counted

pub held_inside : (s : List ℕ) (e : Ending) (i : ℕ) → i < e.held → get_or (held_by s e) i no_held ≡ get_or (held_with (line_of s) e.node e.last) i no_held
held_inside s e i h = get_or-take e.held (held_with (line_of s) e.node e.last) i no_held h

-- ---- the table

module _ (l : Line) (n : ℕ) (hs : List Held) where
  abbrev f : Slot → Listed
  f = listed_of l n hs

  -- ---- held record i, of the row or not

  module _ (i parent row : ℕ) (h : Held) (is : h ≡ get_or hs i no_held) where
    abbrev one : Bool → List Slot
    one b = map (slot_of row) (keep_if b i [])

    pub one_own : h.sender ≡ parent → eqb (get_or hs i no_held).sender parent ≡ true
    one_own e = ap (λ (x : Held). eqb x.sender parent) (sym is) ∙ eq-eqb h.sender parent e

    pub one_not : (xs : List Listed) → eqb h.sender parent ≡ false → xs ≡ xs ++ map (listed_of l n hs) (one_slot hs parent row i)
    one_not xs e = sym (nil_right xs) ∙ ap (λ (b : Bool). xs ++ map f (one b)) (sym e ∙ ap (λ (x : Held). eqb x.sender parent) is)

    pub one_more : (xs : List Listed) (fixed floor : ℕ) → eqb h.sender parent ≡ true → fixed ≡ fixed_at (node_at l n).targets h → floor ≡ cond (eqb fixed 0) (floor_of l n h.what) 0
        → xs ++ record { row = row; time = h.time; fixed = fixed; floor = floor; number = i } ∷ [] ≡ xs ++ map (listed_of l n hs) (one_slot hs parent row i)
    unfolding item_of
    one_more xs fixed floor own e g =
        ap (λ (z : ℕ). xs ++ record { row = row; time = h.time; fixed = fixed; floor = z; number = i } ∷ []) g
        ∙ ap (λ (y : ℕ). xs ++ record { row = row; time = h.time; fixed = y; floor = cond (eqb y 0) (floor_of l n h.what) 0; number = i } ∷ []) e
        ∙ ap (λ (x : Held). xs ++ record { row = row; time = x.time; fixed = fixed_at (node_at l n).targets x; floor = cond (eqb (fixed_at (node_at l n).targets x) 0) (floor_of l n x.what) 0; number = i } ∷ []) is
        ∙ ap (λ (b : Bool). xs ++ map f (one b)) (sym own ∙ ap (λ (x : Held). eqb x.sender parent) is)

  -- ---- a parent's row

  module _ (parent row : ℕ) where
    abbrev from : Held → Bool
    from h = eqb h.sender parent

    -- What the held records from i on are in the table.
    abbrev pub rest : ℕ → List Listed
    rest i = map (listed_of l n hs) (map (slot_of row) (numbers_from i (λ (h : Held). eqb h.sender parent) (drop i hs)))

    module _ (xs : List Listed) (i : ℕ) (h : i < length hs) where
      split : (b : Bool) (ns : List ℕ) → xs ++ map f (map (slot_of row) (keep_if b i ns)) ≡ (xs ++ map f (map (slot_of row) (keep_if b i []))) ++ map f (map (slot_of row) ns)
      split true ns = sym (append_assoc xs (f (slot_of row i) ∷ []) (map f (map (slot_of row) ns)))
      split false ns = ap (λ (ys : List Listed). ys ++ map f (map (slot_of row) ns)) (sym (nil_right xs))

      pub row_turn : xs ++ rest i ≡ (xs ++ map (listed_of l n hs) (one_slot hs parent row i)) ++ rest (i + 1)
      row_turn =
          ap (λ (ys : List Held). xs ++ map f (map (slot_of row) (numbers_from i from ys))) (drop-cons hs i no_held h)
          ∙ split (from (get_or hs i no_held)) (numbers_from (suc i) from (drop (suc i) hs))
          ∙ ap (λ (j : ℕ). (xs ++ map f (one_slot hs parent row i)) ++ rest j) (sym (add-one i))

    pub row_end : (xs : List Listed) (i : ℕ) → length hs ≤ i → xs ++ rest i ≡ xs
    row_end xs i h = ap (λ (ys : List Held). xs ++ map f (map (slot_of row) (numbers_from i from ys))) (drop_of_length-le hs h) ∙ nil_right xs

    -- There is room for one that is of the row.
    pub row_room : (xs start : List Listed) (i : ℕ) → i < length hs → xs ++ rest i ≡ start ++ map (listed_of l n hs) (row_slots hs parent row) → length start + length (row_slots hs parent row) ≤ 64
        → eqb (get_or hs i no_held).sender parent ≡ true → length xs < 64
    row_room xs start i h now most own =
        let all : List Listed = start ++ map f (row_slots hs parent row) in
        let kept = subst (λ (b : Bool). (xs ++ map f (map (slot_of row) (keep_if b i []))) ++ rest (i + 1) ≡ all) own (sym (row_turn xs i h) ∙ now) in
        omega (
          arith,
          ap length kept,
          length-append (xs ++ f (slot_of row i) ∷ []) (rest (i + 1)),
          length-append xs (f (slot_of row i) ∷ []),
          length-append start (map f (row_slots hs parent row)),
          length-map (row_slots hs parent row) f,
        )

-- ---- all rows

pub sender_same : (s : List ℕ) (b : ℕ) → (channel_at (plan_of s) b).sender ≡ sender_of (line_of s) b
sender_same s b = ap (λ (p : Plan). (channel_at p b).sender) (sym (line-plan s))

module _ (s : List ℕ) (n : ℕ) (hs : List Held) where
  abbrev listing : List Slot → List Listed
  listing = map (listed_of (line_of s) n hs)

  -- The rows of the channels left are still to come.
  pub record RowsTo (start : List Listed) (row : ℕ) (left : List ℕ) (xs : List Listed) : Type 0 where
    pub few : row + length left ≤ 4
    pub below : Each (λ (b : ℕ). b < plan_channels s) left
    pub now : xs ++ map (listed_of (line_of s) n hs) (slots_from (line_of s) hs row left) ≡ start ++ map (listed_of (line_of s) n hs) (slots_from (line_of s) hs 0 (entering (plan_of s) n))

  pub rows_start : AtNode s n → (start : List Listed) (left : List ℕ) → left ≡ entering (plan_of s) n → RowsTo start 0 left start
  rows_start node start left e =
      subst (λ (cs : List ℕ). RowsTo start 0 cs start) (sym e)
      (record { few = omega (arith, few_enter node.holds.ready n node.inside); below = entering_below s n; now = refl })

  module _ (start : List Listed) (row b : ℕ) (left rest : List ℕ) (xs : List Listed) (to : RowsTo start row left xs) (next : left ≡ b ∷ rest) where
    abbrev those : List Slot
    those = row_slots hs (sender_of (line_of s) b) row

    next_rows : (xs ++ listing those) ++ listing (slots_from (line_of s) hs (suc row) rest) ≡ start ++ listing (slots_from (line_of s) hs 0 (entering (plan_of s) n))
    next_rows =
        append_assoc xs (listing those) (listing (slots_from (line_of s) hs (suc row) rest))
        ∙ ap (λ (ys : List Listed). xs ++ ys) (sym (map-append (listed_of (line_of s) n hs) those (slots_from (line_of s) hs (suc row) rest)))
        ∙ ap (λ (cs : List ℕ). xs ++ listing (slots_from (line_of s) hs row cs)) (sym next)
        ∙ to.now

    both : (b < plan_channels s) × Each (λ (c : ℕ). c < plan_channels s) rest
    both = rw next at to.below

    pub row_below : b < plan_channels s
    row_below = both.0

    pub rows_room : length start + length (slots_from (line_of s) hs 0 (entering (plan_of s) n)) ≤ 64 → length xs + length (row_slots hs (sender_of (line_of s) b) row) ≤ 64
    rows_room most =
        omega (
          arith,
          ap length next_rows,
          length-append (xs ++ listing those) (listing (slots_from (line_of s) hs (suc row) rest)),
          length-append xs (listing those),
          length-map those (listed_of (line_of s) n hs),
          length-append start (listing (slots_from (line_of s) hs 0 (entering (plan_of s) n))),
          length-map (slots_from (line_of s) hs 0 (entering (plan_of s) n)) (listed_of (line_of s) n hs),
        )

    pub rows_turn : RowsTo start (row + 1) rest (xs ++ map (listed_of (line_of s) n hs) (row_slots hs (sender_of (line_of s) b) row))
    rows_turn = rw (add-one row) (record { few = omega (arith, to.few, ap length next); below = both.1; now = next_rows })

  pub rows_end : (start : List Listed) (row : ℕ) (left : List ℕ) (xs : List Listed) → RowsTo start row left xs → left ≡ [] → xs ≡ start ++ map (listed_of (line_of s) n hs) (slots_from (line_of s) hs 0 (entering (plan_of s) n))
  rows_end start row left xs to none = sym (nil_right xs) ∙ ap (λ (cs : List ℕ). xs ++ listing (slots_from (line_of s) hs row cs)) (sym none) ∙ to.now
