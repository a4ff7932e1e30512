-- The replay table row by row: for each held record its row, its channel and its message.
use Prim.Native.Nat.{ℕ, suc, ◌+◌, ◌<◌, ◌≤◌}
use mathlib.Core.Path.{◌≡◌, refl, sym, ap, subst, ◌∙◌}
use mathlib.Core.Logic.{◌≢◌, ◌⊎◌, inl, inr}
use mathlib.Core.List.{List, [], ◌∷◌, ◌++◌, map, map-map}
use native.Mathlib.Omega.{arith}
use native.Mathlib.Decide.{ℕ_discrete}
use lib.ListN.{length}
use lib.Dec.{eqb}
use borrow.Author.Tests.{eq-eqb, ne_eqb}
use Rattle.plan.specs.Plan.{Plan, channel_at}
use Rattle.placing.specs.Item.{Item}
use Rattle.rules.specs.Lists.{keep, keep_one, joined}
use Rattle.rules.specs.Line.{Message, Held, Line}
use Rattle.rules.specs.Replay.{item_of, held_by_row, items_by_row}
use Rattle.rules.proofs.Lists.ListLaws.{map-append, nil_right}
use Rattle.rules.proofs.Lists.Rising.{Rises, rises-map}
use Rattle.rules.proofs.Lists.Linked.{Linked, none as none-linked, linked_append, rises_linked}
use Rattle.rules.proofs.Lists.Members.{In, here, there, in_none, append_in, map_in}
use Rattle.rules.proofs.Histories.Passing.{held_of}
use Rattle.rules.proofs.Invariant.Inv.{time_of}
use Rattle.rules.proofs.Line.LanesLaws.{Rising, none, more}

pub record Slot : Type 0 where
  pub row : ℕ
  pub channel : ℕ
  pub message : Message

abbrev pub slot_of : ℕ → ℕ → Message → Slot
slot_of r b m = record { row = r; channel = b; message = m }

-- What is held in a slot, and its item of the table.
abbrev pub slot_held : Plan → ℕ → Slot → Held
slot_held p n s = held_of p n s.channel s.message

abbrev pub slot_item : Line → ℕ → Slot → Item
slot_item l n s = item_of l n s.row (slot_held l.plan n s)

-- The messages in a channel's slots.
abbrev pub messages_of : ℕ → List Slot → List Message
messages_of b [] = []
messages_of b (s ∷ ss) = keep_one (eqb s.channel b) s.message (messages_of b ss)

-- A slot comes before another: in an earlier row, or in the same row and channel by the message's time.
abbrev pub Earlier : Slot → Slot → Type 0
Earlier s t = (s.row < t.row) ⊎ ((s.row ≡ t.row) × (s.channel ≡ t.channel) × (s.message.time < t.message.time))

-- One row for each channel, from row r on.
abbrev pub slots : (ℕ → List Message) → ℕ → List ℕ → List Slot
slots row_of r [] = []
slots row_of r (b ∷ bs) = map (slot_of r b) (row_of b) ++ slots row_of (suc r) bs

module _ (row_of : ℕ → List Message) where
  -- The table of a replay whose held records are the rows' messages.
  module _ (l : Line) (n : ℕ) (hs : List Held) where
    abbrev HoldsRow : ℕ → Type 0
    HoldsRow b = keep (λ (h : Held). eqb h.sender (channel_at l.plan b).sender) hs ≡ map (held_of l.plan n b) (row_of b)

    pub rows_held : (r : ℕ) (bs : List ℕ) → ((b : ℕ) → In b bs → HoldsRow b) → joined (held_by_row hs l bs) ≡ map (slot_held l.plan n) (slots row_of r bs)
    rows_held r [] holds = refl
    rows_held r (b ∷ bs) holds =
        let p = l.plan in
        rw (holds b here, rows_held (suc r) bs (λ c i. holds c (there i)), map-append (slot_held p n) (map (slot_of r b) (row_of b)) (slots row_of (suc r) bs), map-map (slot_held p n) (slot_of r b) (row_of b))

    pub rows_items : (r : ℕ) (bs : List ℕ) → ((b : ℕ) → In b bs → HoldsRow b) → items_by_row l n r (held_by_row hs l bs) ≡ map (slot_item l n) (slots row_of r bs)
    rows_items r [] holds = refl
    rows_items r (b ∷ bs) holds =
        rw (
          holds b here,
          rows_items (suc r) bs (λ c i. holds c (there i)),
          map-append (slot_item l n) (map (slot_of r b) (row_of b)) (slots row_of (suc r) bs),
          map-map (slot_item l n) (slot_of r b) (row_of b),
          map-map (item_of l n r) (held_of l.plan n b) (row_of b),
        )

  block_in : (r b : ℕ) {s : Slot} → In s (map (slot_of r b) (row_of b)) → (s.row ≡ r) × (s.channel ≡ b) × In s.message (row_of b)
  block_in r b i =
      let (m, j, e) = map_in (slot_of r b) (row_of b) i in
      (ap (λ (z : Slot). z.row) e, ap (λ (z : Slot). z.channel) e, subst (λ (z : Slot). In z.message (row_of b)) (sym e) j)

  pub slot_in : (r : ℕ) (bs : List ℕ) {s : Slot} → In s (slots row_of r bs) → In s.channel bs × In s.message (row_of s.channel)
  slot_in r [] i = absurd (in_none i)
  slot_in r (b ∷ bs) {s} i =
      elim (append_in (map (slot_of r b) (row_of b)) i) [
        | inl j ↦ (let (q, e, m) = block_in r b j in (rw e here, rw e m))
        | inr j ↦ (let (c, m) = slot_in (suc r) bs j in (there c, m))
      ]

  pub slot_row : (r : ℕ) (bs : List ℕ) {s : Slot} → In s (slots row_of r bs) → (r ≤ s.row) × (s.row < r + length bs)
  slot_row r [] i = absurd (in_none i)
  slot_row r (b ∷ bs) i =
      elim (append_in (map (slot_of r b) (row_of b)) i) [
        | inl j ↦ (let q = (block_in r b j).0 in (omega arith, omega arith))
        | inr j ↦ (let (above, below) = slot_row (suc r) bs j in (omega arith, omega arith))
      ]

  -- The slots stand in order.
  pub slots_order : (r : ℕ) (bs : List ℕ) → ((b : ℕ) → In b bs → Rises time_of 0 (row_of b)) → Linked Earlier (slots row_of r bs)
  slots_order r [] rises = none-linked
  slots_order r (b ∷ bs) rises =
      linked_append (rises_linked (λ (s : Slot). s.message.time) inside (rises-map (slot_of r b) (λ (s : Slot). s.message.time) (rises b here))) (slots_order (suc r) bs (λ c i. rises c (there i)))
      (λ s t i j. (let q = (block_in r b i).0 in inl (omega (arith, (slot_row (suc r) bs j).0))))
    where
      inside : (s t : Slot) → In s (map (slot_of r b) (row_of b)) → In t (map (slot_of r b) (row_of b)) → s.message.time < t.message.time → Earlier s t
      inside s t i j h = let (q, e, _) = block_in r b i in let (q', e', _) = block_in r b j in inr (q ∙ sym q', e ∙ sym e', h)

  slot_above : (r : ℕ) {k : ℕ} {bs : List ℕ} {s : Slot} → Rising k bs → In s (slots row_of r bs) → k ≤ s.channel
  slot_above r none i = absurd (in_none i)
  slot_above r {k} {s = s} (more {b = b} h q) i =
      elim (append_in (map (slot_of r b) (row_of b)) i) [
        | inl j ↦ omega (arith, (block_in r b j).1)
        | inr j ↦ omega (arith, slot_above (suc r) q j)
      ]

  -- A channel's slots are in one row.
  pub same_row : (r : ℕ) {k : ℕ} {bs : List ℕ} {s t : Slot} → Rising k bs → In s (slots row_of r bs) → In t (slots row_of r bs) → s.channel ≡ t.channel → s.row ≡ t.row
  same_row r none i j e = absurd (in_none i)
  same_row r {s = s} {t = t} (more {b = b} h q) i j e =
      elim (append_in (map (slot_of r b) (row_of b)) i) [
        | inl x ↦ elim (append_in (map (slot_of r b) (row_of b)) j) [
          | inl y ↦ (block_in r b x).0 ∙ sym (block_in r b y).0
          | inr y ↦ (let no : ⊥ = omega (arith, (block_in r b x).1, slot_above (suc r) q y) in absurd no)
        ]
        | inr x ↦ elim (append_in (map (slot_of r b) (row_of b)) j) [
          | inl y ↦ (let no : ⊥ = omega (arith, (block_in r b y).1, slot_above (suc r) q x) in absurd no)
          | inr y ↦ same_row (suc r) q x y e
        ]
      ]

block_there : (r c b : ℕ) → c ≡ b → (ms : List Message) (ss : List Slot) → messages_of b (map (slot_of r c) ms ++ ss) ≡ ms ++ messages_of b ss
block_there r c b e [] ss = refl
block_there r c b e (m ∷ ms) ss = rw (eq-eqb c b e) (ap (λ (x : List Message). m ∷ x) (block_there r c b e ms ss))

block_else : (r c b : ℕ) → c ≢ b → (ms : List Message) (ss : List Slot) → messages_of b (map (slot_of r c) ms ++ ss) ≡ messages_of b ss
block_else r c b d [] ss = refl
block_else r c b d (m ∷ ms) ss = rw (ne_eqb c b d) (block_else r c b d ms ss)

messages_none : (b : ℕ) (ss : List Slot) → ((s : Slot) → In s ss → s.channel ≢ b) → messages_of b ss ≡ []
messages_none b [] away = refl
messages_none b (s ∷ ss) away = rw (ne_eqb s.channel b (away s here)) (messages_none b ss (λ t i. away t (there i)))

module _ (row_of : ℕ → List Message) where
  messages_first : (r c b : ℕ) {bs : List ℕ} → c ≡ b → Rising (suc c) bs → messages_of b (slots row_of r (c ∷ bs)) ≡ row_of b
  messages_first r c b {bs} e q =
      block_there r c b e (row_of c) (slots row_of (suc r) bs)
      ∙ ap (λ (x : List Message). row_of c ++ x) (messages_none b (slots row_of (suc r) bs) (λ s i z. omega (arith, slot_above row_of (suc r) q i)))
      ∙ nil_right (row_of c)
      ∙ ap row_of e

  -- A channel's slots hold its row's messages.
  pub messages_row : (r b : ℕ) {k : ℕ} {bs : List ℕ} → Rising k bs → In b bs → messages_of b (slots row_of r bs) ≡ row_of b
  messages_row r b none i = elim i [ ]
  messages_row r b (more h q) here = messages_first r b b refl q
  messages_row r b (more {b = c} {bs = bs} h q) (there i) =
      elim (ℕ_discrete c b) [
        | yes e ↦ messages_first r c b e q
        | no d ↦ block_else r c b d (row_of c) (slots row_of (suc r) bs) ∙ messages_row (suc r) b q i
      ]
