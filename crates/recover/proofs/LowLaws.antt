-- What a child's low clock holds for a node's parents, parent by parent, and all the children's, channel by channel.
use Prim.Native.Nat.{ℕ, zero, suc, ◌+◌, ◌*◌, ◌≤◌, ◌<◌, max}
use mathlib.Core.Path.{◌≡◌, refl, sym, ap, subst, ◌∙◌}
use mathlib.Core.Logic.{◌≢◌}
use mathlib.Core.Bool.{Bool, true, false, cond}
use mathlib.Core.List.{List, [], ◌∷◌, map}
use native.Mathlib.Omega.{arith}
use borrow.Author.Tests.{eqb-true, ne_eqb}
use lib.Dec.{eqb}
use lib.ListN.{length, get_or, drop, length-drop}
use lib.Seq.{drop-cons, get_or-drop}
use Rattle.plan.specs.declared.Channel.{Channel}
use Rattle.plan.specs.Plan.{Plan, plan_of, plan_channels, channel_at, entering, leaving}
use Rattle.plan.specs.Lawful.{Each}
use Rattle.plan.proofs.MaskLaws.{entering_below}
use Rattle.plan.proofs.FitsLaws.{fitting}
use Rattle.plan.proofs.PlanLaws.{channel_count_lem}
use Rattle.rules.specs.Lists.{greatest_of}
use Rattle.rules.specs.Line.{lane_at, parents}
use Rattle.rules.specs.Clock.{entry_for}
use Rattle.rules.specs.Recover.{low_through, child_lows}
use Rattle.rules.proofs.Lists.ListLaws.{map_more}
use Rattle.rules.proofs.Lists.Members.{In, here, there}
use Rattle.rules.proofs.Steps.PlanOrder.{ordered_channels}
use Rattle.items.proofs.Lookup.{senders, Apart, beside, entering-apart}
use Rattle.state.specs.Sizes.{block_at, low_at, low_limit}
use Rattle.state.specs.Right.{word_at}
use Rattle.state.specs.State.{line_of}
use Rattle.state.proofs.InPlace.{line-plan}
use Rattle.channel_fields.proofs.LaneReads.{low_five, low_word}
use Rattle.buffer.specs.Ready.{OnChannel}
use Rattle.buffer.proofs.ReadyLaws.{low_entering}
use Rattle.buffer.specs.Rows.{rows_long, Rows}
use Rattle.recover.specs.Found.{NoLow, child_low, raised_at, raised_by}
use Rattle.recover.proofs.ChildLaws.{leaving_to, numbers_turn, leaving-whole, high_snoc}

-- ---- a low clock that holds nothing

-- By the words behind the sender's.
pub no_low : (s : List ℕ) (b : ℕ) → OnChannel s b → word_at (block_at b + low_at + 4) s ≡ 0 → word_at (block_at b + low_at + 8) s ≡ 0 → word_at (block_at b + low_at + 12) s ≡ 0 → word_at (block_at b + low_at + 16) s ≡ 0 → NoLow s b
no_low s b on first second third fourth i behind h = sym (low_word s b on.ready on.below i h) ∙ each i behind (omega (arith, h, low_five s b on.ready on.below))
  where
    each : (i : ℕ) → 0 < i → i < low_limit → word_at (block_at b + low_at + 4 * i) s ≡ 0
    each zero p l = let no : ⊥ = omega arith in absurd no
    each (suc zero) p l = first
    each (suc (suc zero)) p l = second
    each (suc (suc (suc zero))) p l = third
    each (suc (suc (suc (suc zero)))) p l = fourth
    each (suc (suc (suc (suc (suc i))))) p l = let no : ⊥ = omega arith in absurd no

-- Then it has 0 for each parent, and the rows stay as they are.
entry_zero : (q : ℕ) (ps hs : List ℕ) → ((i : ℕ) → i < length hs → get_or hs i 0 ≡ 0) → entry_for q ps hs ≡ 0
entry_zero q [] hs z = refl
entry_zero q (p ∷ ps) [] z = refl
entry_zero q (p ∷ ps) (h ∷ hs) z = one (eqb p q) (z 0 (omega arith)) (entry_zero q ps hs (λ i l. z (suc i) (omega arith)))
  where
    one : (t : Bool) {x y : ℕ} → x ≡ 0 → y ≡ 0 → cond t x y ≡ 0
    one true e f = e
    one false e f = f

pub lows_none : (s : List ℕ) (n b : ℕ) (rows : List ℕ) → length rows ≡ rows_long → NoLow s b → Rows rows (raised_by rows (λ q. low_through (line_of s) n q b))
lows_none s n b rows long none =
    let low : List ℕ = (lane_at (line_of s) b).low in
    record { long = long; each = λ q h. omega (arith, entry_zero q (parents (line_of s).plan n) (drop 1 low) (λ i l. get_or-drop 1 low i 0 ∙ none (1 + i) (omega arith) (omega (arith, length-drop 1 low)))) }

-- ---- the entry for a parent

module _ (p : Plan) (q : ℕ) where
  -- It stands where the parent does among the senders.
  entry_turn : (b : ℕ) (bs hs : List ℕ) (place : ℕ) → place < length hs
      → entry_for q (senders p (b ∷ bs)) (drop place hs) ≡ cond (eqb (channel_at p b).sender q) (get_or hs place 0) (entry_for q (senders p bs) (drop (suc place) hs))
  entry_turn b bs hs place h = rw (drop-cons hs place 0 h)

  -- A node that is no sender has none.
  entry-none : (bs hs : List ℕ) → ((c : ℕ) → In c bs → (channel_at p c).sender ≢ q) → entry_for q (senders p bs) hs ≡ 0
  entry-none [] hs away = refl
  entry-none (b ∷ bs) [] away = refl
  entry-none (b ∷ bs) (h ∷ hs) away = rw (ne_eqb (channel_at p b).sender q (away b here)) (entry-none bs hs (λ c i. away c (there i)))

-- ---- parent by parent

-- What the low clock on channel b holds for a parent that comes among some channels, their entries standing from a place on.
abbrev pub low_coming : List ℕ → ℕ → ℕ → List ℕ → ℕ → ℕ
low_coming s b place cs q = entry_for q (senders (plan_of s) cs) (drop place (lane_at (line_of s) b).low)

-- The parents before a place are in their rows; the channels from the others are left.
pub record LowsTo (s : List ℕ) (n b : ℕ) (start channels : List ℕ) (place : ℕ) (rows : List ℕ) : Type 0 where
  pub below : Each (λ (c : ℕ). c < plan_channels s) channels
  pub apart : Apart (plan_of s) channels
  pub placed : place + length channels ≡ length (entering (plan_of s) n)
  pub long : length rows ≡ rows_long
  pub each : (q : ℕ) → q < rows_long → max (get_or rows q 0) (low_coming s b (1 + place) channels q) ≡ raised_by start (λ q. low_through (line_of s) n q b) q

apart_first : (p : Plan) {b : ℕ} {bs : List ℕ} → Apart p (b ∷ bs) → ((c : ℕ) → In c bs → (channel_at p c).sender ≢ (channel_at p b).sender) × Apart p bs
apart_first p (beside d r) = (d, r)

module _ (s : List ℕ) (n b : ℕ) (on : OnChannel s b) (from : (channel_at (plan_of s) b).sender ≡ n) (start : List ℕ) where
  abbrev low : List ℕ
  low = (lane_at (line_of s) b).low

  lows_long : length low ≡ suc (length (entering (plan_of s) n))
  lows_long = low_entering s b on ∙ ap (λ (k : ℕ). suc (length (entering (plan_of s) k))) from

  pub lows_few : length (entering (plan_of s) n) ≤ 4
  lows_few = omega (arith, lows_long, low_five s b on.ready on.below)

  pub lows_start : length start ≡ rows_long → LowsTo s n b start (entering (plan_of s) n) 0 start
  unfolding parents
  lows_start long =
      record {
        below = entering_below s n;
        apart = entering-apart (plan_of s) (ordered_channels (plan_of s) (fitting (plan_of s) on.ready.fits).channels) n;
        placed = omega arith;
        long = long;
        each = λ q h. rw (line-plan s) refl;
      }

  module _ (channels rest : List ℕ) (place : ℕ) (rows : List ℕ) (c : ℕ) (k : LowsTo s n b start channels place rows) (first : channels ≡ c ∷ rest) where
    pub lows_on_channel : OnChannel s c
    lows_on_channel = record { ready = on.ready; below = (rw first at k.below).0 }

    pub lows_there : 1 + place < length low
    lows_there = omega (arith, k.placed, ap length first, lows_long)

    pub lows_turn : (parent time : ℕ) (next : List ℕ) → parent ≡ (channel_at (plan_of s) c).sender → time ≡ get_or low (1 + place) 0 → Rows next (raised_at rows parent time) → LowsTo s n b start rest (place + 1) next
    lows_turn parent time next is entry r =
        let (away, others) = apart_first (plan_of s) (subst (Apart (plan_of s)) first k.apart) in
        record {
          below = (rw first at k.below).1;
          apart = others;
          placed = omega (arith, k.placed, ap length first);
          long = r.long;
          each = λ q h. one q h away (eqb (channel_at (plan_of s) c).sender q) refl;
        }
      where
        further : 1 + (place + 1) ≡ suc (1 + place)
        further = omega arith

        one : (q : ℕ) → q < rows_long → ((d : ℕ) → In d rest → (channel_at (plan_of s) d).sender ≢ (channel_at (plan_of s) c).sender) → (t : Bool) → eqb (channel_at (plan_of s) c).sender q ≡ t
            → max (get_or next q 0) (low_coming s b (1 + (place + 1)) rest q) ≡ raised_by start (λ q. low_through (line_of s) n q b) q
        one q h away true e =
            let was = rw first at (k.each q h) in
            let raised = rw (is, entry, e) at (r.each q h) in
            let turn = rw e at (entry_turn (plan_of s) q c rest low (1 + place) lows_there) in
            omega (arith, was, raised, turn, entry-none (plan_of s) q rest (drop (1 + (place + 1)) low) (λ d i z. away d i (z ∙ sym (eqb-true (channel_at (plan_of s) c).sender q e))))
        one q h away false e =
            let was = rw first at (k.each q h) in
            let raised = rw (is, entry, e) at (r.each q h) in
            let turn = rw e at (entry_turn (plan_of s) q c rest low (1 + place) lows_there) in
            rw further (omega (arith, was, raised, turn))

  pub lows_end : (channels : List ℕ) (place : ℕ) (rows : List ℕ) → LowsTo s n b start channels place rows → channels ≡ [] → Rows rows (raised_by start (λ q. low_through (line_of s) n q b))
  lows_end channels place rows k none = record { long = k.long; each = λ q h. (let all = rw none at (k.each q h) in omega (arith, all)) }

-- ---- channel by channel

module _ (s : List ℕ) (n b q : ℕ) where
  -- What the low clocks on the channels before b hold for a parent.
  abbrev pub lows_before : List ℕ
  lows_before = map (low_through (line_of s) n q) (leaving_to (plan_of s) n b)

module _ (s : List ℕ) (n b q : ℕ) where
  pub low_more : b < plan_channels s → greatest_of (lows_before s n (b + 1) q) ≡ max (greatest_of (lows_before s n b q)) (child_low s n b q)
  low_more h =
      let t : Bool = eqb (channel_at (plan_of s) b).sender n in
      let low : ℕ → ℕ = low_through (line_of s) n q in
      ap (λ (bs : List ℕ). greatest_of (map low bs)) (numbers_turn (plan_of s) (λ (c : Channel). eqb c.sender n) b (rw channel_count_lem h))
      ∙ ap greatest_of (map_more low t b (leaving_to (plan_of s) n b))
      ∙ high_snoc (lows_before s n b q) t (low b)
      ∙ one t (greatest_of (lows_before s n b q)) (low b)
    where
      one : (t : Bool) (most x : ℕ) → cond t (max most x) most ≡ max most (cond t x 0)
      one true most x = refl
      one false most x = omega arith

  pub low_whole : plan_channels s ≤ b → lows_before s n b q ≡ child_lows (line_of s) n q
  unfolding child_lows
  low_whole h =
      let low : ℕ → ℕ = low_through (line_of s) n q in
      ap (map low) (leaving-whole (plan_of s) n b (rw channel_count_lem h)) ∙ sym (ap (λ (p : Plan). map low (leaving p n)) (line-plan s))
