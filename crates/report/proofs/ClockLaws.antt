-- The parents' parts of a clock, one behind the other.
use Prim.Native.Nat.{ℕ, zero, suc, ◌+◌, ◌-◌, ◌*◌, ◌≤◌, ◌<◌}
use mathlib.Core.Path.{◌≡◌, refl, sym, ap, ◌∙◌}
use mathlib.Core.Logic.{◌≢◌}
use mathlib.Core.Bool.{true, false, true≢false}
use mathlib.Core.List.{List, [], ◌∷◌, ◌++◌, zip_with, append_assoc, append-nil}
use native.Mathlib.Nat.{zero-mul, one-mul, add-mul, mul-le-mul_right}
use native.Mathlib.Numerals.{add-one}
use native.Mathlib.Omega.{arith}
use lib.ListN.{length, get_or, drop, drop_of_length-le}
use lib.Seq.{drop-cons}
use Rattle.plan.specs.Plan.{Plan, plan_of, channel_at, entering, is_none}
use Rattle.rules.specs.Line.{Line, node_at, lane_at, sender_of}
use Rattle.rules.specs.Sheet.{bracketed, node_and_time, listed, clock_text}
use Rattle.state.specs.State.{line_of}
use Rattle.state.proofs.InPlace.{line-plan}
use Rattle.buffer.specs.Holds.{AtNode}
use Rattle.report.specs.declared.Heard.{Heard}
use Rattle.report.specs.declared.Heard.TheVariants.{Itself, Through}
use Rattle.report.specs.declared.text.Text.{Text}
use Rattle.report.specs.Clock.{times_of, HeardAt, separator_at}
use Rattle.report.specs.Most.{clock_most}
use Rattle.report.specs.Parts.{after}
use Rattle.report.specs.Writes.{Writes}
use Rattle.report.proofs.PartsLaws.{spaced-after}
use Rattle.report.proofs.ParentLaws.{entering_same, four_parents, times_long, Walking, walking_four, walking_end, walking_at, walking_turn}
use Rattle.report.proofs.WroteLaws.{Writing, writes_most, writing_of, writing_start, writing_on, writing_as, writing_last}

-- ---- the parts, one behind the other

-- Each behind what stands before it.
abbrev pub parts_from : ℕ → List (List ℕ) → List ℕ
parts_from place [] = []
parts_from place (w ∷ ws) = (separator_at 91 place ∷ []) ++ (w ++ parts_from (suc place) ws)

parts-after : (place : ℕ) (ws : List (List ℕ)) → parts_from (suc place) ws ≡ after ws
parts-after place [] = refl
parts-after place (w ∷ ws) = ap (λ (x : List ℕ). 32 ∷ (w ++ x)) (parts-after (suc place) ws)

brackets : (w : List ℕ) (ws : List (List ℕ)) → bracketed (w ∷ ws) ≡ parts_from 0 (w ∷ ws) ++ 93 ∷ []
brackets w ws = ap (λ (x : List ℕ). 91 ∷ (x ++ 93 ∷ [])) (spaced-after w ws ∙ ap (λ (x : List ℕ). w ++ x) (sym (parts-after 0 ws)))

module _ (l : Line) (layers n t : ℕ) (ts : List ℕ) where
  abbrev channels : List ℕ
  channels = entering l.plan n

  -- The part of one parent.
  abbrev pub part : ℕ → ℕ → List ℕ
  part b u = listed l layers (sender_of l b) u (lane_at l b).heard

  -- What is still to be written from a place on.
  abbrev pub rest : ℕ → List ℕ
  rest place = parts_from place (zip_with (λ b u. listed l layers (sender_of l b) u (lane_at l b).heard) (drop place (entering l.plan n)) (drop place ts)) ++ 93 ∷ []

  abbrev pub whole : List ℕ
  whole = listed l (suc layers) n t ts

  pub listed-none : entering l.plan n ≡ [] → listed l (suc layers) n t ts ≡ node_and_time n t
  unfolding zip_with
  listed-none e = rw e (append-nil (node_and_time n t))

  module _ (long : length (entering l.plan n) ≤ length ts) where
    zip_at : (place : ℕ) → place < length channels
        → zip_with part (drop place channels) (drop place ts) ≡ part (get_or channels place 0) (get_or ts place 0) ∷ zip_with part (drop (suc place) channels) (drop (suc place) ts)
    unfolding zip_with
    zip_at place h = rw (drop-cons channels place 0 h, drop-cons ts place 0 (omega (arith, long)))

    pub listed-parts : 0 < length (entering l.plan n) → listed l (suc layers) n t ts ≡ node_and_time n t ++ rest 0
    listed-parts h = ap (λ (x : List ℕ). node_and_time n t ++ x) (rw (zip_at 0 h) (brackets (part (get_or channels 0 0) (get_or ts 0 0)) (zip_with part (drop 1 channels) (drop 1 ts))))

    pub rest_at : (place : ℕ) → place < length (entering l.plan n) → rest place ≡ (separator_at 91 place ∷ []) ++ (part (get_or (entering l.plan n) place 0) (get_or ts place 0) ++ rest (suc place))
    rest_at place h =
        ap (λ (ws : List (List ℕ)). parts_from place ws ++ 93 ∷ []) (zip_at place h)
        ∙ ap (λ (x : List ℕ). separator_at 91 place ∷ x) (append_assoc (part (get_or channels place 0) (get_or ts place 0)) (parts_from (suc place) (zip_with part (drop (suc place) channels) (drop (suc place) ts))) (93 ∷ []))

    pub rest_none : (place : ℕ) → length (entering l.plan n) ≤ place → rest place ≡ 93 ∷ []
    unfolding zip_with
    rest_none place h = rw (drop_of_length-le channels {i = place} h)

-- ---- as they are written

pub root_most : (layers : ℕ) → 21 ≤ clock_most layers
root_most zero = omega arith
root_most (suc k) = omega arith

-- Behind a node and its time so many parents are listed.
pub record Listing (s : List ℕ) (layers n t : ℕ) (h : Heard) (root now : Text) (place : ℕ) (left : List ℕ) : Type 0 where
  pub deeper : layers ≡ suc (layers - 1)
  pub room : root.at + (4 * (1 + clock_most (layers - 1)) + 1) ≤ length root.out.now
  pub some : 0 < length (entering (plan_of s) n)
  pub walking : Walking s n place left
  pub writing : Writing (rest (line_of s) (layers - 1) n t (times_of (line_of s) n h) 0) (place * (1 + clock_most (layers - 1))) root now (rest (line_of s) (layers - 1) n t (times_of (line_of s) n h) place)

module _ (s : List ℕ) (n t : ℕ) (h : Heard) (node : AtNode s n) (heard : HeardAt s n h) where
  abbrev l : Line
  l = line_of s

  abbrev ts : List ℕ
  ts = times_of (line_of s) n h

  same : entering (line_of s).plan n ≡ entering (plan_of s) n
  same = entering_same s n

  long : length (entering (line_of s).plan n) ≤ length (times_of (line_of s) n h)
  long = omega (arith, times_long s n node h heard, ap length same)

  module _ (start : Text) (layers : ℕ) (room : start.at + clock_most layers ≤ length start.out.now) (root : Text) (named : Writes 21 (node_and_time n t) start root) where
    pub listing_leaf : layers ≡ 0 → Writes (clock_most layers) (listed (line_of s) layers n t (times_of (line_of s) n h)) start root
    listing_leaf e = rw e named

    pub listing_none : layers ≢ 0 → is_none (entering (plan_of s) n) ≡ true → Writes (clock_most layers) (listed (line_of s) layers n t (times_of (line_of s) n h)) start root
    listing_none more e = go layers more
      where
        empty : (bs : List ℕ) → is_none bs ≡ true → bs ≡ []
        empty [] z = refl
        empty (b ∷ bs) z = absurd (true≢false (sym z))

        go : (k : ℕ) → k ≢ 0 → Writes (clock_most k) (listed (line_of s) k n t (times_of (line_of s) n h)) start root
        go zero f = absurd (f refl)
        go (suc k) f = rw (listed-none l k n t ts (same ∙ empty (entering (plan_of s) n) e)) (writes_most (clock_most (suc k)) (omega (arith, named.wrote.short, root_most (suc k))) named)

    pub listing_start : layers ≢ 0 → is_none (entering (plan_of s) n) ≡ false → Listing s layers n t h root root 0 (entering (plan_of s) n)
    listing_start more e = go layers more room
      where
        positive : (bs : List ℕ) → is_none bs ≡ false → 0 < length bs
        positive [] z = absurd (true≢false z)
        positive (b ∷ bs) z = omega arith

        go : (k : ℕ) → k ≢ 0 → start.at + clock_most k ≤ length start.out.now → Listing s k n t h root root 0 (entering (plan_of s) n)
        go zero f r = absurd (f refl)
        go (suc k) f r =
            let less : suc k - 1 ≡ k = omega arith in
            let w = named.wrote in
            record {
              deeper = ap suc (sym less);
              room = rw less (omega (arith, w.end, w.short, w.same));
              some = positive (entering (plan_of s) n) e;
              walking = record { is = refl; few = omega arith };
              writing = rw (less, zero-mul (1 + clock_most k)) (writing_start (rest l k n t ts 0) root (omega (arith, w.within, w.same)));
            }

    module _ (now : Text) (place : ℕ) (left : List ℕ) (x : Listing s layers n t h root now place left) where
      abbrev k : ℕ
      k = layers - 1

      -- Space for so many more parts, and the bracket.
      space : (more : ℕ) → place + more ≤ 4 → now.at + more * (1 + clock_most k) + 1 ≤ length now.out.now
      space more p =
          let w = x.writing.writes.wrote in
          let m : (place + more) * (1 + clock_most k) ≤ 4 * (1 + clock_most k) = mul-le-mul_right (1 + clock_most k) p in
          let split : (place + more) * (1 + clock_most k) ≡ place * (1 + clock_most k) + more * (1 + clock_most k) = add-mul place more (1 + clock_most k) in
          omega (arith, w.end, w.short, w.same, x.room)

      pub listing_four : place ≤ 4
      listing_four = walking_four x.walking node

      pub listing_separator : now.at + 1 ≤ length now.out.now
      listing_separator = omega (arith, space 0 (omega (arith, listing_four)), zero-mul (1 + clock_most k))

      pub listing_room : place < length (entering (plan_of s) n) → now.at + 1 + clock_most (layers - 1) ≤ length now.out.now
      listing_room p = omega (arith, space 1 (omega (arith, four_parents s n node)), one-mul (1 + clock_most k))

      module _ {b : ℕ} {others : List ℕ} (next : left ≡ b ∷ others) where
        pub listing_turn : (q u : ℕ) (then later : Text) → q ≡ (channel_at (plan_of s) b).sender → u ≡ get_or (times_of (line_of s) n h) place 0
            → Writes 1 (separator_at 91 place ∷ []) now then → Writes (clock_most (layers - 1)) (listed (line_of s) (layers - 1) q u (times_of (line_of s) q (Through b))) then later
            → Listing s layers n t h root later (place + 1) others
        unfolding times_of
        listing_turn q u then later from entry before part_of =
            let here = walking_at x.walking next in
            let channel : b ≡ get_or (entering l.plan n) place 0 = here.is ∙ ap (λ (bs : List ℕ). get_or bs place 0) (sym same) in
            let sender : q ≡ sender_of l (get_or (entering l.plan n) place 0) = from ∙ ap (λ (p : Plan). (channel_at p b).sender) (sym (line-plan s)) ∙ ap (sender_of l) channel in
            let text : listed l k q u (lane_at l b).heard ≡ part l k n t ts (get_or (entering l.plan n) place 0) (get_or ts place 0) = cc (sender, channel, entry) in
            let inside : place < length (entering l.plan n) = rw same here.inside in
            let done : place * (1 + clock_most k) + 1 + clock_most k ≡ (place + 1) * (1 + clock_most k) = omega (arith, add-mul place 1 (1 + clock_most k), one-mul (1 + clock_most k)) in
            record {
              deeper = x.deeper;
              room = x.room;
              some = x.some;
              walking = walking_turn x.walking next;
              writing = writing_as ((place + 1) * (1 + clock_most k)) done (rw (add-one place) (writing_on refl (writing_on (rest_at l k n t ts long place inside) x.writing before) (rw text at part_of)));
            }

      pub listing_end : (last : Text) → left ≡ [] → Writes 1 (93 ∷ []) now last → Writes (clock_most layers) (listed (line_of s) layers n t (times_of (line_of s) n h)) start last
      listing_end last z w =
          let none : rest l k n t ts place ≡ 93 ∷ [] = rest_none l k n t ts long place (rw same (walking_end x.walking z)) in
          let parts : Writes (place * (1 + clock_most k) + 1) (rest l k n t ts 0) root last = writing_last (rw none at x.writing) w in
          let m : place * (1 + clock_most k) ≤ 4 * (1 + clock_most k) = mul-le-mul_right (1 + clock_most k) listing_four in
          let whole : Writes (21 + (place * (1 + clock_most k) + 1)) (listed l (suc k) n t ts) start last =
          writing_last (writing_on refl (writing_of start (listed-parts l k n t ts long (rw same x.some)) (omega (arith, room))) named) parts in
          rw x.deeper (writes_most (clock_most (suc k)) (omega (arith, whole.wrote.short)) whole)

pub clock_own : (m : Line) (n : ℕ) {most : ℕ} {s t : Text} → Writes most (listed m 2 n (node_at m n).time (times_of m n Itself)) s t → Writes most (clock_text m n) s t
unfolding clock_text times_of
clock_own m n w = w
