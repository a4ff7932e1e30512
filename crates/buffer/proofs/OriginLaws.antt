-- Records and origins in the state's bytes.
use Prim.Native.Nat.{ℕ, zero, suc, ◌+◌, ◌*◌, ◌-◌, ◌^◌, ◌≤◌, ◌<◌}
use mathlib.Core.Path.{◌≡◌, refl, sym, ap, ap₂, ◌∙◌}
use mathlib.Core.Bool.{Bool, true, false, not, ◌&&◌, ◌||◌, and-true, and-false, and_comm}
use mathlib.Core.List.{List}
use mathlib.Core.Option.{none, some}
use native.Mathlib.Omega.{arith}
use borrow.Author.Tests.{lt-ltb, ne_eqb}
use lib.Seq.{take-take, drop-drop}
use lib.Dec.{lit≤, leb, ltb, eqb, eqb-suc-zero}
use lib.ListN.{length, get_or, take, drop, length-map}
use Rattle.plan.specs.Lawful.{Bytes}
use Rattle.plan.specs.Layout.{spelled}
use Rattle.plan.specs.Plan.{Plan, plan_of, plan_channels, channel_at, entering, is_source}
use Rattle.plan.specs.Record.{record_of, record_fields, record_layout, known_record, record_fits}
use Rattle.plan.proofs.NumberLaws.{spelled_below}
use Rattle.plan.proofs.PlanLaws.{channel_count_lem}
use Rattle.plan.proofs.ReadLaws.{byte_field}
use Rattle.rules.specs.Line.{Origin, fed, made, Line, lane_at, parents}
use Rattle.rules.specs.Damaged.{is_fed}
use Rattle.state.specs.Sizes.{taken_at, heard_at, parent_limit, block_at}
use Rattle.state.specs.Pieces.{origin_from}
use Rattle.state.specs.Lane.{heard_count}
use Rattle.state.specs.State.{line_of}
use Rattle.state.specs.Right.{word_at}
use Rattle.state.proofs.ReadLaws.{part_part, byte_part, record_read}
use Rattle.state.proofs.RightAt.{part_long, part_bytes}
use Rattle.state.proofs.InPlace.{line-plan}
use Rattle.state.proofs.OffsetLaws.{line_taken, line-heard_at}
use Rattle.state.proofs.HeardLaws.{heard_few}
use Rattle.items.specs.Items.{from_sender, place_from, if_found, record_right, before_right, origin_right}
use Rattle.buffer.specs.Exact.{record_exact, time_named}
use Rattle.buffer.specs.Ready.{Ready}
use Rattle.buffer.specs.Check.{record_in}
use Rattle.buffer.proofs.ReadyLaws.{counted}
use Rattle.buffer.proofs.LookLaws.{place_below}

-- ---- records

word_small : (w a : ℕ) (s : List ℕ) → Bytes s → a + w ≤ length s → spelled 0 (take w (drop a s)) < 256 ^ w
word_small w a s h l = rw (part_long a w s l) at (spelled_below (take w (drop a s)) (part_bytes a w s h))

record_in_lem : (a : ℕ) (s : List ℕ) → record_in a s ≡ record { piece = word_at a s; material = get_or s (a + 4) 0; mass = spelled 0 (take 2 (drop (a + 6) s)) }
record_in_lem a s =
    record_read (take 8 (drop a s))
    ∙ (λ i. record { piece = spelled 0 (take-take 4 8 (drop a s) (lit≤ tt) i); material = byte_part 4 8 a s (omega arith) i; mass = spelled 0 (part_part 2 6 8 a s (omega arith) i) })

record_right_lem : (a : ℕ) (s : List ℕ) → Bytes s → a + 8 ≤ length s → record_right (record_in a s) ≡ known_record (record_in a s)
record_right_lem a s h l =
    ap record_right (record_in_lem a s)
    ∙ rw (lt-ltb (word_at a s) 4294967296 (word_small 4 a s h (omega arith)), lt-ltb (spelled 0 (take 2 (drop (a + 6) s))) 65536 (word_small 2 (a + 6) s h (omega arith)), and-true, and-true)
    (ap known_record (sym (record_in_lem a s)))

pub record_tested : (a : ℕ) (s : List ℕ) → Bytes s → a + 8 ≤ length s → record_fits (take 8 (drop a s)) ≡ (record_exact a s && record_right (record_in a s))
unfolding record_fits record_layout
record_tested a s h l =
    let b : List ℕ = take 8 (drop a s) in
    let zero : eqb (get_or (record_fields.read b) 2 0) 0 ≡ record_exact a s = rw (drop-drop 1 4 b, byte_field 5 b, byte_part 5 8 a s (omega arith)) in
    ap (λ (t : Bool). known_record (record_of (record_fields.read b)) && t) zero ∙ and_comm (known_record (record_in a s)) (record_exact a s) ∙ ap (λ (t : Bool). record_exact a s && t) (sym (record_right_lem a s h l))

-- ---- what an input was made from

pub origin-none : (t : ℕ) (q : ℕ) → q ≡ 0 → origin_from q t ≡ fed
origin-none t q e = ap (λ (x : ℕ). origin_from x t) e

pub origin_some : (t q : ℕ) → (q ≡ 0 → ⊥) → origin_from q t ≡ made (q - 1) t
origin_some t zero h = absurd (h refl)
origin_some t (suc q) h = let same : q ≡ suc q - 1 = omega arith in ap (λ (x : ℕ). made x t) same

pub origin_fed : (q t : ℕ) → is_fed (origin_from q t) ≡ eqb q 0
origin_fed zero t = refl
origin_fed (suc q) t = sym (eqb-suc-zero q)

named_none : (q t : ℕ) → q ≡ 0 → time_named q t ≡ eqb t 0
named_none q t e = rw e refl

named_some : (q t : ℕ) → (q ≡ 0 → ⊥) → time_named q t ≡ true
named_some q t h = ap (λ (v : Bool). not v || eqb t 0) (ne_eqb q 0 h)

-- A name, and what is asked of the rest, in another order.
name_first : (name time taken rest : Bool) → (time && (taken && (name && rest))) ≡ (name && (time && (taken && rest)))
name_first true time taken rest = refl
name_first false true true rest = refl
name_first false true false rest = refl
name_first false false taken rest = refl

names_first : (source free earlier since : Bool) → ((source && free) && (earlier && since)) ≡ ((free && (not earlier || since)) && (source && earlier))
names_first true true true true = refl
names_first true true true false = refl
names_first true true false since = refl
names_first true false earlier since = refl
names_first false free true since = sym (and-false (free && since))
names_first false free false since = sym (and-false (free && true))

module _ (s : List ℕ) (ready : Ready s) where
  abbrev l : Line
  l = line_of s

  abbrev p : Plan
  p = plan_of s

  -- What came on channel b from a sender.
  module _ (sender b : ℕ) (h : b < plan_channels s) (from : (channel_at p b).sender ≡ sender) where
    entered : heard_count p (channel_at p b) ≡ length (entering p sender)
    unfolding heard_count parents
    entered = length-map (entering p (channel_at p b).sender) (λ (c : ℕ). (channel_at p c).sender) ∙ ap (λ (x : ℕ). length (entering p x)) from

    at_most_four : heard_count p (channel_at p b) ≤ parent_limit
    at_most_four = heard_few p ready.fits b (rw channel_count_lem h)

    before_made : (q u : ℕ) → before_right l sender b (made q u) ≡ (ltb 0 u && if_found (place_from p q 0 (entering p sender)) (λ (i : ℕ). leb u (get_or (lane_at l b).heard i 0)))
    unfolding before_right
    before_made q u = rw (line-plan s)

    module _ (q u : ℕ) where
      pub before_fed : q ≡ 0 → (is_source p sender && eqb u 0) ≡ (time_named q u && before_right l sender b (origin_from q u))
      unfolding before_right
      before_fed e = and_comm (is_source p sender) (eqb u 0) ∙ sym (ap₂ ◌&&◌ (named_none q u e) (ap (before_right l sender b) (origin-none u q e) ∙ rw (line-plan s) refl))

      named-before : (q ≡ 0 → ⊥) → (time_named q u && before_right l sender b (origin_from q u)) ≡ before_right l sender b (made (q - 1) u)
      named-before z = ap₂ ◌&&◌ (named_some q u z) (ap (before_right l sender b) (origin_some u q z))

      pub before_missing : (q ≡ 0 → ⊥) → place_from p (q - 1) 0 (entering p sender) ≡ none → false ≡ (time_named q u && before_right l sender b (origin_from q u))
      before_missing z e = sym (named-before z ∙ before_made (q - 1) u ∙ rw (e, and-false))

      pub before_there : (q ≡ 0 → ⊥) → (i : ℕ) → place_from p (q - 1) 0 (entering p sender) ≡ some i → (ltb 0 u && leb u (word_at (block_at b + (heard_at + 4 * i)) s)) ≡ (time_named q u && before_right l sender b (origin_from q u))
      before_there z i e =
          let early : i < heard_count p (channel_at p b) = omega (arith, place_below p (q - 1) 0 i (entering p sender) e, entered) in
          sym (named-before z ∙ before_made (q - 1) u ∙ rw e (ap (λ (v : ℕ). ltb 0 u && leb u v) (line-heard_at s (counted ready) b h i early (omega (arith, early, at_most_four)))))

  -- What node n made something from.
  module _ (n : ℕ) where
    made_is : (q t : ℕ) (o : Origin) → origin_right l n (made q t) o ≡ (ltb 0 t && if_found (from_sender p q (entering p n)) (λ (b : ℕ). leb t (lane_at l b).taken && before_right l q b o))
    unfolding origin_right
    made_is q t o = rw (line-plan s)

    pub made_missing : (q t : ℕ) (name : Bool) (o : Origin) → from_sender p q (entering p n) ≡ none → false ≡ (name && origin_right l n (made q t) o)
    made_missing q t name o e = sym (ap (λ (v : Bool). name && v) (made_is q t o ∙ rw (e, and-false)) ∙ and-false name)

    pub made_there : (q t : ℕ) (name : Bool) (o : Origin) (b : ℕ) → b < plan_channels s → from_sender p q (entering p n) ≡ some b
        → (ltb 0 t && (leb t (word_at (block_at b + taken_at) s) && (name && before_right l q b o))) ≡ (name && origin_right l n (made q t) o)
    made_there q t name o b h e =
        name_first name (ltb 0 t) (leb t (word_at (block_at b + taken_at) s)) (before_right l q b o)
        ∙ sym (ap (λ (v : Bool). name && v) (made_is q t o ∙ rw e (ap (λ (v : ℕ). ltb 0 t && (leb t v && before_right l q b o)) (line_taken s (counted ready) b h))))

    pub origin_at_source : (q t e u : ℕ) → q ≡ 0 → ((is_source p n && eqb t 0) && (eqb e 0 && eqb u 0)) ≡ ((time_named q t && time_named e u) && origin_right l n (origin_from q t) (origin_from e u))
    unfolding origin_right
    origin_at_source q t e u z =
        names_first (is_source p n) (eqb t 0) (eqb e 0) (eqb u 0)
        ∙ sym (ap₂ ◌&&◌ (ap (λ (v : Bool). v && time_named e u) (named_none q t z)) (ap (λ (o : Origin). origin_right l n o (origin_from e u)) (origin-none t q z) ∙ rw (line-plan s, origin_fed e u) refl))

    pub origin-named : (q t e u : ℕ) → (q ≡ 0 → ⊥) → (time_named e u && origin_right l n (made (q - 1) t) (origin_from e u)) ≡ ((time_named q t && time_named e u) && origin_right l n (origin_from q t) (origin_from e u))
    origin-named q t e u z = sym (ap₂ ◌&&◌ (ap (λ (v : Bool). v && time_named e u) (named_some q t z)) (ap (λ (o : Origin). origin_right l n o (origin_from e u)) (origin_some t q z)))
