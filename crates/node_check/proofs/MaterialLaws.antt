-- The sets by material, where every channel that leaves the node is open: the table, place by place and channel by channel.
use Prim.Native.Nat.{ℕ, zero, suc, ◌+◌, ◌*◌, ◌/◌, ◌%◌, ◌^◌, ◌≤◌, ◌<◌}
use mathlib.Core.Path.{◌≡◌, refl, sym, ap, ◌∙◌}
use mathlib.Core.Bool.{Bool, true, false, cond, ◌&&◌, and-true, or-false, true≢false}
use mathlib.Core.Logic.{inl, inr}
use mathlib.Core.List.{List, [], ◌∷◌}
use native.Mathlib.Nat.{add-zero, mul-zero, mul-one, mod-one}
use native.Mathlib.Omega.{arith}
use borrow.Author.Tests.{ltb-true, ltb-false, leb-true, eqb-true, eqb-false, lt-ltb, le-ltb, le-leb, ne_eqb}
use lib.Dec.{leb, ltb, eqb}
use lib.ListN.{length, get_or, set, length-set}
use lib.Seq.{get_or-set_same, get_or-set_other}
use Rattle.basics.specs.Replicate.{replicate_default}
use Rattle.plan.specs.declared.Record.{Record}
use Rattle.plan.specs.declared.Channel.{Channel}
use Rattle.plan.specs.Record.{known_record}
use Rattle.plan.specs.Channel.{bit_set, takes, channel_fits}
use Rattle.plan.specs.Plan.{Plan, node_count, channel_count, channel_at, leaving}
use Rattle.plan.specs.Ticks.{tick}
use Rattle.plan.specs.Check.{plan_fits}
use Rattle.plan.proofs.MaskLaws.{bit_at_most}
use Rattle.plan.proofs.AcceptedLaws.{channels_at}
use Rattle.plan.proofs.FitsLaws.{fitting}
use Rattle.plan.proofs.TickLaws.{tick-parts, known_cases}
use Rattle.rules.specs.Lists.{all_of}
use Rattle.items.specs.Items.{record_right}
use Rattle.items.proofs.Tests.{all_true}
use Rattle.buffer.specs.Sets.{Begin}
use Rattle.buffer.proofs.LookLaws.{numbers_end}
use Rattle.buffer.proofs.SetLaws.{leavers_on, leavers_here, none_left, Found, found_start, found_room, found_more, found_all, found_last}
use Rattle.node_check.specs.Sets.{is_open, no_sets, takes_place, Below, Added, Listed, ByMaterial}

-- ---- a channel's bit, place by place

times_bit : (bit x : ℕ) → x < 2 → bit * x ≡ cond (eqb x 1) bit 0
times_bit bit zero h = mul-zero bit
times_bit bit (suc zero) h = mul-one bit
times_bit bit (suc (suc x)) h = let no : ⊥ = omega arith in absurd no

below_next : (j i : ℕ) → (j ≡ i → ⊥) → ltb j (suc i) ≡ ltb j i
below_next j i d = go (ltb j i) refl
  where
    go : (t : Bool) → ltb j i ≡ t → ltb j (suc i) ≡ t
    go true e = lt-ltb j (suc i) (omega (arith, ltb-true j i e))
    go false e = le-ltb j (suc i) (omega (arith, ltb-false j i e, d))

-- Added so far at the places below i.
pub record Adding (t : List ℕ) (mask bit : ℕ) (u : List ℕ) (i : ℕ) : Type 0 where
  pub long : length u ≡ 32
  pub within : i ≤ 16
  pub so_far : (j : ℕ) → get_or u j 0 ≡ get_or t j 0 + cond (ltb j i && bit_set mask j) bit 0

module _ (t : List ℕ) (mask bit : ℕ) where
  pub adding_start : length t ≡ 32 → Adding t mask bit t 0
  adding_start h = record { long = h; within = omega arith; so_far = λ j. rw (le-ltb j 0 (omega arith)) (sym (add-zero (get_or t j 0))) }

  module _ (u : List ℕ) (i : ℕ) (a : Adding t mask bit u i) where
    pub adding_same : (j : ℕ) → i ≤ j → get_or u j 0 ≡ get_or t j 0
    adding_same j h = a.so_far j ∙ rw (le-ltb j i h) (add-zero (get_or t j 0))

    abbrev last : ℕ
    last = mask / (2 ^ i) % 2

    pub adding_more : i < 16 → Adding t mask bit (set u i (get_or u i 0 + bit * last)) (suc i)
    unfolding bit_set
    adding_more h = record {
      long = length-set u i (get_or u i 0 + bit * last) ∙ a.long;
      within = h;
      so_far = λ j. go j (eqb j i) refl;
    }
      where
        go : (j : ℕ) (e : Bool) → eqb j i ≡ e → get_or (set u i (get_or u i 0 + bit * last)) j 0 ≡ get_or t j 0 + cond (ltb j (suc i) && bit_set mask j) bit 0
        go j true e =
            rw (eqb-true j i e, get_or-set_same u i (get_or u i 0 + bit * last) 0 (omega (arith, a.long)), lt-ltb i (suc i) (omega arith), adding_same i (omega arith), times_bit bit last (omega arith)) refl
        go j false e = get_or-set_other u i j (get_or u i 0 + bit * last) 0 (eqb-false j i e) ∙ rw (below_next j i (eqb-false j i e)) (a.so_far j)

  pub adding_end : (u : List ℕ) → Adding t mask bit u 16 → Added t mask bit (set u 31 (get_or u 31 0 + bit))
  adding_end u a = record { long = length-set u 31 (get_or u 31 0 + bit) ∙ a.long; sets = λ j. go j (eqb j 31) refl }
    where
      go : (j : ℕ) (e : Bool) → eqb j 31 ≡ e → get_or (set u 31 (get_or u 31 0 + bit)) j 0 ≡ get_or t j 0 + cond (takes_place mask j) bit 0
      go j true e = rw (eqb-true j 31 e, get_or-set_same u 31 (get_or u 31 0 + bit) 0 (omega (arith, a.long))) (ap (λ (x : ℕ). x + bit) (adding_same u 16 a 31 (omega arith)))
      go j false e = get_or-set_other u 31 j (get_or u 31 0 + bit) 0 (eqb-false j 31 e) ∙ a.so_far j ∙ rw (e, or-false) refl

-- ---- open channels

-- What an open channel takes goes by the place: a piece's remainder by 1 is 0, and so is the channel's, which is below its modulus; every mass is in its window.
pub open_takes : (n : ℕ) (c : Channel) (r : Record) → channel_fits n c ≡ true → is_open c ≡ true → record_right r ≡ true → takes c r ≡ takes_place c.mask (r.material % 32)
unfolding channel_fits takes
open_takes n c r fits wide right =
    let (known, (_, light)) = all_true (known_record r) (ltb r.piece (2 ^ 32) ∷ ltb r.mass (2 ^ 16) ∷ []) right in
    elim (known_cases r known) [ inl a ↦ plain (leb-true r.material 15 a) (ltb-true r.mass (2 ^ 16) light) | inr t ↦ rw (t, (tick-parts r t).material) refl ]
  where
    plain : r.material ≤ 15 → r.mass < 2 ^ 16 → takes c r ≡ takes_place c.mask (r.material % 32)
    plain few light =
        let (_, (_, (_, (_, (remainder, _))))) = all_true (ltb c.sender c.receiver) (ltb c.receiver n ∷ leb 1 c.mask ∷ leb 1 c.modulus ∷ ltb c.remainder c.modulus ∷ leb c.least c.greatest ∷ []) fits in
        let (modulus, (least, greatest)) = all_true (eqb c.modulus 1) (eqb c.least 0 ∷ eqb c.greatest 65535 ∷ []) wide in
        let place : r.material % 32 ≡ r.material = omega arith in
        let one = eqb-true c.modulus 1 modulus in
        let none : c.remainder ≡ 0 = omega (arith, ltb-true c.remainder c.modulus remainder) in
        rw (
          place,
          ne_eqb r.material 255 (λ e. omega arith),
          ne_eqb r.material 31 (λ e. omega arith),
          lt-ltb r.material 16 (omega arith),
          one,
          none,
          mod-one r.piece,
          le-leb c.least r.mass (omega (arith, eqb-true c.least 0 least)),
          le-leb r.mass c.greatest (omega (arith, eqb-true c.greatest 65535 greatest)),
          and-true,
          and-true,
          or-false,
        ) refl

-- ---- the sets by material

module _ (p : Plan) (n first : ℕ) where
  abbrev is_open_at : ℕ → Bool
  is_open_at b = is_open (channel_at p b)

  -- Listed so far: the channels before b; bit is that of the next.
  pub record Listing (t : List ℕ) (b bit : ℕ) : Type 0 where
    pub long : length t ≡ 32
    pub below : Below t bit
    pub found : (r : Record) → record_right r ≡ true → Found p n r first b (get_or t (r.material % 32) 0) bit
    pub all : all_of is_open_at (leaving p n) ≡ all_of is_open_at (leavers_on p n b)

  module _ (fits : plan_fits p ≡ true) where
    pub listing_start : Begin p n first → n < node_count p → Listing no_sets first 1
    unfolding no_sets
    listing_start e h =
        let none : (i : ℕ) → get_or no_sets i 0 ≡ 0 = λ i. replicate_default {A = ℕ} 32 i 0 in
        record {
          long = refl;
          below = λ i. omega (arith, none i);
          found = λ r right. rw (none (r.material % 32)) (found_start p n fits r first e h);
          all = ap (all_of is_open_at) e.none_before;
        }

    module _ (t : List ℕ) (b bit : ℕ) (l : Listing t b bit) where
      -- One more that leaves the node.
      module _ (h : b < channel_count p) (e : (channel_at p b).sender ≡ n) where
        pub listing_room : bit * 2 ≤ 16
        listing_room = found_room p n fits tick first b (get_or t 31 0) bit (l.found tick refl) h e

        pub listing_more : (u : List ℕ) → is_open (channel_at p b) ≡ true → Added t (channel_at p b).mask bit u → Listing u (suc b) (bit * 2)
        listing_more u wide added = record {
          long = added.long;
          below = λ i. omega (arith, added.sets i, l.below i, bit_at_most (takes_place (channel_at p b).mask i) bit);
          found =
              λ r right.
              rw (added.sets (r.material % 32), ← open_takes (node_count p) (channel_at p b) r (channels_at (node_count p) 0 0 p.channels b (fitting p fits).channels h) wide right)
              (found_more p n fits r first b (get_or t (r.material % 32) 0) bit (l.found r right) h e);
          all = l.all ∙ ap (all_of is_open_at) (leavers_here p n b h e) ∙ rw wide refl;
        }

        pub listing_closed : is_open (channel_at p b) ≡ false → ByMaterial p n no_sets false
        listing_closed shut = record { all = sym (l.all ∙ ap (all_of is_open_at) (leavers_here p n b h e) ∙ rw shut refl); listed = λ z. absurd (true≢false (sym z)) }

      -- None is left.
      done : leavers_on p n b ≡ [] → Listed p n t → ByMaterial p n t true
      done none is = record { all = sym (l.all ∙ ap (all_of is_open_at) none); listed = λ z. is }

      pub listing_all : channel_count p ≤ b → ByMaterial p n t true
      listing_all h = done (numbers_end p (λ (c : Channel). eqb c.sender n) b h) (λ r right. found_all p n fits r first b (get_or t (r.material % 32) 0) bit (l.found r right) h)

      pub listing_last : Begin p n first → b < channel_count p → ((channel_at p b).sender ≡ n → ⊥) → ByMaterial p n t true
      listing_last e h d =
          done (none_left p n fits first b e (l.found tick refl).past h d) (λ r right. found_last p n fits r first b (get_or t (r.material % 32) 0) bit (l.found r right) e h d)
