-- A plan's channels by their ends: the two arrays filled channel by channel, and what a lookup in them finds.
use Prim.Native.Nat.{ℕ, suc, ◌+◌, ◌*◌, ◌/◌, ◌%◌, ◌≤◌, ◌<◌}
use mathlib.Core.Path.{◌≡◌, refl, sym, ap, ◌∙◌}
use mathlib.Core.Bool.{Bool, true, false, cond, ◌&&◌, true≢false}
use mathlib.Core.List.{List, [], ◌∷◌}
use mathlib.Core.Option.{Option, none, some}
use native.Mathlib.Nat.{add-zero, zero-add}
use native.Mathlib.Omega.{arith}
use borrow.Author.Tests.{eqb-true, eqb-false, eq-eqb}
use lib.Dec.{eqb, eqb-suc-zero}
use lib.ListN.{length, get_or, set, replicate, length-set, get_or-replicate}
use lib.Seq.{get_or-set_same, get_or-set_other}
use Rattle.std.specs.Prelude.{is_some}
use Rattle.std.specs.declared.option.Option.{Option as Maybe}
use Rattle.std.specs.declared.option.Option.TheVariants.{None, Some}
use Rattle.basics.specs.Bools.{both_true}
use Rattle.plan.specs.declared.Channel.{Channel}
use Rattle.plan.specs.Channel.{channel_size}
use Rattle.plan.specs.Plan.{Plan, plan_of, plan_version, plan_channels, channel_from, node_count, channel_at, channel_count, keep_if, is_none, entering, is_source}
use Rattle.plan.proofs.ReadLaws.{channels_most}
use Rattle.plan.proofs.PlanLaws.{channel_count_lem}
use Rattle.plan.proofs.FitsLaws.{fitting}
use Rattle.plan.proofs.AcceptedLaws.{four_at}
use Rattle.rules.proofs.Lists.Members.{here as first}
use Rattle.rules.proofs.Invariant.Inv.{Ordered}
use Rattle.rules.proofs.Steps.PlanOrder.{ordered_channels}
use Rattle.rules.proofs.Line.Joins.{entering_in}
use Rattle.state.specs.State.{line_of}
use Rattle.state.proofs.InPlace.{line-plan}
use Rattle.items.specs.Items.{from_sender, place_from, if_found}
use Rattle.items.proofs.Lookup.{found_in, sender_found, sender_placed}
use Rattle.buffer.specs.Ready.{Ready}
use Rattle.buffer.specs.Look.{number_or}
use Rattle.buffer.specs.Table.{place_of, code_or}
use Rattle.buffer.specs.Joins.{EndsOf, Missing, Joining, JoinOf}
use Rattle.buffer.specs.declared.joins.Joint.{Joint}
use Rattle.buffer.proofs.LookLaws.{numbers_on, numbers_turn, numbers_end, found_on, found_turn, found_end, place_on, place_found, place_turn, place_below, sender_byte, receiver_byte}

-- What stands for a sender and a node when the channels before b are in, count of which enter the node: nothing yet, or the channel between the two.
pub data Seen (p : Plan) (q n b count code : ℕ) : Type 0 where
  coming : code ≡ 255 → code_or p (from_sender p q (entering p n)) ≡ found_on p q n (code_or p) b → place_from p q 0 (entering p n) ≡ place_on p q n count b → Seen p q n b count code
  gone : (c : ℕ) → c < b → (channel_at p c).sender ≡ q → (channel_at p c).receiver ≡ n → code ≡ code_or p (from_sender p q (entering p n)) → Seen p q n b count code

-- The channels before b are in.
pub record Filled (s codes counts : List ℕ) (at b : ℕ) : Type 0 where
  pub within : b ≤ plan_channels s
  pub there : at ≡ channel_from s b
  pub long : length codes ≡ 144
  pub wide : length counts ≡ 12
  pub places : (n : ℕ) → n < 12 → get_or counts n 0 + length (numbers_on (plan_of s) (λ (c : Channel). eqb c.receiver n) b) ≡ length (entering (plan_of s) n)
  pub joins : (q n : ℕ) → q < 12 → n < 12 → Seen (plan_of s) q n b (get_or counts n 0) (get_or codes (12 * n + q) 0)

module _ (p : Plan) (q n b count code : ℕ) where
  seen_turn : Ordered p → (place : ℕ) → b < channel_count p → (v : Bool) → (eqb (channel_at p b).sender q && eqb (channel_at p b).receiver n) ≡ v → (v ≡ true → place ≡ count) → Seen p q n b count code
      → Seen p q n (suc b) (count + cond (eqb (channel_at p b).receiver n) 1 0) (cond v (b + 32 * place) code)
  seen_turn ordered place here true e same (coming unseen found placed) =
      let (from, to) = both_true (eqb (channel_at p b).sender q) (eqb (channel_at p b).receiver n) e in
      let sender = eqb-true (channel_at p b).sender q from in
      let receiver = eqb-true (channel_at p b).receiver n to in
      let place_is : place_of p b ≡ place = rw (sender, receiver) (ap (number_or 4) (placed ∙ place_found p q n count b here e) ∙ sym (same refl)) in
      gone b (omega arith) sender receiver (sym (found ∙ found_turn p q n (code_or p) b here ∙ rw e (ap (λ (x : ℕ). b + 32 * x) place_is)))
  seen_turn ordered place here true e same (gone c below from to is) =
      let (f, t) = both_true (eqb (channel_at p b).sender q) (eqb (channel_at p b).receiver n) e in
      let twice : c ≡ b = ordered.alone c b (omega arith) here (from ∙ sym (eqb-true (channel_at p b).sender q f)) (to ∙ sym (eqb-true (channel_at p b).receiver n t)) in
      let no : ⊥ = omega arith in absurd no
  seen_turn ordered place here false e same (coming unseen found placed) = coming unseen (found ∙ found_turn p q n (code_or p) b here ∙ rw e refl) (placed ∙ place_turn p q n count b here e)
  seen_turn ordered place here false e same (gone c below from to is) = gone c (omega arith) from to is

  seen_end : channel_count p ≤ b → Seen p q n b count code → code ≡ code_or p (from_sender p q (entering p n))
  seen_end h (coming unseen found placed) = unseen ∙ sym (found ∙ found_end p q n (code_or p) b h)
  seen_end h (gone c below from to is) = is

module _ (s : List ℕ) (ready : Ready s) where
  abbrev p : Plan
  p = plan_of s

  ordered : Ordered p
  ordered = ordered_channels p (fitting p ready.fits).channels

  few_nodes : node_count p ≤ 12
  few_nodes = (fitting p ready.fits).nodes_most

  -- A channel's ends, and its place.
  pub ends_small : (b : ℕ) → b < plan_channels s → ((channel_at p b).sender < 12) × ((channel_at p b).receiver < 12)
  ends_small b h =
      let below : b < channel_count p = rw channel_count_lem h in
      let f = ordered.forward b below in
      let i = ordered.inside b below in
      (omega (arith, few_nodes), omega (arith, few_nodes))

  pub few_enter : (b : ℕ) → b < plan_channels s → length (entering p (channel_at p b).receiver) ≤ 4
  few_enter b h = (four_at p (node_count p) (channel_at p b).receiver (fitting p ready.fits).degrees (ordered.inside b (rw channel_count_lem h))).0

  -- ---- filling them

  pub filled_start : (at : ℕ) → at ≡ channel_from s 0 → Filled s (replicate 144 255) (replicate 12 0) at 0
  unfolding entering
  filled_start at there = record {
    within = omega arith;
    there = there;
    long = refl;
    wide = refl;
    places = λ n h. ap (λ (x : ℕ). x + length (entering p n)) (get_or-replicate {A = ℕ} 12 n 0 0 h) ∙ zero-add (length (entering p n));
    joins = λ q n h k. coming (get_or-replicate {A = ℕ} 144 (12 * n + q) 255 0 (omega arith)) refl (ap (λ (x : ℕ). place_on p q n x 0) (sym (get_or-replicate {A = ℕ} 12 n 0 0 k)));
  }

  set_pair : (codes : List ℕ) (k r v q n : ℕ) → length codes ≡ 144 → k < 12 → r < 12 → q < 12 → n < 12
      → get_or (set codes (12 * r + k) v) (12 * n + q) 0 ≡ cond (eqb k q && eqb r n) v (get_or codes (12 * n + q) 0)
  set_pair t k r v q n long a b c d = one (eqb k q) (eqb r n) refl refl
    where
      one : (x y : Bool) → eqb k q ≡ x → eqb r n ≡ y → get_or (set t (12 * r + k) v) (12 * n + q) 0 ≡ cond (x && y) v (get_or t (12 * n + q) 0)
      one true true e f =
          let same : 12 * r + k ≡ 12 * n + q = omega (arith, eqb-true k q e, eqb-true r n f) in
          rw same (get_or-set_same t (12 * n + q) v 0 (omega arith))
      one true false e f = get_or-set_other t (12 * r + k) (12 * n + q) v 0 (λ z. eqb-false r n f (omega (arith, eqb-true k q e)))
      one false y e f = get_or-set_other t (12 * r + k) (12 * n + q) v 0 (λ z. eqb-false k q e (omega arith))

  module _ (codes counts : List ℕ) (at b : ℕ) (now : Filled s codes counts at b) where
    pub filled_few : at ≤ 293
    filled_few = omega (arith, now.there, now.within, ready.nodes, ready.channels, channels_most (plan_version s) b)

    pub filled_end : plan_channels s ≤ b → EndsOf s codes counts
    filled_end past =
        let all : channel_count p ≤ b = rw channel_count_lem past in
        record {
          long = now.long;
          wide = now.wide;
          joins = λ q n i k. seen_end p q n b (get_or counts n 0) (get_or codes (12 * n + q) 0) all (now.joins q n i k);
          counts_are = λ n i. sym (add-zero (get_or counts n 0)) ∙ ap (λ (bs : List ℕ). get_or counts n 0 + length bs) (sym (numbers_end p (λ (c : Channel). eqb c.receiver n) b all)) ∙ now.places n i;
        }

    module _ (from to : ℕ) (here : b < plan_channels s) (e : from ≡ get_or s at 0) (f : to ≡ get_or s (at + 1) 0) where
      sender_is : from ≡ (channel_at p b).sender
      sender_is = e ∙ rw now.there (sender_byte s b here)

      receiver_is : to ≡ (channel_at p b).receiver
      receiver_is = f ∙ rw now.there (receiver_byte s b here)

      from_small : from < 12
      from_small = rw sender_is (ends_small b here).0

      to_small : to < 12
      to_small = rw receiver_is (ends_small b here).1

      -- How many channels enter its receiver before it.
      abbrev place : ℕ
      place = get_or counts to 0

      abbrev on_of : ℕ → ℕ → List ℕ
      on_of n k = numbers_on p (λ (c : Channel). eqb c.receiver n) k

      length_turn : (n : ℕ) → length (on_of n b) ≡ cond (eqb to n) 1 0 + length (on_of n (suc b))
      length_turn n = ap length (numbers_turn p (λ (c : Channel). eqb c.receiver n) b (rw channel_count_lem here)) ∙ rw (← receiver_is) (one (eqb to n) (on_of n (suc b)))
        where
          one : (v : Bool) (bs : List ℕ) → length (keep_if v b bs) ≡ cond v 1 0 + length bs
          one true bs = omega arith
          one false bs = omega arith

      few_before : place ≤ 3
      few_before =
          let most : length (entering p to) ≤ 4 = rw receiver_is (few_enter b here) in
          let one : ◌≡◌ {A = ℕ} (cond (eqb to to) 1 0) 1 = ap (λ (v : Bool). cond v 1 0) (eq-eqb to to refl) in
          omega (arith, now.places to to_small, length_turn to, one, most)

      pub turn_fits : (from < 12) × (to < 12) × (b + 32 * place < 255)
      turn_fits = (from_small, to_small, omega (arith, few_before, here, ready.channels))

      next_count : (n : ℕ) → n < 12 → get_or (set counts to (place + 1)) n 0 ≡ get_or counts n 0 + cond (eqb to n) 1 0
      next_count n h = one (eqb to n) refl
        where
          one : (v : Bool) → eqb to n ≡ v → get_or (set counts to (place + 1)) n 0 ≡ get_or counts n 0 + cond v 1 0
          one true z =
              let same : to ≡ n = eqb-true to n z in
              rw (← same) (get_or-set_same counts to (place + 1) 0 (omega (arith, now.wide, to_small)))
          one false z = get_or-set_other counts to n (place + 1) 0 (λ w. eqb-false to n z (sym w)) ∙ sym (add-zero (get_or counts n 0))

      -- One channel more.
      pub filled_turn : (size : ℕ) → size ≡ channel_size (plan_version s) → Filled s (set codes (12 * to + from) (b + 32 * place)) (set counts to (place + 1)) (at + size) (suc b)
      filled_turn size is =
          record {
            within = here;
            there = omega (arith, now.there, is);
            long = length-set codes (12 * to + from) (b + 32 * place) ∙ now.long;
            wide = length-set counts to (place + 1) ∙ now.wide;
            places = λ n h. omega (arith, next_count n h, length_turn n, now.places n h);
            joins = λ q n h k. rw (next_count n k, set_pair codes from to (b + 32 * place) q n now.long from_small to_small h k, receiver_is, sender_is)
                (seen_turn p q n b (get_or counts n 0) (get_or codes (12 * n + q) 0) ordered (get_or counts (channel_at p b).receiver 0) (rw channel_count_lem here) (eqb (channel_at p b).sender q && eqb (channel_at p b).receiver n) refl
                (λ v. ap (λ (x : ℕ). get_or counts x 0) (eqb-true (channel_at p b).receiver n (both_true (eqb (channel_at p b).sender q) (eqb (channel_at p b).receiver n) v).1))
                (now.joins q n h k));
          }

  -- ---- what they have

  module _ (q n : ℕ) where
    abbrev found : Option ℕ
    found = from_sender p q (entering p n)

    placed_found : if_found (place_from p q 0 (entering p n)) (λ (b : ℕ). true) ≡ if_found found (λ (b : ℕ). true)
    placed_found = sym (sender_placed p q 0 (entering p n)) ∙ sender_found p q (entering p n)

    -- The channel found, and its place.
    place_some : (b : ℕ) → found ≡ some b → (o : Option ℕ) → place_from p q 0 (entering p n) ≡ o → (i : ℕ) × (o ≡ some i)
    place_some b e none k = absurd (true≢false (sym (sym (ap (λ (o : Option ℕ). if_found o (λ (b : ℕ). true)) k) ∙ placed_found ∙ ap (λ (o : Option ℕ). if_found o (λ (b : ℕ). true)) e)))
    place_some b e (some i) k = (i, refl)

    place_none : found ≡ none → (o : Option ℕ) → place_from p q 0 (entering p n) ≡ o → o ≡ none
    place_none e none k = refl
    place_none e (some i) k = absurd (true≢false (sym (ap (λ (o : Option ℕ). if_found o (λ (b : ℕ). true)) k) ∙ placed_found ∙ ap (λ (o : Option ℕ). if_found o (λ (b : ℕ). true)) e))

    -- A code of the channel found is no 255, and tells the channel and its place.
    code_is : (b : ℕ) → found ≡ some b → (code_or p (some b) < 255) × Joining s q n (record { channel = code_or p (some b) % 32; place = code_or p (some b) / 32 })
    code_is b e =
        let (member, from) = found_in p q (entering p n) b e in
        let (inside, to) = entering_in p n b member in
        let below : b < plan_channels s = rw channel_count_lem at inside in
        let (i, placed) = place_some b e (place_from p q 0 (entering p n)) refl in
        let is : place_of p b ≡ i = rw (from, to) (ap (number_or 4) placed) in
        let early : i < length (entering p n) = omega (arith, place_below p q 0 i (entering p n) placed) in
        let few : length (entering p n) ≤ 4 = rw to at (few_enter b below) in
        let low : (b + 32 * place_of p b) % 32 ≡ b = omega (arith, below, ready.channels) in
        let high : (b + 32 * place_of p b) / 32 ≡ i = omega (arith, is, below, ready.channels) in (
          omega (arith, is, early, few, below, ready.channels),
          record {
            found = e ∙ ap some (sym low);
            placed = placed ∙ ap some (sym high);
            below = rw low below;
            from = rw low from;
            to = rw low to;
            early = rw high early;
          },
        )

    module _ (code : ℕ) (is : code ≡ code_or p found) where
      pub joining : (code ≡ 255 → ⊥) → Joining s q n (record { channel = code % 32; place = code / 32 })
      joining h = one found refl
        where
          one : (o : Option ℕ) → found ≡ o → Joining s q n (record { channel = code % 32; place = code / 32 })
          one none e = absurd (h (is ∙ ap (code_or p) e))
          one (some b) e = rw (is ∙ ap (code_or p) e) (code_is b e).1

      none_found : code ≡ 255 → found ≡ none
      none_found h = one found refl
        where
          one : (o : Option ℕ) → found ≡ o → o ≡ none
          one none e = refl
          one (some b) e = let no : ⊥ = omega (arith, (code_is b e).0, is ∙ ap (code_or p) e) in absurd no

      pub missing : code ≡ 255 → Missing s q n
      missing h = record { found = none_found h; placed = place_none (none_found h) (place_from p q 0 (entering p n)) refl }

    pub missing_outside : ((q < 12) × (n < 12) → ⊥) → Missing s q n
    missing_outside h = missing 255 (one found refl) refl
      where
        one : (o : Option ℕ) → found ≡ o → 255 ≡ code_or p o
        one none e = refl
        one (some b) e =
            let k = (code_is b e).1 in
            let ends = ends_small (code_or p (some b) % 32) k.below in
            absurd (h (rw k.from at ends.0, rw k.to at ends.1))

  pub none_outside : (n : ℕ) → 12 ≤ n → 0 ≡ length (entering p n)
  none_outside n h = one (entering p n) refl
    where
      one : (bs : List ℕ) → entering p n ≡ bs → 0 ≡ length bs
      one [] e = refl
      one (b ∷ bs) e =
          let (below, to) = entering_in p n b (rw e first) in
          let no : ⊥ = omega (arith, ordered.inside b below, few_nodes) in absurd no

pub source_counted : (p : Plan) (n : ℕ) → eqb (length (entering p n)) 0 ≡ is_source p n
unfolding is_source
source_counted p n = one (entering p n)
  where
    one : (bs : List ℕ) → eqb (length bs) 0 ≡ is_none bs
    one [] = refl
    one (b ∷ bs) = eqb-suc-zero (length bs)

-- At most four channels enter a node.
module _ (s : List ℕ) (ready : Ready s) {q n : ℕ} {j : Joint} (is : Joining s q n j) where
  pub place_few : j.place < 4
  place_few =
      let k = ends_small s ready j.channel is.below in
      let most = few_enter s ready j.channel is.below in
      let few : length (entering (plan_of s) n) ≤ 4 = rw is.to at most in
      omega (arith, is.early, few)

pub parent_joined : (s : List ℕ) (q n : ℕ) (o : Maybe Joint) → JoinOf s q n o → is_some o ≡ if_found (from_sender (line_of s).plan q (entering (line_of s).plan n)) (λ (b : ℕ). true)
parent_joined s q n None is = rw (line-plan s, is.found) refl
parent_joined s q n (Some j) is = rw (line-plan s, is.found) refl

-- A later state whose plan is the same.
pub ends_kept : {s t codes counts : List ℕ} → plan_of t ≡ plan_of s → EndsOf s codes counts → EndsOf t codes counts
ends_kept e k = record {
  long = k.long;
  wide = k.wide;
  joins = λ q n h i. rw e (k.joins q n h i);
  counts_are = λ n h. rw e (k.counts_are n h);
}
