-- A node's leaving channels, one by one: where they begin and end among a plan's, the set that they make, and a channel's bit in it.
use Prim.Native.Nat.{ℕ, zero, suc, ◌+◌, ◌-◌, ◌*◌, ◌^◌, ◌≤◌, ◌<◌}
use mathlib.Core.Path.{◌≡◌, refl, sym, ap, ◌∙◌}
use mathlib.Core.Bool.{Bool, true, false, cond}
use mathlib.Core.List.{List, [], ◌∷◌, map}
use native.Mathlib.Nat.{add-zero, mul_assoc, mul-one, mul-zero, mul-add, pow-succ', mul-le-mul_left}
use native.Mathlib.Numerals.{add-one}
use native.Mathlib.Omega.{arith}
use borrow.Author.Tests.{eq-eqb, ne_eqb}
use lib.Dec.{eqb}
use lib.ListN.{length, get_or, drop, length-drop}
use lib.Seq.{get_or-drop}
use lib.Pow.{pow_pos, pow_mono}
use Rattle.std.specs.Int.{from_bool}
use Rattle.plan.specs.declared.Record.{Record}
use Rattle.plan.specs.declared.Channel.{Channel}
use Rattle.plan.specs.Channel.{takes}
use Rattle.plan.specs.Plan.{Plan, plan_of, node_count, channel_count, channel_at, no_channel, keep_if, numbers_from, leaving, is_none, is_sink}
use Rattle.plan.specs.Mask.{bits, set_of, takes_at}
use Rattle.plan.specs.Check.{plan_fits}
use Rattle.plan.proofs.AcceptedLaws.{four_at}
use Rattle.plan.proofs.FitsLaws.{fitting}
use Rattle.plan.proofs.PlanLaws.{channel_count_lem}
use Rattle.rules.proofs.Steps.PlanOrder.{senders_rise, ordered_channels}
use Rattle.buffer.specs.Ready.{OnChannel}
use Rattle.buffer.specs.Sets.{LeaveFrom, Begin, BitOf}
use Rattle.buffer.proofs.LookLaws.{numbers_on, numbers_turn, numbers_end}

-- A bit where a test holds.
pub taken_bit : (t : Bool) (bit : ℕ) → from_bool t * bit ≡ cond t bit 0
taken_bit true bit = omega arith
taken_bit false bit = omega arith

none-numbered : (f : Channel → Bool) (k : ℕ) (cs : List Channel) → ((j : ℕ) → j < length cs → f (get_or cs j no_channel) ≡ false) → numbers_from k f cs ≡ []
none-numbered f k [] h = refl
none-numbered f k (c ∷ cs) h = rw (h zero (omega arith)) (none-numbered f (suc k) cs (λ j l. h (suc j) (omega arith)))

module _ (p : Plan) (n : ℕ) where
  abbrev from : Channel → Bool
  from c = eqb c.sender n

  -- Those of the channels from b on that leave the node.
  abbrev pub leavers_on : ℕ → List ℕ
  leavers_on b = numbers_on p (λ (c : Channel). eqb c.sender n) b

  pub leave_all : LeaveFrom p n 0
  unfolding leaving
  leave_all = refl

  pub leavers_here : (b : ℕ) → b < channel_count p → (channel_at p b).sender ≡ n → leavers_on b ≡ b ∷ leavers_on (suc b)
  leavers_here b h e = numbers_turn p from b h ∙ ap (λ (t : Bool). keep_if t b (leavers_on (suc b))) (eq-eqb (channel_at p b).sender n e)

  leavers_else : (b : ℕ) → b < channel_count p → ((channel_at p b).sender ≡ n → ⊥) → leavers_on b ≡ leavers_on (suc b)
  leavers_else b h d = numbers_turn p from b h ∙ ap (λ (t : Bool). keep_if t b (leavers_on (suc b))) (ne_eqb (channel_at p b).sender n d)

  -- One channel more that does not leave it.
  pub leave_next : (b : ℕ) → LeaveFrom p n b → b < channel_count p → (channel_at p b).sender < n → LeaveFrom p n (suc b)
  leave_next b l h k = l ∙ leavers_else b h (λ e. omega arith)

  -- They begin at a channel that is not of an earlier sender, or nowhere.
  pub begin_here : (b : ℕ) → LeaveFrom p n b → n ≤ (channel_at p b).sender → Begin p n b
  begin_here b l e = record { none_before = l; not_below = λ h. e }

  pub begin_nowhere : (b : ℕ) → LeaveFrom p n b → channel_count p ≤ b → Begin p n b
  begin_nowhere b l e = record { none_before = l; not_below = λ h. let no : ⊥ = omega arith in absurd no }

  pub sink_nowhere : (first : ℕ) → LeaveFrom p n first → channel_count p ≤ first → is_sink p n ≡ true
  unfolding is_sink
  sink_nowhere first l h = ap is_none (l ∙ numbers_end p from first h)

  pub sink_not : (first : ℕ) → LeaveFrom p n first → first < channel_count p → (channel_at p first).sender ≡ n → is_sink p n ≡ false
  unfolding is_sink
  sink_not first l h e = ap is_none (l ∙ leavers_here first h e)

  -- Looked at so far: those before channel b; bit is that of the next.
  pub record Found (r : Record) (first b set bit : ℕ) : Type 0 where
    pub past : first ≤ b
    pub room : bit * 2 ^ length (leavers_on b) ≤ 16
    pub below : set < bit
    pub whole : set_of p n r ≡ set + bit * bits (map (takes_at p r) (leavers_on b))

  module _ (fits : plan_fits p ≡ true) where
    rises : (b j : ℕ) → b + j < channel_count p → (channel_at p b).sender ≤ (channel_at p (b + j)).sender
    rises b zero h = omega (arith, ap (λ (i : ℕ). (channel_at p i).sender) (add-zero b))
    rises b (suc j) h = senders_rise p (fitting p fits).channels b (b + suc j) (omega arith) h

    -- None up to a channel of an earlier sender, and none from one of a later sender on.
    leave_to : (b : ℕ) → b < channel_count p → (channel_at p b).sender < n → (k : ℕ) → k ≤ suc b → LeaveFrom p n k
    leave_to b h e zero l = leave_all
    leave_to b h e (suc k) l =
        let (j, is) : (j : ℕ) × (k + j ≡ b) = (b - k, omega arith) in
        leave_next k (leave_to b h e k (omega arith)) (omega arith) (let up = rises k j (rw is h) in omega (arith, up, ap (λ (i : ℕ). (channel_at p i).sender) is))

    pub none-up_to : (b : ℕ) → b < channel_count p → (channel_at p b).sender < n → LeaveFrom p n (suc b)
    none-up_to b h e = leave_to b h e (suc b) (omega arith)

    none_after : (b : ℕ) → b < channel_count p → n < (channel_at p b).sender → leavers_on b ≡ []
    none_after b h e =
        none-numbered from b (drop b p.channels)
        (λ j l. ap from (get_or-drop b p.channels j no_channel) ∙ ne_eqb (channel_at p (b + j)).sender n (λ q. omega (arith, rises b j (omega (arith, length-drop b p.channels)), q)))

    -- None is left from the first channel on that is not of the node, where they have begun before.
    pub none_left : (first b : ℕ) → Begin p n first → first ≤ b → b < channel_count p → ((channel_at p b).sender ≡ n → ⊥) → leavers_on b ≡ []
    none_left first b e past h d =
        let (j, is) : (j : ℕ) × (first + j ≡ b) = (b - first, omega (arith, past)) in
        let up = rises first j (rw is h) in
        let same = ap (λ (i : ℕ). (channel_at p i).sender) is in
        let low = e.not_below (omega (arith, past)) in
        none_after b h (omega (arith, up, same, low, d))

    -- ---- whether there are any

    pub sink_else : (first : ℕ) → Begin p n first → first < channel_count p → ((channel_at p first).sender ≡ n → ⊥) → is_sink p n ≡ true
    unfolding is_sink
    sink_else first e h d = ap is_none (e.none_before ∙ none_left first first e (omega arith) h d)

    -- ---- the set

    module _ (r : Record) where
      pub found_start : (first : ℕ) → Begin p n first → n < node_count p → Found r first first 0 1
      unfolding set_of
      found_start first e h =
          let four = (four_at p (node_count p) n (fitting p fits).degrees h).1 in
          let few : length (leavers_on first) ≤ 4 = omega (arith, ap length e.none_before, four) in
          record {
            past = omega arith;
            room = omega (arith, pow_mono few);
            below = omega arith;
            whole = (let same = ap (λ (bs : List ℕ). bits (map (takes_at p r) bs)) e.none_before in omega (arith, same));
          }

      module _ (first b set bit : ℕ) (f : Found r first b set bit) where
        -- One more that leaves the node.
        module _ (h : b < channel_count p) (e : (channel_at p b).sender ≡ n) where
          abbrev later : List ℕ
          later = leavers_on (suc b)

          doubled : bit * 2 * 2 ^ length later ≤ 16
          doubled =
              let room : bit * 2 ^ suc (length later) ≤ 16 = rw (leavers_here b h e) at f.room in
              omega (arith, room, ap (λ (x : ℕ). bit * x) (pow-succ' 2 (length later)), mul_assoc bit 2 (2 ^ length later))

          pub found_room : bit * 2 ≤ 16
          found_room = omega (arith, doubled, mul-le-mul_left (bit * 2) (pow_pos (length later)), mul-one (bit * 2))

          pub found_more : Found r first (suc b) (set + cond (takes (channel_at p b) r) bit 0) (bit * 2)
          found_more = record {
            past = omega (arith, f.past);
            room = doubled;
            below = one (takes (channel_at p b) r);
            whole = f.whole ∙ ap (λ (bs : List ℕ). set + bit * bits (map (takes_at p r) bs)) (leavers_here b h e) ∙ more (takes (channel_at p b) r) (bits (map (takes_at p r) later));
          }
            where
              one : (t : Bool) → set + cond t bit 0 < bit * 2
              one true = omega (arith, f.below)
              one false = omega (arith, f.below)

              more : (t : Bool) (k : ℕ) → set + bit * (cond t 1 0 + 2 * k) ≡ set + cond t bit 0 + bit * 2 * k
              more true k = omega (arith, mul-add bit 1 (2 * k), mul-one bit, mul_assoc bit 2 k)
              more false k = omega (arith, mul-add bit 0 (2 * k), mul-zero bit, mul_assoc bit 2 k)

        -- None is left.
        done : leavers_on b ≡ [] → set ≡ set_of p n r
        done e = sym (f.whole ∙ ap (λ (bs : List ℕ). set + bit * bits (map (takes_at p r) bs)) e ∙ omega (arith, mul-zero bit))

        pub found_all : channel_count p ≤ b → set ≡ set_of p n r
        found_all h = done (numbers_end p from b h)

        pub found_last : Begin p n first → b < channel_count p → ((channel_at p b).sender ≡ n → ⊥) → set ≡ set_of p n r
        found_last e h d = done (none_left first b e f.past h d)

-- A channel's sender is below its receiver, so none up to one that enters a node leaves it.
pub none_to_entering : {s : List ℕ} {b n : ℕ} → OnChannel s b → n ≡ (channel_at (plan_of s) b).receiver → LeaveFrom (plan_of s) n (b + 1)
none_to_entering {s} {b} {n} on e =
    let p = plan_of s in
    let fits = on.ready.fits in
    let here = rw (← channel_count_lem s) at on.below in
    rw (add-one b) (none-up_to p n fits b here (omega (arith, e, (ordered_channels p (fitting p fits).channels).forward b here)))

-- ---- a channel's bit

module _ (p : Plan) (b : ℕ) where
  abbrev n : ℕ
  n = (channel_at p b).sender

  -- Looked at so far: the channels from k on, and so many before channel b leave its sender.
  pub record Behind (k bit : ℕ) : Type 0 where
    pub place : k + bit ≡ b
    pub inside : bit < length (leavers_on p n k)
    pub there : get_or (leavers_on p n k) bit 0 ≡ b

  module _ (fits : plan_fits p ≡ true) (on_plan : b < channel_count p) where
    pub behind_start : Behind b 0
    behind_start = record { place = add-zero b; inside = rw (leavers_here p n b on_plan refl) (omega arith); there = ap (λ (bs : List ℕ). get_or bs 0 0) (leavers_here p n b on_plan refl) }

    pub behind_more : (k bit : ℕ) → Behind (suc k) bit → (channel_at p k).sender ≡ n → Behind k (suc bit)
    behind_more k bit f e =
        let h : k < channel_count p = omega (arith, f.place) in
        record { place = omega (arith, f.place); inside = rw (leavers_here p n k h e) (omega (arith, f.inside)); there = ap (λ (bs : List ℕ). get_or bs (suc bit) 0) (leavers_here p n k h e) ∙ f.there }

    bit_is : n < node_count p → (k bit : ℕ) → Behind k bit → LeaveFrom p n k → BitOf p b bit
    bit_is h k bit f l =
        let inside : bit < length (leaving p n) = rw l f.inside in
        record { small = omega (arith, (four_at p (node_count p) n (fitting p fits).degrees h).1); inside = inside; there = ap (λ (bs : List ℕ). get_or bs bit 0) l ∙ f.there }

    pub bit_first : n < node_count p → (bit : ℕ) → Behind 0 bit → BitOf p b bit
    bit_first h bit f = bit_is h 0 bit f (leave_all p n)

    pub bit_found : n < node_count p → (k bit : ℕ) → Behind (suc k) bit → ((channel_at p k).sender ≡ n → ⊥) → BitOf p b bit
    bit_found h k bit f d =
        let below : k < b = omega (arith, f.place) in
        let up = senders_rise p (fitting p fits).channels k b below on_plan in
        bit_is h (suc k) bit f (none-up_to p n fits k (omega arith) (omega (arith, up, d)))
