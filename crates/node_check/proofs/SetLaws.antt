-- The sets in a node's log, entry by entry.
use Prim.Native.Nat.{ℕ, zero, suc, ◌+◌, ◌*◌, ◌/◌, ◌%◌, ◌^◌, ◌≤◌, ◌<◌}
use mathlib.Core.Path.{◌≡◌, refl, sym, ap, ◌∙◌}
use mathlib.Core.Bool.{Bool, beq, true, false, cond, ◌&&◌}
use mathlib.Core.List.{List, [], ◌∷◌, map}
use native.Mathlib.Nat.{div-one}
use native.Mathlib.Omega.{arith}
use borrow.Author.Tests.{eq-eqb, ne_eqb, eqb-true, eqb-false}
use lib.Dec.{lit<, eqb}
use lib.ListN.{length, get_or, take, drop}
use Rattle.plan.specs.declared.Record.{Record}
use Rattle.plan.specs.declared.Channel.{Channel}
use Rattle.plan.specs.Channel.{takes}
use Rattle.plan.specs.Plan.{Plan, plan_of, node_count, channel_count, channel_at}
use Rattle.plan.specs.Mask.{bits, set_of, takes_at}
use Rattle.plan.specs.Check.{plan_fits}
use Rattle.plan.proofs.AcceptedLaws.{four_at}
use Rattle.plan.proofs.SetLaws.{bit, halved}
use Rattle.plan.proofs.FitsLaws.{fitting}
use Rattle.rules.specs.Lists.{all_of, up_to}
use Rattle.rules.specs.Line.{Entry, node_at}
use Rattle.rules.proofs.Undamaged.Restored.{all_same}
use Rattle.state.specs.Sizes.{page_at, count_size, log_at, entry_size}
use Rattle.state.specs.State.{line_of}
use Rattle.state.proofs.ReadLaws.{byte_part, record_read}
use Rattle.items.specs.Items.{record_right, origin_right, entry_right, is_inner, log_rise, entries_right, set_right}
use Rattle.items.proofs.Tests.{all_true}
use Rattle.buffer.specs.Check.{record_in}
use Rattle.buffer.specs.Sets.{Begin}
use Rattle.buffer.proofs.PieceReads.{entry_in_lem}
use Rattle.buffer.proofs.LookLaws.{numbers_end}
use Rattle.buffer.proofs.SetLaws.{leavers_on, leavers_here, none_left}
use Rattle.node_check.specs.NodeCheck.{entry_in}
use Rattle.node_check.specs.Sets.{LogOf, bit_right, none_past, Listed}
use Rattle.node_check.proofs.WalkLaws.{each_of}
use Rattle.node_check.proofs.SlotLaws.{each_slot}
use Rattle.node_check.proofs.NodeLaws.{log_slots}

-- ---- an entry's set

module _ (s : List ℕ) (a : ℕ) where
  pub set_in : (entry_in a s).set ≡ get_or s (a + 22) 0
  set_in = ap (λ (e : Entry). e.set) (entry_in_lem a s)

  pub past_in : (k : ℕ) → eqb (get_or s (a + 22) 0 / (2 ^ k)) 0 ≡ none_past k (entry_in a s)
  past_in k = ap (λ (x : ℕ). eqb (x / (2 ^ k)) 0) (sym set_in)

  pub record_of : (entry_in a s).what ≡ record_in a s
  record_of = ap (λ (e : Entry). e.what) (entry_in_lem a s)

  material_in : (record_in a s).material ≡ get_or s (a + 4) 0
  material_in = ap (λ (r : Record). r.material) (record_read (take 8 (drop a s))) ∙ byte_part 4 8 a s (lit< tt)

  pub entry_listed : (n : ℕ) (t : List ℕ) (material : ℕ) → Listed (plan_of s) n t → record_right (record_in a s) ≡ true → material ≡ get_or s (a + 4) 0 → eqb (get_or s (a + 22) 0) (get_or t (material % 32) 0) ≡ set_right (plan_of s) n (entry_in a s)
  entry_listed n t material l right e = rw (e, ← material_in, l (record_in a s) right, ← set_in, ← record_of) refl

  -- A bit of it, and what a channel says of the record.
  pub entry-bit : (c : Channel) (k : ℕ) (t : Bool) → t ≡ takes c (record_in a s) → beq t (eqb (get_or s (a + 22) 0 / (2 ^ k) % 2) 1) ≡ bit_right c k (entry_in a s)
  entry-bit c k t e = same t (get_or s (a + 22) 0 / (2 ^ k) % 2) (omega arith) ∙ rw (e, ← record_of, ← set_in) refl
    where
      same : (t : Bool) (y : ℕ) → y < 2 → beq t (eqb y 1) ≡ eqb y (cond t 1 0)
      same true zero h = refl
      same true (suc zero) h = refl
      same false zero h = refl
      same false (suc zero) h = refl
      same t (suc (suc y)) h = let no : ⊥ = omega arith in absurd no

-- ---- the entries of a log

module _ (s : List ℕ) (n at count : ℕ) (l : LogOf s n at count) where
  abbrev slot : ℕ → ℕ
  slot i = at + 12 + entry_size * i

  -- What is asked of each entry of the log is asked of each slot.
  pub log_asked : (asked : Entry → Bool) → all_of (λ i. asked (entry_in (at + 12 + entry_size * i) s)) (up_to 0 count) ≡ all_of asked (node_at (line_of s) n).log
  log_asked asked =
      let there : at + 12 ≡ page_at n + log_at + count_size = omega (arith, l.page.start) in
      each_slot entry_in entry_size s asked (at + 12) count ∙ ap (all_of asked) (rw there (sym (log_slots s n at l.page count l.is l.small)))

  -- Each entry's record is right.
  pub record_known : (i : ℕ) → i < count → record_right (record_in (at + 12 + entry_size * i) s) ≡ true
  unfolding entries_right entry_right
  record_known i h =
      let log = (node_at (line_of s) n).log in
      let e = entry_in (at + 12 + entry_size * i) s in
      let (right, _) = all_true (all_of (entry_right (line_of s) n) log) (log_rise (is_inner (line_of s).plan n) 0 (node_at (line_of s) n).time log ∷ []) l.right in
      let here = each_of (λ i. entry_right (line_of s) n (entry_in (at + 12 + entry_size * i) s)) count (log_asked (entry_right (line_of s) n) ∙ right) i h in
      let (first, _) = all_true (record_right e.what) (origin_right (line_of s) n e.origin e.before ∷ []) here in
      ap record_right (sym (record_of s (at + 12 + entry_size * i))) ∙ first

-- ---- channel by channel

-- A number is a bit and twice another where its last bit is that and its half the other.
last_bit : (x : ℕ) (t : Bool) (y : ℕ) → eqb x (cond t 1 0 + 2 * y) ≡ (eqb (x % 2) (cond t 1 0) && eqb (x / 2) y)
last_bit x t y = go (eqb (x % 2) (cond t 1 0)) (eqb (x / 2) y) refl refl
  where
    go : (a b : Bool) → eqb (x % 2) (cond t 1 0) ≡ a → eqb (x / 2) y ≡ b → eqb x (cond t 1 0 + 2 * y) ≡ (a && b)
    go true true e f = eq-eqb x (cond t 1 0 + 2 * y) (omega (arith, eqb-true (x % 2) (cond t 1 0) e, eqb-true (x / 2) y f))
    go true false e f = ne_eqb x (cond t 1 0 + 2 * y) (λ q. eqb-false (x / 2) y f (omega (arith, q, bit t)))
    go false b e f = ne_eqb x (cond t 1 0 + 2 * y) (λ q. eqb-false (x % 2) (cond t 1 0) e (omega (arith, q, bit t)))

all_both : {A : Type 0} (f g : A → Bool) (xs : List A) → all_of (λ (x : A). f x && g x) xs ≡ (all_of f xs && all_of g xs)
all_both f g [] = refl
all_both f g (x ∷ xs) = ap (λ (t : Bool). (f x && g x) && t) (all_both f g xs) ∙ swap (f x) (g x) (all_of f xs) (all_of g xs)
  where
    swap : (a b c d : Bool) → ((a && b) && (c && d)) ≡ ((a && c) && (b && d))
    swap true true c d = refl
    swap true false true d = refl
    swap true false false d = refl
    swap false b c d = refl

module _ (p : Plan) (n first : ℕ) (log : List Entry) where
  -- What is left of a set behind k bits, by the channels from b on.
  abbrev rest : ℕ → ℕ → Entry → Bool
  rest k b e = eqb (e.set / (2 ^ k)) (bits (map (takes_at p e.what) (leavers_on p n b)))

  -- The channels before b are looked at, k of them the node's.
  pub record BitsLeft (b k : ℕ) : Type 0 where
    pub past : first ≤ b
    pub few : k + length (leavers_on p n b) ≤ 4
    pub same : all_of (set_right p n) log ≡ all_of (λ (e : Entry). eqb (e.set / (2 ^ k)) (bits (map (takes_at p e.what) (leavers_on p n b)))) log

  module _ (fits : plan_fits p ≡ true) where
    pub bits_start : Begin p n first → n < node_count p → BitsLeft first 0
    unfolding set_of
    bits_start e h =
        let four = (four_at p (node_count p) n (fitting p fits).degrees h).1 in
        record {
          past = omega arith;
          few = omega (arith, ap length e.none_before, four);
          same = all_same (set_right p n) (rest 0 first) log (λ x i j. eqb (sym (div-one x.set) j) (bits (map (takes_at p x.what) (e.none_before j))));
        }

    module _ (b k : ℕ) (v : BitsLeft b k) where
      -- One more that leaves the node.
      module _ (h : b < channel_count p) (e : (channel_at p b).sender ≡ n) where
        here : (x : Entry) → rest k b x ≡ (bit_right (channel_at p b) k x && rest (suc k) (suc b) x)
        here x =
            ap (λ (bs : List ℕ). eqb (x.set / (2 ^ k)) (bits (map (takes_at p x.what) bs))) (leavers_here p n b h e)
            ∙ last_bit (x.set / (2 ^ k)) (takes_at p x.what b) (bits (map (takes_at p x.what) (leavers_on p n (suc b))))
            ∙ ap (λ (y : ℕ). bit_right (channel_at p b) k x && eqb y (bits (map (takes_at p x.what) (leavers_on p n (suc b))))) (halved x.set k)

        both : all_of (set_right p n) log ≡ (all_of (bit_right (channel_at p b) k) log && all_of (rest (suc k) (suc b)) log)
        both = v.same ∙ all_same (rest k b) (λ (x : Entry). bit_right (channel_at p b) k x && rest (suc k) (suc b) x) log (λ x i. here x) ∙ all_both (bit_right (channel_at p b) k) (rest (suc k) (suc b)) log

        pub bits_wrong : all_of (bit_right (channel_at p b) k) log ≡ false → false ≡ all_of (set_right p n) log
        bits_wrong q = sym (both ∙ ap (λ (t : Bool). t && all_of (rest (suc k) (suc b)) log) q)

        pub bits_more : all_of (bit_right (channel_at p b) k) log ≡ true → BitsLeft (suc b) (suc k)
        bits_more q = record { past = omega (arith, v.past); few = omega (arith, v.few, ap length (leavers_here p n b h e)); same = both ∙ ap (λ (t : Bool). t && all_of (rest (suc k) (suc b)) log) q }

      -- None is left.
      done : leavers_on p n b ≡ [] → all_of (none_past k) log ≡ all_of (set_right p n) log
      done q = sym (v.same ∙ ap (λ (bs : List ℕ). all_of (λ (x : Entry). eqb (x.set / (2 ^ k)) (bits (map (takes_at p x.what) bs))) log) q)

      pub bits_all : channel_count p ≤ b → all_of (none_past k) log ≡ all_of (set_right p n) log
      bits_all h = done (numbers_end p (λ (c : Channel). eqb c.sender n) b h)

      pub bits_last : Begin p n first → b < channel_count p → ((channel_at p b).sender ≡ n → ⊥) → all_of (none_past k) log ≡ all_of (set_right p n) log
      bits_last e h d = done (none_left p n fits first b e v.past h d)
