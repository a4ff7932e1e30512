-- The triples of a child's log, entry by entry, and of all the children's, channel by channel.
use Prim.Native.Nat.{ℕ, ◌+◌, ◌*◌, ◌≤◌, ◌<◌, max}
use mathlib.Core.Path.{◌≡◌, refl, sym, ap, ◌∙◌}
use mathlib.Core.Bool.{Bool, true, false, cond, ◌&&◌}
use mathlib.Core.List.{List, [], ◌∷◌, ◌++◌, map, append_assoc}
use native.Mathlib.Numerals.{add-one}
use native.Mathlib.Omega.{arith}
use mathlib.Core.Logic.{◌≢◌}
use borrow.Author.Tests.{eq-eqb, ne_eqb}
use lib.Dec.{leb, eqb}
use lib.ListN.{length, get_or, take, drop}
use lib.Seq.{take-suc, take_all}
use Rattle.plan.specs.declared.Channel.{Channel}
use Rattle.plan.specs.Plan.{plan_of, plan_nodes, plan_channels, channel_at}
use Rattle.plan.proofs.PlanLaws.{channel_count_lem}
use Rattle.rules.specs.Lists.{keep, keep_one, joined, greatest_of}
use Rattle.rules.specs.Line.{Origin, fed, made, Entry, Target, Line, node_at}
use Rattle.rules.specs.Recover.{low_of, triple, triples, child_triples, child_lows, restored}
use Rattle.rules.proofs.Lists.ListLaws.{nil_right, keep_append, map-append, map_more}
use Rattle.state.specs.Sizes.{count_size, entry_size, page_at, log_at}
use Rattle.state.specs.Pieces.{origin_layout, entry_layout}
use Rattle.state.specs.Right.{word_at}
use Rattle.state.specs.State.{line_of}
use Rattle.state.proofs.InPlace.{line-plan}
use Rattle.state.proofs.OffsetLaws.{line_log_count, line-log_at}
use Rattle.buffer.specs.Ready.{Ready}
use Rattle.buffer.proofs.ReadyLaws.{counted}
use Rattle.buffer.specs.Nothing.{no_entry}
use Rattle.recover.specs.Found.{LogsCounted, entry_at, triple_of, child_log, triples_on, restored_over}
use Rattle.buffer.proofs.PieceReads.{origin_in_lem, entry_in_lem}
use Rattle.recover.proofs.ChildLaws.{leaving_to, numbers_turn, leaving-whole, greatest-append}

-- ---- an entry's bytes

module _ (s : List ℕ) (ready : Ready s) (logs : LogsCounted s) (k : ℕ) (inside : k < plan_nodes s) where
  pub log_length : length (node_at (line_of s) k).log ≡ word_at (page_at k + log_at) s
  log_length = omega (arith, line_log_count s (counted ready) k inside, logs k inside)

  module _ (i : ℕ) (within : i < length (node_at (line_of s) k).log) where
    abbrev at : ℕ
    at = page_at k + (log_at + count_size + entry_size * i)

    entry_bytes : entry_at (line_of s) k i ≡ entry_layout.read (take entry_size (drop at s))
    entry_bytes = line-log_at s (counted ready) k inside i no_entry (omega (arith, log_length)) (omega (arith, log_length, logs k inside))

    -- What it was made from, and that, as the code reads them.
    pub made_from : (a : ℕ) → a ≡ at + 12 → origin_layout.read (take 5 (drop a s)) ≡ (entry_at (line_of s) k i).origin
    made_from a e = ap (λ (b : ℕ). origin_layout.read (take 5 (drop b s))) e ∙ origin_in_lem (at + 12) s ∙ sym (ap (λ (x : Entry). x.origin) (entry_bytes ∙ entry_in_lem at s))

    pub made_before : (a : ℕ) → a ≡ at + 17 → origin_layout.read (take 5 (drop a s)) ≡ (entry_at (line_of s) k i).before
    made_before a e = ap (λ (b : ℕ). origin_layout.read (take 5 (drop b s))) e ∙ origin_in_lem (at + 17) s ∙ sym (ap (λ (x : Entry). x.before) (entry_bytes ∙ entry_in_lem at s))

-- ---- a triple

-- Nothing: it was fed, or made from another's message, or from what was fed.
pub fed_tells : (n : ℕ) (o b : Origin) → o ≡ fed → [] ≡ triple n o b
fed_tells n o b e = rw e

pub other_tells : (n : ℕ) (o b : Origin) (q t : ℕ) → o ≡ made q t → q ≢ n → [] ≡ triple n o b
other_tells n o fed q t e d = rw e
other_tells n o (made p u) q t e d = rw (e, ne_eqb q n d)

pub source_tells : (n : ℕ) (o b : Origin) (q t : ℕ) → o ≡ made q t → b ≡ fed → [] ≡ triple n o b
source_tells n o b q t e f = rw (e, f)

pub made_tells : (n : ℕ) (o b : Origin) (q t p u : ℕ) → o ≡ made q t → q ≡ n → b ≡ made p u → record { time = t; parent = p; parent_time = u } ∷ [] ≡ triple n o b
made_tells n o b q t p u e same f = rw (e, f, eq-eqb q n same)

-- ---- a log, entry by entry

triples_append : (n : ℕ) (xs ys : List Entry) → triples n (xs ++ ys) ≡ triples n xs ++ triples n ys
triples_append n [] ys = refl
triples_append n (e ∷ xs) ys = ap (λ (ts : List Target). triple_of n e ++ ts) (triples_append n xs ys) ∙ sym (append_assoc (triple_of n e) (triples n xs) (triples n ys))

pub triples_turn : (n : ℕ) (log : List Entry) (i : ℕ) → i < length log → triples n (take (i + 1) log) ≡ triples n (take i log) ++ triple_of n (get_or log i no_entry)
triples_turn n log i h = rw (add-one i, take-suc log i no_entry h) (triples_append n (take i log) (get_or log i no_entry ∷ []) ∙ ap (λ (ts : List Target). triples n (take i log) ++ ts) (nil_right (triple_of n (get_or log i no_entry))))

pub triples-whole : (n : ℕ) (log : List Entry) (i : ℕ) → length log ≤ i → triples n (take i log) ≡ triples n log
triples-whole n log i h = ap (triples n) (take_all i log h)

-- ---- the children's logs, channel by channel

abbrev pub triples_to : List ℕ → ℕ → ℕ → List Target
triples_to s n b = joined (map (λ (c : ℕ). triples n (child_log s c)) (leaving_to (plan_of s) n b))

joined-append : {A : Type 0} (xs ys : List (List A)) → joined (xs ++ ys) ≡ joined xs ++ joined ys
joined-append [] ys = refl
joined-append (x ∷ xs) ys = ap (λ (l : List _). x ++ l) (joined-append xs ys) ∙ sym (append_assoc x (joined xs) (joined ys))

joined_one : {A : Type 0} (t : Bool) (xs : List A) → joined (keep_one t xs []) ≡ cond t xs []
joined_one true xs = nil_right xs
joined_one false xs = refl

module _ (s : List ℕ) (n b : ℕ) where
  abbrev of : ℕ → List Target
  of c = triples n (child_log s c)

  pub child_turn : b < plan_channels s → triples_to s n (b + 1) ≡ triples_to s n b ++ triples_on s n b
  child_turn h =
      let t : Bool = eqb (channel_at (plan_of s) b).sender n in
      let before : List ℕ = leaving_to (plan_of s) n b in
      ap (λ (bs : List ℕ). joined (map of bs)) (numbers_turn (plan_of s) (λ (c : Channel). eqb c.sender n) b (rw channel_count_lem h))
      ∙ ap joined (map_more of t b before)
      ∙ joined-append (map of before) (keep_one t (of b) [])
      ∙ ap (λ (ts : List Target). triples_to s n b ++ ts) (joined_one t (of b))

  pub child_whole : plan_channels s ≤ b → triples_to s n b ≡ child_triples (line_of s) n
  unfolding child_triples
  child_whole h = rw line-plan (ap (λ (bs : List ℕ). joined (map of bs)) (leaving-whole (plan_of s) n b (rw channel_count_lem h)))

-- ---- the restored entry

module _ (low parent : ℕ) where
  abbrev counts : Target → Bool
  counts t = eqb t.parent parent && leb t.time low

  pub restored-append : (xs ys : List Target) → restored_over low parent (xs ++ ys) ≡ max (restored_over low parent xs) (restored_over low parent ys)
  restored-append xs ys =
      ap (λ (ts : List Target). greatest_of (map (λ (t : Target). t.parent_time) ts)) (keep_append counts xs ys)
      ∙ ap greatest_of (map-append (λ (t : Target). t.parent_time) (keep counts xs) (keep counts ys))
      ∙ greatest-append (map (λ (t : Target). t.parent_time) (keep counts xs)) (map (λ (t : Target). t.parent_time) (keep counts ys))

  pub restored_one : (best : ℕ) (t : Target) → cond (counts t) (max best t.parent_time) best ≡ max best (restored_over low parent (t ∷ []))
  restored_one best t = one (counts t)
    where
      one : (c : Bool) → cond c (max best t.parent_time) best ≡ max best (greatest_of (map (λ (u : Target). u.parent_time) (keep_one c t [])))
      one true = omega arith
      one false = omega arith

pub restored_is : (l : Line) (n parent low : ℕ) → low ≡ low_of l n → max (greatest_of (child_lows l n parent)) (restored_over low parent (child_triples l n)) ≡ restored l n parent
unfolding restored
restored_is l n parent low e =
    ap (λ (k : ℕ). max (greatest_of (child_lows l n parent)) (restored_over k parent (child_triples l n))) e
    ∙ sym (greatest-append (child_lows l n parent) (map (λ (t : Target). t.parent_time) (keep (counts (low_of l n) parent) (child_triples l n))))
