-- What the children tell of a node, entry by entry and channel by channel.
use Prim.Native.Nat.{ℕ, ◌+◌, ◌≤◌, ◌<◌, max}
use mathlib.Core.Path.{◌≡◌, refl, sym, ap, ap₂, subst, ◌∙◌}
use mathlib.Core.Logic.{◌≢◌}
use mathlib.Core.List.{List, [], ◌∷◌, ◌++◌}
use native.Mathlib.Omega.{arith}
use borrow.Author.Tests.{eq-eqb, ne_eqb}
use lib.ListN.{length, get_or, take}
use Rattle.std.specs.Prelude.{Result, Ok, Err, MatchResult}
use Rattle.std.specs.Result.{result_and}
use Rattle.answers.specs.declared.Refusal.{Refusal}
use Rattle.plan.specs.Plan.{plan_of, plan_channels, channel_at}
use Rattle.rules.specs.Line.{Entry, Target}
use Rattle.rules.specs.Lists.{greatest_of}
use Rattle.rules.proofs.Lists.ListLaws.{nil_right}
use Rattle.rules.specs.Recover.{low_of, low_through, triples, restored, add_target, targets_of}
use Rattle.state.specs.State.{line_of}
use Rattle.buffer.specs.Nothing.{no_entry}
use Rattle.buffer.specs.Rows.{rows_long, Rows}
use Rattle.recover.specs.declared.told.Found.{Found}
use Rattle.recover.specs.Finds.{Finds, Told, ToldOn}
use Rattle.recover.specs.Found.{triple_of, child_log, triples_on, restored_over, add_above, TooMany, Gathered, raised_at, raised_by, Gained}
use Rattle.recover.proofs.TripleLaws.{triples_turn, triples-whole, triples_to, child_turn, child_whole, restored-append, restored_is}
use Rattle.recover.proofs.LowLaws.{lows_before, low_more, low_whole}
use Rattle.recover.proofs.FoundLaws.{above_one, above_none, above_append, many_more, found_whole}
use Rattle.recover.proofs.RestoredLaws.{raised_one, raised_none, raised_nothing, raised_more}

pub gained_nothing : {A : Type 0} (a : A) (low : ℕ) (ts : List Target) (rows : List ℕ) → length rows ≡ rows_long → Gained low [] ts rows (Ok a) ts rows
gained_nothing a low ts rows long = record { targets = refl; raised = raised_nothing low rows long }

-- Some and then others: too many by the first, too many by both.
gathered_more : {A B : Type 0} (low : ℕ) (us vs ts mid after : List Target) (r : Result A Refusal) (d : Result B Refusal) → Gathered (add_above low us ts) r mid → Gathered (add_above low vs mid) d after
    → Gathered (add_above low (us ++ vs) ts) (result_and r d) after
gathered_more low us vs ts mid after (Ok a) (Ok b) g h = h ∙ ap (add_above low vs) g ∙ above_append low us vs ts
gathered_more low us vs ts mid after (Ok a) (Err e) g h = subst (λ (xs : List Target). TooMany xs e) (ap (add_above low vs) g ∙ above_append low us vs ts) h
gathered_more low us vs ts mid after (Err e) d g h = many_more low us vs ts e g

gained_more : {A B : Type 0} (low : ℕ) (us vs : List Target) (r : Result A Refusal) (d : Result B Refusal) {ts : List Target} {rows : List ℕ} {mid : List Target} {then : List ℕ} {after : List Target} {next : List ℕ}
    → Gained low us ts rows r mid then → Gained low vs mid then d after next → Gained low (us ++ vs) ts rows (result_and r d) after next
gained_more low us vs r d {ts} {rows} {mid} {then} {after} {next} a b = record { targets = gathered_more low us vs ts mid after r d a.targets b.targets; raised = raised_more low us vs rows a.raised b.raised }

-- ---- by an entry

module _ (t : Target) (before : Found) (long : length before.entries ≡ rows_long) where
  pub told_raised : {A : Type 0} (a : A) (next : List ℕ) → t.time ≤ before.low → Rows next (raised_at before.entries t.parent t.parent_time) → Told (t ∷ []) before (Ok a) (record before { entries = next })
  told_raised a next h r = record { low = refl; gained = record { targets = above_none before.low t h before.targets; raised = raised_one before.entries long before.low t next h r } }

  pub told_added : {A : Type 0} (r : Result A Refusal) (after : List Target) → before.low < t.time → Gathered (add_target t before.targets) r after → Told (t ∷ []) before r (record before { targets = after })
  told_added r after h g =
      record { low = refl; gained = record { targets = subst (λ (us : List Target). Gathered us r after) (above_one before.low t h before.targets) g; raised = raised_none before.entries long before.low t h } }

-- ---- entry by entry

module _ (n : ℕ) (log : List Entry) (before : Found) where
  abbrev low : ℕ
  low = before.low

  abbrev pub LogTold : {A : Type 0} → ℕ → Result A Refusal → Found → Type 0
  LogTold i r after = Told (triples n (take i log)) before r after

  module _ {A : Type 0} (i : ℕ) (r : Result A Refusal) (after : Found) (inside : i < length log) (k : LogTold i r after) where
    pub log_turn : {B : Type 0} (t : Target) (d : Result B Refusal) {later : Found} → t ∷ [] ≡ triple_of n (get_or log i no_entry) → Told (t ∷ []) after d later → LogTold (i + 1) (result_and r d) later
    log_turn t d {later} e h =
        let more : triples n (take i log) ++ t ∷ [] ≡ triples n (take (i + 1) log) = ap (λ (us : List Target). triples n (take i log) ++ us) e ∙ sym (triples_turn n log i inside) in
        let here = subst (λ (low : ℕ). Gained low (t ∷ []) after.targets after.entries d later.targets later.entries) k.low h.gained in
        record {
          low = h.low ∙ k.low;
          gained = subst (λ (us : List Target). Gained low us before.targets before.entries (result_and r d) later.targets later.entries) more (gained_more low (triples n (take i log)) (t ∷ []) r d k.gained here);
        }

    pub log_other : [] ≡ triple_of n (get_or log i no_entry) → LogTold (i + 1) r after
    log_other e = subst (λ (us : List Target). Told us before r after) (sym (triples_turn n log i inside ∙ ap (λ (us : List Target). triples n (take i log) ++ us) (sym e) ∙ nil_right (triples n (take i log)))) k

  pub log_start : {A : Type 0} (a : A) → length before.entries ≡ rows_long → LogTold 0 (Ok a) before
  log_start a long = record { low = refl; gained = gained_nothing a low before.targets before.entries long }

  pub log_end : {A : Type 0} (i : ℕ) (r : Result A Refusal) (after : Found) → length log ≤ i → LogTold i r after → Told (triples n log) before r after
  log_end i r after h k = subst (λ (us : List Target). Told us before r after) (triples-whole n log i h) k

-- ---- channel by channel

module _ (s : List ℕ) (n b : ℕ) (before : Found) where
  pub told_other : {A : Type 0} (a : A) → (channel_at (plan_of s) b).sender ≢ n → length before.entries ≡ rows_long → ToldOn s n b before (Ok a) before
  told_other a h long =
      let other = ne_eqb (channel_at (plan_of s) b).sender n h in
      record { low = refl; gained = record { targets = rw other; raised = rw other (record { long = long; each = λ q l. omega arith }) } }

  pub told_child : {A : Type 0} (r : Result A Refusal) (mid : List ℕ) (after : Found) → (channel_at (plan_of s) b).sender ≡ n → Rows mid (raised_by before.entries (λ q. low_through (line_of s) n q b))
      → Told (triples n (child_log s b)) (record before { entries = mid }) r after → ToldOn s n b before r after
  told_child r mid after e lows t =
      let same = eq-eqb (channel_at (plan_of s) b).sender n e in
      record { low = t.low; gained = record { targets = rw same t.gained.targets; raised = rw same (record { long = t.gained.raised.long; each = λ q h. omega (arith, t.gained.raised.each q h, lows.each q h) }) } }

module _ (s : List ℕ) (n : ℕ) where
  pub record ChannelsTold {A : Type 0} (b : ℕ) (r : Result A Refusal) (found : Found) : Type 0 where
    pub low : found.low ≡ low_of (line_of s) n
    pub targets : Gathered (add_above found.low (triples_to s n b) []) r found.targets
    pub raised : Rows found.entries (λ q. max (greatest_of (lows_before s n b q)) (restored_over found.low q (triples_to s n b)))

  pub channels_turn : {A B : Type 0} (b : ℕ) (r : Result A Refusal) (found : Found) (d : Result B Refusal) (after : Found) → b < plan_channels s → ChannelsTold b r found → ToldOn s n b found d after → ChannelsTold (b + 1) (result_and r d) after
  channels_turn b r found d after inside k t =
      let more = child_turn s n b inside in
      record {
        low = t.low ∙ k.low;
        targets = rw (t.low, more) (gathered_more found.low (triples_to s n b) (triples_on s n b) [] found.targets after.targets r d k.targets t.gained.targets);
        raised = record { long = t.gained.raised.long; each = λ q l. rw (t.low, more, low_more s n b q inside) (omega (arith, t.gained.raised.each q l, k.raised.each q l, restored-append found.low q (triples_to s n b) (triples_on s n b))) };
      }

  module _ (b : ℕ) (found : Found) (past : plan_channels s ≤ b) where
    all : found.low ≡ low_of (line_of s) n → add_above found.low (triples_to s n b) [] ≡ targets_of (line_of s) n
    all low = ap (λ (us : List Target). add_above found.low us []) (child_whole s n b past) ∙ found_whole (line_of s) n found.low low

    pub channels_rows : {A : Type 0} (r : Result A Refusal) → ChannelsTold b r found → (found.low ≡ low_of (line_of s) n) × Rows found.entries (restored (line_of s) n)
    channels_rows r k =
        let whole = child_whole s n b past in
        (k.low, record { long = k.raised.long; each = λ q l. k.raised.each q l ∙ ap₂ max (ap greatest_of (low_whole s n b q past)) (ap (restored_over found.low q) whole) ∙ restored_is (line_of s) n q found.low k.low })

    pub channels_end : {A : Type 0} (r : Result A Refusal) → ChannelsTold b r found → MatchResult r (λ _. Finds s n found) (TooMany (targets_of (line_of s) n))
    channels_end (Ok a) k = record { low = k.low; targets = k.targets ∙ all k.low; rows = (channels_rows (Ok a) k).1 }
    channels_end (Err e) k = subst (λ (us : List Target). TooMany us e) (all k.low) k.targets
