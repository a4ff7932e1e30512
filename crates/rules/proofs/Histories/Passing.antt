-- The messages of a node's events that some channel takes, and the messages that a replay holds.
use Prim.Native.Nat.{ℕ, suc, ◌<◌, ◌≤◌}
use mathlib.Core.Path.{◌≡◌, refl, sym, ap, ◌∙◌}
use mathlib.Core.Bool.{Bool, true, false, cond, not, ◌||◌, true≢false}
use mathlib.Core.List.{List, [], ◌∷◌, ◌++◌, map}
use native.Mathlib.Omega.{arith}
use lib.Dec.{eqb}
use lib.ListN.{length}
use borrow.Author.Tests.{ne_eqb}
use Rattle.plan.specs.declared.Record.{Record}
use Rattle.plan.specs.Rule.{applied}
use Rattle.plan.specs.Plan.{Plan, rule_at, channel_at, channel_count, keep_if, leaving, is_sink}
use Rattle.plan.specs.Mask.{set_of, taking, among, takes_at}
use Rattle.plan.proofs.SetLaws.{set-none}
use Rattle.plan.proofs.TakingLaws.{taking-among}
use Rattle.rules.specs.Lists.{is_empty, any_of, keep, keep_one}
use Rattle.rules.specs.Line.{Message, Held}
use Rattle.rules.specs.Replay.{passed_on, timed, time_for}
use Rattle.rules.specs.Times.{counts}
use Rattle.rules.proofs.Lists.ListLaws.{keep_append, map-append}
use Rattle.rules.proofs.Line.Joins.{takes_passed}
use Rattle.rules.proofs.Histories.Witness.{Taken, none, more}
use Rattle.rules.proofs.Histories.Ghost.{Event, fed_at, took_at, input_of, sent_of, takes_message}

-- What node n passes on of some events.
abbrev pub passing : Plan → ℕ → List Event → List Message
passing p n es = keep (λ (m : Message). passed_on p n m.what) (map (sent_of p n) es)

pub passing_append : (p : Plan) (n : ℕ) (es fs : List Event) → passing p n (es ++ fs) ≡ passing p n es ++ passing p n fs
passing_append p n es fs =
    let goes : Message → Bool = λ m. passed_on p n m.what in
    ap (keep goes) (map-append (sent_of p n) es fs) ∙ keep_append goes (map (sent_of p n) es) (map (sent_of p n) fs)

-- Whether node n passes on what it makes of a message.
abbrev pub goes_on : Plan → ℕ → Message → Bool
goes_on p n m = passed_on p n (applied (rule_at p n) m.what)

-- A message of channel b as node n holds it.
abbrev pub held_of : Plan → ℕ → ℕ → Message → Held
held_of p n b m = record { what = applied (rule_at p n) m.what; sender = (channel_at p b).sender; time = m.time; before = m.origin }

-- Whether an event has an entry in the log: all but a record fed that no leaving channel takes.
abbrev pub has_entry : Plan → ℕ → Event → Bool
has_entry p n (fed_at r t) = timed p n (applied (rule_at p n) r)
has_entry p n (took_at b m t) = true

abbrev pub recorded : Plan → ℕ → List Event → List Event
recorded p n es = keep (has_entry p n) es

pub passed_timed : (p : Plan) (n : ℕ) (what : Record) → passed_on p n what ≡ true → timed p n what ≡ true
unfolding timed
passed_timed p n what e = rw e (one (is_sink p n))
  where
    one : (t : Bool) → (t || true) ≡ true
    one true = refl
    one false = refl

-- A record's set tells whether it gets a time.
pub timed_by_set : (p : Plan) (n : ℕ) (what : Record) → timed p n what ≡ (is_sink p n || not (eqb (set_of p n what) 0))
unfolding timed passed_on
timed_by_set p n what = ap (λ (t : Bool). is_sink p n || not t) (one (taking p n what) ∙ sym (set-none p n what))
  where
    one : (cs : List ℕ) → is_empty cs ≡ eqb (length cs) 0
    one [] = refl
    one (c ∷ cs) = sym (ne_eqb (suc (length cs)) 0 (λ q. omega arith))

-- A record gets a time exactly where it counts.
among_any : (f : ℕ → Bool) (cs : List ℕ) → not (is_empty (among f cs)) ≡ any_of f cs
among_any f [] = refl
among_any f (c ∷ cs) = one (f c) (among_any f cs)
  where
    one : (t : Bool) → not (is_empty (among f cs)) ≡ any_of f cs → not (is_empty (keep_if t c (among f cs))) ≡ (t || any_of f cs)
    one true e = refl
    one false e = e

pub timed-counts : (p : Plan) (n : ℕ) (r : Record) → timed p n (applied (rule_at p n) r) ≡ counts p n r
unfolding timed passed_on
timed-counts p n r =
    let what = applied (rule_at p n) r in
    ap (λ (t : Bool). is_sink p n || t) (ap (λ (cs : List ℕ). not (is_empty cs)) (taking-among p n what) ∙ among_any (takes_at p what) (leaving p n))

-- What is passed on has an entry.
pub passed_recorded : (p : Plan) (n : ℕ) (e : Event) → passed_on p n (sent_of p n e).what ≡ true → has_entry p n e ≡ true
passed_recorded p n (fed_at r t) q = passed_timed p n (applied (rule_at p n) r) q
passed_recorded p n (took_at b m t) q = refl

-- A node that took all its events has an entry for each.
pub taken_recorded : (p : Plan) (n k : ℕ) (es : List Event) → Taken p n (map input_of es) → recorded p k es ≡ es
taken_recorded p n k [] none = refl
taken_recorded p n k (fed_at _ _ ∷ es) i = elim i [ ]
taken_recorded p n k (took_at b m t ∷ es) (more h q s r) = ap (λ (xs : List Event). took_at b m t ∷ xs) (taken_recorded p n k es r)

-- So the entries name all that a channel takes.
module _ (p : Plan) (n b : ℕ) (on_plan : b < channel_count p) (leaves : (channel_at p b).sender ≡ n) where
  pub recorded_put : (es : List Event) → keep (takes_message p b) (map (sent_of p n) (recorded p n es)) ≡ keep (takes_message p b) (map (sent_of p n) es)
  recorded_put [] = refl
  recorded_put (e ∷ es) = one (has_entry p n e) (takes_message p b (sent_of p n e)) refl refl (recorded_put es)
    where
      one : (x y : Bool) → has_entry p n e ≡ x → takes_message p b (sent_of p n e) ≡ y → keep (takes_message p b) (map (sent_of p n) (recorded p n es)) ≡ keep (takes_message p b) (map (sent_of p n) es)
          → keep (takes_message p b) (map (sent_of p n) (keep_one x e (recorded p n es))) ≡ keep_one y (sent_of p n e) (keep (takes_message p b) (map (sent_of p n) es))
      one true y q z ih = rw z (ap (keep_one y (sent_of p n e)) ih)
      one false true q z ih = absurd (true≢false (sym (passed_recorded p n e (takes_passed p n (sent_of p n e).what b on_plan leaves z)) ∙ q))
      one false false q z ih = ih

-- The time of what a node makes is not before its own, and later if it is passed on.
pub time_later : (p : Plan) (n : ℕ) (what : Record) (t : ℕ) → t ≤ time_for p n what t
time_later p n what t = one (timed p n what)
  where
    one : (b : Bool) → t ≤ cond b (suc t) t
    one true = omega arith
    one false = omega arith

pub time_late : (p : Plan) (n : ℕ) (what : Record) (t : ℕ) → passed_on p n what ≡ true → t < time_for p n what t
time_late p n what t e = rw (passed_timed p n what e) (omega arith)

pub time_near : (p : Plan) (n : ℕ) (what : Record) (t : ℕ) → time_for p n what t ≤ suc t
time_near p n what t = one (timed p n what)
  where
    one : (b : Bool) → cond b (suc t) t ≤ suc t
    one true = omega arith
    one false = omega arith

pub timed_late : (p : Plan) (n : ℕ) (what : Record) (t : ℕ) → timed p n what ≡ true → t < time_for p n what t
timed_late p n what t e = rw e (omega arith)
