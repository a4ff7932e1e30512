-- The events of a history that a recovered node keeps: for each channel the messages up to a time.
use Prim.Native.Nat.{ℕ, ◌<◌, ◌≤◌}
use mathlib.Core.Path.{◌≡◌, refl, sym, ap, subst, ◌∙◌}
use mathlib.Core.Logic.{◌⊎◌, inl, inr}
use mathlib.Core.Bool.{Bool, true, false}
use mathlib.Core.List.{List, [], ◌∷◌, ◌++◌, map}
use native.Mathlib.Omega.{arith}
use native.Mathlib.Decide.{ℕ_discrete, dec_le}
use lib.Dec.{leb, eqb}
use borrow.Author.Tests.{eq-eqb, ne_eqb, le-leb, lt-leb}
use Rattle.plan.specs.Plan.{Plan, channel_at, channel_count}
use Rattle.rules.specs.Lists.{keep, keep_one}
use Rattle.rules.specs.Line.{Message}
use Rattle.rules.specs.Replay.{passed_on}
use Rattle.rules.proofs.Lists.Rising.{until, Rises, rises_rest, rises-after}
use Rattle.rules.proofs.Lists.Members.{In, here, there, in_keep, in_map, rises_in, in_first}
use Rattle.rules.proofs.Histories.Witness.{Taken, none, more}
use Rattle.rules.proofs.Histories.Ghost.{Event, fed_at, took_at, input_of, sent_of, got_of}
use Rattle.rules.proofs.Histories.Passing.{passing, goes_on}
use Rattle.rules.proofs.Histories.Carried.{in_got_of}
use Rattle.rules.proofs.Invariant.Inv.{time_of}

-- For each channel b the messages with a time at most base b.
abbrev kept_by : (ℕ → ℕ) → Event → Bool
kept_by base (fed_at r t) = true
kept_by base (took_at b m t) = leb m.time (base b)

abbrev pub kept : (ℕ → ℕ) → List Event → List Event
kept base es = keep (kept_by base) es

module _ (p : Plan) (n : ℕ) where
  -- Events that were each taken from a channel that enters node n.
  pub taken_each : (es : List Event) → ((e : Event) → In e es → (b : ℕ) × (m : Message) × (t : ℕ) × (e ≡ took_at b m t) × (b < channel_count p) × ((channel_at p b).receiver ≡ n) × ((channel_at p b).sender < n)) → Taken p n (map input_of es)
  taken_each [] f = none
  taken_each (e ∷ es) f = let (b, m, t, q, h, r, s) = f e here in subst (λ (x : Event). Taken p n (input_of x ∷ map input_of es)) (sym q) (more h r s (taken_each es (λ d i. f d (there i))))

  taken-keep : (f : Event → Bool) (es : List Event) → Taken p n (map input_of es) → Taken p n (map input_of (keep f es))
  taken-keep f [] h = none
  taken-keep f (fed_at _ _ ∷ es) h = elim h [ ]
  taken-keep f (took_at b m t ∷ es) (more l q s h) = one (f (took_at b m t)) (taken-keep f es h)
    where
      one : (x : Bool) → Taken p n (map input_of (keep f es)) → Taken p n (map input_of (keep_one x (took_at b m t) (keep f es)))
      one true k = more l q s k
      one false k = k

  pub kept_taken : (base : ℕ → ℕ) (es : List Event) → Taken p n (map input_of es) → Taken p n (map input_of (kept base es))
  kept_taken base es h = taken-keep (kept_by base) es h

-- What is kept of a channel is what it gave up to its time.
pub kept_got : (base : ℕ → ℕ) (b : ℕ) (es : List Event) → got_of b (kept base es) ≡ until time_of (base b) (got_of b es)
kept_got base b [] = refl
kept_got base b (fed_at r t ∷ es) = kept_got base b es
kept_got base b (took_at c m t ∷ es) =
    elim (ℕ_discrete c b) [
      | yes q ↦ there_too (leb m.time (base c)) (ap (λ (x : ℕ). leb m.time (base x)) (sym q)) (eq-eqb c b q) (kept_got base b es)
      | no d ↦ elsewhere (leb m.time (base c)) (ne_eqb c b d) (kept_got base b es)
    ]
  where
    there_too : (x : Bool) → leb m.time (base b) ≡ x → eqb c b ≡ true → got_of b (kept base es) ≡ until time_of (base b) (got_of b es)
        → got_of b (keep_one x (took_at c m t) (kept base es)) ≡ until time_of (base b) (got_of b (took_at c m t ∷ es))
    there_too true e q ih = rw (q, e) (ap (λ (ms : List Message). m ∷ ms) ih)
    there_too false e q ih = rw (q, e) ih

    elsewhere : (x : Bool) → eqb c b ≡ false → got_of b (kept base es) ≡ until time_of (base b) (got_of b es)
        → got_of b (keep_one x (took_at c m t) (kept base es)) ≡ until time_of (base b) (got_of b (took_at c m t ∷ es))
    elsewhere true q ih = rw q ih
    elsewhere false q ih = rw q ih

same_test : (a b c d : ℕ) → (a ≤ b → c ≤ d) → (c ≤ d → a ≤ b) → leb a b ≡ leb c d
same_test a b c d f g = elim (dec_le a b) [ yes l ↦ le-leb a b l ∙ sym (le-leb c d (f l)) | no k ↦ lt-leb a b (omega arith) ∙ sym (lt-leb c d (below k)) ]
  where
    below : ¬ (a ≤ b) → d < c
    below k = elim (dec_le c d) [ yes l ↦ absurd (k (g l)) | no u ↦ omega arith ]

-- A message of channel b with own time t is kept exactly if t is at most low.
abbrev pub Cuts : ℕ → (ℕ → ℕ) → ℕ → Message → ℕ → Type 0
Cuts low base b m t = (m.time ≤ base b → t ≤ low) × (t ≤ low → m.time ≤ base b)

module _ (p : Plan) (n low : ℕ) (base : ℕ → ℕ) where
  -- What is passed on of the kept events is what was passed on up to low.
  pub kept_passing : (es : List Event) → ((b : ℕ) (m : Message) (t : ℕ) → In (took_at b m t) es → goes_on p n m ≡ true → Cuts low base b m t) → Taken p n (map input_of es)
      → passing p n (kept base es) ≡ until time_of low (passing p n es)
  kept_passing [] cuts h = refl
  kept_passing (fed_at _ _ ∷ es) cuts h = elim h [ ]
  kept_passing (took_at b m t ∷ es) cuts (more l q s h) = one (goes_on p n m) (leb m.time (base b)) refl refl (kept_passing es (λ c k u i. cuts c k u (there i)) h)
    where
      same : goes_on p n m ≡ true → leb t low ≡ leb m.time (base b)
      same d = let (f, g) = cuts b m t here d in same_test t low m.time (base b) g f

      one : (x y : Bool) → goes_on p n m ≡ x → leb m.time (base b) ≡ y → passing p n (kept base es) ≡ until time_of low (passing p n es)
          → passing p n (keep_one y (took_at b m t) (kept base es)) ≡ until time_of low (passing p n (took_at b m t ∷ es))
      one false false d e ih = rw d ih
      one false true d e ih = rw d ih
      one true false d e ih = rw (d, same d, e) ih
      one true true d e ih = rw (d, same d, e) (ap (λ (ms : List Message). sent_of p n (took_at b m t) ∷ ms) ih)

one_joined : (x : Bool) (m : Message) (ms : List Message) → keep_one x m [] ++ ms ≡ keep_one x m ms
one_joined true m ms = refl
one_joined false m ms = refl

got_rest : {a : ℕ} (b : ℕ) (e : Event) (es : List Event) → Rises time_of a (got_of b (e ∷ es)) → Rises time_of a (got_of b es)
got_rest b (fed_at r t) es h = h
got_rest b (took_at c m t) es h = rises_rest time_of (eqb c b) m (got_of b es) (rw one_joined at h)

got_after : {a : ℕ} (b : ℕ) (m : Message) (t : ℕ) (es : List Event) → Rises time_of a (got_of b (took_at b m t ∷ es)) → Rises time_of m.time (got_of b es)
got_after b m t es h = rises-after time_of (eqb b b) m (got_of b es) (eq-eqb b b refl) (rw one_joined at h)

module _ (p : Plan) (n : ℕ) where
  pub in_passing : {e : Event} {es : List Event} → In e es → passed_on p n (sent_of p n e).what ≡ true → In (sent_of p n e) (passing p n es)
  in_passing i g = in_keep (λ (m : Message). passed_on p n m.what) (in_map (sent_of p n) i) g

  -- Of two messages of one channel that are passed on, the one not later on the channel is not later at the node.
  pub order_kept : {a c b : ℕ} {m k : Message} {t u : ℕ} (es : List Event) → Rises time_of a (passing p n es) → Rises time_of c (got_of b es)
      → In (took_at b m t) es → In (took_at b k u) es → goes_on p n m ≡ true → goes_on p n k ≡ true → m.time ≤ k.time → t ≤ u
  order_kept [] r s i _ d f l = elim i [ ]
  order_kept {m = m} (e ∷ es) r s here j d f l =
      elim (in_first j) [
        | inl q ↦ (let same = ap (λ (x : Event). (sent_of p n x).time) q in omega arith)
        | inr j ↦ (let later = rises_in time_of (rises-after time_of (goes_on p n m) (sent_of p n e) (passing p n es) d r) (in_passing j f) in omega arith)
      ]
  order_kept {c = c} {b = b} {k = k} {u = u} (e ∷ es) r s (there i) j d f l =
      elim (in_first j) [
        | inl q ↦ (let later = rises_in time_of (got_after b k u es (subst (λ (x : Event). Rises time_of c (got_of b (x ∷ es))) (sym q) s)) (in_got_of b i) in omega arith)
        | inr j ↦ order_kept es (rises_rest time_of (passed_on p n (sent_of p n e).what) (sent_of p n e) (passing p n es) r) (got_rest b e es s) i j d f l
      ]

  module _ (low : ℕ) (base : ℕ → ℕ) (es : List Event) (rising : Rises time_of 0 (passing p n es)) where
    -- Channel b is cut rightly if its time is that of the last of its messages passed on up to low, or 0 if there is none.
    pub cuts_at : (b : ℕ) → Rises time_of 0 (got_of b es)
        → ((m : Message) (t : ℕ) → In (took_at b m t) es → goes_on p n m ≡ true → t ≤ low → m.time ≤ base b)
        → ((base b ≡ 0) ⊎ ((m : Message) × (t : ℕ) × In (took_at b m t) es × (goes_on p n m ≡ true) × (t ≤ low) × (m.time ≡ base b)))
        → (m : Message) (t : ℕ) → In (took_at b m t) es → goes_on p n m ≡ true → Cuts low base b m t
    cuts_at b r reach is m t i d = (
      λ l. elim is [
        | inl e ↦ (let above = rises_in time_of r (in_got_of b i) in let no : ⊥ = omega arith in absurd no)
        | inr (k, u, j, f, h, e) ↦ (let before = order_kept es rising r i j d f (omega arith) in omega arith)
      ],
      reach m t i d,
    )
