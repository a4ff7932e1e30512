-- The history of a node whose replay has ended: the events that it kept, then those placed, each with the dropped messages of its channel before it.
use Prim.Native.Nat.{ℕ, ◌<◌, ◌≤◌}
use mathlib.Core.Path.{◌≡◌, refl, sym, ap, subst, ◌∙◌}
use mathlib.Core.Logic.{◌⊎◌, inl, inr, ◌≢◌}
use mathlib.Core.Bool.{Bool, true, false}
use mathlib.Core.List.{List, [], ◌∷◌, ◌++◌, map}
use native.Mathlib.Omega.{arith}
use native.Mathlib.Decide.{ℕ_discrete, dec_le}
use lib.Dec.{ltb}
use borrow.Author.Tests.{eq-eqb, ne_eqb, lt-ltb}
use Rattle.basics.specs.Update.{changed, changed_there, changed_else}
use Rattle.plan.specs.Plan.{Plan, channel_at, channel_count}
use Rattle.rules.specs.Lists.{keep, keep_one}
use Rattle.rules.specs.Line.{Message}
use Rattle.rules.proofs.Lists.ListLaws.{map-append}
use Rattle.rules.proofs.Lists.Rising.{until, past, Rises, Within, cut_at, rises_past, past_past, past_none, within_higher, first_above, first_until, first_past}
use Rattle.rules.proofs.Lists.Members.{In, in_none, in_keep}
use Rattle.rules.proofs.Histories.Witness.{Taken, none, more, taken-append}
use Rattle.rules.proofs.Histories.Ghost.{Event, fed_at, took_at, input_of, sent_of, got_of, got_append}
use Rattle.rules.proofs.Histories.Passing.{passing, passing_append, goes_on}
use Rattle.rules.proofs.Invariant.Inv.{time_of, Enters}
use Rattle.rules.proofs.Ending.Kept.{kept, kept_got, kept_taken, Cuts, kept_passing}

-- Messages of channel b taken at one time.
abbrev took_all : ℕ → ℕ → List Message → List Event
took_all b t ms = map (λ (m : Message). took_at b m t) ms

-- For each placed event what its channel's row has past the last one and up to it; those that are not passed on are given the event's time.
abbrev emit : (ℕ → List Message) → (ℕ → ℕ) → List Event → List Event
emit row last [] = []
emit row last (fed_at r t ∷ fs) = emit row last fs
emit row last (took_at b m t ∷ fs) = took_all b t (until time_of m.time (past time_of (last b) (row b))) ++ emit row (changed last b m.time) fs

-- Messages of one channel, taken at one time.
took_there : (c b t : ℕ) → c ≡ b → (ms : List Message) → got_of b (took_all c t ms) ≡ ms
took_there c b t q [] = refl
took_there c b t q (m ∷ ms) = rw (eq-eqb c b q) (ap (λ (ks : List Message). m ∷ ks) (took_there c b t q ms))

took_else : (c b t : ℕ) → c ≢ b → (ms : List Message) → got_of b (took_all c t ms) ≡ []
took_else c b t d [] = refl
took_else c b t d (m ∷ ms) = rw (ne_eqb c b d) (took_else c b t d ms)

took_passing : (p : Plan) (n c t : ℕ) (ms : List Message) → passing p n (took_all c t ms) ≡ map (sent_of p n) (took_all c t (keep (goes_on p n) ms))
took_passing p n c t [] = refl
took_passing p n c t (m ∷ ms) = one (goes_on p n m) (took_passing p n c t ms)
  where
    one : (x : Bool) → passing p n (took_all c t ms) ≡ map (sent_of p n) (took_all c t (keep (goes_on p n) ms))
        → keep_one x (sent_of p n (took_at c m t)) (passing p n (took_all c t ms)) ≡ map (sent_of p n) (took_all c t (keep_one x m (keep (goes_on p n) ms)))
    one true ih = ap (λ (ks : List Message). sent_of p n (took_at c m t) ∷ ks) ih
    one false ih = ih

took_taken : (p : Plan) (n c t : ℕ) → c < channel_count p → (channel_at p c).receiver ≡ n → (channel_at p c).sender < n → (ms : List Message) → Taken p n (map input_of (took_all c t ms))
took_taken p n c t l q s [] = none
took_taken p n c t l q s (m ∷ ms) = more l q s (took_taken p n c t l q s ms)

-- One channel b, at the first of some placed events.
module _ (p : Plan) (n : ℕ) (row : ℕ → List Message) (b : ℕ) (rises : Rises time_of 0 (row b)) where
  module _ (last : ℕ → ℕ) (c : ℕ) (m : Message) (t : ℕ) (fs : List Event) (held : got_of b (took_at c m t ∷ fs) ≡ keep (goes_on p n) (past time_of (last b) (row b))) where
    own : c ≡ b → keep (goes_on p n) (past time_of (last b) (row b)) ≡ m ∷ got_of b fs
    own q = sym held ∙ ap (λ (x : Bool). keep_one x m [] ++ got_of b fs) (eq-eqb c b q)

    rises_on : Rises time_of (last b) (past time_of (last b) (row b))
    rises_on = rises_past time_of (last b) rises

    above : c ≡ b → last b < m.time
    above q = first_above time_of (goes_on p n) m (got_of b fs) rises_on (own q)

    forget : c ≡ b → past time_of m.time (past time_of (last b) (row b)) ≡ past time_of m.time (row b)
    forget q = let l = above q in past_past time_of (last b) m.time (omega arith) (row b)

    last_rises : last b ≤ changed last c m.time b
    last_rises =
        elim (ℕ_discrete c b) [
          | yes q ↦ omega (arith, above q, changed_there last c m.time b (sym q))
          | no d ↦ omega (arith, changed_else last c m.time b (λ q. d (sym q)))
        ]

    held_next : got_of b fs ≡ keep (goes_on p n) (past time_of (changed last c m.time b) (row b))
    held_next =
        elim (ℕ_discrete c b) [
          | yes q ↦ sym (first_past time_of (goes_on p n) m (got_of b fs) rises_on (own q)) ∙ ap (keep (goes_on p n)) (forget q) ∙ ap (λ (k : ℕ). keep (goes_on p n) (past time_of k (row b))) (sym (changed_there last c m.time b (sym q)))
          | no d ↦ ap (λ (x : Bool). keep_one x m [] ++ got_of b fs) (sym (ne_eqb c b d)) ∙ held ∙ ap (λ (k : ℕ). keep (goes_on p n) (past time_of k (row b))) (sym (changed_else last c m.time b (λ q. d (sym q))))
        ]

    -- What the event brings of channel b, and what lies past it.
    brings : got_of b (took_all c t (until time_of m.time (past time_of (last c) (row c)))) ++ past time_of (changed last c m.time b) (row b) ≡ past time_of (last b) (row b)
    brings =
        elim (ℕ_discrete c b) [
          | yes q ↦
              ap (λ (ms : List Message). ms ++ past time_of (changed last c m.time b) (row b)) (took_there c b t q (until time_of m.time (past time_of (last c) (row c))) ∙ ap (λ (x : ℕ). until time_of m.time (past time_of (last x) (row x))) q)
              ∙ ap (λ (ms : List Message). until time_of m.time (past time_of (last b) (row b)) ++ ms) (ap (λ (k : ℕ). past time_of k (row b)) (changed_there last c m.time b (sym q)) ∙ sym (forget q))
              ∙ sym (cut_at time_of m.time rises_on)
          | no d ↦
              ap (λ (ms : List Message). ms ++ past time_of (changed last c m.time b) (row b)) (took_else c b t d (until time_of m.time (past time_of (last c) (row c))))
              ∙ ap (λ (k : ℕ). past time_of k (row b)) (changed_else last c m.time b (λ q. d (sym q)))
        ]

  -- The placed events bring the whole row: its held messages are those placed, and none lies behind the last held one.
  emit_got : (last : ℕ → ℕ) (fs : List Event) → got_of b fs ≡ keep (goes_on p n) (past time_of (last b) (row b))
      → ((k : ℕ) → last b ≤ k → keep (goes_on p n) (past time_of k (row b)) ≡ [] → past time_of k (row b) ≡ [])
      → got_of b (emit row last fs) ≡ past time_of (last b) (row b)
  emit_got last [] held whole = sym (whole (last b) (omega arith) (sym held))
  emit_got last (fed_at r t ∷ fs) held whole = emit_got last fs held whole
  emit_got last (took_at c m t ∷ fs) held whole =
      let new : List Message = until time_of m.time (past time_of (last c) (row c)) in
      let next : ℕ → ℕ = changed last c m.time in
      let wider = last_rises last c m t fs held in
      got_append b (took_all c t new) (emit row next fs)
      ∙ ap (λ (ms : List Message). got_of b (took_all c t new) ++ ms) (emit_got next fs (held_next last c m t fs held) (λ k l. whole k (omega arith)))
      ∙ brings last c m t fs held

-- Nothing lies behind the last held one: nothing is past the base, or the row's last message is passed on.
pub ends_held : (p : Plan) (n base : ℕ) (ms : List Message) → (past time_of base ms ≡ []) ⊎ ((m : Message) × In m ms × (goes_on p n m ≡ true) × Within time_of m.time ms)
    → (k : ℕ) → base ≤ k → keep (goes_on p n) (past time_of k ms) ≡ [] → past time_of k ms ≡ []
ends_held p n base ms (inl e) k l none-held = sym (past_past time_of base k l ms) ∙ ap (past time_of k) e
ends_held p n base ms (inr (m, i, d, w)) k l none-held =
    elim (dec_le m.time k) [
      | yes h ↦ past_none time_of (within_higher time_of h w)
      | no h ↦ absurd (in_none (subst (λ (ks : List Message). In m ks) none-held (in_keep (goes_on p n) (in_keep (λ (x : Message). ltb k x.time) i (lt-ltb k m.time (omega arith))) d)))
    ]

module _ (p : Plan) (n : ℕ) (row : ℕ → List Message) where
  emit_taken : (last : ℕ → ℕ) (fs : List Event) → Taken p n (map input_of fs) → Taken p n (map input_of (emit row last fs))
  emit_taken last [] h = none
  emit_taken last (fed_at _ _ ∷ fs) h = elim h [ ]
  emit_taken last (took_at c m t ∷ fs) (more l q s h) =
      let new : List Message = until time_of m.time (past time_of (last c) (row c)) in
      rw (map-append input_of (took_all c t new) (emit row (changed last c m.time) fs)) (taken-append (took_taken p n c t l q s new) (emit_taken (changed last c m.time) fs h))

  -- What is passed on of them are the placed ones.
  emit_passing : ((b : ℕ) → Enters p n b → Rises time_of 0 (row b)) → (last : ℕ → ℕ) (fs : List Event) → Taken p n (map input_of fs)
      → ((b : ℕ) → Enters p n b → got_of b fs ≡ keep (goes_on p n) (past time_of (last b) (row b)))
      → passing p n (emit row last fs) ≡ map (sent_of p n) fs
  emit_passing rises last [] h held = refl
  emit_passing rises last (fed_at _ _ ∷ fs) h held = elim h [ ]
  emit_passing rises last (took_at c m t ∷ fs) (more l q s h) held =
      let new : List Message = until time_of m.time (past time_of (last c) (row c)) in
      let next : ℕ → ℕ = changed last c m.time in
      let r : Rises time_of 0 (row c) = rises c (l, q) in
      let mine : keep (goes_on p n) (past time_of (last c) (row c)) ≡ m ∷ got_of c fs = own p n row c r last c m t fs (held c (l, q)) refl in
      passing_append p n (took_all c t new) (emit row next fs)
      ∙ ap (λ (ms : List Message). ms ++ passing p n (emit row next fs)) (took_passing p n c t new ∙ ap (λ (ms : List Message). map (sent_of p n) (took_all c t ms)) (first_until time_of (goes_on p n) m (got_of c fs) (rises_past time_of (last c) r) mine))
      ∙ ap (λ (ms : List Message). sent_of p n (took_at c m t) ∷ ms) (emit_passing rises next fs h (λ b e. held_next p n row b (rises b e) last c m t fs (held b e)))

-- The kept events, then the placed ones.
abbrev pub rebuilt : (ℕ → ℕ) → (ℕ → List Message) → List Event → List Event → List Event
rebuilt base row es fs = kept base es ++ emit row base fs

module _ (p : Plan) (n : ℕ) (base : ℕ → ℕ) (row : ℕ → List Message) (es fs : List Event) where
  pub rebuilt_got : (b : ℕ) → Rises time_of 0 (row b) → until time_of (base b) (got_of b es) ≡ until time_of (base b) (row b)
      → got_of b fs ≡ keep (goes_on p n) (past time_of (base b) (row b))
      → ((k : ℕ) → base b ≤ k → keep (goes_on p n) (past time_of k (row b)) ≡ [] → past time_of k (row b) ≡ [])
      → got_of b (rebuilt base row es fs) ≡ row b
  rebuilt_got b rises same held whole =
      got_append b (kept base es) (emit row base fs)
      ∙ ap (λ (ms : List Message). ms ++ got_of b (emit row base fs)) (kept_got base b es ∙ same)
      ∙ ap (λ (ms : List Message). until time_of (base b) (row b) ++ ms) (emit_got p n row b rises base fs held whole)
      ∙ sym (cut_at time_of (base b) rises)

  pub rebuilt_taken : Taken p n (map input_of es) → Taken p n (map input_of fs) → Taken p n (map input_of (rebuilt base row es fs))
  rebuilt_taken h k = rw (map-append input_of (kept base es) (emit row base fs)) (taken-append (kept_taken p n base es h) (emit_taken p n row base fs k))

  pub rebuilt_passing : (low : ℕ) → Taken p n (map input_of es) → Taken p n (map input_of fs)
      → ((b : ℕ) (m : Message) (t : ℕ) → In (took_at b m t) es → goes_on p n m ≡ true → Cuts low base b m t)
      → ((b : ℕ) → Enters p n b → Rises time_of 0 (row b))
      → ((b : ℕ) → Enters p n b → got_of b fs ≡ keep (goes_on p n) (past time_of (base b) (row b)))
      → passing p n (rebuilt base row es fs) ≡ until time_of low (passing p n es) ++ map (sent_of p n) fs
  rebuilt_passing low h k cuts rises held =
      passing_append p n (kept base es) (emit row base fs)
      ∙ ap (λ (ms : List Message). ms ++ passing p n (emit row base fs)) (kept_passing p n low base es cuts h)
      ∙ ap (λ (ms : List Message). until time_of low (passing p n es) ++ ms) (emit_passing p n row rises base fs k held)
