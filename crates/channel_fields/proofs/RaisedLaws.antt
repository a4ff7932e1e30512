-- What is heard, raised by what a message was made from: the entry of that parent alone, at its place.
use Prim.Native.Nat.{ℕ, suc, ◌+◌, ◌<◌, max}
use mathlib.Core.Path.{◌≡◌, refl, sym, ap, ◌∙◌}
use mathlib.Core.Logic.{◌≢◌}
use mathlib.Core.Bool.{Bool, true, false, cond}
use mathlib.Core.List.{List, [], ◌∷◌, map}
use mathlib.Core.Option.{Option, none, some}
use native.Mathlib.Omega.{arith}
use lib.Dec.{eqb}
use lib.ListN.{length, get_or, set}
use borrow.Author.Tests.{eqb-true, ne_eqb}
use Rattle.plan.specs.Plan.{Plan, plan_of, channel_at, entering}
use Rattle.plan.proofs.FitsLaws.{fitting}
use Rattle.rules.specs.Line.{Origin, fed, made, Lane, lane_at, sender_of, parents}
use Rattle.rules.specs.Clock.{raise_heard}
use Rattle.rules.proofs.Lists.Members.{In, here, there}
use Rattle.rules.proofs.Lists.Options.{none_some, some_same}
use Rattle.rules.proofs.Steps.PlanOrder.{ordered_channels}
use Rattle.state.specs.Lane.{with_heard}
use Rattle.state.specs.State.{line_of}
use Rattle.state.proofs.InPlace.{line-plan}
use Rattle.state.proofs.PlanFitting.{heard_long}
use Rattle.items.specs.Items.{place_from}
use Rattle.items.proofs.Lookup.{senders, Apart, alone, beside, entering-apart}
use Rattle.buffer.specs.Holds.{AtLane}
use Rattle.buffer.proofs.LookLaws.{place_below}
use Rattle.buffer.proofs.ReadyLaws.{heard_entering}
use Rattle.channel_fields.specs.Raised.{heard_to}

pub raise_fed : (ps hs : List ℕ) → raise_heard ps hs fed ≡ hs
raise_fed ps [] = refl
raise_fed [] (h ∷ hs) = refl
raise_fed (p ∷ ps) (h ∷ hs) = refl

module _ (p : Plan) (q t : ℕ) where
  raise_away : (bs hs : List ℕ) → ((c : ℕ) → In c bs → (channel_at p c).sender ≢ q) → raise_heard (senders p bs) hs (made q t) ≡ hs
  raise_away bs [] d = refl
  raise_away [] (h ∷ hs) d = refl
  raise_away (b ∷ bs) (h ∷ hs) d = rw (ne_eqb (channel_at p b).sender q (d b here), raise_away bs hs (λ c i. d c (there i)))

  pub raise_unplaced : (k : ℕ) (bs hs : List ℕ) → place_from p q k bs ≡ none → raise_heard (senders p bs) hs (made q t) ≡ hs
  raise_unplaced k bs [] e = refl
  raise_unplaced k [] (h ∷ hs) e = refl
  raise_unplaced k (b ∷ bs) (h ∷ hs) e = one (eqb (channel_at p b).sender q) (λ y. raise_unplaced (suc k) bs hs y) e
    where
      one : (v : Bool) → (place_from p q (suc k) bs ≡ none → raise_heard (senders p bs) hs (made q t) ≡ hs)
          → ◌≡◌ {A = Option ℕ} (elim v [ true ↦ some k | false ↦ place_from p q (suc k) bs ]) none → cond v (max h t) h ∷ raise_heard (senders p bs) hs (made q t) ≡ h ∷ hs
      one true later y = none_some (sym y)
      one false later y = ap (λ (r : List ℕ). h ∷ r) (later y)

  pub raise_placed : (k i : ℕ) {bs : List ℕ} (hs : List ℕ) → Apart p bs → length hs ≡ length bs → place_from p q k bs ≡ some i
      → (j : ℕ) × (i ≡ k + j) × (raise_heard (senders p bs) hs (made q t) ≡ set hs j (max (get_or hs j 0) t))
  raise_placed k i hs alone long e = none_some e
  raise_placed k i [] (beside d r) long e = let no : ⊥ = omega arith in absurd no
  raise_placed k i (h ∷ hs) (beside {b = c} {bs = bs} d r) long e = one (eqb (channel_at p c).sender q) refl (λ y. raise_placed (suc k) i hs r (omega arith) y) e
    where
      one : (v : Bool) → eqb (channel_at p c).sender q ≡ v → (place_from p q (suc k) bs ≡ some i → (j : ℕ) × (i ≡ suc k + j) × (raise_heard (senders p bs) hs (made q t) ≡ set hs j (max (get_or hs j 0) t)))
          → (elim v [ true ↦ some k | false ↦ place_from p q (suc k) bs ]) ≡ some i
          → (j : ℕ) × (i ≡ k + j) × (cond v (max h t) h ∷ raise_heard (senders p bs) hs (made q t) ≡ set (h ∷ hs) j (max (get_or (h ∷ hs) j 0) t))
      one true z later y =
          let same : k ≡ i = some_same y in
          (0, omega arith, ap (λ (r : List ℕ). max h t ∷ r) (raise_away bs hs (λ x w v. d x w (v ∙ sym (eqb-true (channel_at p c).sender q z)))))
      one false z later y = let (j, at, is) = later y in (suc j, omega arith, ap (λ (r : List ℕ). h ∷ r) is)

-- ---- on a channel

module _ (s : List ℕ) (b : ℕ) (at : AtLane s b) (o : Origin) where
  abbrev p : Plan
  p = plan_of s

  abbrev entered : List ℕ
  entered = entering p (channel_at p b).sender

  abbrev on : Lane
  on = lane_at (line_of s) b

  abbrev pub raised : Lane
  raised = with_heard (raise_heard (parents (line_of s).plan (sender_of (line_of s) b)) on.heard o) on

  heard_all : length on.heard ≡ length entered
  heard_all = heard_long s at.holds.ready.fits b at.below ∙ sym (heard_entering s b (record { ready = at.holds.ready; below = at.below }))

  pub raised_none : o ≡ fed → raised ≡ on
  raised_none e =
      ap (λ (x : Origin). with_heard (raise_heard (parents (line_of s).plan (sender_of (line_of s) b)) on.heard x) on) e
      ∙ ap (λ (hs : List ℕ). with_heard hs on) (raise_fed (parents (line_of s).plan (sender_of (line_of s) b)) on.heard)

  module _ (q time : ℕ) (named : o ≡ made q time) where
    raised_by : raised ≡ with_heard (raise_heard (map (λ (c : ℕ). (channel_at p c).sender) entered) on.heard (made q time)) on
    unfolding parents
    raised_by =
        ap (λ (x : Origin). with_heard (raise_heard (parents (line_of s).plan (sender_of (line_of s) b)) on.heard x) on) named
        ∙ ap (λ (r : Plan). with_heard (raise_heard (parents r (channel_at r b).sender) on.heard (made q time)) on) (line-plan s)

    pub raised_here : (place : ℕ) → some place ≡ place_from p q 0 entered → (place < length on.heard) × (raised ≡ heard_to place time on)
    raised_here place e =
        let ordered = ordered_channels p (fitting p at.holds.ready.fits).channels in
        let (j, is, raises) = raise_placed p q time 0 place on.heard (entering-apart p ordered (channel_at p b).sender) heard_all (sym e) in
        let same : j ≡ place = omega (arith, is) in
        (omega (arith, place_below p q 0 place entered (sym e), heard_all), raised_by ∙ ap (λ (hs : List ℕ). with_heard hs on) (rw same at raises))

    pub raised_nowhere : none ≡ place_from p q 0 entered → raised ≡ on
    raised_nowhere e = raised_by ∙ ap (λ (hs : List ℕ). with_heard hs on) (raise_unplaced p q time 0 entered on.heard (sym e))
