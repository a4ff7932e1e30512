-- The parents of a node, one after the other: their channels, and the entries for them.
use Prim.Native.Nat.{ℕ, suc, ◌+◌, ◌≤◌, ◌<◌}
use mathlib.Core.Path.{◌≡◌, refl, sym, ap, subst, ◌∙◌}
use mathlib.Core.Logic.{◌⊎◌, inl, inr}
use mathlib.Core.List.{List, [], ◌∷◌, map}
use mathlib.Core.Option.{Option, some}
use native.Mathlib.Numerals.{add-one}
use native.Mathlib.Omega.{arith}
use lib.ListN.{length, get_or, drop, length-map, length-drop, drop_of_length-le}
use lib.Seq.{drop-cons}
use Rattle.basics.specs.Bools.{below_or_not}
use Rattle.plan.specs.Lawful.{Each, FieldsFit}
use Rattle.plan.specs.Plan.{Plan, plan_of, plan_channels, node_count, entering}
use Rattle.plan.proofs.MaskLaws.{entering_below}
use Rattle.plan.proofs.AcceptedLaws.{four_at}
use Rattle.plan.proofs.FitsLaws.{fitting}
use Rattle.plan.proofs.PlanLaws.{node_count_lem}
use Rattle.rules.specs.Line.{Asked, node_at, lane_at}
use Rattle.rules.proofs.Lists.ListLaws.{map_at}
use Rattle.state.specs.Pieces.{asked_numbers}
use Rattle.state.specs.Node.{kept_list}
use Rattle.state.specs.Fits.{AskedFits}
use Rattle.state.specs.State.{line_of}
use Rattle.state.proofs.InPlace.{line-plan}
use Rattle.state.proofs.ListLaws.{each_at}
use Rattle.state.proofs.PlanFitting.{heard_long}
use Rattle.buffer.specs.Ready.{Ready}
use Rattle.buffer.specs.Holds.{AtNode}
use Rattle.buffer.proofs.ReadyLaws.{heard_entering}
use Rattle.buffer.proofs.HoldsLaws.{node_fits}
use Rattle.report.specs.declared.Heard.{Heard}
use Rattle.report.specs.declared.Heard.TheVariants.{Itself, Through, Kept}
use Rattle.report.specs.Clock.{entries_of, times_of, HeardAt, ParentAt}

-- ---- the channels from a place on

-- The first of them is the one at that place.
first_there : {b : ℕ} {rest : List ℕ} (place : ℕ) (bs : List ℕ) → drop place bs ≡ b ∷ rest → (place < length bs) × (b ≡ get_or bs place 0) × (rest ≡ drop (suc place) bs)
first_there {b} {rest} place bs e = go (below_or_not place (length bs))
  where
    go : (place < length bs) ⊎ (length bs ≤ place) → (place < length bs) × (b ≡ get_or bs place 0) × (rest ≡ drop (suc place) bs)
    go (inl h) =
        let same : b ∷ rest ≡ get_or bs place 0 ∷ drop (suc place) bs = sym e ∙ drop-cons bs place 0 h in
        let one : b ≡ get_or bs place 0 = cc in
        let others : rest ≡ drop (suc place) bs = cc in
        (h, one, others)
    go (inr h) =
        let none : drop place bs ≡ [] = drop_of_length-le bs {i = place} h in
        let z : ◌≡◌ {A = ℕ} 0 1 = cc in
        let no : ⊥ = omega arith in
        absurd no

drop_empty : (i : ℕ) (bs : List ℕ) → drop i bs ≡ [] → length bs ≤ i
drop_empty i bs e = omega (arith, length-drop i bs, ap length e)

-- ---- a node, and how many parents it has

pub node_few : (s : List ℕ) (n : ℕ) → AtNode s n → n < 12
node_few s n a = omega (arith, a.inside, a.holds.ready.nodes)

pub four_parents : (s : List ℕ) (n : ℕ) → AtNode s n → length (entering (plan_of s) n) ≤ 4
four_parents s n a =
    let p = fitting (plan_of s) a.holds.ready.fits in
    (four_at (plan_of s) (node_count (plan_of s)) n p.degrees (omega (arith, a.inside, node_count_lem s))).0

pub entering_same : (s : List ℕ) (n : ℕ) → entering (line_of s).plan n ≡ entering (plan_of s) n
entering_same s n = ap (λ (p : Plan). entering p n) (line-plan s)

-- ---- the entries for them

fields_long : (ws vs : List ℕ) → FieldsFit ws vs → length vs ≡ length ws
fields_long [] [] h = refl
fields_long [] (v ∷ vs) h = absurd h
fields_long (w ∷ ws) [] h = absurd h
fields_long (w ∷ ws) (v ∷ vs) h = ap suc (fields_long ws vs h.1)

-- A kept answer has four.
kept_long : (s : List ℕ) (n : ℕ) → AtNode s n → (a : Asked) → (node_at (line_of s) n).asked ≡ some a → length a.entries ≡ 4
kept_long s n at a e = fields_long (4 ∷ 4 ∷ 4 ∷ 4 ∷ []) a.entries (subst (λ (o : Option Asked). Each AskedFits (kept_list o)) e (node_fits at).asked.1).0.1.1

-- An entry for each parent.
pub times_long : (s : List ℕ) (n : ℕ) → AtNode s n → (h : Heard) → HeardAt s n h → length (entering (plan_of s) n) ≤ length (times_of (line_of s) n h)
unfolding times_of
times_long s n at Itself x = omega (arith, length-map (entering (line_of s).plan n) (λ (b : ℕ). (lane_at (line_of s) b).taken), ap length (entering_same s n))
times_long s n at (Through c) x =
    let ready = at.holds.ready in
    omega (arith, heard_long s ready.fits c x.0, heard_entering s c (record { ready = ready; below = x.0 }), ap (λ (k : ℕ). length (entering (plan_of s) k)) x.1)
times_long s n at Kept x = omega (arith, ap (λ (o : Option Asked). length (entries_of o)) x.1, kept_long s n at x.0 x.1, four_parents s n at)

-- ---- one parent

module _ (s : List ℕ) (n : ℕ) (at : AtNode s n) where
  abbrev those : List ℕ
  those = entering (plan_of s) n

  abbrev ready : Ready s
  ready = at.holds.ready

  module _ (h : Heard) (place : ℕ) (inside : place < length (entering (plan_of s) n)) where
    pub own_time : (b : ℕ) → h ≡ Itself → b ≡ get_or (entering (plan_of s) n) place 0 → (lane_at (line_of s) b).taken ≡ get_or (times_of (line_of s) n h) place 0
    unfolding times_of
    own_time b e is =
        let taken : ℕ → ℕ = λ (b : ℕ). (lane_at (line_of s) b).taken in
        rw e (ap taken is ∙ sym (map_at taken those place 0 0 inside) ∙ ap (λ (bs : List ℕ). get_or (map taken bs) place 0) (sym (entering_same s n)))

    pub heard_time : (c : ℕ) → h ≡ Through c → get_or (lane_at (line_of s) c).heard place 0 ≡ get_or (times_of (line_of s) n h) place 0
    unfolding times_of
    heard_time c e = rw e

    pub kept_time : h ≡ Kept → HeardAt s n h → (r : ℕ) → ((a : Asked) → (node_at (line_of s) n).asked ≡ some a → r ≡ get_or (asked_numbers a) (2 + place) 0) → r ≡ get_or (times_of (line_of s) n h) place 0
    unfolding times_of
    kept_time e x r is =
        let y : HeardAt s n Kept = subst (λ (k : Heard). HeardAt s n k) e x in
        let two : 2 + place ≡ suc (suc place) = omega arith in
        rw e (is y.0 y.1 ∙ ap (λ (k : ℕ). get_or (asked_numbers y.0) k 0) two ∙ ap (λ (o : Option Asked). get_or (entries_of o) place 0) (sym y.1))

    -- The channel that entries are heard through, and one of them.
    pub through_at : (c : ℕ) → h ≡ Through c → HeardAt s n h → Ready s × (c < plan_channels s) × (place < length (lane_at (line_of s) c).heard)
    unfolding times_of
    through_at c e x =
        let y : HeardAt s n (Through c) = subst (λ (k : Heard). HeardAt s n k) e x in
        (ready, y.0, omega (arith, inside, times_long s n at (Through c) y))

-- ---- from one to the next

-- The channels from a place on are left.
pub record Walking (s : List ℕ) (n place : ℕ) (left : List ℕ) : Type 0 where
  pub is : left ≡ drop place (entering (plan_of s) n)
  pub few : place ≤ length (entering (plan_of s) n)

module _ {s : List ℕ} {n place : ℕ} {left : List ℕ} (x : Walking s n place left) where
  pub walking_four : AtNode s n → place ≤ 4
  walking_four at = omega (arith, x.few, four_parents s n at)

  pub walking_end : left ≡ [] → length (entering (plan_of s) n) ≤ place
  walking_end z = drop_empty place (entering (plan_of s) n) (sym x.is ∙ z)

  module _ {b : ℕ} {rest : List ℕ} (next : left ≡ b ∷ rest) where
    pub walking_at : ParentAt s n place b
    walking_at =
        let (inside, is, others) = first_there place (entering (plan_of s) n) (sym x.is ∙ next) in
        record { inside = inside; is = is; below = rw is (each_at (λ (k : ℕ). k < plan_channels s) (entering (plan_of s) n) 0 (entering_below s n) place inside) }

    pub walking_turn : Walking s n (place + 1) rest
    walking_turn =
        let (inside, is, others) = first_there place (entering (plan_of s) n) (sym x.is ∙ next) in
        record { is = rw add-one others; few = omega (arith, inside) }
