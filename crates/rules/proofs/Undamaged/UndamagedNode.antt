-- The conditions of Damaged that are of a node by itself, and the facts of which they are the failure.
use Prim.Native.Nat.{ℕ, ◌<◌, ◌≤◌}
use mathlib.Core.Path.{◌≡◌, refl, sym, ap, subst, ◌∙◌}
use mathlib.Core.Option.{Option, none, some}
use mathlib.Core.Logic.{inl, inr}
use mathlib.Core.Bool.{Bool, true, false, not, ◌&&◌, ◌||◌, true≢false}
use mathlib.Core.List.{List, [], ◌∷◌, ◌++◌, map}
use native.Mathlib.Omega.{arith}
use lib.ListN.{length}
use lib.Dec.{leb, ltb, eqb}
use borrow.Author.Tests.{ltb-false, le-ltb, eqb-true, eqb-false, eq-eqb, ne_eqb, not-false}
use Rattle.basics.specs.Bools.{both_true, neither_true}
use Rattle.plan.specs.Plan.{Plan, is_source, is_sink}
use Rattle.plan.specs.Mask.{set_of}
use Rattle.rules.specs.Lists.{is_empty, all_of, any_of}
use Rattle.rules.specs.Line.{log_limit, held_limit, target_limit, Origin, fed, made, Entry, Held, Target, Status, up, down, replay, Asked, Node, is_up}
use Rattle.rules.specs.Replay.{passed_on}
use Rattle.rules.specs.Damaged.{worked_on, record_past_limits, node_past_limits, is_parent, not_parent, before_not_parent, node_wrong_parent, origin_times, node_named_times, node_other_times, node_time_past, node_time_zero, origin_wrong, is_fed, before_wrong, node_maker_wrong, log_rises, log_wrong, set_wrong, held_not_passed, mark_missing, mark_on_end, holds_by_status, node_holds}
use Rattle.rules.specs.Step.{is_nothing}
use Rattle.rules.proofs.Lists.Rising.{Within}
use Rattle.rules.proofs.Lists.Members.{In, here, there, in_none, in_first, in_left, in_right, append_in, in_map, map_in, in_joined, joined_in, within_in, none_any}
use Rattle.rules.proofs.Invariant.InvLaws.{up_not_down, up_not_replay}
use Rattle.rules.proofs.Lists.Options.{nothing_none}
use Rattle.rules.proofs.Lists.ListLaws.{empty_none}
use Rattle.rules.proofs.Undamaged.TestLaws.{none_by, all_false, unless, by_unless, within_of, of-within}
use Rattle.rules.proofs.Undamaged.LogRising.{log_of, of_log}
use Rattle.rules.proofs.Undamaged.Standing.{entry_time, OriginFits, BeforeFits, TargetFits, Empties, LogRises, NodeFits}

-- Every time that an origin names is above 0 and not past the steps.
abbrev pub TimesIn : ℕ → Origin → Type 0
TimesIn steps o = (t : ℕ) → In t (origin_times o) → (0 < t) × (t ≤ steps)

module _ (p : Plan) (steps : ℕ) where
  pub origin_fits : (n : ℕ) (o : Origin) → not_parent p n o ≡ false → origin_wrong p n o ≡ false → TimesIn steps o → OriginFits p steps n o
  origin_fits n fed a b c = not-false (is_source p n) b
  origin_fits n (made s t) a b c = (not-false (is_parent p n s) a, b, (c t here).0, (c t here).1)

  before_fits : (o before : Origin) → before_not_parent p o before ≡ false → before_wrong p o before ≡ false → TimesIn steps before → BeforeFits p steps o before
  before_fits fed before a b c = not-false (is_fed before) b
  before_fits (made s t) before a b c = origin_fits s before a b c

  pub fits_parent : (n : ℕ) (o : Origin) → OriginFits p steps n o → not_parent p n o ≡ false
  fits_parent n fed f = refl
  fits_parent n (made s t) f = ap not f.0

  pub fits_maker : (n : ℕ) (o : Origin) → OriginFits p steps n o → origin_wrong p n o ≡ false
  fits_maker n fed f = ap not f
  fits_maker n (made s t) f = f.1

  pub fits_times : (n : ℕ) (o : Origin) → OriginFits p steps n o → TimesIn steps o
  fits_times n fed f t i = absurd (in_none i)
  fits_times n (made s u) (_, _, l, h) t i = elim (in_first i) [ inl q ↦ (omega arith, omega arith) | inr j ↦ absurd (in_none j) ]

  before_parent : (o before : Origin) → BeforeFits p steps o before → before_not_parent p o before ≡ false
  before_parent fed before f = refl
  before_parent (made s t) before f = fits_parent s before f

  before_maker : (o before : Origin) → BeforeFits p steps o before → before_wrong p o before ≡ false
  before_maker fed before f = ap not f
  before_maker (made s t) before f = fits_maker s before f

  before_times : (o before : Origin) → BeforeFits p steps o before → TimesIn steps before
  before_times fed fed f t i = absurd (in_none i)
  before_times fed (made s u) f t i = absurd (true≢false (sym f))
  before_times (made s u) before f t i = fits_times s before f t i

-- The times that a node names are those of its log and of the origins of what it worked on.
abbrev times_of : Entry → List ℕ
times_of e = origin_times e.origin ++ origin_times e.before

in_named : (x : Node) {e : Entry} {t : ℕ} → In e (worked_on x) → In t (times_of e) → In t (node_named_times x)
in_named x i j = in_joined j (in_map times_of i)

named_in : (x : Node) {t : ℕ} → In t (node_named_times x) → (e : Entry) × In e (worked_on x) × In t (times_of e)
named_in x {t} i =
    let (ts, k, h) = joined_in (map times_of (worked_on x)) i in
    let (e, a, q) = map_in times_of (worked_on x) k in
    (e, a, subst (λ (z : List ℕ). In t z) q h)

abbrev target_times : Target → List ℕ
target_times t = t.time ∷ t.parent_time ∷ []

-- What the status and the mark say.
mark_says : (s : Status) (c : Bool) → (not (is_up s) && not c) ≡ false → c ≡ false → s ≡ up
mark_says up c e q = refl
mark_says down true e q = absurd (true≢false q)
mark_says down false e q = absurd (true≢false e)
mark_says replay true e q = absurd (true≢false q)
mark_says replay false e q = absurd (true≢false e)

says_mark : (s : Status) (c : Bool) → (c ≡ false → s ≡ up) → (not (is_up s) && not c) ≡ false
says_mark up c f = refl
says_mark down true f = refl
says_mark down false f = absurd (up_not_down (sym (f refl)))
says_mark replay true f = refl
says_mark replay false f = absurd (up_not_replay (sym (f refl)))

-- A down node has no targets, or a kept answer with them.
down_targets : (ts : List Target) (o : Option Asked) → (is_empty ts || not (is_nothing o)) ≡ true → o ≡ none → ts ≡ []
down_targets [] o e q = refl
down_targets (t ∷ ts) o e q = absurd (true≢false (sym e ∙ ap (λ (x : Option Asked). not (is_nothing x)) q))

targets_down : (ts : List Target) (o : Option Asked) → (o ≡ none → ts ≡ []) → (is_empty ts || not (is_nothing o)) ≡ true
targets_down ts none f = rw (f refl)
targets_down [] (some a) f = refl
targets_down (t ∷ ts) (some a) f = refl

empties_of : (s : Status) (x : Node) → holds_by_status s x ≡ false → Empties s x
empties_of up x e =
    let (ab, c) = both_true (is_empty x.held && is_empty x.targets) (is_nothing x.asked) (not-false (is_empty x.held && is_empty x.targets && is_nothing x.asked) e) in
    let (a, b) = both_true (is_empty x.held) (is_empty x.targets) ab in
    (empty_none x.held a, empty_none x.targets b, nothing_none x.asked c)
empties_of down x e =
    let zero : Bool = eqb x.time 0 in
    let log : Bool = is_empty x.log in
    let held : Bool = is_empty x.held in
    let left : Bool = is_empty x.targets || not (is_nothing x.asked) in
    let (abc, d) = both_true (zero && log && held) left (not-false (zero && log && held && left) e) in
    let (ab, c) = both_true (zero && log) held abc in
    let (a, b) = both_true zero log ab in
    (eqb-true x.time 0 a, empty_none x.log b, empty_none x.held c, down_targets x.targets x.asked d)
empties_of replay x e =
    let (a, b) = both_true (is_empty x.log) (is_nothing x.asked) (not-false (is_empty x.log && is_nothing x.asked) e) in
    (empty_none x.log a, nothing_none x.asked b)

of_empties : (s : Status) (x : Node) → Empties s x → holds_by_status s x ≡ false
of_empties up x (a, b, c) = rw (a, b, c)
of_empties down x (a, b, c, d) = rw (a, b, c, targets_down x.targets x.asked d)
of_empties replay x (a, b) = rw (a, b)

-- A node by itself.
module _ (p : Plan) (steps n : ℕ) (x : Node) where
  counts : node_past_limits x ≡ false → (length x.log ≤ log_limit) × (length x.held ≤ held_limit) × (length x.targets ≤ target_limit) × ((e : Entry) → In e (worked_on x) → record_past_limits e.what ≡ false)
  unfolding node_past_limits
  counts e =
      let pasts : Bool = any_of (λ (d : Entry). record_past_limits d.what) (worked_on x) in
      let (a, (b, (c, (d, _)))) = all_false (ltb log_limit (length x.log)) (ltb held_limit (length x.held) ∷ ltb target_limit (length x.targets) ∷ pasts ∷ []) e in
      (ltb-false log_limit (length x.log) a, ltb-false held_limit (length x.held) b, ltb-false target_limit (length x.targets) c, λ f i. none_any (λ (d : Entry). record_past_limits d.what) d i)

  named-parents : node_wrong_parent p n x ≡ false → ((e : Entry) → In e (worked_on x) → (not_parent p n e.origin ≡ false) × (before_not_parent p e.origin e.before ≡ false)) × ((t : Target) → In t x.targets → is_parent p n t.parent ≡ true)
  unfolding node_wrong_parent
  named-parents e =
      let wrong : Entry → Bool = λ d. not_parent p n d.origin || before_not_parent p d.origin d.before in
      let (a, b) = neither_true (any_of wrong (worked_on x)) (any_of (λ (t : Target). not (is_parent p n t.parent)) x.targets) e in
      (λ f i. neither_true (not_parent p n f.origin) (before_not_parent p f.origin f.before) (none_any wrong a i), λ t i. not-false (is_parent p n t.parent) (none_any (λ (u : Target). not (is_parent p n u.parent)) b i))

  times_in : node_time_past steps x ≡ false → (t : ℕ) → In t (node_named_times x ++ node_other_times x) → t ≤ steps
  unfolding node_time_past
  times_in e t i = ltb-false steps t (none_any (ltb steps) e i)

  times_above : node_time_zero x ≡ false → (t : ℕ) → In t (node_named_times x) → 0 < t
  unfolding node_time_zero
  times_above e t i = let d = eqb-false 0 t (none_any (eqb 0) e i) in omega arith

  makers : node_maker_wrong p n x ≡ false → (e : Entry) → In e (worked_on x) → (origin_wrong p n e.origin ≡ false) × (before_wrong p e.origin e.before ≡ false)
  unfolding node_maker_wrong
  makers e f i = neither_true (origin_wrong p n f.origin) (before_wrong p f.origin f.before) (none_any (λ (d : Entry). origin_wrong p n d.origin || before_wrong p d.origin d.before) e i)

  log_rises_lem : log_wrong p n x ≡ false → LogRises p n 0 x.log × Within entry_time x.time x.log
  unfolding log_wrong
  log_rises_lem e =
      let ends : Bool = all_of (λ (t : ℕ). leb t x.time) (map entry_time x.log) in
      let (a, b) = both_true (log_rises p n 0 x.log) ends (not-false (log_rises p n 0 x.log && ends) e) in
      (log_of p n 0 x.log a, within_of entry_time x.time x.log b)

  sets_right : set_wrong p n x ≡ false → (e : Entry) → In e x.log → e.set ≡ set_of p n e.what
  unfolding set_wrong
  sets_right e d i = eqb-true d.set (set_of p n d.what) (not-false (eqb d.set (set_of p n d.what)) (none_any (λ (c : Entry). not (eqb c.set (set_of p n c.what))) e i))

  all_passed : held_not_passed p n x ≡ false → (h : Held) → In h x.held → passed_on p n h.what ≡ true
  unfolding held_not_passed
  all_passed e h i = not-false (passed_on p n h.what) (none_any (λ (k : Held). not (passed_on p n k.what)) e i)

  marks : mark_missing x ≡ false → x.crashed ≡ false → x.status ≡ up
  unfolding mark_missing
  marks e = mark_says x.status x.crashed e

  ends : mark_on_end p n x ≡ false → x.crashed ≡ true → (is_source p n ≡ false) × (is_sink p n ≡ false)
  unfolding mark_on_end
  ends e q = neither_true (is_source p n) (is_sink p n) (unless x.crashed (is_source p n || is_sink p n) e q)

  holds : node_holds x ≡ false → Empties x.status x
  unfolding node_holds
  holds e = empties_of x.status x e

  pub node_fits : node_past_limits x ≡ false → node_wrong_parent p n x ≡ false → node_time_past steps x ≡ false → node_time_zero x ≡ false → node_maker_wrong p n x ≡ false → log_wrong p n x ≡ false → set_wrong p n x ≡ false
      → held_not_passed p n x ≡ false → mark_missing x ≡ false → mark_on_end p n x ≡ false → node_holds x ≡ false → NodeFits p steps n x
  node_fits few parent past zeros maker log set passed mark end hold =
      let (a, b, c, limits) = counts few in
      let (named, parents) = named-parents parent in
      let other : (t : ℕ) → In t (node_other_times x) → t ≤ steps = λ t i. times_in past t (in_right (node_named_times x) i) in
      let of-targets : (t : Target) → In t x.targets → (u : ℕ) → In u (target_times t) → u ≤ steps = λ t i u j. other u (there (in_right (map entry_time x.log) (in_joined j (in_map target_times i)))) in
      let both : (t : ℕ) → In t (node_named_times x) → (0 < t) × (t ≤ steps) = λ t i. (times_above zeros t i, times_in past t (in_left (node_other_times x) i)) in
      record {
        log_few = a;
        held_few = b;
        targets_few = c;
        entries = λ e i. record {
          limits = limits e i;
          origin = origin_fits p steps n e.origin (named e i).0 (makers maker e i).0 (λ t j. both t (in_named x i (in_left (origin_times e.before) j)));
          before = before_fits p steps e.origin e.before (named e i).1 (makers maker e i).1 (λ t j. both t (in_named x i (in_right (origin_times e.origin) j)));
        };
        targets = λ t i. record { parent = parents t i; time = of-targets t i t.time here; parent_time = of-targets t i t.parent_time (there here) };
        time = other x.time here;
        rises = (log_rises_lem log).0;
        within = (log_rises_lem log).1;
        sets = sets_right set;
        passed = all_passed passed;
        unmarked = marks mark;
        between = ends end;
        empties = holds hold;
      }

  -- The other way.
  module _ (f : NodeFits p steps n x) where
    pub few_enough : node_past_limits x ≡ false
    unfolding node_past_limits
    few_enough =
        rw (
          le-ltb log_limit (length x.log) f.log_few,
          le-ltb held_limit (length x.held) f.held_few,
          le-ltb target_limit (length x.targets) f.targets_few,
        )
        (none_by (λ (e : Entry). record_past_limits e.what) (worked_on x) (λ e i. (f.entries e i).limits))

    pub right_parents : node_wrong_parent p n x ≡ false
    unfolding node_wrong_parent
    right_parents =
        rw (
          none_by (λ (e : Entry). not_parent p n e.origin || before_not_parent p e.origin e.before) (worked_on x) (λ e i. rw (fits_parent p steps n e.origin (f.entries e i).origin, before_parent p steps e.origin e.before (f.entries e i).before)),
          none_by (λ (t : Target). not (is_parent p n t.parent)) x.targets (λ t i. ap not (f.targets t i).parent),
        )

    named_times : (t : ℕ) → In t (node_named_times x) → (0 < t) × (t ≤ steps)
    named_times t i =
        let (e, j, k) = named_in x i in
        elim (append_in (origin_times e.origin) k) [
          | inl h ↦ fits_times p steps n e.origin (f.entries e j).origin t h
          | inr h ↦ before_times p steps e.origin e.before (f.entries e j).before t h
        ]

    of-target : (u : Target) → TargetFits p steps n u → (t : ℕ) → In t (target_times u) → t ≤ steps
    of-target u g t i = elim (in_first i) [
      | inl q ↦ omega (arith, g.time)
      | inr j ↦ elim (in_first j) [ inl q ↦ omega (arith, g.parent_time) | inr k ↦ absurd (in_none k) ]
    ]

    other_times : (t : ℕ) → In t (node_other_times x) → t ≤ steps
    other_times t i = elim (in_first i) [
      | inl q ↦ omega (arith, f.time)
      | inr j ↦ elim (append_in (map entry_time x.log) j) [
        | inl k ↦ (let (e, a, q) = map_in entry_time x.log k in let b = within_in entry_time f.within a in omega (arith, f.time))
        | inr k ↦
            (let (ts, a, h) = joined_in (map target_times x.targets) k in
            let (u, b, q) = map_in target_times x.targets a in
            of-target u (f.targets u b) t (subst (λ (z : List ℕ). In t z) q h))
      ]
    ]

    pub within-steps : node_time_past steps x ≡ false
    unfolding node_time_past
    within-steps = none_by (ltb steps) (node_named_times x ++ node_other_times x)
        (λ t i. le-ltb steps t (elim (append_in (node_named_times x) i) [ inl j ↦ (named_times t j).1 | inr j ↦ other_times t j ]))

    pub above_zero : node_time_zero x ≡ false
    unfolding node_time_zero
    above_zero = none_by (eqb 0) (node_named_times x) (λ t i. ne_eqb 0 t (λ q. (let h = (named_times t i).0 in omega arith)))

    pub right_makers : node_maker_wrong p n x ≡ false
    unfolding node_maker_wrong
    right_makers =
        none_by (λ (e : Entry). origin_wrong p n e.origin || before_wrong p e.origin e.before) (worked_on x)
        (λ e i. rw (fits_maker p steps n e.origin (f.entries e i).origin, before_maker p steps e.origin e.before (f.entries e i).before))

    pub log_right : log_wrong p n x ≡ false
    unfolding log_wrong
    log_right = rw (of_log p n f.rises, of-within entry_time f.within)

    pub right_sets : set_wrong p n x ≡ false
    unfolding set_wrong
    right_sets = none_by (λ (c : Entry). not (eqb c.set (set_of p n c.what))) x.log (λ c i. ap not (eq-eqb c.set (set_of p n c.what) (f.sets c i)))

    pub held_passed : held_not_passed p n x ≡ false
    unfolding held_not_passed
    held_passed = none_by (λ (h : Held). not (passed_on p n h.what)) x.held (λ h i. ap not (f.passed h i))

    pub mark_there : mark_missing x ≡ false
    unfolding mark_missing
    mark_there = says_mark x.status x.crashed f.unmarked

    pub end_bare : mark_on_end p n x ≡ false
    unfolding mark_on_end
    end_bare = by_unless x.crashed (is_source p n || is_sink p n) (λ q. rw ((f.between q).0, (f.between q).1))

    pub holds-none : node_holds x ≡ false
    unfolding node_holds
    holds-none = of_empties x.status x f.empties
