-- Held times rise in each row exactly if they do in the one pass that keeps each row's last time.
use Prim.Native.Nat.{ℕ, zero, suc, ◌<◌}
use mathlib.Core.Path.{◌≡◌, refl, sym, ap, subst, ◌∙◌}
use mathlib.Core.Logic.{◌≢◌}
use mathlib.Core.Bool.{Bool, true, false, not, ◌||◌, true≢false}
use mathlib.Core.List.{List, [], ◌∷◌, map}
use mathlib.Core.Option.{Option, none, some}
use native.Mathlib.Omega.{arith}
use native.Mathlib.Decide.{ℕ_discrete}
use lib.ListN.{length, get_or, set, replicate, length-set, length-replicate}
use lib.Seq.{get_or-set_same, get_or-set_other}
use lib.Dec.{ltb, eqb}
use borrow.Author.Tests.{eq-eqb, ne_eqb, not-false}
use Rattle.basics.specs.Bools.{both_true}
use Rattle.plan.specs.Plan.{channel_at, node_count, entering}
use Rattle.rules.specs.Lists.{keep, keep_one, any_of}
use Rattle.rules.specs.Line.{Held, Line, node_at}
use Rattle.rules.specs.Replay.{held_by_row}
use Rattle.rules.specs.Damaged.{is_parent, rises, held_wrong}
use Rattle.rules.proofs.Lists.Members.{In, here, there, none_any}
use Rattle.rules.proofs.Line.Joins.{entering_in}
use Rattle.items.specs.Items.{from_sender, if_found, held_rise, none_held}
use Rattle.items.proofs.Tests.{opposite, each_none}
use Rattle.items.proofs.Lookup.{found_in}
use Rattle.items.proofs.Origins.{Formed, parent_found}

-- The held times of a parent's row.
abbrev row_times : ℕ → List Held → List ℕ
row_times a hs = map (λ (h : Held). h.time) (keep (λ (h : Held). eqb h.sender a) hs)

row_own : (h : Held) (hs : List Held) (a : ℕ) → h.sender ≡ a → row_times a (h ∷ hs) ≡ h.time ∷ row_times a hs
row_own h hs a e = ap (λ (t : Bool). map (λ (h : Held). h.time) (keep_one t h (keep (λ (h : Held). eqb h.sender a) hs))) (eq-eqb h.sender a e)

row_other : (h : Held) (hs : List Held) (a : ℕ) → h.sender ≢ a → row_times a (h ∷ hs) ≡ row_times a hs
row_other h hs a d = ap (λ (t : Bool). map (λ (h : Held). h.time) (keep_one t h (keep (λ (h : Held). eqb h.sender a) hs))) (ne_eqb h.sender a d)

abbrev RowRises : List ℕ → ℕ → List Held → Type 0
RowRises last a hs = rises (get_or last a 0) (row_times a hs) ≡ true

-- The rows of what is left, once the first is taken, by the last times kept.
module _ (last : List ℕ) (h : Held) (hs : List Held) (inside : h.sender < length last) where
  abbrev kept : List ℕ
  kept = set last h.sender h.time

  kept_own : (a : ℕ) → h.sender ≡ a → get_or kept a 0 ≡ h.time
  kept_own a e = ap (λ (x : ℕ). get_or kept x 0) (sym e) ∙ get_or-set_same last h.sender h.time 0 inside

  kept_other : (a : ℕ) → h.sender ≢ a → get_or kept a 0 ≡ get_or last a 0
  kept_other a d = get_or-set_other last h.sender a h.time 0 (λ q. d (sym q))

  row_more : (a : ℕ) → ltb (get_or last h.sender 0) h.time ≡ true → RowRises kept a hs → RowRises last a (h ∷ hs)
  row_more a late r = elim (ℕ_discrete h.sender a) [
    | yes e ↦ rw (row_own h hs a e) (rw (ap (λ (x : ℕ). ltb (get_or last x 0) h.time) (sym e) ∙ late) (ap (λ (x : ℕ). rises x (row_times a hs)) (sym (kept_own a e)) ∙ r))
    | no d ↦ rw (row_other h hs a d) (ap (λ (x : ℕ). rises x (row_times a hs)) (sym (kept_other a d)) ∙ r)
  ]

  row_less : (a : ℕ) → RowRises last a (h ∷ hs) → RowRises kept a hs
  row_less a r = elim (ℕ_discrete h.sender a) [
    | yes e ↦ ap (λ (x : ℕ). rises x (row_times a hs)) (kept_own a e) ∙ (both_true (ltb (get_or last a 0) h.time) (rises h.time (row_times a hs)) (ap (rises (get_or last a 0)) (sym (row_own h hs a e)) ∙ r)).1
    | no d ↦ ap (λ (x : ℕ). rises x (row_times a hs)) (kept_other a d) ∙ ap (rises (get_or last a 0)) (sym (row_other h hs a d)) ∙ r
  ]

  row_late : RowRises last h.sender (h ∷ hs) → ltb (get_or last h.sender 0) h.time ≡ true
  row_late r = (both_true (ltb (get_or last h.sender 0) h.time) (rises h.time (row_times h.sender hs)) (ap (rises (get_or last h.sender 0)) (sym (row_own h hs h.sender refl)) ∙ r)).0

  kept_long : (x : ℕ) → x < length last → x < length kept
  kept_long x k = rw (length-set last h.sender h.time) k

pub held_rows : (last : List ℕ) (hs : List Held) → ((h : Held) → In h hs → h.sender < length last) → held_rise last hs ≡ true → (a : ℕ) → RowRises last a hs
held_rows last [] inside e a = refl
held_rows last (h ∷ hs) inside e a =
    let (late, rest) = both_true (ltb (get_or last h.sender 0) h.time) (held_rise (set last h.sender h.time) hs) e in
    row_more last h hs (inside h here) a late (held_rows (set last h.sender h.time) hs (λ x i. kept_long last h hs (inside h here) x.sender (inside x (there i))) rest a)

pub rows_held : (last : List ℕ) (hs : List Held) → ((h : Held) → In h hs → h.sender < length last) → (Row : ℕ → Type 0) → ((h : Held) → In h hs → Row h.sender) → ((a : ℕ) → Row a → RowRises last a hs) → held_rise last hs ≡ true
rows_held last [] inside Row own rows = refl
rows_held last (h ∷ hs) inside Row own rows =
    rw (
      row_late last h hs (inside h here) (rows h.sender (own h here)),
      rows_held (set last h.sender h.time) hs (λ x i. kept_long last h hs (inside h here) x.sender (inside x (there i))) Row (λ x i. own x (there i)) (λ a k. row_less last h hs (inside h here) a (rows a k)),
    )

-- The rows of the replay table, one for each entering channel.
any_row : (f : List Held → Bool) (hs : List Held) (l : Line) (cs : List ℕ) → any_of f (held_by_row hs l cs) ≡ any_of (λ (c : ℕ). f (keep (λ (h : Held). eqb h.sender (channel_at l.plan c).sender) hs)) cs
any_row f hs l [] = refl
any_row f hs l (c ∷ cs) = ap (λ (t : Bool). f (keep (λ (h : Held). eqb h.sender (channel_at l.plan c).sender) hs) || t) (any_row f hs l cs)

none_kept : (n a : ℕ) → get_or {A = ℕ} (replicate n 0) a 0 ≡ 0
none_kept zero a = refl
none_kept (suc n) zero = refl
none_kept (suc n) (suc a) = none_kept n a

at_first : (a : ℕ) → get_or none_held a 0 ≡ 0
unfolding none_held
at_first a = none_kept 12 a

module _ (l : Line) (line : Formed l) (n : ℕ) (inside : n < node_count l.plan) where
  abbrev held : List Held
  held = (node_at l n).held

  parent_channel : (s : ℕ) → is_parent l.plan n s ≡ true → (b : ℕ) × In b (entering l.plan n) × ((channel_at l.plan b).sender ≡ s)
  parent_channel s e = one (from_sender l.plan s (entering l.plan n)) refl (sym (parent_found l.plan n s) ∙ e)
    where
      one : (o : Option ℕ) → from_sender l.plan s (entering l.plan n) ≡ o → if_found o (λ (b : ℕ). true) ≡ true → (b : ℕ) × In b (entering l.plan n) × ((channel_at l.plan b).sender ≡ s)
      one none q k = absurd (true≢false (sym k))
      one (some b) q k = let (i, from) = found_in l.plan s (entering l.plan n) b q in (b, i, from)

  parent_below : (s : ℕ) → is_parent l.plan n s ≡ true → s < length none_held
  unfolding none_held
  parent_below s e =
      let (b, i, from) = parent_channel s e in
      let (on, into) = entering_in l.plan n b i in
      omega (arith, line.ordered.forward b on, line.few, length-replicate {A = ℕ} 12 0)

  abbrev row_wrong : ℕ → Bool
  row_wrong c = not (rises 0 (row_times (channel_at l.plan c).sender held))

  rows_wrong : held_wrong l n ≡ any_of row_wrong (entering l.plan n)
  unfolding held_wrong
  rows_wrong = any_row (λ (hs : List Held). not (rises 0 (map (λ (h : Held). h.time) hs))) held l (entering l.plan n)

  module _ (own : (h : Held) → In h held → is_parent l.plan n h.sender ≡ true) where
    below : (h : Held) → In h held → h.sender < length none_held
    below h i = parent_below h.sender (own h i)

    row_rises : any_of row_wrong (entering l.plan n) ≡ false → (a : ℕ) → is_parent l.plan n a ≡ true → RowRises none_held a held
    row_rises e a k =
        let (b, i, from) = parent_channel a k in
        ap (λ (x : ℕ). rises x (row_times a held)) (at_first a) ∙ subst (λ (x : ℕ). rises 0 (row_times x held) ≡ true) from (not-false (rises 0 (row_times (channel_at l.plan b).sender held)) (none_any row_wrong e i))

    row_right : held_rise none_held held ≡ true → (c : ℕ) → row_wrong c ≡ false
    row_right e c =
        let a = (channel_at l.plan c).sender in
        ap not (ap (λ (x : ℕ). rises x (row_times a held)) (sym (at_first a)) ∙ held_rows none_held held below e a)

    pub held_opposite : held_wrong l n ≡ not (held_rise none_held held)
    held_opposite =
        rows_wrong
        ∙ opposite (any_of row_wrong (entering l.plan n)) (held_rise none_held held)
        (λ e. rows_held none_held held below (λ a. is_parent l.plan n a ≡ true) own (row_rises e))
        (λ e. each_none row_wrong (entering l.plan n) (λ c i. row_right e c))
