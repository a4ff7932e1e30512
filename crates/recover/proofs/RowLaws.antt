-- Targets that conflict, and the rows that they leave, one by one.
use Prim.Native.Nat.{ℕ, suc, ◌+◌, ◌≤◌, ◌<◌}
use mathlib.Core.Path.{◌≡◌, refl, sym, ap, ap₂, ◌∙◌}
use mathlib.Core.Bool.{Bool, true, false, not, ◌&&◌, ◌||◌, or_assoc, or-false, and_assoc, and-true}
use mathlib.Core.List.{List, [], ◌∷◌, ◌++◌}
use native.Mathlib.Numerals.{add-one}
use lib.Dec.{leb, eqb}
use lib.ListN.{length, get_or, drop, drop_of_length-le}
use lib.Seq.{drop-cons}
use Rattle.std.specs.List.{list_any}
use Rattle.plan.specs.declared.Channel.{Channel}
use Rattle.plan.specs.Plan.{Plan, plan_of, plan_channels, channel_at, entering}
use Rattle.plan.proofs.PlanLaws.{channel_count_lem}
use Rattle.rules.specs.Lists.{keep_one, all_of, any_of}
use Rattle.rules.specs.Line.{Target, Line}
use Rattle.rules.specs.Recover.{clash, conflict, restored, row_goal}
use Rattle.state.specs.State.{line_of}
use Rattle.state.proofs.InPlace.{line-plan}
use Rattle.buffer.specs.Rows.{rows_long, Rows}
use Rattle.slots.specs.declared.Goal.{Goal}
use Rattle.slots.specs.Slots.{target_is}
use Rattle.recover.specs.Found.{targets_in, row_reached, row_in, rows_in}
use Rattle.recover.proofs.ChildLaws.{numbers_to, numbers_turn, numbers_whole}

-- ---- the first of a list that passes a test

pub any_turn : {A : Type 0} (f : A → Bool) (xs : List A) (d : A) (found : Bool) (j : ℕ) → j < length xs → (found || any_of f (drop j xs)) ≡ ((found || f (get_or xs j d)) || any_of f (drop (j + 1) xs))
any_turn f xs d found j h = rw (add-one j, drop-cons xs j d h) (sym (or_assoc found (f (get_or xs j d)) (any_of f (drop (suc j) xs))))

pub any_end : {A : Type 0} (f : A → Bool) (xs : List A) (found : Bool) (j : ℕ) → length xs ≤ j → (found || any_of f (drop j xs)) ≡ found
any_end f xs found j h = rw (drop_of_length-le xs {i = j} h) (or-false found)

-- ---- the rows

all_snoc : {A : Type 0} (f : A → Bool) (xs : List A) (t : Bool) (x : A) → all_of f (xs ++ keep_one t x []) ≡ (all_of f xs && (not t || f x))
all_snoc f [] true x = and-true (f x)
all_snoc f [] false x = refl
all_snoc f (y ∷ xs) t x = ap (λ (b : Bool). f y && b) (all_snoc f xs t x) ∙ sym (and_assoc (f y) (all_of f xs) (not t || f x))

-- The rows of the channels before b.
abbrev pub rows_to : List ℕ → ℕ → List Target → ℕ → Bool
rows_to s n ts b = all_of (λ (c : ℕ). row_in (line_of s) n ts (channel_at (plan_of s) c).sender) (numbers_to (plan_of s) (λ (c : Channel). eqb c.receiver n) b)

pub rows_turn : (s : List ℕ) (n : ℕ) (ts : List Target) (b : ℕ) → b < plan_channels s
    → rows_to s n ts (b + 1) ≡ (rows_to s n ts b && (not (eqb (channel_at (plan_of s) b).receiver n) || row_in (line_of s) n ts (channel_at (plan_of s) b).sender))
rows_turn s n ts b h =
    let row : ℕ → Bool = λ c. row_in (line_of s) n ts (channel_at (plan_of s) c).sender in
    let enters : Channel → Bool = λ c. eqb c.receiver n in
    ap (all_of row) (numbers_turn (plan_of s) enters b (rw channel_count_lem h)) ∙ all_snoc row (numbers_to (plan_of s) enters b) (enters (channel_at (plan_of s) b)) b

pub rows_whole : (s : List ℕ) (n : ℕ) (ts : List Target) (b : ℕ) → plan_channels s ≤ b → rows_to s n ts b ≡ rows_in (line_of s) n ts
unfolding entering
rows_whole s n ts b h =
    let row : ℕ → Bool = λ c. row_in (line_of s) n ts (channel_at (plan_of s) c).sender in
    ap (all_of row) (numbers_whole (plan_of s) (λ (c : Channel). eqb c.receiver n) b (rw channel_count_lem h))
    ∙ ap (λ (p : Plan). all_of (λ (c : ℕ). row_in (line_of s) n ts (channel_at p c).sender) (entering p n)) (sym (line-plan s))

-- A parent's row by what its goal and its restored entry are.
pub row_same : (l : Line) (n : ℕ) (ts : List Target) (goals entries : List ℕ) (q : ℕ) → Rows goals (row_goal ts) → Rows entries (restored l n) → q < rows_long → row_reached goals entries q ≡ row_in l n ts q
row_same l n ts goals entries q a b h = ap₂ leb (a.each q h) (b.each q h)

pub record RowsBefore (s : List ℕ) (n : ℕ) (goals : List ℕ) (ok : Bool) (b : ℕ) : Type 0 where
  pub within : b ≤ plan_channels s
  pub now : (ts : List Target) → Rows goals (row_goal ts) → ok ≡ rows_to s n ts b

-- A test of targets, asked of what stands in a slice.
pub any_in : (f : Target → Bool) (gs : List Goal) → list_any (λ g. f (target_is g)) gs ≡ any_of f (targets_in gs)
any_in f [] = refl
any_in f (g ∷ gs) = ap (λ (b : Bool). f (target_is g) || b) (any_in f gs)

-- Targets that begin with one that clashes with one behind it, and with one that doesn't.
pub conflict_here : (gs : List Goal) (g : Goal) (behind : List Goal) → gs ≡ g ∷ behind → list_any (λ h. clash (target_is g) (target_is h)) behind ≡ true → conflict (targets_in gs) ≡ true
conflict_here gs g behind is e = rw (is, sym (any_in (clash (target_is g)) behind) ∙ e)

pub conflict_behind : (gs : List Goal) (g : Goal) (behind : List Goal) → gs ≡ g ∷ behind → list_any (λ h. clash (target_is g) (target_is h)) behind ≡ false → conflict (targets_in gs) ≡ conflict (targets_in behind)
conflict_behind gs g behind is e = rw (is, sym (any_in (clash (target_is g)) behind) ∙ e)
