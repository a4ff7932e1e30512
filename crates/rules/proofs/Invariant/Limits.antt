-- The limits that a line keeps: its logs, and its times by the steps counted; and that a replay ends once its rows are complete.
use Prim.Native.Nat.{ℕ, ◌+◌, ◌<◌, ◌≤◌}
use mathlib.Core.Path.{◌≡◌, ap, subst, sym, ◌∙◌}
use mathlib.Core.Logic.{◌≢◌, inl, inr}
use mathlib.Core.Bool.{false}
use mathlib.Core.List.{List, map}
use native.Mathlib.Omega.{arith}
use native.Mathlib.Decide.{ℕ_discrete}
use lib.ListN.{length}
use lib.Dec.{leb}
use Rattle.plan.specs.Plan.{channel_at, channel_count, entering, leaving}
use Rattle.rules.specs.Line.{log_limit, step_limit, console_count, steps_from, accepted_steps, Target, replay, Node, Lane, Line, node_at, lane_at, counted}
use Rattle.rules.specs.Recover.{child_times, high_of, row_goal, row_complete, rows_complete}
use Rattle.rules.proofs.Lists.Members.{map_in, greatest_in}
use Rattle.rules.proofs.Line.Joins.{entering_in, leaving_in}
use Rattle.rules.proofs.Line.Consoles.{CountsFit, more_fit, counts_rise}
use Rattle.rules.proofs.Invariant.Inv.{Enters}
use Rattle.rules.proofs.Invariant.Stays.{moved}
use Rattle.rules.proofs.Undamaged.Restored.{all_same}

-- The counts and the logs are within their limits, and no time is past the steps counted and a few more.
pub record Limits (more : ℕ) (l : Line) : Type 0 where
  pub counts : CountsFit l.steps
  pub logs : (n : ℕ) → length (node_at l n).log ≤ log_limit
  pub times : (n : ℕ) → (node_at l n).time ≤ accepted_steps l + more
  pub entries : (b : ℕ) → b < channel_count l.plan → (lane_at l b).taken ≤ accepted_steps l + more

-- While node n replays, some row is not complete.
abbrev pub OpenAt : Line → ℕ → Type 0
OpenAt l n = (node_at l n).status ≡ replay → rows_complete l n ≡ false

pub record Steady (more : ℕ) (l : Line) : Type 0 where
  pub limits : Limits more l
  pub open_rows : (n : ℕ) → OpenAt l n

-- One more step counted, of a console that has steps left.
pub counted_steady : {l : Line} (c : ℕ) → c < console_count → steps_from l c < step_limit → Steady 1 l → Steady 0 (counted c l)
unfolding counted rows_complete row_complete
counted_steady {l} c inside left s =
    let fits = s.limits.counts in
    let rise = counts_rise fits inside left in
    record {
      limits = record { counts = more_fit fits inside left; logs = s.limits.logs; times = λ n. omega (arith, rise, s.limits.times n); entries = λ b h. omega (arith, rise, s.limits.entries b h) };
      open_rows = s.open_rows;
    }

-- No child's entry is past the limit, so high is not.
pub high_within : {more : ℕ} {l : Line} → Limits more l → (n : ℕ) → high_of l n ≤ accepted_steps l + more
unfolding high_of child_times
high_within {more} {l} s n =
    let times = map (λ (c : ℕ). (lane_at l c).taken) (leaving l.plan n) in
    elim (greatest_in times) [
      | inl z ↦ omega (arith, z)
      | inr i ↦ (let (c, j, q) = map_in (λ (c : ℕ). (lane_at l c).taken) (leaving l.plan n) i in omega (arith, q, s.entries c (leaving_in l.plan n c j).0))
    ]

module _ (l : Line) (steps : List ℕ) (nodes : List Node) (lanes : List Lane) where
  abbrev k : Line
  k = moved l steps nodes lanes

  -- A replaying node's rows, where its targets and its entries are as they were.
  pub rows_same : (m : ℕ) → (node_at k m).targets ≡ (node_at l m).targets → ((b : ℕ) → Enters l.plan m b → (lane_at k b).taken ≡ (lane_at l b).taken) → rows_complete k m ≡ rows_complete l m
  unfolding rows_complete row_complete
  rows_same m targets entries =
      all_same (row_complete k m) (row_complete l m) (entering l.plan m) λ b i.
      ap (λ (ts : List Target). leb (row_goal ts (channel_at l.plan b).sender) (lane_at k b).taken) targets
      ∙ ap (leb (row_goal (node_at l m).targets (channel_at l.plan b).sender)) (entries b (entering_in l.plan m b i))

  pub open_stays : (m : ℕ) → (node_at k m).status ≡ (node_at l m).status → (node_at k m).targets ≡ (node_at l m).targets → ((b : ℕ) → Enters l.plan m b → (lane_at k b).taken ≡ (lane_at l b).taken) → OpenAt l m → OpenAt k m
  open_stays m status targets entries was e = rows_same m targets entries ∙ was (sym status ∙ e)

-- One node changes, and the entries stay within the limit.
pub limits_by : (l : Line) (nodes : List Node) (lanes : List Lane) (n : ℕ) → ((m : ℕ) → m ≢ n → node_at (moved l l.steps nodes lanes) m ≡ node_at l m)
    → length (node_at (moved l l.steps nodes lanes) n).log ≤ log_limit → (node_at (moved l l.steps nodes lanes) n).time ≤ accepted_steps l + 1
    → ((b : ℕ) → b < channel_count l.plan → (lane_at (moved l l.steps nodes lanes) b).taken ≤ accepted_steps l + 1) → {more : ℕ} → more ≤ 1 → Limits more l → Limits 1 (moved l l.steps nodes lanes)
limits_by l nodes lanes n other log time entries {more} h s =
    record {
      counts = s.counts;
      logs = λ m. elim (ℕ_discrete m n) [
        | yes q ↦ subst (λ (x : ℕ). length (node_at (moved l l.steps nodes lanes) x).log ≤ log_limit) (sym q) log
        | no d ↦ rw (other m d) (s.logs m)
      ];
      times = λ m. elim (ℕ_discrete m n) [
        | yes q ↦ subst (λ (x : ℕ). (node_at (moved l l.steps nodes lanes) x).time ≤ accepted_steps l + 1) (sym q) time
        | no d ↦ rw (other m d) (omega (arith, s.times m))
      ];
      entries = entries;
    }
