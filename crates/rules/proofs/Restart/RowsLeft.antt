-- How far a replay has to go: for each incomplete row, the messages that are still to be taken and those still to be sent.
use Prim.Native.Nat.{ℕ, suc, ◌+◌, ◌*◌, ◌<◌, ◌≤◌}
use mathlib.Core.Path.{◌≡◌, refl, sym, ap, ap₂, subst}
use mathlib.Core.Logic.{◌≢◌}
use mathlib.Core.Bool.{Bool, true, false, cond, ◌&&◌}
use mathlib.Core.List.{List, [], ◌∷◌, map}
use native.Mathlib.Omega.{arith}
use native.Mathlib.Decide.{ℕ_discrete}
use lib.ListN.{length, length-map}
use lib.Dec.{ltb, leb}
use borrow.Author.Tests.{lt-ltb, le-ltb, ltb-true}
use Rattle.plan.specs.declared.Channel.{Channel}
use Rattle.plan.specs.Layout.{sum_of}
use Rattle.plan.specs.Channel.{takes}
use Rattle.plan.specs.Plan.{channel_at, entering}
use Rattle.rules.specs.Lists.{keep_one, keep}
use Rattle.rules.specs.Line.{log_limit, Message, Entry, Node, Lane, Line, node_at, lane_at}
use Rattle.rules.specs.Clock.{message_of}
use Rattle.rules.specs.Recover.{row_goal, row_complete}
use Rattle.rules.specs.Restart.{later_on, row_steps, replay_steps}
use Rattle.rules.proofs.Lists.Rising.{past}
use Rattle.rules.proofs.Lists.Members.{In, here, there}
use Rattle.rules.proofs.Lists.Counts.{keep_short, keep_one_fewer}
use Rattle.rules.proofs.Histories.Ghost.{takes_message, log_put}
use Rattle.rules.proofs.Invariant.Inv.{time_of}
use Rattle.rules.proofs.Invariant.Stays.{moved}

-- A sum over some channels.
abbrev pub total : (ℕ → ℕ) → List ℕ → ℕ
total f bs = sum_of (map f bs)

total_most : (f : ℕ → ℕ) (k : ℕ) (bs : List ℕ) → ((b : ℕ) → In b bs → f b ≤ 128) → length bs ≤ k → total f bs ≤ 128 * k
total_most f k bs h l = let short = most bs h in omega arith
  where
    most : (bs : List ℕ) → ((b : ℕ) → In b bs → f b ≤ 128) → total f bs ≤ 128 * length bs
    most [] h = omega arith
    most (b ∷ bs) h = let first = h b here in let ih = most bs (λ c i. h c (there i)) in omega arith

total_same : (f g : ℕ → ℕ) (bs : List ℕ) → ((c : ℕ) → In c bs → f c ≤ g c) → total f bs ≤ total g bs
total_same f g [] h = omega arith
total_same f g (b ∷ bs) h = let first = h b here in let ih = total_same f g bs (λ c i. h c (there i)) in omega arith

pub total_less : (f g : ℕ → ℕ) {b : ℕ} {bs : List ℕ} → ((c : ℕ) → In c bs → f c ≤ g c) → In b bs → f b < g b → total f bs < total g bs
total_less f g h (here {xs = bs}) l = let rest = total_same f g bs (λ c i. h c (there i)) in omega arith
total_less f g h (there {y = c} {xs = bs} i) l = let first = h c here in let ih = total_less f g (λ d j. h d (there j)) i l in omega arith

-- A row, by whether it is complete, its entry, its mark and what its sender has logged for it.
abbrev pub left_by : Bool → ℕ → ℕ → List Message → ℕ
left_by complete taken mark log = cond complete 0 (length (past time_of taken log) + length (past time_of mark log))

abbrev pub row_left : Line → ℕ → ℕ → ℕ
row_left l n b = left_by (row_complete l n b) (lane_at l b).taken (lane_at l b).mark (log_put l b)

abbrev pub rows_left : Line → ℕ → ℕ
rows_left l n = total (row_left l n) (entering l.plan n)

-- What lies past a later time, where a message lies between the two.
pub past_less : (m : Message) (j k : ℕ) (log : List Message) → j < m.time → m.time ≤ k → In m log → length (past time_of k log) < length (past time_of j log)
past_less m j k log h l i =
    keep_one_fewer (λ (x : Message). ltb k x.time) (λ (x : Message). ltb j x.time) (λ x _ e. lt-ltb j x.time (omega (arith, ltb-true k x.time e))) i (le-ltb k m.time l) (lt-ltb j m.time h)

-- Less is left of an incomplete row where a message was taken, or sent.
module _ (m : Message) (taken mark : ℕ) (log : List Message) (i : In m log) (now : Bool) where
  pub taken_less : taken < m.time → left_by now m.time mark log < left_by false taken mark log
  taken_less h = one now (past_less m taken m.time log h (omega arith) i)
    where
      one : (t : Bool) → length (past time_of m.time log) < length (past time_of taken log) → left_by t m.time mark log < left_by false taken mark log
      one true l = omega arith
      one false l = omega arith

  pub sent_less : mark < m.time → left_by now taken m.time log < left_by false taken mark log
  sent_less h = one now (past_less m mark m.time log h (omega arith) i)
    where
      one : (t : Bool) → length (past time_of m.time log) < length (past time_of mark log) → left_by t taken m.time log < left_by false taken mark log
      one true l = omega arith
      one false l = omega arith

-- A replay in another line with the same plan.
module _ (l : Line) (steps : List ℕ) (nodes : List Node) (lanes : List Lane) (n : ℕ) (targets : (node_at (moved l steps nodes lanes) n).targets ≡ (node_at l n).targets) where
  abbrev k : Line
  k = moved l steps nodes lanes

  pub log_same : (c : ℕ) → node_at k (channel_at l.plan c).sender ≡ node_at l (channel_at l.plan c).sender → log_put k c ≡ log_put l c
  unfolding log_put
  log_same c same = ap (λ (x : Node). keep (takes_message l.plan c) (map message_of x.log)) same

  left_same : (c : ℕ) → node_at k (channel_at l.plan c).sender ≡ node_at l (channel_at l.plan c).sender → (lane_at k c).taken ≡ (lane_at l c).taken → (lane_at k c).mark ≡ (lane_at l c).mark → row_left k n c ≡ row_left l n c
  unfolding row_complete
  left_same c sender taken mark = λ i. left_by (leb (row_goal (targets i) (channel_at l.plan c).sender) (taken i)) (taken i) (mark i) (log_same c sender i)

  -- One row has less left, and the others are as they were.
  pub less_left : {b : ℕ} → In b (entering l.plan n) → ((c : ℕ) → In c (entering l.plan n) → node_at k (channel_at l.plan c).sender ≡ node_at l (channel_at l.plan c).sender)
      → ((c : ℕ) → In c (entering l.plan n) → c ≢ b → lane_at k c ≡ lane_at l c) → row_left k n b < row_left l n b → rows_left k n < rows_left l n
  less_left {b} i senders others less =
      total_less (row_left k n) (row_left l n)
      (λ c j. elim (ℕ_discrete c b) [
        | yes q ↦ subst (λ (x : ℕ). row_left k n x ≤ row_left l n x) (sym q) (omega (arith, less))
        | no d ↦ (let same = others c j d in omega (arith, left_same c (senders c j) (ap (λ (x : Lane). x.taken) same) (ap (λ (x : Lane). x.mark) same)))
      ])
      i less

-- What is left is what the statement counts, entry by entry of the sender's log.
later_is : (c : Channel) (t : ℕ) (log : List Entry) → length (keep (λ (e : Entry). ltb t e.time && takes c e.what) log) ≡ length (past time_of t (keep (λ (m : Message). takes c m.what) (map message_of log)))
later_is c t [] = refl
later_is c t (e ∷ log) = one (ltb t e.time) (takes c e.what) refl (later_is c t log)
  where
    one : (late fits : Bool) → ltb t e.time ≡ late → length (keep (λ (d : Entry). ltb t d.time && takes c d.what) log) ≡ length (past time_of t (keep (λ (m : Message). takes c m.what) (map message_of log)))
        → length (keep_one (late && fits) e (keep (λ (d : Entry). ltb t d.time && takes c d.what) log)) ≡ length (past time_of t (keep_one fits (message_of e) (keep (λ (m : Message). takes c m.what) (map message_of log))))
    one true true q ih = rw q (ap suc ih)
    one false true q ih = rw q ih
    one true false q ih = ih
    one false false q ih = ih

pub steps_left : (l : Line) (n : ℕ) → replay_steps l n ≡ rows_left l n
unfolding log_put
steps_left l n = sums (entering l.plan n)
  where
    at : (b t : ℕ) → later_on l b t ≡ length (past time_of t (log_put l b))
    at b t = later_is (channel_at l.plan b) t (node_at l (channel_at l.plan b).sender).log

    sums : (bs : List ℕ) → total (row_steps l n) bs ≡ total (row_left l n) bs
    sums [] = refl
    sums (b ∷ bs) = ap₂ (λ (x y : ℕ). x + y) (ap₂ (λ (x y : ℕ). cond (row_complete l n b) 0 (x + y)) (at b (lane_at l b).taken) (at b (lane_at l b).mark)) (sums bs)

-- At most 64 Takes and 64 Sends a row.
module _ (l : Line) (logs : (n : ℕ) → length (node_at l n).log ≤ log_limit) where
  log_short : (b k : ℕ) → length (past time_of k (log_put l b)) ≤ log_limit
  unfolding log_put
  log_short b k =
      let log = (node_at l (channel_at l.plan b).sender).log in
      omega (
        arith,
        keep_short (λ (x : Message). ltb k x.time) (log_put l b),
        keep_short (takes_message l.plan b) (map message_of log),
        length-map log message_of,
        logs (channel_at l.plan b).sender,
      )

  row_most : (n b : ℕ) → row_left l n b ≤ 128
  row_most n b = one (row_complete l n b)
    where
      one : (t : Bool) → left_by t (lane_at l b).taken (lane_at l b).mark (log_put l b) ≤ 128
      one true = omega arith
      one false = omega (arith, log_short b (lane_at l b).taken, log_short b (lane_at l b).mark)

  -- Four rows.
  pub steps-most : (n : ℕ) → length (entering l.plan n) ≤ 4 → replay_steps l n ≤ 512
  steps-most n rows = omega (arith, steps_left l n, total_most (row_left l n) 4 (entering l.plan n) (λ b i. row_most n b) rows)
