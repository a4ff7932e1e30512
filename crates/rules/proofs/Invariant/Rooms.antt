-- The space of a crashed node: what keeps it, and the counts behind it.
use Prim.Native.Nat.{ℕ, ◌<◌, ◌≤◌}
use mathlib.Core.Path.{◌≡◌, refl, sym, ap, subst, ◌∙◌}
use mathlib.Core.Bool.{Bool, true, false, ◌&&◌, true≢false}
use mathlib.Core.List.{List, [], ◌∷◌, ◌++◌, map}
use native.Mathlib.Omega.{arith}
use native.Mathlib.Decide.{ℕ_discrete}
use lib.ListN.{length, length-map}
use lib.Dec.{ltb}
use borrow.Author.Tests.{lt-ltb, le-ltb, ltb-true, ltb-false}
use Rattle.basics.specs.Bools.{both_true}
use Rattle.plan.specs.Plan.{Plan}
use Rattle.rules.specs.Lists.{keep, keep_one}
use Rattle.rules.specs.Line.{log_limit, Message, Entry, Status, up, down, replay, Node, Lane, Line, node_at, lane_at, with_node}
use Rattle.rules.specs.Clock.{logged, message_of}
use Rattle.rules.specs.Replay.{passed_on}
use Rattle.rules.proofs.Lists.ListLaws.{keep_append, map-append}
use Rattle.rules.proofs.Lists.Rising.{past}
use Rattle.rules.proofs.Lists.Members.{In}
use Rattle.rules.proofs.Lists.Counts.{keep_short, keep_fewer}
use Rattle.rules.proofs.Histories.Witness.{Taken}
use Rattle.rules.proofs.Histories.Ghost.{Event, fed_at, took_at, Ghost, entry_of, input_of, sent_of, later, later_there, later_else}
use Rattle.rules.proofs.Histories.Passing.{passing, passing_append, goes_on}
use Rattle.rules.proofs.Line.LineLaws.{node_there, node_else}
use Rattle.rules.proofs.Invariant.Inv.{time_of, is_up, Enters, Leaves, log_passing, HasRoom, waits, takens, Room}
use Rattle.rules.proofs.Invariant.InvLaws.{took_enters, up_not_replay}
use Rattle.rules.proofs.Invariant.Stays.{moved}
use Rattle.rules.proofs.Invariant.Logging.{node_logs, log_there}

module _ (p : Plan) (n : ℕ) where
  waits-parts : (low : ℕ) (taken : ℕ → ℕ) (b : ℕ) (m : Message) (t : ℕ) → waits p n low taken (took_at b m t) ≡ true → (goes_on p n m ≡ true) × (low < t) × (taken b < m.time)
  waits-parts low taken b m t e =
      let (a, bc) = both_true (goes_on p n m) (ltb low t && ltb (taken b) m.time) e in
      let (d, c) = both_true (ltb low t) (ltb (taken b) m.time) bc in
      (a, ltb-true low t d, ltb-true (taken b) m.time c)

  pub still_waits : (low : ℕ) (taken : ℕ → ℕ) (b : ℕ) (m : Message) (t : ℕ) → goes_on p n m ≡ true → low < t → taken b < m.time → waits p n low taken (took_at b m t) ≡ true
  still_waits low taken b m t a d c = rw (a, lt-ltb low t d, lt-ltb (taken b) m.time c)

  pub waits_no_more : (low : ℕ) (taken : ℕ → ℕ) (b : ℕ) (m : Message) (t : ℕ) → m.time ≤ taken b → waits p n low taken (took_at b m t) ≡ false
  waits_no_more low taken b m t h = rw (le-ltb (taken b) m.time h) (one (goes_on p n m) (ltb low t))
    where
      one : (a d : Bool) → (a && (d && false)) ≡ false
      one false d = refl
      one true false = refl
      one true true = refl

  -- Higher entries leave less to wait for.
  pub waits_less : (low : ℕ) (old new : ℕ → ℕ) (es : List Event) → ((b : ℕ) (m : Message) (t : ℕ) → In (took_at b m t) es → old b ≤ new b)
      → (e : Event) → In e es → waits p n low new e ≡ true → waits p n low old e ≡ true
  waits_less low old new es h (fed_at r t) i e = e
  waits_less low old new es h (took_at b m t) i e =
      let (a, d, c) = waits-parts low new b m t e in
      let up = h b m t i in
      still_waits low old b m t a d (omega arith)

  -- What a replay waits for was passed on, past its low time.
  waits-sent : (low : ℕ) (taken : ℕ → ℕ) (e : Event) → waits p n low taken e ≡ true → (passed_on p n (sent_of p n e).what ≡ true) × (low < (sent_of p n e).time)
  waits-sent low taken (fed_at r t) e = absurd (true≢false (sym e))
  waits-sent low taken (took_at b m t) e = let (a, d, c) = waits-parts low taken b m t e in (a, d)

  pub waits_few : (low : ℕ) (taken : ℕ → ℕ) (es : List Event) → length (keep (waits p n low taken) es) ≤ length (past time_of low (passing p n es))
  waits_few low taken [] = omega arith
  waits_few low taken (e ∷ es) = one (waits p n low taken e) (passed_on p n x.what) (ltb low x.time) refl refl refl (waits_few low taken es)
    where
      x : Message
      x = sent_of p n e

      one : (r s t : Bool) → waits p n low taken e ≡ r → passed_on p n (sent_of p n e).what ≡ s → ltb low (sent_of p n e).time ≡ t
          → length (keep (waits p n low taken) es) ≤ length (past time_of low (passing p n es))
          → length (keep_one r e (keep (waits p n low taken) es)) ≤ length (past time_of low (keep_one s (sent_of p n e) (passing p n es)))
      one true true true a b c ih = rw c (omega arith)
      one true true false a b c ih = let no : ⊥ = omega (arith, (waits-sent low taken e a).1, ltb-false low (sent_of p n e).time c) in absurd no
      one true false t a b c ih = absurd (true≢false (sym (waits-sent low taken e a).0 ∙ b))
      one false true true a b c ih = rw c (omega arith)
      one false true false a b c ih = rw c ih
      one false false t a b c ih = ih

module _ (l : Line) (steps : List ℕ) (nodes : List Node) (lanes : List Lane) where
  abbrev k : Line
  k = moved l steps nodes lanes

  -- A node that is as it was, with its events, and the entries on its channels not lower.
  pub room_stays : (g g' : Ghost) (n : ℕ) → node_at k n ≡ node_at l n → g' n ≡ g n → Taken l.plan n (map input_of (g n))
      → ((c : ℕ) → Leaves l.plan n c → (lane_at l c).taken ≤ (lane_at k c).taken) → ((b : ℕ) → Enters l.plan n b → (lane_at l b).taken ≤ (lane_at k b).taken) → Room l g n → Room k g' n
  room_stays g g' n same events took out into r =
      record {
        least = r.least;
        below = λ c h. omega (arith, r.below c h, out c h);
        few = rw (same, events) r.few;
        held_few = λ e.
            (let old = r.held_few (ap (λ (x : Node). x.status) (sym same) ∙ e) in
            let less = keep_fewer (waits l.plan n (node_at l n).time (takens k)) (waits l.plan n (node_at l n).time (takens l)) (g n)
            (waits_less l.plan n (node_at l n).time (takens l) (takens k) (g n) (λ b m t i. into b (took_enters (g n) b m t took i))) in
            rw (same, events) (omega arith));
      }

-- No status leaves room for more than a log can hold.
pub room_most : (p : Plan) (n least : ℕ) (sent : List Message) (log : List Entry) (s : Status) → HasRoom p n least sent log s → length log ≤ log_limit → length (past time_of least sent) ≤ log_limit
room_most p n least sent log up e h =
    omega (arith, ap length e, keep_short (λ (m : Message). ltb least m.time) (log_passing p n log), keep_short (λ (m : Message). passed_on p n m.what) (map message_of log), length-map log message_of)
room_most p n least sent log down e h = e
room_most p n least sent log replay e h = e

-- What was passed on is no more than what was done.
pub passing_short : (p : Plan) (n least : ℕ) (es : List Event) → length (past time_of least (passing p n es)) ≤ length es
passing_short p n least es =
    let ms = map (sent_of p n) es in
    omega (arith, keep_short (λ (m : Message). ltb least m.time) (passing p n es), keep_short (λ (m : Message). passed_on p n m.what) ms, length-map es (sent_of p n))

-- One more event, in the log too.
room_more : (p : Plan) (n least : ℕ) (es : List Event) (log : List Entry) (e : Event) → past time_of least (passing p n es) ≡ past time_of least (log_passing p n log)
    → past time_of least (passing p n (es ++ e ∷ [])) ≡ past time_of least (log_passing p n (log ++ entry_of p n e ∷ []))
room_more p n least es log e was =
    let late : Message → Bool = λ m. ltb least m.time in
    let goes : Message → Bool = λ m. passed_on p n m.what in
    let last = passing p n (e ∷ []) in
    ap (keep late) (passing_append p n es (e ∷ [])) ∙ keep_append late (passing p n es) last ∙ ap (λ (x : List Message). x ++ keep late last) was
    ∙ sym (ap (λ (x : List Message). keep late (keep goes x)) (map-append message_of log (entry_of p n e ∷ [])) ∙ ap (keep late) (keep_append goes (map message_of log) (sent_of p n e ∷ [])) ∙ keep_append late (log_passing p n log) last)

module _ (l : Line) (n : ℕ) (e : Event) (there : n < length l.nodes) (alive : is_up l n) where
  abbrev after : Line
  after = with_node n (node_logs l n e) l

  logged_now : node_at after n ≡ node_logs l n e
  logged_now = node_there n (node_logs l n e) l there

  -- A node that is up logs an event.
  pub room_logs : (g : Ghost) (m : ℕ) → Taken l.plan m (map input_of (g m)) → Room l g m → Room (with_node n (node_logs l n e) l) (later g n e) m
  unfolding with_node logged
  room_logs g m took r =
      elim (ℕ_discrete m n) [
        | no d ↦ room_stays l l.steps after.nodes l.lanes g (later g n e) m (node_else n (node_logs l n e) l m d) (later_else g n m e d) took (λ c h. omega arith) (λ b h. omega arith) r
        | yes q ↦
            (let status : (node_at after m).status ≡ up = ap (λ (x : ℕ). (node_at after x).status) q ∙ ap (λ (x : Node). x.status) logged_now ∙ alive in
            let was : (node_at l m).status ≡ up = ap (λ (x : ℕ). (node_at l x).status) q ∙ alive in
            let old : past time_of r.least (passing l.plan m (g m)) ≡ past time_of r.least (log_passing l.plan m (node_at l m).log) = rw was at r.few in
            let log : (node_at after m).log ≡ (node_at l m).log ++ entry_of l.plan m e ∷ [] = subst (λ (x : ℕ). (node_at after x).log ≡ (node_at l x).log ++ entry_of l.plan x e ∷ []) (sym q) (log_there l n e there) in
            record {
              least = r.least;
              below = r.below;
              few = rw (status, log, later_there g n m e q) (room_more l.plan m r.least (g m) (node_at l m).log e old);
              held_few = λ z. absurd (up_not_replay (sym status ∙ z));
            })
      ]
