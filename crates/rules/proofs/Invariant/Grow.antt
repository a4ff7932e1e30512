-- A channel whose sender is up: its sender logs or sends one more message, or its receiver takes one.
use Prim.Native.Nat.{ℕ, ◌<◌, ◌≤◌}
use mathlib.Core.Path.{◌≡◌, refl, sym, ap, subst, ◌∙◌}
use mathlib.Core.Bool.{Bool, true, false}
use mathlib.Core.List.{List, [], ◌∷◌, ◌++◌}
use native.Mathlib.Omega.{arith}
use Rattle.rules.specs.Lists.{keep_one}
use Rattle.rules.specs.Line.{Message, Lane}
use Rattle.rules.proofs.Lists.ListLaws.{keep_append, nil_right}
use Rattle.rules.proofs.Lists.Rising.{until, past, Rises, Within, rises_snoc, within_snoc, within_higher, until_snoc, past_snoc, past_past, rises_past, cut_at, within_until, within_first, until_all, until_none, next_rises, next_until, next_past, within_past}
use lib.Dec.{leb}
use Rattle.rules.proofs.Invariant.Inv.{time_of, SenderUp}

-- One message more or none at the end; if there is one, it is later than all.
module _ (t : Bool) (m : Message) {xs : List Message} {k : ℕ} (w : Within time_of k xs) where
  pub rises_more : (t ≡ true → k < m.time) → Rises time_of 0 xs → Rises time_of 0 (xs ++ keep_one t m [])
  rises_more late r = one t late
    where
      one : (b : Bool) → (b ≡ true → k < m.time) → Rises time_of 0 (xs ++ keep_one b m [])
      one true h = let above = h refl in rises_snoc time_of m (omega arith) w above r
      one false h = subst (λ (ys : List Message). Rises time_of 0 ys) (sym (nil_right xs)) r

  pub within_more : {top : ℕ} → k ≤ top → m.time ≤ top → Within time_of top (xs ++ keep_one t m [])
  within_more {top} higher last = one t
    where
      one : (b : Bool) → Within time_of top (xs ++ keep_one b m [])
      one true = within_snoc time_of m last (within_higher time_of higher w)
      one false = subst (λ (ys : List Message). Within time_of top ys) (sym (nil_right xs)) (within_higher time_of higher w)

pub until_more : (t : Bool) (m : Message) (xs : List Message) (j : ℕ) → (t ≡ true → j < m.time) → until time_of j (xs ++ keep_one t m []) ≡ until time_of j xs
until_more true m xs j h = until_snoc time_of xs m (h refl)
until_more false m xs j h = ap (until time_of j) (nil_right xs)

past_more : (t : Bool) (m : Message) (xs : List Message) (j : ℕ) → (t ≡ true → j < m.time) → past time_of j (xs ++ keep_one t m []) ≡ past time_of j xs ++ keep_one t m []
past_more true m xs j h = past_snoc time_of xs m (h refl)
past_more false m xs j h = ap (past time_of j) (nil_right xs) ∙ sym (nil_right (past time_of j xs))

-- The sender logs one more event, not before its time, and later if a channel takes its message.
pub sender_grows : (t : Bool) (m : Message) {time : ℕ} {lane : Lane} {log puts : List Message} {cut : ℕ} {receiving : Type 0} → time ≤ m.time → (t ≡ true → time < m.time)
    → SenderUp time lane log puts cut receiving → SenderUp m.time lane (log ++ keep_one t m []) (puts ++ keep_one t m []) cut receiving
sender_grows t m {time} {lane} {log} {puts} later late s =
    let past-taken : t ≡ true → lane.taken < m.time = λ h. omega (arith, s.taken_within, late h) in
    record {
      within = within_more t m s.within later (omega arith);
      cut_within = omega (arith, s.cut_within);
      taken_within = omega (arith, s.taken_within);
      to_come = λ r. past_more t m log lane.taken past-taken ∙ ap (λ (x : List Message). x ++ keep_one t m []) (s.to_come r) ∙ sym (past_more t m puts lane.taken past-taken);
      queue = λ r.
          (let (a, b, c) = s.queue r in (
            a,
            omega arith,
            c ∙ sym (ap (until time_of lane.mark) (past_more t m log lane.taken past-taken) ∙ until_more t m (past time_of lane.taken log) lane.mark (λ h. omega (arith, late h))),
          ));
    }

-- The receiver takes the queue's first message, which is the next to come.
pub sender_taken : {time : ℕ} {lane : Lane} {log puts : List Message} {cut : ℕ} {receiving : Type 0} (m : Message) (rest : List Message) (heard : List ℕ)
    → receiving → Rises time_of 0 puts → lane.queue ≡ m ∷ rest → cut ≡ lane.taken → SenderUp time lane log puts cut receiving
    → SenderUp time (record { mark = lane.mark; taken = m.time; heard = heard; queue = rest; low = lane.low }) log puts m.time receiving × (until time_of m.time puts ≡ until time_of cut puts ++ m ∷ []) × (lane.taken < m.time)
sender_taken {time} {lane} {log} {puts} {cut} m rest heard r rises q at s =
    let t : ℕ = lane.taken in
    let k : ℕ = lane.mark in
    let (low, high, is) = s.queue r in
    let P : List Message = past time_of t puts in
    let first : until time_of k P ≡ m ∷ rest = ap (until time_of k) (sym (s.to_come r)) ∙ sym is ∙ q in
    let rises_on : Rises time_of t P = rises_past time_of t rises in
    let next : P ≡ m ∷ (rest ++ past time_of k P) = cut_at time_of k rises_on ∙ ap (λ (x : List Message). x ++ past time_of k P) first in
    let (upper, rest_in) = within_first time_of (rw first at (within_until time_of k P)) in
    let above : t < m.time = (next_rises time_of t m (rest ++ past time_of k P) rises next).0 in
    let forget : past time_of m.time log ≡ past time_of m.time puts =
    sym (past_past time_of t m.time (omega arith) log) ∙ ap (past time_of m.time) (s.to_come r) ∙ past_past time_of t m.time (omega arith) puts in
    let left : past time_of m.time log ≡ rest ++ past time_of k P = forget ∙ next_past time_of t m (rest ++ past time_of k P) rises next in (
      record {
        within = s.within;
        cut_within = omega arith;
        taken_within = omega arith;
        to_come = λ _. forget;
        queue = λ _. (
          upper,
          high,
          sym (ap (until time_of k) left ∙ keep_append (λ (x : Message). leb x.time k) rest (past time_of k P)
              ∙ ap (λ (x : List Message). x ++ until time_of k (past time_of k P)) (until_all time_of rest_in)
              ∙ ap (λ (x : List Message). rest ++ x) (until_none time_of k (omega arith) (rises_past time_of k rises_on)) ∙ nil_right rest),
        );
      },
      next_until time_of t m (rest ++ past time_of k P) rises next ∙ ap (λ (c : ℕ). until time_of c puts ++ m ∷ []) (sym at),
      above,
    )

-- The sender sends the next message past the mark.
pub sender_sends : {time : ℕ} {lane : Lane} {log puts : List Message} {cut : ℕ} {receiving : Type 0} (m : Message) (rest : List Message)
    → receiving → Rises time_of 0 puts → past time_of lane.mark log ≡ m ∷ rest → SenderUp time lane log puts cut receiving
    → SenderUp time (record { mark = m.time; taken = lane.taken; heard = lane.heard; queue = lane.queue ++ m ∷ []; low = lane.low }) log puts cut receiving
sender_sends {time} {lane} {log} {puts} {cut} m rest r rises e s =
    let t : ℕ = lane.taken in
    let k : ℕ = lane.mark in
    let (low, high, is) = s.queue r in
    let P : List Message = past time_of t log in
    let rises_on : Rises time_of t P = subst (λ (x : List Message). Rises time_of t x) (sym (s.to_come r)) (rises_past time_of t rises) in
    let next : past time_of k P ≡ m ∷ rest = past_past time_of t k low log ∙ e in
    let above : k < m.time = (next_rises time_of k m rest rises_on next).0 in
    let upper : m.time ≤ time = (within_first time_of (rw next at (within_past time_of k (subst (λ (x : List Message). Within time_of time x) (sym (s.to_come r)) (within_past time_of t s.within))))).0 in
    record {
      within = s.within;
      cut_within = s.cut_within;
      taken_within = s.taken_within;
      to_come = s.to_come;
      queue = λ _. (omega arith, upper, ap (λ (x : List Message). x ++ m ∷ []) is ∙ sym (next_until time_of k m rest rises_on next));
    }

-- Whether the receiver is not down, said in another way.
pub sender_receiving : {time : ℕ} {lane : Lane} {log puts : List Message} {cut : ℕ} {old new : Type 0} → (new → old) → SenderUp time lane log puts cut old → SenderUp time lane log puts cut new
sender_receiving f s = record { within = s.within; cut_within = s.cut_within; taken_within = s.taken_within; to_come = λ r. s.to_come (f r); queue = λ r. s.queue (f r) }

-- Another cut.
pub sender_cut : {time : ℕ} {lane : Lane} {log puts : List Message} {cut cut' : ℕ} {receiving : Type 0} → cut' ≤ time → SenderUp time lane log puts cut receiving → SenderUp time lane log puts cut' receiving
sender_cut h s = record { within = s.within; cut_within = h; taken_within = s.taken_within; to_come = s.to_come; queue = s.queue }

-- The same channel under equal values.
pub sender_same : {time time' : ℕ} {lane lane' : Lane} {log log' puts puts' : List Message} {cut cut' : ℕ} {receiving : Type 0} → time ≡ time' → lane ≡ lane' → log ≡ log' → puts ≡ puts' → cut ≡ cut'
    → SenderUp time lane log puts cut receiving → SenderUp time' lane' log' puts' cut' receiving
sender_same {receiving = receiving} a b c d e s = coe 0 1 (i. SenderUp (a i) (b i) (c i) (d i) (e i) receiving) s
