-- What Recover finds of a node in its children's logs: the triples are the node's events that have reached a child.
use Prim.Native.Nat.{ℕ, ◌<◌, ◌≤◌}
use mathlib.Core.Path.{◌≡◌, refl, sym, ap, subst, ◌∙◌}
use mathlib.Core.Logic.{◌⊎◌, inl, inr}
use mathlib.Core.Bool.{true}
use mathlib.Core.List.{List, [], map}
use native.Mathlib.Omega.{arith}
use native.Mathlib.Decide.{dec_le}
use lib.Dec.{leb}
use borrow.Author.Tests.{le-leb, leb-true}
use Rattle.plan.specs.Rule.{applied}
use Rattle.plan.specs.Plan.{rule_at, channel_at, channel_count}
use Rattle.rules.specs.Lists.{greatest_of}
use Rattle.rules.specs.Line.{made, Message, Entry, Target, Line, node_at, lane_at, parents}
use Rattle.rules.specs.Recover.{low_of, child_triples, low_through, restored, targets_of}
use Rattle.rules.specs.Replay.{passed_on}
use Rattle.rules.proofs.Lists.Rising.{until}
use Rattle.rules.proofs.Lists.Members.{In, in_none, in_keep, keep_in, in_map, map_in, in_left, in_right, append_in, greatest_in}
use Rattle.rules.proofs.Histories.Witness.{Taken}
use Rattle.rules.proofs.Histories.Passing.{has_entry}
use Rattle.rules.proofs.Histories.Ghost.{Event, took_at, Ghost, input_of, entry_of, sent_of, takes_message, put, got}
use Rattle.rules.proofs.Invariant.Inv.{time_of, Ordered, target_from, Reached, UnmarkedEnd, low_on, Logged}
use Rattle.rules.proofs.Invariant.InvLaws.{took_enters, reached_goes}
use Rattle.rules.proofs.Line.Joins.{passed_takes, in_entering}
use Rattle.rules.proofs.Histories.Carried.{in_put, put_in, in_got, got_in, taken_event}
use Rattle.rules.proofs.Ending.Targets.{in_triples_at, triples_at_in, low_below, low_least, low_restored, triple-restored, restored_cases, targets_of_lem}

-- The child at channel c's end: it never crashed and took all its events, its log holds those that are not gone, and its entry is the greatest time that it got.
pub record Child (l : Line) (g : Ghost) (c : ℕ) : Type 0 where
  pub took : Taken l.plan (channel_at l.plan c).receiver (map input_of (g (channel_at l.plan c).receiver))
  pub unmarked : UnmarkedEnd l c
  pub logs : Logged l g (channel_at l.plan c).receiver
  pub got_is : got l.plan g c ≡ until time_of (lane_at l c).taken (put l.plan g c)
  pub exact : (lane_at l c).taken ≡ greatest_of (map time_of (got l.plan g c))

-- An event of node n that has reached a child, by the message that the child got.
pub record SentBy (l : Line) (g : Ghost) (n : ℕ) (x : Message) : Type 0 where
  pub channel : ℕ
  pub message : Message
  pub time : ℕ
  pub event : In (took_at channel message time) (g n)
  pub is : x ≡ sent_of l.plan n (took_at channel message time)
  pub reached : Reached l n message time

pub made_parts : {a b s t : ℕ} → made a s ≡ made b t → (a ≡ b) × (s ≡ t)
made_parts e = (cc, cc)

-- The triple that names the event.
named_by : (l : Line) (g : Ghost) (n : ℕ) (u : Target) (x : Message) → x.time ≡ u.time → made u.parent u.parent_time ≡ x.origin → (by : SentBy l g n x) → u ≡ target_from l.plan by.channel by.message by.time
named_by l g n u x time before by =
    let (parent, parent_time) = made_parts (before ∙ ap (λ (y : Message). y.origin) by.is) in
    λ k. record { time = (sym time ∙ ap time_of by.is) k; parent = parent k; parent_time = parent_time k }

module _ (l : Line) (g : Ghost) (n : ℕ) (ordered : Ordered l.plan) (own : Taken l.plan n (map input_of (g n)))
    (children : (c : ℕ) → c < channel_count l.plan → (channel_at l.plan c).sender ≡ n → Child l g c) where
  -- What a child got from node n is what has reached it.
  pub sent_by : (c : ℕ) → c < channel_count l.plan → (channel_at l.plan c).sender ≡ n → (x : Message) → In x (got l.plan g c) → SentBy l g n x
  sent_by c h s x i =
      let (j, upto) = keep_in (λ (y : Message). leb y.time (lane_at l c).taken) (put l.plan g c) (subst (λ (xs : List Message). In x xs) (children c h s).got_is i) in
      let (e, k, made_of_lem, taken) = put_in l.plan g c x j in
      let from = taken_event l.plan n (g n) own (subst (λ (a : ℕ). In e (g a)) s k) in
      let is : x ≡ sent_of l.plan n (took_at from.channel from.message from.time) =
      made_of_lem ∙ ap (λ (a : ℕ). sent_of l.plan a e) s ∙ ap (sent_of l.plan n) from.is in
      record {
        channel = from.channel;
        message = from.message;
        time = from.time;
        event = subst (λ (a : Event). In a (g n)) from.is (subst (λ (a : ℕ). In e (g a)) s k);
        is = is;
        reached = record {
          channel = c;
          on_plan = h;
          leaves = s;
          takes_it = sym (ap (takes_message l.plan c) is) ∙ taken;
          in_time = subst (λ (t : ℕ). t ≤ (lane_at l c).taken) (ap time_of is) (leb-true x.time (lane_at l c).taken upto);
        };
      }

  reached_got : (b : ℕ) (m : Message) (t : ℕ) → In (took_at b m t) (g n) → (r : Reached l n m t) → In (sent_of l.plan n (took_at b m t)) (got l.plan g r.channel)
  reached_got b m t i r =
      let c : ℕ = r.channel in
      let e : Event = took_at b m t in
      let same : sent_of l.plan (channel_at l.plan c).sender e ≡ sent_of l.plan n e = ap (λ (a : ℕ). sent_of l.plan a e) r.leaves in
      let on : In (sent_of l.plan n e) (put l.plan g c) =
      subst (λ (x : Message). In x (put l.plan g c)) same
      (in_put l.plan g c e (subst (λ (a : ℕ). In e (g a)) (sym r.leaves) i) (ap (takes_message l.plan c) same ∙ r.takes_it)) in
      subst (λ (xs : List Message). In (sent_of l.plan n e) xs) (sym (children c r.on_plan r.leaves).got_is)
      (in_keep (λ (y : Message). leb y.time (lane_at l c).taken) on (le-leb t (lane_at l c).taken r.in_time))

  -- A child's entry made from node n's message is of a message that it got from node n.
  named_got : (c : ℕ) → c < channel_count l.plan → (channel_at l.plan c).sender ≡ n → (d : Entry) (t : ℕ) → In d (node_at l (channel_at l.plan c).receiver).log → d.origin ≡ made n t
      → (x : Message) × In x (got l.plan g c) × (x.time ≡ t) × (d.before ≡ x.origin)
  named_got c h s d t i o =
      let k : ℕ = (channel_at l.plan c).receiver in
      let logs = (children c h s).logs in
      let (e, w, q) = map_in (entry_of l.plan k) logs.kept (subst (λ (log : List Entry). In d log) logs.log_is i) in
      let (j, _) = keep_in (has_entry l.plan k) (g k) (subst (λ (es : List Event). In e es) (sym logs.split) (in_right logs.gone w)) in
      let from = taken_event l.plan k (g k) (children c h s).took j in
      let x : Message = from.message in
      let is : d ≡ entry_of l.plan k (took_at from.channel x from.time) = q ∙ ap (entry_of l.plan k) from.is in
      let (sender, time) = made_parts (sym (ap (λ (a : Entry). a.origin) is) ∙ o) in
      let same : from.channel ≡ c = ordered.alone from.channel c from.on_plan h (sender ∙ sym s) from.enters in
      let event : In (took_at c x from.time) (g k) = subst (λ (a : ℕ). In (took_at a x from.time) (g k)) same (subst (λ (a : Event). In a (g k)) from.is j) in
      (x, in_got l.plan g c x from.time event, time, ap (λ (a : Entry). a.before) is)

  -- The triples are the events that have reached a child.
  pub triples_from : (u : Target) → In u (child_triples l n) → (b : ℕ) × (m : Message) × (t : ℕ) × In (took_at b m t) (g n) × (u ≡ target_from l.plan b m t) × Reached l n m t
  triples_from u i =
      let at = triples_at_in l n u i in
      let (x, j, time, before) = named_got at.channel at.on_plan at.leaves at.entry u.time at.is_logged at.origin_is in
      let by = sent_by at.channel at.on_plan at.leaves x j in
      (by.channel, by.message, by.time, by.event, named_by l g n u x time (sym at.before_is ∙ before) by, by.reached)

  -- An event's sender is a parent.
  pub is_parent : (b : ℕ) (m : Message) (t : ℕ) → In (took_at b m t) (g n) → In (channel_at l.plan b).sender (parents l.plan n)
  unfolding parents
  is_parent b m t i = let (on, into) = took_enters (g n) b m t own i in in_map (λ (c : ℕ). (channel_at l.plan c).sender) (in_entering l.plan n b on into)

  -- A time that no child's entry is below is not above low.
  low_reached : {t c : ℕ} → ((d : ℕ) → d < channel_count l.plan → (channel_at l.plan d).sender ≡ n → t ≤ (lane_at l d).taken) → c < channel_count l.plan → (channel_at l.plan c).sender ≡ n → t ≤ low_of l n
  low_reached f h q = low_least l n f h q

  -- An event that has reached a child is in its log, or is gone from it; what is gone is up to low, and what it was made from is in the low clock.
  reached_logged : (b : ℕ) (m : Message) (t : ℕ) → In (took_at b m t) (g n) → (r : Reached l n m t)
      → In (target_from l.plan b m t) (child_triples l n) ⊎ ((t ≤ low_of l n) × (m.time ≤ low_through l n (channel_at l.plan b).sender r.channel))
  reached_logged b m t i r =
      let c : ℕ = r.channel in
      let k : ℕ = (channel_at l.plan c).receiver in
      let x : Message = sent_of l.plan n (took_at b m t) in
      let (at, j) = got_in l.plan g c x (reached_got b m t i r) in
      let logs = (children c r.on_plan r.leaves).logs in
      elim (append_in logs.gone (subst (λ (es : List Event). In (took_at c x at) es) logs.split (in_keep (has_entry l.plan k) j refl))) [
        | inl w ↦ inr (
          low_reached (λ d h s. logs.input_reached c x at w d (h, s ∙ sym r.leaves) (children d h s).unmarked) r.on_plan r.leaves,
          subst (λ (a : ℕ). m.time ≤ low_through l a (channel_at l.plan b).sender r.channel) r.leaves (logs.low_of_lem c (r.on_plan, refl) x at w (channel_at l.plan b).sender m.time (subst (λ (a : ℕ). In (channel_at l.plan b).sender (parents l.plan a)) (sym r.leaves) (is_parent b m t i)) refl),
        )
        | inr w ↦ inl (in_triples_at l n (target_from l.plan b m t)
            (record {
              channel = c;
              on_plan = r.on_plan;
              leaves = r.leaves;
              entry = entry_of l.plan k (took_at c x at);
              is_logged = subst (λ (log : List Entry). In (entry_of l.plan k (took_at c x at)) log) (sym logs.log_is) (in_map (entry_of l.plan k) w);
              origin_is = ap (λ (a : ℕ). made a t) r.leaves;
              before_is = refl;
            }))
      ]

  pub triples-of : (b : ℕ) (m : Message) (t : ℕ) → In (took_at b m t) (g n) → Reached l n m t → low_of l n < t → In (target_from l.plan b m t) (child_triples l n)
  triples-of b m t i r late = elim (reached_logged b m t i r) [ inl j ↦ j | inr (h, _) ↦ (let no : ⊥ = omega (arith, h) in absurd no) ]

  -- What is passed on up to low has reached a child: the restored entry is the greatest time of its row there, 0 if there is none.
  pub restored_reach : (b : ℕ) (m : Message) (t : ℕ) → In (took_at b m t) (g n) → passed_on l.plan n (applied (rule_at l.plan n) m.what) ≡ true → t ≤ low_of l n → m.time ≤ restored l n (channel_at l.plan b).sender
  restored_reach b m t i e h =
      let (c, on_plan, leaves, k) = passed_takes l.plan n (applied (rule_at l.plan n) m.what) e in
      let low = low_below l n c on_plan leaves in
      let a : ℕ = (channel_at l.plan b).sender in
      elim (reached_logged b m t i (record { channel = c; on_plan = on_plan; leaves = leaves; takes_it = k; in_time = omega arith })) [
        | inl j ↦ triple-restored l n a (target_from l.plan b m t) j refl h
        | inr (_, z) ↦ omega (arith, z, low_restored l n a c on_plan leaves)
      ]

  pub restored_is : (b : ℕ) → b < channel_count l.plan → (channel_at l.plan b).receiver ≡ n
      → (restored l n (channel_at l.plan b).sender ≡ 0) ⊎ ((m : Message) × (t : ℕ) × In (took_at b m t) (g n) × (passed_on l.plan n (applied (rule_at l.plan n) m.what) ≡ true) × (t ≤ low_of l n) × (m.time ≡ restored l n (channel_at l.plan b).sender))
  restored_is b h enters =
      let a : ℕ = (channel_at l.plan b).sender in
      elim (restored_cases l n a) [
        | inl z ↦ inl z
        | inr (inl (c, on, leaves, q)) ↦
            (let logs = (children c on leaves).logs in
            let is : restored l n a ≡ low_on l c a = q ∙ ap (λ (x : ℕ). low_through l x a c) (sym leaves) in
            elim (logs.low_from c (on, refl) a) [
              | inl z ↦ inl (is ∙ z)
              | inr (x, at, w, made_of_lem) ↦
                  (let event : In (took_at c x at) (g (channel_at l.plan c).receiver) = (keep_in (has_entry l.plan (channel_at l.plan c).receiver) (g (channel_at l.plan c).receiver) (subst (λ (es : List Event). In (took_at c x at) es) (sym logs.split) (in_left logs.kept w))).0 in
                  let by = sent_by c on leaves x (in_got l.plan g c x at event) in
                  let (sender, time) = made_parts (sym made_of_lem ∙ ap (λ (y : Message). y.origin) by.is) in
                  let (on_plan, into) = took_enters (g n) by.channel by.message by.time own by.event in
                  let row : by.channel ≡ b = ordered.alone by.channel b on_plan h (sym sender) (into ∙ sym enters) in
                  let upto = low_reached (λ d k s. logs.input_reached c x at w d (k, s ∙ sym leaves) (children d k s).unmarked) on leaves in
                  inr (by.message, by.time, subst (λ (d : ℕ). In (took_at d by.message by.time) (g n)) row by.event, reached_goes by.reached, subst (λ (y : Message). y.time ≤ low_of l n) by.is upto, sym time ∙ sym is))
            ])
        | inr (inr (u, i, parent, upto, q)) ↦
            (let (d, m, t, event, is, r) = triples_from u i in
            let (on_plan, into) = took_enters (g n) d m t own event in
            let row : d ≡ b = ordered.alone d b on_plan h (sym (ap (λ (v : Target). v.parent) is) ∙ parent) (into ∙ sym enters) in
            inr (
              m,
              t,
              subst (λ (c : ℕ). In (took_at c m t) (g n)) row event,
              reached_goes r,
              subst (λ (x : ℕ). x ≤ low_of l n) (ap (λ (v : Target). v.time) is) upto,
              sym (ap (λ (v : Target). v.parent_time) is) ∙ q,
            ))
      ]

  -- Without targets no child is above low.
  pub none_above : targets_of l n ≡ [] → (c : ℕ) → c < channel_count l.plan → (channel_at l.plan c).sender ≡ n → (lane_at l c).taken ≤ low_of l n
  none_above empty c h s =
      elim (dec_le (lane_at l c).taken (low_of l n)) [
        | yes below ↦ below
        | no above ↦ elim (greatest_in (map time_of (got l.plan g c))) [
          | inl z ↦ (let e = (children c h s).exact in let no : ⊥ = omega arith in absurd no)
          | inr i ↦
              (let (x, j, q) = map_in time_of (got l.plan g c) i in
              let by = sent_by c h s x j in
              let time : (lane_at l c).taken ≡ by.time = (children c h s).exact ∙ q ∙ ap time_of by.is in
              let u : Target = target_from l.plan by.channel by.message by.time in
              absurd (in_none (subst (λ (us : List Target). In u us) empty (targets_of_lem l n u (triples-of by.channel by.message by.time by.event by.reached (omega arith)) (omega arith)))))
        ]
      ]
