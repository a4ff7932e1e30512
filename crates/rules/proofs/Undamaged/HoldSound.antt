-- Take keeps a line sound where the receiver replays: the record is held or dropped, and the replay may end.
use Prim.Native.Nat.{ℕ, ◌<◌, ◌≤◌}
use mathlib.Core.Path.{◌≡◌, refl, sym, ap, subst, ◌∙◌}
use mathlib.Core.Logic.{◌≢◌, ◌⊎◌, inl, inr}
use mathlib.Core.Bool.{Bool, true, false, cond, ◌&&◌}
use mathlib.Core.List.{List, [], ◌∷◌, ◌++◌, map}
use mathlib.Core.Option.{some}
use native.Mathlib.Omega.{arith}
use native.Mathlib.Decide.{ℕ_discrete}
use lib.ListN.{length, length-append, set, length-set}
use lib.Dec.{leb, eqb}
use borrow.Author.Tests.{leb-false, eqb-true}
use Rattle.plan.specs.Plan.{channel_at}
use Rattle.rules.specs.Lists.{keep_one}
use Rattle.rules.specs.Line.{log_limit, held_limit, Message, Entry, Held, Status, replay, Node, Line, node_at, lane_at, receiver_of, with_node, with_lane, counted, is_replay, accepted_steps, up}
use Rattle.rules.specs.Frame.{take}
use Rattle.rules.specs.Recover.{triples}
use Rattle.rules.specs.Replay.{passed_on, holding, held_entry, ended_if_complete}
use Rattle.rules.specs.Step.{replaying, first_record, to_hold, take_lacks, made_by, taken_lane, taken_replaying, taken_first, taken_line, effect}
use Rattle.rules.specs.Damaged.{worked_on}
use Rattle.rules.proofs.Lists.ListLaws.{nil_right, keep_append}
use Rattle.rules.proofs.Lists.Rising.{Rises, Within, rises_snoc}
use Rattle.rules.proofs.Lists.Members.{In, in_none, in_first, in_left, in_right, append_in, in_map, map_in, keep_in, within_by}
use Rattle.rules.proofs.Line.LineLaws.{node_there, node_else}
use Rattle.rules.proofs.Invariant.Stays.{moved}
use Rattle.rules.proofs.Invariant.Inv.{Enters}
use Rattle.rules.proofs.Theorem.Accepted.{Passed, CanTake}
use Rattle.rules.proofs.Undamaged.TestLaws.{unless}
use Rattle.rules.proofs.Invariant.InvLaws.{up_not_replay}
use Rattle.rules.proofs.Undamaged.Standing.{held_time, held_from, EntryFits, Empties, NodeFits, Covers, NodeSound, Standing, Sound}
use Rattle.rules.proofs.Undamaged.SoundStays.{node_stays, stopped_stay, counted_sound}
use Rattle.rules.proofs.Undamaged.TakeSound.{now, lanes, inside, next, taken-entry, raised, own, lows, entries, channels}
use Rattle.rules.proofs.Ending.Ends.{EndsAs, ends-beside, ended_as}
use Rattle.rules.proofs.Undamaged.EndSound.{ended_sound}

-- One more at the end, or none.
more_in : {A : Type 0} (t : Bool) (x : A) (xs : List A) {y : A} → In y (xs ++ keep_one t x []) → In y xs ⊎ ((y ≡ x) × (t ≡ true))
more_in t x xs {y} i = elim (append_in xs i) [ inl j ↦ inl j | inr j ↦ one t j ]
  where
    one : (t : Bool) → In y (keep_one t x []) → In y xs ⊎ ((y ≡ x) × (t ≡ true))
    one true j = elim (in_first j) [ inl q ↦ inr (q, refl) | inr z ↦ absurd (in_none z) ]
    one false j = absurd (in_none j)

module _ (l : Line) (sound : Sound l) (b : ℕ) {who : ℕ} (p : Passed l who (take b)) (can : CanTake l b) (again : (node_at l (channel_at l.plan b).receiver).status ≡ replay) where
  abbrev s : Standing l
  s = sound.standing

  abbrev n : ℕ
  n = (channel_at l.plan b).receiver

  abbrev from : ℕ
  from = (channel_at l.plan b).sender

  abbrev m : Message
  m = can.message

  abbrev x : Node
  x = node_at l (channel_at l.plan b).receiver

  -- The message as it would be held, and whether it is.
  abbrev h : Held
  h = record { what = made_by l (channel_at l.plan b).receiver can.message.what; sender = (channel_at l.plan b).sender; time = can.message.time; before = can.message.origin }

  abbrev goes : Bool
  goes = passed_on l.plan (channel_at l.plan b).receiver (made_by l (channel_at l.plan b).receiver can.message.what)

  abbrev held_node : Node
  held_node = record { status = x.status; crashed = x.crashed; time = x.time; log = x.log; held = x.held ++ keep_one goes h []; targets = x.targets; asked = x.asked }

  old : NodeSound l n
  old = s.nodes n (inside l sound b p can)

  -- There is room for it.
  room : goes ≡ true → length x.held < held_limit
  unfolding take_lacks
  room e =
      let holds : Bool = to_hold l n (first_record (lane_at l b).queue) in
      let full : Bool = leb held_limit (length x.held) in
      let spare : (holds && full) ≡ false = sym (ap (λ (z : Status). cond (is_replay z) (holds && full) (leb log_limit (length x.log))) again) ∙ p.space in
      leb-false held_limit (length x.held) (unless holds full spare (ap (λ (q : List Message). to_hold l n (first_record q)) can.first ∙ e))

  few : (t : Bool) → (t ≡ true → length x.held < held_limit) → length (x.held ++ keep_one t h []) ≤ held_limit
  few true f = let r = f refl in omega (arith, length-append x.held (h ∷ []))
  few false f = omega (arith, length-append {A = Held} x.held [], old.fits.held_few)

  -- What was worked on, and the message.
  worked : {e : Entry} → In e (worked_on held_node) → In e (worked_on x) ⊎ (e ≡ held_entry h)
  worked {e} i = elim (append_in x.log i) [
    | inl j ↦ inl (in_left (map held_entry x.held) j)
    | inr j ↦
        (let (g, k, q) = map_in held_entry (x.held ++ keep_one goes h []) j in
        elim (more_in goes h x.held k) [
          | inl z ↦ inl (in_right x.log (subst (λ (d : Entry). In d (map held_entry x.held)) (sym q) (in_map held_entry z)))
          | inr (z, _) ↦ inr (q ∙ ap held_entry z)
        ])
  ]

  held_fits : NodeFits l.plan (accepted_steps l) n held_node
  held_fits =
      let f = old.fits in
      record {
        log_few = f.log_few;
        held_few = few goes room;
        targets_few = f.targets_few;
        entries = λ e i. elim (worked i) [ inl j ↦ f.entries e j | inr q ↦ subst (EntryFits l.plan (accepted_steps l) n) (sym q) (taken-entry l sound b p can (accepted_steps l) (omega arith) 0 0) ];
        targets = f.targets;
        time = f.time;
        rises = f.rises;
        within = f.within;
        sets = f.sets;
        passed = λ g i. elim (more_in goes h x.held i) [ inl j ↦ f.passed g j | inr (q, t) ↦ subst (λ (y : Held). passed_on l.plan n y.what ≡ true) (sym q) t ];
        unmarked = f.unmarked;
        between = f.between;
        empties = subst (λ (z : Status). Empties z held_node) (sym again) (subst (λ (z : Status). Empties z x) again f.empties);
      }

  -- What is held of the sender lies up to the entry.
  held-within : (c : ℕ) → eqb from (channel_at l.plan c).sender ≡ true → Within held_time (lane_at l b).taken (held_from (channel_at l.plan c).sender x.held)
  held-within c e = within_by held_time (held_from (channel_at l.plan c).sender x.held)
      (λ g i.
      (let (j, q) = keep_in (λ (y : Held). eqb y.sender (channel_at l.plan c).sender) x.held i in
      let same : from ≡ g.sender = eqb-true from (channel_at l.plan c).sender e ∙ sym (eqb-true g.sender (channel_at l.plan c).sender q) in
      (old.clock (held_entry g) (in_right x.log (in_map held_entry j)) b (can.here, refl) same).0))

  held_rows : (c : ℕ) → Enters l.plan n c → Rises held_time 0 (held_from (channel_at l.plan c).sender (x.held ++ keep_one goes h []))
  held_rows c i = one goes
    where
      row : (t : Bool) → eqb from (channel_at l.plan c).sender ≡ t → Rises held_time 0 (held_from (channel_at l.plan c).sender x.held ++ keep_one t h [])
      row true e = rises_snoc held_time h (omega (arith, (next l sound b p can).0)) (held-within c e) (next l sound b p can).0 (old.rows c i)
      row false e = rw (nil_right (held_from (channel_at l.plan c).sender x.held)) (old.rows c i)

      one : (t : Bool) → Rises held_time 0 (held_from (channel_at l.plan c).sender (x.held ++ keep_one t h []))
      one true = rw (keep_append (λ (y : Held). eqb y.sender (channel_at l.plan c).sender) x.held (h ∷ [])) (row (eqb from (channel_at l.plan c).sender) refl)
      one false = rw (nil_right x.held) (old.rows c i)

  -- The line after, by its nodes.
  module _ (nodes : List Node) (long : length nodes ≡ length l.nodes) (node_now : node_at (moved l l.steps nodes (lanes l sound b p can)) n ≡ held_node)
      (node_other : (j : ℕ) → j ≢ n → node_at (moved l l.steps nodes (lanes l sound b p can)) j ≡ node_at l j) where
    abbrev after : Line
    after = moved l l.steps nodes (lanes l sound b p can)

    same_part : {A : Type 0} (f : Node → A) → f held_node ≡ f x → (j : ℕ) → f (node_at after j) ≡ f (node_at l j)
    same_part f e j = elim (ℕ_discrete j n) [
      | yes q ↦ ap (λ (z : ℕ). f (node_at after z)) q ∙ ap f node_now ∙ e ∙ ap (λ (z : ℕ). f (node_at l z)) (sym q)
      | no d ↦ ap f (node_other j d)
    ]

    status : (j : ℕ) → (node_at after j).status ≡ (node_at l j).status
    status = same_part (λ (y : Node). y.status) refl

    node-holds : NodeSound after n
    node-holds =
        record {
          fits = subst (NodeFits l.plan (accepted_steps l) n) (sym node_now) held_fits;
          clock = λ e i c j. elim (worked (subst (λ (y : Node). In e (worked_on y)) node_now i)) [
            | inl k ↦ raised l sound b p can l.steps nodes c j.0 e.origin e.before (old.clock e k c j)
            | inr q ↦ subst (λ (d : Entry). Covers l.plan c (lane_at after c) d.origin d.before) (sym q) (own l sound b p can l.steps nodes c j)
          ];
          rows = λ c i. subst (λ (y : Node). Rises held_time 0 (held_from (channel_at l.plan c).sender y.held)) (sym node_now) (held_rows c i);
        }

    holds_sound : Sound after
    holds_sound =
        let same : accepted_steps l ≤ accepted_steps l = omega arith in
        record {
          standing = record {
            plan_fits_lem = s.plan_fits_lem;
            shape = record { nodes_long = long ∙ s.shape.nodes_long; lanes_long = length-set l.lanes b (now l sound b p can) ∙ s.shape.lanes_long };
            counts = s.counts;
            nodes = λ j i. elim (ℕ_discrete j n) [
              | yes q ↦ subst (NodeSound after) (sym q) node-holds
              | no d ↦ node_stays l l.steps nodes (lanes l sound b p can) same j (node_other j d) (λ c k. raised l sound b p can l.steps nodes c k.0) (s.nodes j i)
            ];
            channels = channels l sound b p can l.steps nodes same status (same_part (λ (y : Node). y.crashed) refl);
          };
          stopped = λ j i q.
              (let was : (node_at l j).status ≢ up = λ z. q (status j ∙ z) in
              stopped_stay l l.steps nodes (lanes l sound b p can) same j (entries l sound b p can l.steps nodes j was) (λ c k. same_part (λ (y : Node). triples j y.log) refl (channel_at l.plan c).receiver) (lows l sound b p can l.steps nodes j was)
              (status j) (same_part (λ (y : Node). y.time) refl j) (same_part (λ (y : Node). y.targets) refl j) (same_part (λ (y : Node). y.asked) refl j) (sound.stopped j i was));
        }

    ends_sound : {k : Line} → EndsAs n after k → Sound (counted who k)
    ends_sound {k} e =
        let f = holds_sound in
        let still = status n ∙ again in
        counted_sound k p.console (rw (ends-beside e).1 p.steps_left) (ended_sound after f.standing n (inside l sound b p can) still (λ j i d. f.stopped j i) (λ _. f.stopped n (inside l sound b p can) (λ q. up_not_replay (sym q ∙ still))) e)

  abbrev left : Line
  left = taken_replaying b can.message (taken_lane b can.message can.rest l)

  from_held : goes ≡ true → {k : Line} → EndsAs n left k → Sound (counted who k)
  unfolding taken_replaying taken_lane with_lane with_node holding
  from_held t {k} e =
      ends_sound (set l.nodes n (holding h x)) (length-set l.nodes n (holding h x))
      (node_there n (holding h x) l (rw s.shape.nodes_long (inside l sound b p can)) ∙ ap (λ (z : Bool). record { status = x.status; crashed = x.crashed; time = x.time; log = x.log; held = x.held ++ keep_one z h []; targets = x.targets; asked = x.asked }) (sym t))
      (node_else n (holding h x) l) (subst (λ (y : Line). EndsAs n y k) held e)
    where
      held : left ≡ moved l l.steps (set l.nodes n (holding h x)) (lanes l sound b p can)
      held = rw (t, taken_replaying)

  from_dropped : goes ≡ false → {k : Line} → EndsAs n left k → Sound (counted who k)
  unfolding taken_replaying taken_lane with_lane
  from_dropped t {k} e =
      ends_sound l.nodes refl
      (λ i. record { status = x.status; crashed = x.crashed; time = x.time; log = x.log; held = same i; targets = x.targets; asked = x.asked })
      (λ j d. refl) (subst (λ (y : Line). EndsAs n y k) dropped e)
    where
      same : x.held ≡ x.held ++ keep_one goes h []
      same = sym (ap (λ (z : Bool). x.held ++ keep_one z h []) t ∙ nil_right x.held)

      dropped : left ≡ moved l l.steps l.nodes (lanes l sound b p can)
      dropped = rw (t, taken_replaying)

  pub taken_is : effect l (take b) ≡ ended_if_complete (channel_at l.plan b).receiver (taken_replaying b can.message (taken_lane b can.message can.rest l))
  unfolding effect taken_line
  taken_is = ap (λ (q : List Message). taken_first b q l) can.first ∙ first can.rest (ap is_replay again)
    where
      first : (rest : List Message) → replaying l (receiver_of l b) ≡ true → taken_first b (m ∷ rest) l ≡ ended_if_complete (receiver_of l b) (taken_replaying b m (taken_lane b m rest l))
      first rest e = rw (e, taken_first)

  pub again_sound : {k : Line} → EndsAs (channel_at l.plan b).receiver (taken_replaying b can.message (taken_lane b can.message can.rest l)) k → Sound (counted who k)
  again_sound {k} e = go goes refl
    where
      go : (t : Bool) → goes ≡ t → Sound (counted who k)
      go true t = from_held t e
      go false t = from_dropped t e

  pub take_replaying_sound : (k : Line) → effect l (take b) ≡ some k → Sound (counted who k)
  take_replaying_sound k e = again_sound (ended_as n left k (sym taken_is ∙ e))
