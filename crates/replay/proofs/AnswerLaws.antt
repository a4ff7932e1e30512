-- What a Take of a replaying node answers and leaves, by what the code finds: the receiver n, the record h as it would be held, and whether it goes on.
use Prim.Native.Nat.{ℕ, ◌+◌, ◌≤◌, ◌<◌}
use mathlib.Core.Path.{◌≡◌, refl, sym, ap, ap₂, subst, ◌∙◌}
use mathlib.Core.Bool.{Bool, true, false, cond, not, ◌&&◌}
use mathlib.Core.List.{List, [], ◌∷◌, ◌++◌}
use mathlib.Core.Option.{Option as Option-of, none, some}
use mathlib.Core.Logic.{inl, inr}
use Rattle.std.specs.Prelude.{Option, None, Some}
use native.Mathlib.Omega.{arith}
use lib.Dec.{leb, eqb}
use borrow.Author.Tests.{eqb-true, leb-false}
use lib.ListN.{length, get_or, drop, length-append}
use Rattle.plan.specs.Plan.{Plan, plan_of, plan_nodes, plan_channels, node_count, channel_count, channel_at, entering}
use Rattle.plan.proofs.FitsLaws.{fitting}
use Rattle.rules.specs.Lists.{is_empty}
use Rattle.rules.specs.Line.{held_limit, Message, Held, Status, Line, node_at, lane_at, receiver_of, parents, with_node}
use Rattle.rules.specs.Frame.{take}
use Rattle.rules.specs.Recover.{row_goal, row_complete}
use Rattle.rules.specs.Replay.{passed_on, held_entry, replay_end}
use Rattle.rules.specs.Step.{end_down, replaying, is_nothing, effect, line_refusal}
use Rattle.rules.specs.Damaged.{is_parent}
use Rattle.rules.proofs.Lists.Members.{In, in_none, in_first, in_map, map_in, in_right, append_in, any_in, in_at}
use Rattle.rules.proofs.Line.Joins.{entering_in}
use Rattle.rules.proofs.Steps.PlanOrder.{ordered_channels}
use Rattle.rules.proofs.Undamaged.Standing.{Empties, Sound}
use Rattle.rules.proofs.Undamaged.Undamaged.{undamaged_sound}
use Rattle.rules.proofs.Undamaged.TestLaws.{is_replay_lem}
use Rattle.state.specs.State.{line_of}
use Rattle.state.proofs.InPlace.{line-plan}
use Rattle.buffer.specs.Nothing.{no_held, no_message}
use Rattle.buffer.specs.Ready.{Ready}
use Rattle.buffer.specs.Holds.{Holds, Undamaged, Did}
use Rattle.buffer.proofs.HoldsLaws.{holds_channels}
use Rattle.passing.proofs.RefusalLaws.{refused, accepted}
use Rattle.buffer.specs.Rows.{Rows}
use Rattle.slots.specs.declared.Waiting.{Waiting}
use Rattle.slots.specs.Slots.{message_is}
use Rattle.replay_items.specs.Items.{one_more, held_with}
use Rattle.replay_table.specs.declared.PlacedRecord.{PlacedRecord}
use Rattle.replay_table.specs.Ends.{AsIn, Ended}
use Rattle.replay.specs.declared.Arrival.{Arrival}
use Rattle.replay.specs.After.{rows_after, would_hold, to_be_held, taken_now, held_more, end_log, ended_node, Enters, Loggable, Seen}
use Rattle.replay.proofs.TakeLaws.{inside, as_in, goes_on_lem, comes_up, ended_is, number_is}

-- ---- what an undamaged line says of a replaying node

module _ (l : Line) (sound : Sound l) (n : ℕ) (within : n < node_count l.plan) where
  parent_small : (q : ℕ) → is_parent l.plan n q ≡ true → q < 255
  unfolding parents
  parent_small q e =
      let (r, i, same) = any_in (λ (x : ℕ). eqb x q) (parents l.plan n) e in
      let (c, j, from) = map_in (λ (b : ℕ). (channel_at l.plan b).sender) (entering l.plan n) i in
      let fits = fitting l.plan sound.standing.plan_fits_lem in
      let o = ordered_channels l.plan fits.channels in
      let (k, _) = entering_in l.plan n c j in
      omega (arith, eqb-true r q same, from, o.forward c k, o.inside c k, fits.nodes_most)

  held_small : {h : Held} → In h (node_at l n).held → h.sender < 255
  held_small {h} i =
      let e = in_right (node_at l n).log (in_map held_entry i) in
      parent_small h.sender ((sound.standing.nodes n within).fits.entries (held_entry h) e).origin.0

  emptied : replaying l n ≡ true → ((node_at l n).log ≡ []) × ((node_at l n).asked ≡ none)
  emptied e = subst (λ (z : Status). Empties z (node_at l n)) (is_replay_lem (node_at l n).status e) (sound.standing.nodes n within).fits.empties

-- ---- refused

-- The receiver in the line's plan.
to_line : (s : List ℕ) (b n : ℕ) → n ≡ (channel_at (plan_of s) b).receiver → n ≡ receiver_of (line_of s) b
to_line s b n e = e ∙ ap (λ (p : Plan). (channel_at p b).receiver) (sym (line-plan s))

pub entered : (s : List ℕ) (b n : ℕ) → Holds s (line_of s) → b < plan_channels s → (n ≡ (channel_at (plan_of s) b).receiver) × (n < plan_nodes s) → Enters s n b
entered s b n h below to = record { on = record { holds = h; inside = to.1 }; below = below; to = to_line s b n to.0 }

first_of : (q : List Message) (m : Message) → 0 < length q → m ≡ get_or q 0 no_message → q ≡ m ∷ drop 1 q
first_of [] m h e = let no : ⊥ = omega arith in absurd no
first_of (x ∷ q) m h e = ap (λ (y : Message). y ∷ q) (sym e)

-- From what the Take requires and what the code finds.
pub seen : (s : List ℕ) (a : Arrival)
    → Undamaged s × (a.channel < plan_channels s) × (end_down (line_of s) a.channel ≡ false) × (0 < length (lane_at (line_of s) a.channel).queue) × (replaying (line_of s) (receiver_of (line_of s) a.channel) ≡ true)
    → (a.node ≡ (channel_at (plan_of s) a.channel).receiver) × (a.node < plan_nodes s) → message_is a.message ≡ get_or (lane_at (line_of s) a.channel).queue 0 no_message
    → one_more a.last ≡ to_be_held (line_of s) a.channel (message_is a.message) → Seen s a
seen s a asked to first is = record {
  undamaged = asked.0;
  below = asked.1;
  alive = asked.2;
  again = asked.4;
  first = first_of (lane_at (line_of s) a.channel).queue (message_is a.message) asked.3 first;
  inside = to.1;
  to = to_line s a.channel a.node to.0;
  is = is;
}

-- Whether the row of the channel is complete, by all goals and its entry.
pub row_found : (s : List ℕ) (b n from : ℕ) (goals : List ℕ) (taken : ℕ) → Ready s → (from ≡ (channel_at (plan_of s) b).sender) × (from < plan_nodes s) → Rows goals (row_goal (node_at (line_of s) n).targets) → taken ≡ (lane_at (line_of s) b).taken
    → leb (get_or goals from 0) taken ≡ row_complete (line_of s) n b
unfolding row_complete
row_found s b n from goals taken ready f g t =
    ap₂ leb (g.each from (omega (arith, f.1, ready.nodes)) ∙ ap (row_goal (node_at (line_of s) n).targets) (f.0 ∙ ap (λ (p : Plan). (channel_at p b).sender) (sym (line-plan s)))) t

-- A complete row refuses whatever stands on the channel.
pub row_done : (s : List ℕ) (b n : ℕ)
    → Undamaged s × (b < plan_channels s) × (end_down (line_of s) b ≡ false) × (0 < length (lane_at (line_of s) b).queue) × (replaying (line_of s) (receiver_of (line_of s) b) ≡ true)
    → n ≡ (channel_at (plan_of s) b).receiver → row_complete (line_of s) n b ≡ true → Did s (take b) s 20
row_done s b n asked to e =
    let l = line_of s in
    let k : ℕ = receiver_of l b in
    let m : Message = get_or (lane_at l b).queue 0 no_message in
    let space : Bool = passed_on l.plan k (would_hold l b m).what && leb held_limit (length (node_at l k).held) in
    refused s (take b) 20 (λ z. omega arith)
    (number_is s asked.0 b asked.1 m (first_of (lane_at l b).queue m asked.3 refl) asked.4 asked.2 true space (is_nothing (effect l (take b))) (sym (ap (λ (j : ℕ). row_complete l j b) (to_line s b n to)) ∙ e) refl refl)

-- What is to be held is a record, or nothing.
some_held : (l : Line) (b : ℕ) (m : Message) → not (is_empty (to_be_held l b m)) ≡ passed_on l.plan (receiver_of l b) (would_hold l b m).what
some_held l b m = one (passed_on l.plan (receiver_of l b) (would_hold l b m).what)
  where
    one : (t : Bool) → not (is_empty (cond t (would_hold l b m ∷ []) [])) ≡ t
    one true = refl
    one false = refl

held_is_it : (l : Line) (b : ℕ) (m : Message) {h : Held} → In h (to_be_held l b m) → h ≡ would_hold l b m
held_is_it l b m {h} i = one (passed_on l.plan (receiver_of l b) (would_hold l b m).what) i
  where
    one : (t : Bool) → In h (cond t (would_hold l b m ∷ []) []) → h ≡ would_hold l b m
    one true j = elim (in_first j) [ inl q ↦ q | inr k ↦ absurd (in_none k) ]
    one false j = absurd (in_none j)

-- One more fits, if there is one.
room : (last : Option Waiting) (k : ℕ) → k ≤ held_limit → (not (is_empty (one_more last)) && leb held_limit k) ≡ false → k + length (one_more last) ≤ held_limit
room None k few e = omega arith
room (Some h) k few e = let less : k < held_limit = leb-false held_limit k e in omega arith

module _ {s : List ℕ} {a : Arrival} (v : Seen s a) where
  abbrev u : Undamaged s
  u = v.undamaged

  abbrev l : Line
  l = line_of s

  abbrev b : ℕ
  b = a.channel

  abbrev n : ℕ
  n = a.node

  abbrev m : Message
  m = message_is a.message

  abbrev k : ℕ
  k = receiver_of (line_of s) a.channel

  abbrev more : List Held
  more = one_more a.last

  abbrev goes_on : Bool
  goes_on = passed_on (line_of s).plan (receiver_of (line_of s) a.channel) (would_hold (line_of s) a.channel (message_is a.message)).what

  pub enters : Enters s a.node a.channel
  enters = record { on = record { holds = u.holds; inside = v.inside }; below = v.below; to = v.to }

  abbrev pub lacking : Bool
  lacking = not (is_empty (one_more a.last)) && leb held_limit (length (node_at (line_of s) a.node).held)

  same_lacking : lacking ≡ (goes_on && leb held_limit (length (node_at l k).held))
  same_lacking = ap₂ (λ (hs : List Held) (j : ℕ). not (is_empty hs) && leb held_limit (length (node_at l j).held)) v.is v.to ∙ ap (λ (t : Bool). t && leb held_limit (length (node_at l k).held)) (some_held l b m)

  pub space_left : lacking ≡ false → length (held_with (line_of s) a.node a.last) ≤ held_limit
  space_left e =
      let stored : length (node_at l n).held ≤ held_limit = (u.holds.fits.node n (rw v.to (inside s u b v.below m v.first v.again))).held.0 in
      omega (arith, room a.last (length (node_at l n).held) stored e, length-append (node_at l n).held more)

  row_of : (t : Bool) → row_complete l n b ≡ t → row_complete l k b ≡ t
  row_of t e = sym (ap (λ (j : ℕ). row_complete l j b) v.to) ∙ e

  pub lacks_space : row_complete (line_of s) a.node a.channel ≡ false → lacking ≡ true → Did s (take a.channel) s 21
  lacks_space e f = refused s (take b) 21 (λ z. omega arith) (number_is s u b v.below m v.first v.again v.alive false true (is_nothing (effect l (take b))) (row_of false e) (sym same_lacking ∙ f) refl)

  module _ (open_row : row_complete (line_of s) a.node a.channel ≡ false) (space : lacking ≡ false) where
    number : (o : Option-of Line) (t : Bool) → effect l (take b) ≡ o → is_nothing o ≡ t → line_refusal l (take b) ≡ (elim t [ true ↦ 24 | false ↦ 0 ])
    number o t e f = number_is s u b v.below m v.first v.again v.alive false false t (row_of false open_row) (sym same_lacking ∙ space) (ap is_nothing e ∙ f)

    -- The rows go on.
    pub held_on : (t : List ℕ) → rows_after (line_of s) a.node a.channel a.message.time ≡ false → Holds t (held_more a.node (one_more a.last) (taken_now (line_of s) a.channel (message_is a.message))) → Did s (take a.channel) t 0
    held_on t e now =
        let leads = goes_on_lem s u b v.below m v.first v.again (sym (ap (λ (j : ℕ). rows_after l j b m.time) v.to) ∙ e) in
        accepted s t (take b) (held_more k (to_be_held l b m) (taken_now l b m)) (number (some (held_more k (to_be_held l b m) (taken_now l b m))) false leads refl) leads
        (subst (Holds t) (λ i. held_more (v.to i) (v.is i) (taken_now l b m)) now)

    module _ (complete : rows_after (line_of s) a.node a.channel a.message.time ≡ true) where
      abbrev after : Line
      after = held_more (receiver_of (line_of s) a.channel) (to_be_held (line_of s) a.channel (message_is a.message)) (taken_now (line_of s) a.channel (message_is a.message))

      leads : effect l (take b) ≡ replay_end k after
      leads = comes_up s u b v.below m v.first v.again (sym (ap (λ (j : ℕ). rows_after l j b m.time) v.to) ∙ complete)

      -- As the end was asked.
      right : (A : ℕ → List Held → Type 0) → A n ((node_at l n).held ++ more) → A k ((node_at l k).held ++ to_be_held l b m)
      right A x = subst (λ (y : (ℕ × List Held)). A y.0 ((node_at l y.0).held ++ y.1)) (λ i. (v.to i, v.is i)) x

      pub not_placed : ((j : Line) → AsIn (line_of s) a.node (held_with (line_of s) a.node a.last) j → replay_end a.node j ≡ none) → Did s (take a.channel) s 24
      not_placed never =
          let gone = right (λ (j : ℕ) (hs : List Held). (i : Line) → AsIn l j hs i → replay_end j i ≡ none) never in
          refused s (take b) 24 (λ z. omega arith) (number none true (leads ∙ gone after (as_in s u b v.below m v.first v.again)) refl)

      module _ (log : List PlacedRecord) (ended : Ended (line_of s) a.node (held_with (line_of s) a.node a.last) log) where
        -- The log's numbers name held records.
        pub loggable : Loggable (line_of s) a.node (one_more a.last) log
        loggable =
            let sound = undamaged_sound l u.undamaged in
            let inner : n < node_count l.plan = rw v.to (inside s u b v.below m v.first v.again) in
            let fits = fitting l.plan u.holds.fits.plan in
            let o = ordered_channels l.plan fits.channels in
            let here_below : b < channel_count l.plan = rw (sym (holds_channels u.holds)) v.below in
            record {
              empty = (emptied l sound n inner (ap (replaying l) v.to ∙ v.again)).0;
              unasked = (emptied l sound n inner (ap (replaying l) v.to ∙ v.again)).1;
              few = omega (arith, ended.few, space_left space);
              numbers = ended.inside;
              senders = λ i h. elim (append_in (node_at l n).held (in_at ((node_at l n).held ++ more) i no_held h)) [
                | inl j ↦ held_small l sound n inner j
                | inr j ↦
                    (let it = held_is_it l b m (subst (λ (hs : List Held). In (get_or ((node_at l n).held ++ more) i no_held) hs) v.is j) in
                    rw (ap (λ (g : Held). g.sender) it) (omega (arith, o.forward b here_below, o.inside b here_below, fits.nodes_most)))
              ];
            }

        pub ended_take : (t : List ℕ) → Holds t (with_node a.node (ended_node (line_of s) a.node (end_log (line_of s) a.node (one_more a.last) log)) (taken_now (line_of s) a.channel (message_is a.message))) → Did s (take a.channel) t 0
        ended_take t now =
            let it = right (λ (j : ℕ) (hs : List Held). Ended l j hs log) ended in
            let last = with_node k (ended_node l k (end_log l k (to_be_held l b m) log)) (taken_now l b m) in
            let goal : effect l (take b) ≡ some last = leads ∙ it.now after (as_in s u b v.below m v.first v.again) ∙ ap some (ended_is s u b v.below m v.first v.again (end_log l k (to_be_held l b m) log)) in
            accepted s t (take b) last (number (some last) false goal refl) goal
            (subst (λ (x : (ℕ × List Held)). Holds t (with_node x.0 (ended_node l x.0 (end_log l x.0 x.1 log)) (taken_now l b m))) (λ i. (v.to i, v.is i)) now)
