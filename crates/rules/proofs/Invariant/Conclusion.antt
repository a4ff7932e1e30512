-- From the invariant to one run of the plain line, which gives every node that never crashed what it received.
use Prim.Native.Nat.{ℕ, ◌<◌, ◌≤◌}
use mathlib.Core.Path.{◌≡◌, refl, sym, ap, ◌∙◌}
use mathlib.Core.Bool.{Bool, true, false, cond}
use mathlib.Core.List.{List, [], ◌++◌, map}
use lib.ListN.{get_or}
use Rattle.plan.specs.declared.Record.{Record}
use Rattle.plan.specs.Plan.{node_count, channel_count, is_source}
use Rattle.rules.specs.Line.{Message, Line, node_at}
use Rattle.rules.specs.Plain.{Act, Receipt, plain_run, run_feeds}
use Rattle.rules.specs.Claim.{received_by}
use Rattle.rules.proofs.Lists.ListLaws.{map-append, append_cancel, nil_right}
use Rattle.rules.proofs.Lists.Rising.{past, cut_at}
use Rattle.rules.proofs.Histories.PlainRun.{Input, ins, Follows}
use Rattle.rules.proofs.Histories.Witness.{Taken, none, Prefixed, HistoryOf, fed_onto, no_inputs, history_is_run}
use Rattle.rules.proofs.Histories.Ghost.{Ghost, input_of, put, got, what_of, history_of, outs_put, ins_got}
use Rattle.rules.proofs.Invariant.Inv.{time_of, Nodes, Channels}

module _ (l : Line) (g : Ghost) (cut : ℕ → ℕ) (fed : List Act) (receipts : List Receipt) (crashes : List ℕ)
    (nodes : Nodes l g fed receipts) (channels : (b : ℕ) → b < channel_count l.plan → Channels l g cut b) where
  -- Every channel has given a part of what was put on it; the rest lies past the cut.
  put_split : (b : ℕ) → b < channel_count l.plan → put l.plan g b ≡ got l.plan g b ++ past time_of (cut b) (put l.plan g b)
  put_split b m = cut_at time_of (cut b) (channels b m).rises ∙ ap (λ (x : List Message). x ++ past time_of (cut b) (put l.plan g b)) (sym (channels b m).cut_is)

  prefix : Prefixed l.plan (history_of g)
  prefix b m = (
    map what_of (past time_of (cut b) (put l.plan g b)),
    outs_put l.plan g b ∙ ap (map what_of) (put_split b m) ∙ map-append what_of (got l.plan g b) (past time_of (cut b) (put l.plan g b))
        ∙ ap (λ (x : List Record). x ++ map what_of (past time_of (cut b) (put l.plan g b))) (sym (ins_got l.plan g b)),
  )

  taken_part : ℕ → List Input
  taken_part n = cond (is_source l.plan n) [] (map input_of (g n))

  parts-of : (n : ℕ) (b : Bool) → is_source l.plan n ≡ b → map input_of (g n) ≡ fed_onto no_inputs fed n ++ cond b [] (map input_of (g n))
  parts-of n true e = nodes.sources n e ∙ sym (nil_right (fed_onto no_inputs fed n))
  parts-of n false e = ap (λ (x : List Input). x ++ map input_of (g n)) (sym (nodes.others n e).0)

  valid_of : (n : ℕ) (b : Bool) → is_source l.plan n ≡ b → Taken l.plan n (cond b [] (map input_of (g n)))
  valid_of n true e = none
  valid_of n false e = (nodes.others n e).1

  beyond_of : (n : ℕ) (b : Bool) → node_count l.plan ≤ n → cond b [] (map input_of (g n)) ≡ []
  beyond_of n true h = refl
  beyond_of n false h = ap (map input_of) (nodes.beyond n h)

  history : HistoryOf l.plan (node_count l.plan) fed (history_of g)
  unfolding taken_part
  history =
      record {
        only_feeds = nodes.only_feeds;
        taken = taken_part;
        parts = λ n. parts-of n (is_source l.plan n) refl;
        valid = λ n. valid_of n (is_source l.plan n) refl;
        beyond = λ n h. beyond_of n (is_source l.plan n) h;
        prefixed = prefix;
      }

  -- The one run.
  pub run : (acts : List Act) × (run_feeds acts ≡ fed) × Follows l.plan (history_of g) (plain_run l.plan acts)
  run = history_is_run l.plan (node_count l.plan) fed (history_of g) history

  -- It gives every node without a crash mark what it received.
  pub run_gives : (n : ℕ) → (node_at l n).crashed ≡ false → received_by n (plain_run l.plan run.0).received ≡ received_by n receipts
  run_gives n e = run.2.received n ∙ sym (nodes.received n e)

  -- Where nothing put on a channel is still to come, the run leaves it empty.
  pub run_empties : (b : ℕ) → b < channel_count l.plan → past time_of (cut b) (put l.plan g b) ≡ [] → get_or (plain_run l.plan run.0).queues b [] ≡ []
  run_empties b m e =
      sym (append_cancel (ins l.plan (history_of g) b)
      (nil_right (ins l.plan (history_of g) b) ∙ ins_got l.plan g b
      ∙ ap (map what_of) (sym (nil_right (got l.plan g b)) ∙ ap (λ (x : List Message). got l.plan g b ++ x) (sym e) ∙ sym (put_split b m))
      ∙ sym (outs_put l.plan g b) ∙ run.2.queue b m))
