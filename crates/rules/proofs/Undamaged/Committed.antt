-- A kept answer that is right, applied, gives what Recover gives.
use Prim.Native.Nat.{ℕ, ◌-◌, ◌<◌}
use mathlib.Core.Path.{◌≡◌, refl, ap, ◌∙◌}
use mathlib.Core.Bool.{Bool, true}
use mathlib.Core.List.{List, [], ◌∷◌, ◌++◌, map}
use mathlib.Core.Option.{Option, some, none}
use native.Mathlib.Decide.{ℕ_discrete}
use lib.ListN.{length, replicate}
use borrow.Author.Tests.{eq-eqb, ne_eqb, le-ltb}
use Rattle.plan.specs.Plan.{node_count, channel_at, entering, leaving}
use Rattle.rules.specs.Line.{target_limit, Target, Asked, Node, Lane, Line, node_at, lane_at, with_node, with_lane, with_lanes, fresh_lane}
use Rattle.rules.specs.Frame.{recover, commit}
use Rattle.rules.specs.Recover.{low_of, restored, targets_of, restored_to, recovered, answer_of, beside, committed, status_of}
use Rattle.rules.specs.Step.{committed_by, committed_line, recovered_line, effect}
use Rattle.rules.proofs.Lists.Members.{In, here, there}
use Rattle.rules.proofs.Line.LineLaws.{node_twice}
use Rattle.rules.proofs.Lists.Options.{something_there}
use Rattle.rules.proofs.Invariant.Inv.{Ordered, Shape}
use Rattle.rules.proofs.Theorem.Accepted.{Passed}
use Rattle.rules.proofs.Undamaged.Standing.{Answers}
use Rattle.rules.proofs.Undamaged.Restored.{unless, recovers_by}

-- One change for each of some channels, said in two ways.
lanes_alike : (f g : ℕ → Lane → Lane) (bs : List ℕ) (l : Line) → ((b : ℕ) → In b bs → (s : Lane) → f b s ≡ g b s) → with_lanes f bs l ≡ with_lanes g bs l
lanes_alike f g [] l h = refl
lanes_alike f g (b ∷ bs) l h =
    ap (λ (s : Lane). with_lanes f bs (with_lane b s l)) (h b here (lane_at l b)) ∙ lanes_alike f g bs (with_lane b (g b (lane_at l b)) l) (λ c i. h c (there i))

beside-map : (f : ℕ → ℕ) (cs rest : List ℕ) {c : ℕ} → In c cs → beside cs (map f cs ++ rest) c ≡ f c
beside-map f [] rest i = elim i [ ]
beside-map f (c ∷ cs) rest here = rw (eq-eqb c c refl)
beside-map f (b ∷ cs) rest {c} (there i) =
    elim (ℕ_discrete b c) [
      | yes q ↦ rw (eq-eqb b c q) (ap f q)
      | no d ↦ rw (ne_eqb b c d) (beside-map f cs rest i)
    ]

swept_over : (f g : ℕ → Lane → Lane) (bs cs : List ℕ) (n : ℕ) (x y : Node) (l : Line) → with_lanes f bs (with_lanes g cs (with_node n y (with_node n x l))) ≡ with_lanes f bs (with_lanes g cs (with_node n y l))
swept_over f g bs cs n x y l = ap (λ (k : Line). with_lanes f bs (with_lanes g cs k)) (node_twice n x l y)

-- What is restored goes by the entries of the channels that enter the node, and by nothing that the node had.
module _ (low : ℕ) (ts : List Target) (n : ℕ) (l : Line) where
  restored_alike : (f g : ℕ → ℕ) → ((c : ℕ) → In c (entering l.plan n) → f c ≡ g c) → restored_to low ts f n l ≡ restored_to low ts g n l
  unfolding restored_to
  restored_alike f g same = lanes_alike _ _ (entering l.plan n) _ (λ c i s. ap (fresh_lane l.plan (channel_at l.plan c)) (same c i))

  pub restored_over : (x : Node) (f : ℕ → ℕ) → restored_to low ts f n (with_node n x l) ≡ restored_to low ts f n l
  unfolding restored_to
  restored_over x f = swept_over (λ (c : ℕ) (s : Lane). fresh_lane l.plan (channel_at l.plan c) (f c)) (λ (c : ℕ) (s : Lane). record { mark = s.taken; taken = s.taken; heard = s.heard; queue = s.queue; low = s.low }) (entering l.plan n) (leaving l.plan n) n x (record { status = status_of ts; crashed = true; time = low; log = []; held = []; targets = ts; asked = none }) l

-- What Recover finds, read from an answer.
module _ (l : Line) (n : ℕ) where
  pub answer_restores : restored_to (low_of l n) (targets_of l n) (beside (entering l.plan n) (answer_of l n).entries) n l ≡ recovered n l
  unfolding recovered answer_of
  answer_restores =
      let entry : ℕ → ℕ = λ c. restored l n (channel_at l.plan c).sender in
      restored_alike (low_of l n) (targets_of l n) n l _ entry (λ c i. beside-map entry (entering l.plan n) (replicate (4 - length (entering l.plan n)) 0) i)

  pub committed_by_lem : (a : Asked) → a ≡ answer_of l n → (node_at l n).targets ≡ targets_of l n → committed n a l ≡ recovered n l
  unfolding committed answer_of
  committed_by_lem a is targets = (λ i. restored_to (is i).low (targets i) (beside (entering l.plan n) (is i).entries) n l) ∙ answer_restores

module _ (l : Line) (n : ℕ) (a : Asked) (f : Answers l n a) where
  -- A kept answer that is right, applied.
  pub committed_is : committed n a l ≡ recovered n l
  committed_is = committed_by_lem l n a f.is f.targets

  -- And Recover is not refused with 24.
  pub recover_goes : Ordered l.plan → Shape l → n < node_count l.plan → recovered_line n l ≡ some (recovered n l)
  recover_goes ordered shape inside = recovers_by l ordered shape n inside ∙ ap (λ (t : Bool). unless t (recovered n l)) f.goes

-- A Commit that is accepted is a Recover that would be.
module _ (l : Line) (n : ℕ) {who : ℕ} (p : Passed l who (commit n)) (right : (a : Asked) → (node_at l n).asked ≡ some a → Answers l n a) where
  pub commit_is : effect l (commit n) ≡ some (recovered n l)
  unfolding effect committed_line
  commit_is = let (a, q) = something_there (node_at l n).asked p.answered in ap some (ap (λ (o : Option Asked). committed_by n o l) q ∙ committed_is l n a (right a q))

  pub recover_leads : Ordered l.plan → Shape l → n < node_count l.plan → effect l (recover n) ≡ some (recovered n l)
  unfolding effect
  recover_leads ordered shape inside = let (a, q) = something_there (node_at l n).asked p.answered in recover_goes l n a (right a q) ordered shape inside

  pub as_recover : Ordered l.plan → Shape l → n < node_count l.plan → Passed l who (recover n)
  unfolding effect
  as_recover ordered shape inside =
      let (a, q) = something_there (node_at l n).asked p.answered in
      let f = right a q in
      record {
        console = p.console;
        steps_left = p.steps_left;
        is_there = p.is_there;
        none_stopped = refl;
        right_node = p.right_node;
        right_status = p.right_status;
        apart = refl;
        answered = refl;
        record_good = refl;
        something = refl;
        room = refl;
        row_open = refl;
        space = le-ltb target_limit (length (targets_of l n)) f.few;
        next = recovered n l;
        leads = recover_leads ordered shape inside;
      }
