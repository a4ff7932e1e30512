-- The run of the plain line that a history stands for: all feeds in order, then each node's takes, nodes rising.
use Prim.Native.Nat.{ℕ, zero, suc, ◌<◌, ◌≤◌}
use mathlib.Core.Path.{◌≡◌, refl, sym, ap, subst, fun_ext, ◌∙◌}
use mathlib.Core.Logic.{◌≢◌}
use mathlib.Core.Bool.{Bool, cond}
use mathlib.Core.List.{List, [], ◌∷◌, ◌++◌, map, append_assoc}
use native.Mathlib.Omega.{arith}
use native.Mathlib.Decide.{dec_lt, ℕ_discrete}
use lib.ListN.{length, get_or, length-map}
use lib.Dec.{ltb}
use borrow.Author.Tests.{eq-eqb, lt-ltb, le-ltb}
use Rattle.plan.specs.declared.Record.{Record}
use Rattle.plan.specs.declared.Channel.{Channel}
use Rattle.plan.specs.Plan.{Plan, channel_at}
use Rattle.rules.specs.Lists.{keep, keep_one}
use Rattle.rules.specs.Plain.{Act, feeds, takes_from, PlainLine, act, run_from, plain_start, plain_run, is_feed, run_feeds}
use Rattle.basics.specs.Update.{changed, changed_there, changed_else}
use Rattle.rules.proofs.Lists.ListLaws.{keep_append, map-append, append_cancel, nil_right}
use Rattle.rules.proofs.Histories.PlainRun.{Input, fed_in, took_in, what_in, from_channel, History, ins, outs, grown, Follows, follows_feed, follows_take}

-- A take of each input that was taken.
abbrev pub take_of : Input → List Act
take_of (fed_in r) = []
take_of (took_in b r) = takes_from b ∷ []

abbrev pub takes_of : List Input → List Act
takes_of [] = []
takes_of (i ∷ is) = take_of i ++ takes_of is

-- Inputs that were taken by node n from channels of the plan.
pub data Taken (p : Plan) (n : ℕ) : List Input → Type 0 where
  none : Taken p n []
  more : {b : ℕ} {r : Record} {is : List Input} → b < length p.channels → (channel_at p b).receiver ≡ n → (channel_at p b).sender < n → Taken p n is → Taken p n (took_in b r ∷ is)

pub taken-append : {p : Plan} {n : ℕ} {is js : List Input} → Taken p n is → Taken p n js → Taken p n (is ++ js)
taken-append none t = t
taken-append (more h q s r) t = more h q s (taken-append r t)

-- Every channel has given a part of what was put on it.
abbrev pub Prefixed : Plan → History → Type 0
Prefixed p h = (b : ℕ) → b < length p.channels → (rest : List Record) × (outs p h b ≡ ins p h b ++ rest)

outs_same : (p : Plan) (h k : History) (b : ℕ) → h (channel_at p b).sender ≡ k (channel_at p b).sender → outs p h b ≡ outs p k b
unfolding outs
outs_same p h k b e = rw e

ins_split : (p : Plan) (h : History) (b : ℕ) (before after : List Input) → h (channel_at p b).receiver ≡ before ++ after → ins p h b ≡ map what_in (keep (from_channel b) before) ++ map what_in (keep (from_channel b) after)
unfolding ins
ins_split p h b before after e = rw (e, keep_append (from_channel b) before after, map-append what_in (keep (from_channel b) before) (keep (from_channel b) after))

run_append : (p : Plan) (xs ys : List Act) (l : PlainLine) → run_from p (xs ++ ys) l ≡ run_from p ys (run_from p xs l)
run_append p [] ys l = refl
run_append p (x ∷ xs) ys l = run_append p xs ys (act p x l)

-- A history that has its own list at a node, and one changed there twice.
changed_same : (h : History) (n : ℕ) (xs : List Input) → xs ≡ h n → changed h n xs ≡ h
changed_same h n xs e = fun_ext λ m. elim (ℕ_discrete m n) [ yes q ↦ changed_there h n xs m q ∙ e ∙ ap h (sym q) | no d ↦ changed_else h n xs m d ]

changed_twice : (h : History) (n : ℕ) (xs ys : List Input) → changed (changed h n xs) n ys ≡ changed h n ys
changed_twice h n xs ys =
    fun_ext λ m. elim (ℕ_discrete m n) [
      | yes q ↦ changed_there (changed h n xs) n ys m q ∙ sym (changed_there h n ys m q)
      | no d ↦ changed_else (changed h n xs) n ys m d ∙ changed_else h n xs m d ∙ sym (changed_else h n ys m d)
    ]

-- One node's takes, once everything before it is done.
module _ (p : Plan) (whole : History) (prefixed : Prefixed p whole) (n : ℕ) where
  node_run : (before after : List Input) (h : History) (l : PlainLine) → Taken p n after → whole n ≡ before ++ after → h n ≡ before → ((m : ℕ) → m < n → h m ≡ whole m) → Follows p h l
      → Follows p (changed h n (whole n)) (run_from p (takes_of after) l)
  node_run before [] h l none w e lower f = subst (λ (k : History). Follows p k l) (sym (changed_same h n (whole n) (w ∙ nil_right before ∙ sym e))) f
  node_run before (fed_in _ ∷ after) h l i w e lower f = elim i [ ]
  node_run before (took_in b r ∷ after) h l (more m q s t) w e lower f =
      let X : List Record = map what_in (keep (from_channel b) before) in
      let Y : List Record = map what_in (keep (from_channel b) after) in
      let i : Input = took_in b r in
      let (rest, pre) = prefixed b m in
      let given : ins p h b ≡ X = ins_split p h b before [] (ap h q ∙ e ∙ sym (nil_right before)) ∙ nil_right X in
      let own : map what_in (keep (from_channel b) (i ∷ after)) ≡ r ∷ Y = ap (λ (t : Bool). map what_in (keep_one t i (keep (from_channel b) after))) (eq-eqb b b refl) in
      let all : ins p whole b ≡ X ++ r ∷ Y = ins_split p whole b before (i ∷ after) (ap whole q ∙ w) ∙ ap (λ (z : List Record). X ++ z) own in
      let queue : get_or l.queues b [] ≡ r ∷ (Y ++ rest) =
      append_cancel X (ap (λ (z : List Record). z ++ get_or l.queues b []) (sym given) ∙ sym (f.queue b m) ∙ outs_same p h whole b (lower (channel_at p b).sender s) ∙ pre ∙ ap (λ (z : List Record). z ++ rest) all ∙ append_assoc X (r ∷ Y) rest) in
      let next : Follows p (grown h n i) (act p (takes_from b) l) =
      subst (λ (k : ℕ). Follows p (grown h k i) (act p (takes_from b) l)) q (follows_take p h l b r (Y ++ rest) m (λ z. omega arith) queue f) in
      subst (λ (k : History). Follows p k (run_from p (takes_of after) (act p (takes_from b) l))) (changed_twice h n (h n ++ i ∷ []) (whole n))
      (node_run (before ++ i ∷ []) after (grown h n i) (act p (takes_from b) l) t (w ∙ sym (append_assoc before (i ∷ []) after))
      (changed_there h n (h n ++ i ∷ []) n refl ∙ ap (λ (z : List Input). z ++ i ∷ []) e) (λ k u. changed_else h n (h n ++ i ∷ []) k (λ z. omega arith) ∙ lower k u) next)

-- What each node is fed by some feeds.
abbrev pub fed_onto : History → List Act → History
fed_onto h [] = h
fed_onto h (feeds n r ∷ acts) = fed_onto (grown h n (fed_in r)) acts
fed_onto h (takes_from b ∷ acts) = fed_onto h acts

abbrev pub no_inputs : History
no_inputs = λ n. []

-- Only feeds.
pub data Feeds : List Act → Type 0 where
  no_more : Feeds []
  one_more : {n : ℕ} {r : Record} {acts : List Act} → Feeds acts → Feeds (feeds n r ∷ acts)

feeds_follow : (p : Plan) {acts : List Act} → Feeds acts → (h : History) (l : PlainLine) → Follows p h l → Follows p (fed_onto h acts) (run_from p acts l)
feeds_follow p no_more h l f = f
feeds_follow p (one_more {n} {r} t) h l f = feeds_follow p t (grown h n (fed_in r)) (act p (feeds n r) l) (follows_feed p h l n r f)

feeds_kept : {acts : List Act} → Feeds acts → run_feeds acts ≡ acts
feeds_kept no_more = refl
feeds_kept (one_more {n} {r} t) = ap (λ (x : List Act). feeds n r ∷ x) (feeds_kept t)

takes-dropped : (is : List Input) → run_feeds (takes_of is) ≡ []
takes-dropped [] = refl
takes-dropped (fed_in r ∷ is) = takes-dropped is
takes-dropped (took_in b r ∷ is) = takes-dropped is

-- The history of some feeds: what each node was fed, and then what it took, every channel having given a part of what was put on it.
pub record HistoryOf (p : Plan) (nodes : ℕ) (fed : List Act) (whole : History) : Type 0 where
  pub only_feeds : Feeds fed
  pub taken : History
  pub parts : (n : ℕ) → whole n ≡ fed_onto no_inputs fed n ++ taken n
  pub valid : (n : ℕ) → Taken p n (taken n)
  pub beyond : (n : ℕ) → nodes ≤ n → taken n ≡ []
  pub prefixed : Prefixed p whole

start_follows : (p : Plan) → Follows p no_inputs (plain_start p)
unfolding plain_start ins outs
start_follows p = record { long = length-map p.channels (λ (c : Channel). []); queue = λ b l. sym (empty p.channels b); received = λ n. refl }
  where
    empty : (cs : List Channel) (b : ℕ) → ◌≡◌ {A = List Record} (get_or (map (λ (c : Channel). []) cs) b []) []
    empty [] b = refl
    empty (c ∷ cs) zero = refl
    empty (c ∷ cs) (suc b) = empty cs b

module _ (p : Plan) (nodes : ℕ) (fed : List Act) (whole : History) (h : HistoryOf p nodes fed whole) where
  -- The nodes below k have taken all they take.
  stage : ℕ → History
  stage k = λ n. cond (ltb n k) (whole n) (fed_onto no_inputs fed n)

  takes_below : ℕ → List Act
  takes_below zero = []
  takes_below (suc k) = takes_below k ++ takes_of (h.taken k)

  stage_next : (k : ℕ) → changed (stage k) k (whole k) ≡ stage (suc k)
  unfolding stage
  stage_next k =
      fun_ext λ n. elim (ℕ_discrete n k) [
        | yes q ↦ changed_there (stage k) k (whole k) n q ∙ ap whole (sym q) ∙ sym (ap (λ (t : Bool). cond t (whole n) (fed_onto no_inputs fed n)) (lt-ltb n (suc k) (omega arith)))
        | no d ↦ changed_else (stage k) k (whole k) n d ∙ ap (λ (t : Bool). cond t (whole n) (fed_onto no_inputs fed n)) (same n d)
      ]
    where
      same : (n : ℕ) → n ≢ k → ltb n k ≡ ltb n (suc k)
      same n d = elim (dec_lt n k) [ yes l ↦ lt-ltb n k l ∙ sym (lt-ltb n (suc k) (omega arith)) | no g ↦ le-ltb n k (omega arith) ∙ sym (le-ltb n (suc k) (omega arith)) ]

  stages : (k : ℕ) → Follows p (stage k) (run_from p (takes_below k) (run_from p fed (plain_start p)))
  unfolding stage takes_below
  stages zero =
      subst (λ (k : History). Follows p k (run_from p fed (plain_start p)))
      (fun_ext λ n. sym (ap (λ (t : Bool). cond t (whole n) (fed_onto no_inputs fed n)) (le-ltb n 0 (omega arith))))
      (feeds_follow p h.only_feeds no_inputs (plain_start p) (start_follows p))
  stages (suc k) =
      let l : PlainLine = run_from p (takes_below k) (run_from p fed (plain_start p)) in
      rw (run_append p (takes_below k) (takes_of (h.taken k)) (run_from p fed (plain_start p)))
      (subst (λ (g : History). Follows p g (run_from p (takes_of (h.taken k)) l)) (stage_next k)
      (node_run p whole h.prefixed k (fed_onto no_inputs fed k) (h.taken k) (stage k) l (h.valid k) (h.parts k)
      (ap (λ (t : Bool). cond t (whole k) (fed_onto no_inputs fed k)) (le-ltb k k (omega arith)))
      (λ m u. ap (λ (t : Bool). cond t (whole m) (fed_onto no_inputs fed m)) (lt-ltb m k u)) (stages k)))

  stage_last : stage nodes ≡ whole
  unfolding stage
  stage_last =
      fun_ext λ n. elim (dec_lt n nodes) [
        | yes l ↦ ap (λ (t : Bool). cond t (whole n) (fed_onto no_inputs fed n)) (lt-ltb n nodes l)
        | no g ↦ ap (λ (t : Bool). cond t (whole n) (fed_onto no_inputs fed n)) (le-ltb n nodes (omega arith)) ∙ sym (h.parts n ∙ ap (λ (x : List Input). fed_onto no_inputs fed n ++ x) (h.beyond n (omega arith)) ∙ nil_right (fed_onto no_inputs fed n))
      ]

  below_dropped : (k : ℕ) → run_feeds (takes_below k) ≡ []
  unfolding takes_below
  below_dropped zero = refl
  below_dropped (suc k) = keep_append is_feed (takes_below k) (takes_of (h.taken k)) ∙ ap (λ (x : List Act). x ++ run_feeds (takes_of (h.taken k))) (below_dropped k) ∙ takes-dropped (h.taken k)

  -- A history is a run: its feeds are the feeds, every node receives what it took, and each channel holds what was put on it and not taken.
  pub history_is_run : (acts : List Act) × (run_feeds acts ≡ fed) × Follows p whole (plain_run p acts)
  unfolding plain_run
  history_is_run = (
    fed ++ takes_below nodes,
    keep_append is_feed fed (takes_below nodes) ∙ ap (λ (x : List Act). run_feeds fed ++ x) (below_dropped nodes) ∙ nil_right (run_feeds fed) ∙ feeds_kept h.only_feeds,
    rw (run_append p fed (takes_below nodes) (plain_start p)) (subst (λ (g : History). Follows p g (run_from p (takes_below nodes) (run_from p fed (plain_start p)))) stage_last (stages nodes)),
  )
