-- The plain line after a feed or a take, by its history: what each node took in, and what each channel was given and holds.
use Prim.Native.Nat.{ℕ, zero, suc, ◌<◌}
use mathlib.Core.Path.{◌≡◌, refl, sym, ap, subst, ◌∙◌}
use mathlib.Core.Logic.{◌≢◌}
use mathlib.Core.Bool.{Bool, true, false, ◌&&◌}
use mathlib.Core.List.{List, [], ◌∷◌, ◌++◌, map, append_assoc}
use native.Mathlib.Omega.{arith}
use native.Mathlib.Decide.{ℕ_discrete}
use lib.ListN.{length, get_or, set, length-set}
use lib.Seq.{get_or-set_same, get_or-set_other}
use lib.Dec.{eqb}
use borrow.Author.Tests.{eq-eqb, ne_eqb}
use Rattle.plan.specs.declared.Record.{Record}
use Rattle.plan.specs.declared.Channel.{Channel}
use Rattle.plan.specs.Rule.{applied}
use Rattle.plan.specs.Channel.{takes}
use Rattle.plan.specs.Plan.{Plan, rule_at, channel_at, no_channel}
use Rattle.rules.specs.Lists.{keep, keep_one}
use Rattle.rules.specs.Plain.{feeds, takes_from, Receipt, PlainLine, join_if, join_each, pass_on, act}
use Rattle.rules.specs.Claim.{received_by}
use Rattle.basics.specs.Update.{changed, changed_there, changed_else}
use Rattle.rules.proofs.Lists.ListLaws.{keep_append, map-append, nil_right}

-- What a node took in: a record fed, or a record taken from a channel.
pub data Input : Type 0 where
  fed_in : Record → Input
  took_in : ℕ → Record → Input

abbrev pub what_in : Input → Record
what_in (fed_in r) = r
what_in (took_in b r) = r

abbrev pub from_channel : ℕ → Input → Bool
from_channel b (fed_in r) = false
from_channel b (took_in c r) = eqb c b

-- What each node has taken in, in order.
abbrev pub History : Type 0
History = ℕ → List Input

-- The records that channel b has given its receiver, and those that its sender has put on it.
unfoldable pub ins : Plan → History → ℕ → List Record
ins p h b = map what_in (keep (from_channel b) (h (channel_at p b).receiver))

unfoldable pub outs : Plan → History → ℕ → List Record
outs p h b = keep (takes (channel_at p b)) (map (λ (i : Input). applied (rule_at p (channel_at p b).sender) (what_in i)) (h (channel_at p b).sender))

abbrev pub receipt_in : Plan → ℕ → Input → List Receipt
receipt_in p n (fed_in r) = []
receipt_in p n (took_in b r) = record { receiver = n; what = r; sender = (channel_at p b).sender } ∷ []

abbrev pub receipts_in : Plan → ℕ → List Input → List Receipt
receipts_in p n [] = []
receipts_in p n (i ∷ is) = receipt_in p n i ++ receipts_in p n is

-- A plain line whose queues hold what was put on and not taken, and whose receipts are the history's.
pub record Follows (p : Plan) (h : History) (l : PlainLine) : Type 0 where
  pub long : length l.queues ≡ length p.channels
  pub queue : (b : ℕ) → b < length p.channels → outs p h b ≡ ins p h b ++ get_or l.queues b []
  pub received : (n : ℕ) → received_by n l.received ≡ receipts_in p n (h n)

length_join : (n : ℕ) (r : Record) (cs : List Channel) (qs : List (List Record)) → length qs ≡ length cs → length (join_each n r cs qs) ≡ length cs
length_join n r [] qs e = refl
length_join n r (c ∷ cs) [] e = omega arith
length_join n r (c ∷ cs) (q ∷ qs) e = ap suc (length_join n r cs qs (omega arith))

join_at : (n : ℕ) (r : Record) (cs : List Channel) (qs : List (List Record)) (b : ℕ) → length qs ≡ length cs → b < length cs
    → get_or (join_each n r cs qs) b [] ≡ join_if (eqb (get_or cs b no_channel).sender n && takes (get_or cs b no_channel) r) r (get_or qs b [])
join_at n r [] qs b e l = let no : ⊥ = omega arith in absurd no
join_at n r (c ∷ cs) [] b e l = let no : ⊥ = omega arith in absurd no
join_at n r (c ∷ cs) (q ∷ qs) zero e l = refl
join_at n r (c ∷ cs) (q ∷ qs) (suc b) e l = join_at n r cs qs b (omega arith) (omega arith)

-- One more input at node n.
abbrev pub grown : History → ℕ → Input → History
grown h n i = changed h n (h n ++ i ∷ [])

outs_there : (p : Plan) (h : History) (n b : ℕ) (i : Input) → (channel_at p b).sender ≡ n
    → outs p (grown h n i) b ≡ outs p h b ++ keep (takes (channel_at p b)) (applied (rule_at p (channel_at p b).sender) (what_in i) ∷ [])
unfolding outs
outs_there p h n b i e =
    let f : Input → Record = λ j. applied (rule_at p (channel_at p b).sender) (what_in j) in
    let more : grown h n i (channel_at p b).sender ≡ h (channel_at p b).sender ++ i ∷ [] = changed_there h n (h n ++ i ∷ []) (channel_at p b).sender e ∙ ap (λ (k : ℕ). h k ++ i ∷ []) (sym e) in
    rw (more, map-append f (h (channel_at p b).sender) (i ∷ []), keep_append (takes (channel_at p b)) (map f (h (channel_at p b).sender)) (f i ∷ []))

outs_else : (p : Plan) (h : History) (n b : ℕ) (i : Input) → (channel_at p b).sender ≢ n → outs p (grown h n i) b ≡ outs p h b
unfolding outs
outs_else p h n b i d = rw (changed_else h n (h n ++ i ∷ []) (channel_at p b).sender d)

ins_there : (p : Plan) (h : History) (n b : ℕ) (i : Input) → (channel_at p b).receiver ≡ n → ins p (grown h n i) b ≡ ins p h b ++ map what_in (keep (from_channel b) (i ∷ []))
unfolding ins
ins_there p h n b i e =
    let more : grown h n i (channel_at p b).receiver ≡ h (channel_at p b).receiver ++ i ∷ [] = changed_there h n (h n ++ i ∷ []) (channel_at p b).receiver e ∙ ap (λ (k : ℕ). h k ++ i ∷ []) (sym e) in
    rw (more, keep_append (from_channel b) (h (channel_at p b).receiver) (i ∷ []), map-append what_in (keep (from_channel b) (h (channel_at p b).receiver)) (keep (from_channel b) (i ∷ [])))

ins_else : (p : Plan) (h : History) (n b : ℕ) (i : Input) → (channel_at p b).receiver ≢ n → ins p (grown h n i) b ≡ ins p h b
unfolding ins
ins_else p h n b i d = rw (changed_else h n (h n ++ i ∷ []) (channel_at p b).receiver d)

-- An input that is not of channel b leaves what b has given.
ins_other : (p : Plan) (h : History) (n b : ℕ) (i : Input) → from_channel b i ≡ false → ins p (grown h n i) b ≡ ins p h b
ins_other p h n b i e =
    elim (ℕ_discrete (channel_at p b).receiver n) [
      | no d ↦ ins_else p h n b i d
      | yes q ↦ ins_there p h n b i q ∙ (rw e (nil_right (ins p h b)))
    ]

ins_own : (p : Plan) (h : History) (b : ℕ) (r : Record) → ins p (grown h (channel_at p b).receiver (took_in b r)) b ≡ ins p h b ++ r ∷ []
ins_own p h b r = ins_there p h (channel_at p b).receiver b (took_in b r) refl ∙ ap (λ (t : Bool). ins p h b ++ map what_in (keep_one t (took_in b r) [])) (eq-eqb b b refl)

joined_if : (t : Bool) (r : Record) (q : List Record) → join_if t r q ≡ q ++ keep_one t r []
joined_if true r q = refl
joined_if false r q = sym (nil_right q)

-- A record that goes on from node n: what each channel has been given and what it holds grow together.
goes_on_lem : (p : Plan) (h : History) (n b : ℕ) (i : Input) (qs : List (List Record)) → length qs ≡ length p.channels → b < length p.channels
    → (given held : List Record) → get_or qs b [] ≡ held → outs p h b ≡ given ++ held
    → outs p (grown h n i) b ≡ given ++ get_or (join_each n (applied (rule_at p n) (what_in i)) p.channels qs) b []
goes_on_lem p h n b i qs long l given held here e =
    elim (ℕ_discrete (channel_at p b).sender n) [
      | yes q ↦
          (let r : Record = applied (rule_at p n) (what_in i) in
          let same : applied (rule_at p (channel_at p b).sender) (what_in i) ≡ r = ap (λ (k : ℕ). applied (rule_at p k) (what_in i)) q in
          outs_there p h n b i q
          ∙ ap (λ (x : Record). outs p h b ++ keep (takes (channel_at p b)) (x ∷ [])) same
          ∙ ap (λ (x : List Record). x ++ keep_one (takes (channel_at p b) r) r []) e
          ∙ append_assoc given held (keep_one (takes (channel_at p b) r) r [])
          ∙ ap (λ (x : List Record). given ++ x)
          (sym (join_at n r p.channels qs b long l ∙ ap (λ (t : Bool). join_if (t && takes (channel_at p b) r) r (get_or qs b [])) (eq-eqb (channel_at p b).sender n q) ∙ ap (λ (x : List Record). join_if (takes (channel_at p b) r) r x) here ∙ joined_if (takes (channel_at p b) r) r held)))
      | no d ↦
          (let r : Record = applied (rule_at p n) (what_in i) in
          outs_else p h n b i d ∙ e
          ∙ ap (λ (x : List Record). given ++ x) (sym (join_at n r p.channels qs b long l ∙ ap (λ (t : Bool). join_if (t && takes (channel_at p b) r) r (get_or qs b [])) (ne_eqb (channel_at p b).sender n d) ∙ here)))
    ]

pub receipts_append : (p : Plan) (n : ℕ) (is js : List Input) → receipts_in p n (is ++ js) ≡ receipts_in p n is ++ receipts_in p n js
receipts_append p n [] js = refl
receipts_append p n (i ∷ is) js = ap (λ (x : List Receipt). receipt_in p n i ++ x) (receipts_append p n is js) ∙ sym (append_assoc (receipt_in p n i) (receipts_in p n is) (receipts_in p n js))

receipts_there : (p : Plan) (h : History) (n m : ℕ) (i : Input) → m ≡ n → receipts_in p m (grown h n i m) ≡ receipts_in p m (h m) ++ (receipt_in p m i ++ [])
receipts_there p h n m i e = ap (receipts_in p m) (changed_there h n (h n ++ i ∷ []) m e ∙ ap (λ (k : ℕ). h k ++ i ∷ []) (sym e)) ∙ receipts_append p m (h m) (i ∷ [])

receipts_else : (p : Plan) (h : History) (n m : ℕ) (i : Input) → m ≢ n → receipts_in p m (grown h n i m) ≡ receipts_in p m (h m)
receipts_else p h n m i d = ap (receipts_in p m) (changed_else h n (h n ++ i ∷ []) m d)

-- A feed follows the history with one more record fed.
pub follows_feed : (p : Plan) (h : History) (l : PlainLine) (n : ℕ) (r : Record) → Follows p h l → Follows p (grown h n (fed_in r)) (act p (feeds n r) l)
unfolding act pass_on
follows_feed p h l n r f =
    record {
      long = length_join n (applied (rule_at p n) r) p.channels l.queues f.long;
      queue = λ b m. goes_on_lem p h n b (fed_in r) l.queues f.long m (ins p h b) (get_or l.queues b []) refl (f.queue b m) ∙ ap (λ (x : List Record). x ++ get_or (join_each n (applied (rule_at p n) r) p.channels l.queues) b []) (sym (ins_other p h n b (fed_in r) refl));
      received = λ m. f.received m ∙ elim (ℕ_discrete m n) [
        | yes e ↦ sym (receipts_there p h n m (fed_in r) e ∙ nil_right (receipts_in p m (h m)))
        | no d ↦ sym (receipts_else p h n m (fed_in r) d)
      ];
    }

-- A receipt of another node.
pub receipt_else : (receipts : List Receipt) (x : Receipt) (k : ℕ) → k ≢ x.receiver → received_by k (receipts ++ x ∷ []) ≡ received_by k receipts
receipt_else receipts x k d =
    keep_append (λ (r : Receipt). eqb r.receiver k) receipts (x ∷ []) ∙ ap (λ (t : Bool). received_by k receipts ++ keep_one t x []) (ne_eqb x.receiver k (λ q. d (sym q))) ∙ nil_right (received_by k receipts)

pub taken-receipt : (p : Plan) (h : History) (l : PlainLine) (b : ℕ) (r : Record) (k : ℕ) → received_by k l.received ≡ receipts_in p k (h k)
    → received_by k (l.received ++ record { receiver = (channel_at p b).receiver; what = r; sender = (channel_at p b).sender } ∷ []) ≡ receipts_in p k (grown h (channel_at p b).receiver (took_in b r) k)
taken-receipt p h l b r k e =
    let n : ℕ = (channel_at p b).receiver in
    let one : Receipt = record { receiver = n; what = r; sender = (channel_at p b).sender } in
    elim (ℕ_discrete k n) [
      | yes q ↦
          keep_append (λ (x : Receipt). eqb x.receiver k) l.received (one ∷ [])
          ∙ ap (λ (x : List Receipt). x ++ keep_one (eqb n k) one []) e
          ∙ ap (λ (t : Bool). receipts_in p k (h k) ++ keep_one t one []) (eq-eqb n k (sym q))
          ∙ ap (λ (x : ℕ). receipts_in p k (h k) ++ record { receiver = x; what = r; sender = (channel_at p b).sender } ∷ []) (sym q)
          ∙ sym (receipts_there p h n k (took_in b r) q)
      | no d ↦ receipt_else l.received one k d ∙ e ∙ sym (receipts_else p h n k (took_in b r) d)
    ]

-- A take follows the history with one more record taken.
pub follows_take : (p : Plan) (h : History) (l : PlainLine) (b : ℕ) (r : Record) (rest : List Record) → b < length p.channels → (channel_at p b).sender ≢ (channel_at p b).receiver
    → get_or l.queues b [] ≡ r ∷ rest → Follows p h l → Follows p (grown h (channel_at p b).receiver (took_in b r)) (act p (takes_from b) l)
unfolding act pass_on
follows_take p h l b r rest m apart first f =
    let n : ℕ = (channel_at p b).receiver in
    let i : Input = took_in b r in
    let on : Record = applied (rule_at p n) r in
    let qs : List (List Record) = set l.queues b rest in
    let long : length qs ≡ length p.channels = length-set l.queues b rest ∙ f.long in
    rw first
    (record {
      long = length_join n on p.channels qs long;
      queue = λ c k. elim (ℕ_discrete c b) [
        | yes e ↦ subst (λ (x : ℕ). outs p (grown h n i) x ≡ ins p (grown h n i) x ++ get_or (join_each n on p.channels qs) x []) (sym e)
            (goes_on_lem p h n b i qs long m (ins p h b ++ r ∷ []) rest (get_or-set_same l.queues b rest [] (omega (arith, f.long)))
            (f.queue b m ∙ ap (λ (x : List Record). ins p h b ++ x) first ∙ sym (append_assoc (ins p h b) (r ∷ []) rest))
            ∙ ap (λ (x : List Record). x ++ get_or (join_each n on p.channels qs) b []) (sym (ins_own p h b r)))
        | no d ↦ goes_on_lem p h n c i qs long k (ins p h c) (get_or l.queues c []) (get_or-set_other l.queues b c rest [] d) (f.queue c k)
            ∙ ap (λ (x : List Record). x ++ get_or (join_each n on p.channels qs) c []) (sym (ins_other p h n c i (ne_eqb b c (λ q. d (sym q)))))
      ];
      received = λ k. taken-receipt p h l b r k (f.received k);
    })
