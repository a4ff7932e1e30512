-- The plans that fit are those that accepted bytes hold.
use Prim.Native.Nat.{ℕ, zero, suc, ◌*◌, ◌≤◌, ◌<◌}
use mathlib.Core.Path.{◌≡◌, refl, sym, ap, subst, ◌∙◌}
use mathlib.Core.Bool.{Bool, true, false, cond, ◌&&◌, ◌||◌}
use mathlib.Core.Logic.{inl, inr}
use mathlib.Core.List.{List, [], ◌∷◌, ◌++◌}
use native.Mathlib.Omega.{arith}
use borrow.Author.Tests.{leb-true, ltb-true, eqb-true, le-leb}
use lib.Dec.{lit<, leb, ltb, eqb}
use lib.ListN.{length, get_or, take, drop}
use lib.Seq.{take_at, drop_at}
use Rattle.plan.specs.declared.Rule.{Rule}
use Rattle.plan.specs.declared.Rule.TheVariants.{Keep, Relabel, Cap}
use Rattle.plan.specs.declared.Channel.{Channel}
use Rattle.plan.specs.Layout.{read_slots, write_slots}
use Rattle.plan.specs.Lawful.{Bytes, Each, FieldsFit}
use Rattle.plan.specs.Rule.{rule_widths, rule_fields, rule_layout, rule_fits, rule_kind_fits, rule_of_kind, rule_numbers}
use Rattle.plan.specs.Channel.{channel_fits, channel_after, behind_remainder, channel_layout}
use Rattle.plan.specs.Plan.{Plan, node_count, channel_count, plan_of, plan_bytes, plan_size, plan_length, plan_nodes}
use Rattle.plan.specs.Check.{version_fits, counts_fit, rules_fit, channels_fit, four_at_most, plan_refusal, rule_allowed, rules_allowed, channel_spelled, channels_spelled, plan_fits}
use Rattle.plan.specs.Fits.{RuleFits, ChannelFits, PlanFits}
use Rattle.plan.proofs.BytesLaws.{bytes_take, bytes_drop}
use Rattle.plan.proofs.LayoutLaws.{fields_fit, fields_read, slots_front, slots_lawful}
use Rattle.plan.proofs.ValueLaws.{rule_lawful}
use Rattle.plan.proofs.ReadLaws.{rules_of}
use Rattle.plan.proofs.CheckLaws.{accepted, unrefused, counts-within, counts_fit_lem}
use Rattle.plan.proofs.PlanLaws.{plan_size_lem, head_size, plan-length, plan_fits_lem, plan_read, version_of, node_count_lem, channel_count_lem, head_read, version_read, nodes_read, channels_read}
use Rattle.basics.specs.Bools.{both_true, either_true}

-- ---- the parts of the test

pub record Fitting (p : Plan) : Type 0 where
  pub version : version_fits p.version ≡ true
  pub nodes_least : 2 ≤ node_count p
  pub nodes_most : node_count p ≤ 12
  pub channels_least : 1 ≤ channel_count p
  pub channels_most : channel_count p ≤ 24
  pub rules : rules_allowed p.rules ≡ true
  pub spelled : channels_spelled p.version p.channels ≡ true
  pub channels : channels_fit (node_count p) 0 0 p.channels ≡ true
  pub degrees : four_at_most p (node_count p) ≡ true

pub fitting : (p : Plan) → plan_fits p ≡ true → Fitting p
unfolding plan_fits
fitting p e =
    let n = node_count p in
    let m = channel_count p in
    let v = version_fits p.version in
    let spelled = channels_spelled p.version p.channels in
    let a = both_true (v && counts_fit n m && rules_allowed p.rules && spelled && channels_fit n 0 0 p.channels) (four_at_most p n) e in
    let b = both_true (v && counts_fit n m && rules_allowed p.rules && spelled) (channels_fit n 0 0 p.channels) a.0 in
    let c = both_true (v && counts_fit n m && rules_allowed p.rules) spelled b.0 in
    let d = both_true (v && counts_fit n m) (rules_allowed p.rules) c.0 in
    let f = both_true v (counts_fit n m) d.0 in
    let k = counts-within n m f.1 in
    record { version = f.0; nodes_least = k.0; nodes_most = k.1; channels_least = k.2; channels_most = k.3; rules = d.1; spelled = c.1; channels = b.1; degrees = a.1 }

-- Each of its rules is allowed.
pub rule_allowed_lem : (rules : List Rule) (n : ℕ) → rules_allowed rules ≡ true → rule_allowed (get_or rules n Keep) ≡ true
rule_allowed_lem [] n e = refl
rule_allowed_lem (r ∷ rules) zero e = (both_true (rule_allowed r) (rules_allowed rules) e).0
rule_allowed_lem (r ∷ rules) (suc n) e = rule_allowed_lem rules n (both_true (rule_allowed r) (rules_allowed rules) e).1

pub fits : (p : Plan) → Fitting p → plan_fits p ≡ true
unfolding plan_fits
fits p f =
    rw (
      f.version,
      counts_fit_lem (node_count p) (channel_count p) f.nodes_least f.nodes_most f.channels_least f.channels_most,
      f.rules,
      f.spelled,
      f.channels,
      f.degrees,
    )

-- ---- accepted bytes hold a plan that fits

kind_allowed : (kind p q : ℕ) → q < 65536 → rule_kind_fits kind p q ≡ true → rule_allowed (rule_of_kind kind p q) ≡ true
kind_allowed kind p q h e = go (eqb kind 0) (eqb kind 1) (eqb kind 2) refl refl refl e
  where
    go : (a b c : Bool) → eqb kind 0 ≡ a → eqb kind 1 ≡ b → eqb kind 2 ≡ c
        → cond a (eqb p 0 && eqb q 0) (cond b (leb p 15 && leb q 15) (c && eqb p 0 && leb 1 q)) ≡ true
        → rule_allowed (cond b (Relabel p q) (cond c (Cap q) Keep)) ≡ true
    go true true c ka kb kc e = let no : ⊥ = omega (arith, eqb-true kind 0 ka, eqb-true kind 1 kb) in absurd no
    go true false true ka kb kc e = let no : ⊥ = omega (arith, eqb-true kind 0 ka, eqb-true kind 2 kc) in absurd no
    go false true c ka kb kc e = e
    go false false true ka kb kc e = rw ((both_true (eqb p 0) (leb 1 q) e).1, le-leb q 65535 (omega arith))
    go a false false ka kb kc e = refl

rules_allowed_lem : (n : ℕ) (s : List ℕ) → Bytes s → rules_fit (read_slots rule_fields n s) ≡ true → rules_allowed (read_slots rule_layout n s) ≡ true
unfolding rule_layout
rules_allowed_lem zero s h e = refl
rules_allowed_lem (suc n) s h e =
    let t = both_true (rule_fits (rule_fields.read (take 4 s))) (rules_fit (read_slots rule_fields n (drop 4 s))) e in
    let ns = rule_fields.read (take 4 s) in
    let short = (fields_fit rule_widths (take 4 s) (bytes_take 4 s h)).1.1.0 in
    rw (kind_allowed (get_or ns 0 0) (get_or ns 1 0) (get_or ns 2 0) short t.0, rules_allowed_lem n (drop 4 s) (bytes_drop 4 s h) t.1)

-- A window that its bytes spell; in version 1, the one that stands for none.
window-spelled : (windows : Bool) (c : Channel) (rest : List ℕ) → rest ≡ cond windows (c.least ∷ c.greatest ∷ []) [] → FieldsFit (cond windows (2 ∷ 2 ∷ []) []) rest → get_or rest 0 0 ≡ c.least → get_or rest 1 65_535 ≡ c.greatest
    → (leb c.greatest 65535 && (windows || (eqb c.least 0 && eqb c.greatest 65535))) ≡ true
window-spelled true c rest e h l g = rw (le-leb c.greatest 65535 (let f = subst (FieldsFit (2 ∷ 2 ∷ [])) e h in omega (arith, f.1.0)))
window-spelled false c rest e h l g = rw (← g, ← l, e)

channel-spelled : (v : ℕ) (c : Channel) → ChannelFits v c → channel_spelled v c ≡ true
channel-spelled v c h =
    let n = h.numbers in
    let window = window-spelled (eqb v 2) c (behind_remainder v (c.least ∷ c.greatest ∷ [])) refl n.1.1.1.1.1 (ap (λ (d : Channel). d.least) h.whole) (ap (λ (d : Channel). d.greatest) h.whole) in
    rw (le-leb c.mask 65535 (omega (arith, n.1.1.0)), le-leb c.modulus 255 (omega (arith, n.1.1.1.0))) window

channels_spelled_lem : (v : ℕ) (cs : List Channel) → Each (ChannelFits v) cs → channels_spelled v cs ≡ true
channels_spelled_lem v [] h = refl
channels_spelled_lem v (c ∷ cs) h = rw (channel-spelled v c h.0, channels_spelled_lem v cs h.1)

pub accepted_fits : (s : List ℕ) → Bytes s → plan_refusal s ≡ 0 → plan_fits (plan_of s) ≡ true
accepted_fits s h z =
    let a = accepted s z in
    fits (plan_of s) (record {
      version = rw version_of a.version;
      nodes_least = rw node_count_lem a.nodes_least;
      nodes_most = rw node_count_lem a.nodes_most;
      channels_least = rw channel_count_lem a.channels_least;
      channels_most = rw channel_count_lem a.channels_most;
      rules = rw rules_of (rules_allowed_lem (plan_nodes s) (drop 5 s) (bytes_drop 5 s h) a.rules);
      spelled = channels_spelled_lem (plan_of s).version (plan_of s).channels (plan_fits_lem s h).channel;
      channels = rw node_count_lem a.channels;
      degrees = rw node_count_lem a.degrees;
    })

-- ---- a plan that fits is written as accepted bytes

rule_spelled : (r : Rule) → rule_allowed r ≡ true → RuleFits r
rule_spelled Keep e = (lit< tt, (lit< tt, (lit< tt, tt)))
rule_spelled (Relabel p q) e =
    let t = both_true (leb p 15) (leb q 15) e in
    (lit< tt, (omega (arith, leb-true), (omega (arith, leb-true), tt)))
rule_spelled (Cap q) e =
    let t = both_true (leb 1 q) (leb q 65535) e in
    (lit< tt, (lit< tt, (omega (arith, leb-true), tt)))

rules_spelled : (rs : List Rule) → rules_allowed rs ≡ true → Each RuleFits rs
rules_spelled [] e = tt
rules_spelled (r ∷ rs) e =
    let t = both_true (rule_allowed r) (rules_allowed rs) e in
    (rule_spelled r t.0, rules_spelled rs t.1)

-- A window that is within the limits, and in version 1 the one that stands for none.
window_fits : (windows : Bool) (c : Channel) → c.least ≤ c.greatest → c.greatest ≤ 65535 → (windows || (eqb c.least 0 && eqb c.greatest 65535)) ≡ true
    → FieldsFit (cond windows (2 ∷ 2 ∷ []) []) (cond windows (c.least ∷ c.greatest ∷ []) [])
    × ((get_or (cond windows (c.least ∷ c.greatest ∷ []) []) 0 0 ≡ c.least) × (get_or (cond windows (c.least ∷ c.greatest ∷ []) []) 1 65_535 ≡ c.greatest))
window_fits true c h k e = ((omega arith, (omega arith, tt)), (refl, refl))
window_fits false c h k e =
    let t = both_true (eqb c.least 0) (eqb c.greatest 65535) e in
    (tt, (sym (eqb-true c.least 0 t.0), sym (eqb-true c.greatest 65535 t.1)))

channel_fits_lem : (v n : ℕ) (c : Channel) → n ≤ 12 → channel_fits n c ≡ true → channel_spelled v c ≡ true → ChannelFits v c
unfolding channel_fits
channel_fits_lem v n c h e k =
    let forward = ltb c.sender c.receiver in
    let inside = ltb c.receiver n in
    let w = both_true (forward && inside && leb 1 c.mask && leb 1 c.modulus && ltb c.remainder c.modulus) (leb c.least c.greatest) e in
    let a = both_true (forward && inside && leb 1 c.mask && leb 1 c.modulus) (ltb c.remainder c.modulus) w.0 in
    let b = both_true (forward && inside && leb 1 c.mask) (leb 1 c.modulus) a.0 in
    let d = both_true (forward && inside) (leb 1 c.mask) b.0 in
    let f = both_true forward inside d.0 in
    let u = both_true (leb c.mask 65535 && leb c.modulus 255 && leb c.greatest 65535) (eqb v 2 || (eqb c.least 0 && eqb c.greatest 65535)) k in
    let g = both_true (leb c.mask 65535 && leb c.modulus 255) (leb c.greatest 65535) u.0 in
    let t = both_true (leb c.mask 65535) (leb c.modulus 255) g.0 in
    let (fits, (least, greatest)) = window_fits (eqb v 2) c (leb-true c.least c.greatest w.1) (leb-true c.greatest 65535 g.1) u.1 in
    record {
      numbers = (omega (arith, ltb-true, leb-true), (omega (arith, ltb-true, leb-true), (omega (arith, ltb-true, leb-true), (omega (arith, ltb-true, leb-true), (omega (arith, ltb-true, leb-true), fits)))));
      whole = λ i. record { sender = c.sender; receiver = c.receiver; mask = c.mask; modulus = c.modulus; remainder = c.remainder; least = least i; greatest = greatest i };
    }

channels_fit_lem : (v n sender receiver : ℕ) (cs : List Channel) → n ≤ 12 → channels_fit n sender receiver cs ≡ true → channels_spelled v cs ≡ true → Each (ChannelFits v) cs
channels_fit_lem v n sender receiver [] h e k = tt
channels_fit_lem v n sender receiver (c ∷ cs) h e k =
    let t = both_true (channel_fits n c && channel_after sender receiver c) (channels_fit n c.sender c.receiver cs) e in
    let u = both_true (channel_spelled v c) (channels_spelled v cs) k in
    (channel_fits_lem v n c h (both_true (channel_fits n c) (channel_after sender receiver c) t.0).0 u.0, channels_fit_lem v n c.sender c.receiver cs h t.1 u.1)

version_small : (v : ℕ) → version_fits v ≡ true → v < 256
version_small v e = elim (either_true (eqb v 1) (eqb v 2) e) [ inl h ↦ omega (arith, eqb-true v 1 h) | inr h ↦ omega (arith, eqb-true v 2 h) ]

plan-spelled : (p : Plan) → Fitting p → PlanFits p
plan-spelled p f = record {
  version = version_small p.version f.version;
  nodes = omega (arith, f.nodes_most);
  channels = omega (arith, f.channels_most);
  rule = rules_spelled p.rules f.rules;
  channel = channels_fit_lem p.version (node_count p) 0 0 p.channels f.nodes_most f.channels f.spelled;
}

numbers_fit : (r : Rule) → rule_allowed r ≡ true → rule_fits (rule_numbers r) ≡ true
numbers_fit Keep e = refl
numbers_fit (Relabel p q) e = e
numbers_fit (Cap q) e = (both_true (leb 1 q) (leb q 65535) e).0

rules_written : (rs : List Rule) → rules_allowed rs ≡ true → rules_fit (read_slots rule_fields (length rs) (write_slots rule_layout (length rs) rs)) ≡ true
unfolding rule_layout
rules_written [] e = refl
rules_written (r ∷ rs) e =
    let t = both_true (rule_allowed r) (rules_allowed rs) e in
    let read = ap rule_fits (fields_read rule_widths (rule_numbers r) (rule_spelled r t.0)) ∙ numbers_fit r t.0 in
    rw (
      take_at (rule_layout.write r) (write_slots rule_layout (length rs) rs) 4 (rule_lawful.sized r),
      drop_at (rule_layout.write r) (write_slots rule_layout (length rs) rs) 4 (rule_lawful.sized r),
      read,
      rules_written rs t.1,
    )

rules_front : (p : Plan) → rules_allowed p.rules ≡ true → rules_fit (read_slots rule_fields (node_count p) (drop 5 (plan_bytes p))) ≡ true
unfolding plan_bytes
rules_front p e =
    let n = node_count p in
    let front = write_slots rule_layout n p.rules in
    let behind = write_slots (channel_layout p.version) (channel_count p) p.channels in
    ap rules_fit (sym (slots_front rule_fields n (front ++ behind)) ∙ ap (read_slots rule_fields n) (take_at front behind (n * 4) ((slots_lawful rule_lawful n).sized p.rules)))
    ∙ rules_written p.rules e

pub fits_accepted : (p : Plan) → plan_fits p ≡ true → (plan_refusal (plan_bytes p) ≡ 0) × (plan_of (plan_bytes p) ≡ p)
unfolding plan_length
fits_accepted p e =
    let f = fitting p e in
    let h = plan-spelled p f in
    let s = plan_bytes p in
    let is = plan_read p h in (
      unrefused s (record {
        long = omega (arith, plan-length p, plan_size_lem p.version (node_count p) (channel_count p));
        length_field = ap (λ (ns : List ℕ). get_or ns 0 0) (head_read p h) ∙ sym (plan-length p);
        version = rw (version_read p h) f.version;
        nodes_least = rw (nodes_read p h) f.nodes_least;
        nodes_most = rw (nodes_read p h) f.nodes_most;
        channels_least = rw (channels_read p h) f.channels_least;
        channels_most = rw (channels_read p h) f.channels_most;
        sized = plan-length p ∙ sym (head_size s ∙ λ i. plan_size (version_read p h i) (nodes_read p h i) (channels_read p h i));
        rules = rw (nodes_read p h) (rules_front p f.rules);
        channels = rw (nodes_read p h, is) f.channels;
        degrees = rw (nodes_read p h, is) f.degrees;
      }),
      is,
    )
