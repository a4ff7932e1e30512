-- What is heard on a channel, padded when it is written and cut when it is read.
use Prim.Native.Nat.{ℕ, zero, suc, ◌≤◌, ◌<◌}
use mathlib.Core.Path.{◌≡◌, refl, ◌∙◌}
use mathlib.Core.Bool.{true}
use mathlib.Core.List.{List, [], ◌∷◌, ◌++◌, map}
use native.Mathlib.Omega.{arith}
use lib.Dec.{lit<}
use lib.ListN.{length, get_or, replicate, length-append, length-take, length-map}
use lib.Seq.{take-take, take_at}
use Rattle.plan.specs.declared.Channel.{Channel}
use Rattle.plan.specs.Plan.{Plan, node_count, channel_count, channel_at, no_channel, entering}
use Rattle.plan.specs.Check.{plan_fits}
use Rattle.plan.proofs.BytesLaws.{each_take}
use Rattle.plan.proofs.FitsLaws.{fitting}
use Rattle.plan.proofs.AcceptedLaws.{four_at}
use Rattle.rules.specs.Line.{Lane, no_lane}
use Rattle.rules.proofs.Steps.PlanOrder.{ordered_channels}
use Rattle.state.specs.Sizes.{parent_limit, low_limit}
use Rattle.rules.specs.Trim.{with_low}
use Rattle.state.specs.Lane.{with_heard, pad_lane, cut_lane, heard_count, cut_lanes}
use Rattle.state.specs.Fits.{TimeFits, LaneFits, PaddedFits}
use Rattle.state.proofs.ListLaws.{each_append, each_replicate}

-- A plan that fits has at most four parents for each channel's sender.
pub heard_few : (p : Plan) → plan_fits p ≡ true → (b : ℕ) → b < channel_count p → heard_count p (channel_at p b) ≤ parent_limit
unfolding heard_count
heard_few p e b h =
    let f = fitting p e in
    let o = ordered_channels p f.channels in
    let n = (channel_at p b).sender in
    let inside : n < node_count p = omega (arith, o.forward b h, o.inside b h) in
    rw (length-map (entering p n) (λ (c : ℕ). (channel_at p c).sender)) (four_at p (node_count p) n f.degrees inside).0

abbrev padding : List ℕ
padding = replicate parent_limit 0

abbrev low_padding : List ℕ
low_padding = replicate low_limit 0

pub pad_fits : (x : Lane) → LaneFits x → PaddedFits (pad_lane x)
unfolding pad_lane
pad_fits x h = record {
  lane = record {
    mark = h.mark;
    taken = h.taken;
    heard = each_take TimeFits parent_limit (x.heard ++ padding) (each_append TimeFits x.heard padding h.heard (each_replicate TimeFits parent_limit 0 (lit< tt)));
    low = each_take TimeFits low_limit (x.low ++ low_padding) (each_append TimeFits x.low low_padding h.low (each_replicate TimeFits low_limit 0 (lit< tt)));
    queue = h.queue;
  };
  four = simp (length-take, length-append) (omega arith);
  five = simp (length-take, length-append) (omega arith);
}

pub cut_pad : (x : Lane) (n : ℕ) → length x.heard ≡ n → length x.low ≡ suc n → n ≤ parent_limit → cut_lane n (pad_lane x) ≡ x
unfolding pad_lane cut_lane
cut_pad x n e f h =
    let heard = take-take n parent_limit (x.heard ++ padding) h ∙ take_at x.heard padding n e in
    let low = take-take (suc n) low_limit (x.low ++ low_padding) (omega arith) ∙ take_at x.low low_padding (suc n) f in
    λ i. with_low (low i) (with_heard (heard i) x)

pub cut_pads : (p : Plan) (cs : List Channel) (xs : List Lane) → length xs ≡ length cs
    → ((b : ℕ) → b < length cs → (length (get_or xs b no_lane).heard ≡ heard_count p (get_or cs b no_channel)) × (length (get_or xs b no_lane).low ≡ suc (heard_count p (get_or cs b no_channel))) × (heard_count p (get_or cs b no_channel) ≤ parent_limit))
    → cut_lanes p cs (map pad_lane xs) ≡ xs
cut_pads p [] [] e h = refl
cut_pads p [] (x ∷ xs) e h = let no : ⊥ = omega arith in absurd no
cut_pads p (c ∷ cs) [] e h = let no : ⊥ = omega arith in absurd no
cut_pads p (c ∷ cs) (x ∷ xs) e h = let k = h zero (omega arith) in rw (cut_pad x (heard_count p c) k.0 k.1 k.2, cut_pads p cs xs (omega arith) (λ b l. h (suc b) (omega arith)))
