-- An accepted plan of version 1 is accepted in version 2 too, where its windows stand as 0..65535; these shut nothing out.
use Prim.Native.Nat.{ℕ, zero, suc}
use mathlib.Core.Path.{◌≡◌, refl, sym, ap, subst, ◌∙◌}
use mathlib.Core.Bool.{true, ◌&&◌, and-true}
use mathlib.Core.List.{List, [], ◌∷◌}
use native.Mathlib.Omega.{arith}
use borrow.Author.Tests.{eqb-true, le-leb}
use lib.Dec.{leb, eqb}
use Rattle.plan.specs.declared.Channel.{Channel}
use Rattle.plan.specs.Lawful.{Each}
use Rattle.plan.specs.Channel.{takes}
use Rattle.plan.specs.Plan.{Plan, node_count, plan_of, entering, leaving}
use Rattle.plan.specs.Check.{four_at_most, channel_spelled, channels_spelled}
use Rattle.plan.specs.Versions.{as_version, in_version_two, AnyMass, TakesAnyMass, FirstIsWidened}
use Rattle.plan.proofs.PlanLaws.{plan_bytes_lem, version_of}
use Rattle.plan.proofs.FitsLaws.{fitting, fits, accepted_fits, fits_accepted}
use Rattle.basics.specs.Bools.{both_true}

pub takes_any_mass : TakesAnyMass
unfolding takes
takes_any_mass c r (least, greatest) none h = rw (none, least, greatest, le-leb 0 r.mass (omega arith), le-leb r.mass 65535 h, and-true)

-- Check 7 goes by no version.
degrees_alike : (v : ℕ) (p : Plan) (n : ℕ) → four_at_most (as_version v p) n ≡ four_at_most p n
unfolding entering leaving
degrees_alike v p zero = refl
degrees_alike v p (suc n) = rw (degrees_alike v p n)

-- A channel that version 1 spells takes any mass, and version 2 spells it too.
channel_widened : (c : Channel) → channel_spelled 1 c ≡ true → AnyMass c × (channel_spelled 2 c ≡ true)
channel_widened c e =
    let (within, window) = both_true (leb c.mask 65535 && leb c.modulus 255 && leb c.greatest 65535) (eqb c.least 0 && eqb c.greatest 65535) e in
    let (least, greatest) = both_true (eqb c.least 0) (eqb c.greatest 65535) window in
    ((eqb-true c.least 0 least, eqb-true c.greatest 65535 greatest), rw within)

channels_widened : (cs : List Channel) → channels_spelled 1 cs ≡ true → Each AnyMass cs × (channels_spelled 2 cs ≡ true)
channels_widened [] e = (tt, refl)
channels_widened (c ∷ cs) e =
    let (first, rest) = both_true (channel_spelled 1 c) (channels_spelled 1 cs) e in
    let (any, spelled) = channel_widened c first in
    let (all, others) = channels_widened cs rest in
    ((any, all), rw (spelled, others))

pub first_is_widened : FirstIsWidened
unfolding in_version_two
first_is_widened s bytes z one =
    let p = plan_of s in
    let f = fitting p (accepted_fits s bytes z) in
    let (all, spelled) = channels_widened p.channels (subst (λ (v : ℕ). channels_spelled v p.channels ≡ true) (version_of s ∙ one) f.spelled) in
    let fit = fits (as_version 2 p) (record {
      version = refl;
      nodes_least = f.nodes_least;
      nodes_most = f.nodes_most;
      channels_least = f.channels_least;
      channels_most = f.channels_most;
      rules = f.rules;
      spelled = spelled;
      channels = f.channels;
      degrees = degrees_alike 2 p (node_count p) ∙ f.degrees;
    }) in
    let (accepted, is) = fits_accepted (as_version 2 p) fit in
    record {
      bytes = plan_bytes_lem (as_version 2 p);
      accepted = accepted;
      version = sym (version_of (in_version_two s)) ∙ ap (λ (q : Plan). q.version) is;
      same = record { rules = ap (λ (q : Plan). q.rules) (sym is); channels = ap (λ (q : Plan). q.channels) (sym is) };
      windows = subst (λ (q : Plan). Each AnyMass q.channels) (sym is) all;
    }
