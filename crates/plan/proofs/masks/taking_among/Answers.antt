use mathlib.Core.Path.{sym, ap, ◌∙◌}
use native.Mathlib.Omega.{arith}
use Rattle.plan.specs.Mask.{mask_of}
use Rattle.plan.proofs.MaskLaws.{channels_mask}
use Rattle.plan.proofs.TakingLaws.{taking-of}
use Rattle.plan.proofs.masks.taking_among.Goals as goal

pub returns : goal.returns
returns c =
    let a = c.args in
    let m = c.taking.result.mask in
    taking-of a.plan.now a.r a.mask m (omega arith) (sym (channels_mask m (omega arith)) ∙ ap mask_of c.taking.ensures)
