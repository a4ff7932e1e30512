use Rattle.std.proofs.Common.{ℕ, ◌≡◌, ◌+◌, ◌*◌, arith, ap, sym, ◌∙◌}
use Rattle.state.specs.Right.{word_at}
use Rattle.state.specs.Sizes.{page_at, log_at}
use Rattle.recover.proofs.TripleLaws.{log_length}
use Rattle.recover.proofs.told.log_count.Goals as goal

pub returns : goal.returns
returns c =
    let s = c.args.s.now in
    let k : ℕ = c.args.k in
    let place : 4096 * (1 + k) + 8 ≡ page_at k + log_at = omega arith in
    let is : c.get32.result ≡ word_at (page_at k + log_at) s = c.get32.ensures ∙ ap (λ (a : ℕ). word_at a s) place in
    (is ∙ sym (log_length s c.requires.0 c.requires.1 k c.requires.2), omega (arith, is, c.requires.1 k c.requires.2))
