-- A frame changes no node but its own.
use Prim.Native.Nat.{ℕ}
use mathlib.Core.Path.{◌≡◌}
use mathlib.Core.Logic.{◌≢◌}
use mathlib.Core.Option.{some}
use Rattle.rules.specs.Line.{Line, node_at}
use Rattle.rules.specs.Frame.{Frame}
use Rattle.rules.specs.Step.{effect}
use Rattle.rules.proofs.Line.LineLaws.{node_else, node_kept}
use Rattle.rules.proofs.Theorem.Unmoved.{own_node, IfThere, effect-keeps}

pub effect_else : (m : ℕ) (l : Line) (f : Frame) {k : Line} → IfThere (λ (n : ℕ). m ≢ n) (own_node l f) → effect l f ≡ some k → node_at k m ≡ node_at l m
effect_else m l f d e = effect-keeps (λ k. node_at k m) (λ n. m ≢ n) (λ n x k apart. node_else n x k m apart) (λ b x k. node_kept b x k m) l f d e
