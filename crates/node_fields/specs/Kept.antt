-- A kept answer, as the code holds it and as the line has it.
use Rattle.std.specs.Prelude.{Option, Some, None}
use Rattle.std.proofs.Math.Option as maybe
use Rattle.rules.specs.Line.{Asked}
use Rattle.node_fields.specs.declared.Kept.{Kept}

abbrev pub kept_is : Kept → Asked
kept_is k = record { low = k.low; high = k.high; entries = k.entries }

abbrev pub keeps : Option Kept → maybe.Option Asked
keeps (Some k) = maybe.some (kept_is k)
keeps None = maybe.none
