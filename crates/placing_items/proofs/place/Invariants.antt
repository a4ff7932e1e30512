use Rattle.placing_items.specs.declared.Item.{Item}
use Rattle.placing_items.proofs.FieldsLaws.{Filled}
use Rattle.placing_items.proofs.place.Given as goal

-- The first i items are in.
abbrev pub invariant-loop-i : goal.invariant-loop-i
invariant-loop-i l =
    record {
      rows : Filled (λ (x : Item). x.row) l.items l.rows l.i;
      times : Filled (λ (x : Item). x.time) l.items l.times l.i;
      fixed : Filled (λ (x : Item). x.fixed) l.items l.fixed l.i;
      floors : Filled (λ (x : Item). x.floor) l.items l.floors l.i;
    }
