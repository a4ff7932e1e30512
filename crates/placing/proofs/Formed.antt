-- What a table that is not malformed tells the code.
use Prim.Native.Nat.{ℕ}
use mathlib.Core.Path.{◌≡◌, sym, ◌∙◌}
use mathlib.Core.Bool.{false, ◌&&◌}
use mathlib.Core.List.{List}
use native.Mathlib.Omega.{arith}
use lib.ListN.{length}
use lib.Dec.{leb}
use borrow.Author.Tests.{not-false, leb-true}
use Rattle.placing.specs.Item.{items_of}
use Rattle.placing.specs.Table.{most_items, greatest, malformed, lengths_agree, items_fit}
use Rattle.placing.specs.Places.{Formed}
use Rattle.basics.specs.Bools.{both_true}
use Rattle.placing.proofs.TableLaws.{rows_rise, rows_four}
use Rattle.placing.proofs.ItemsLaws.{malformed_is, lengths_are}
use Rattle.placing.proofs.PrepareLaws.{row_is, in_table}

pub formed : (low high : ℕ) (rows times fixed floors : List ℕ) → malformed low high rows times fixed floors ≡ false → Formed low high rows fixed floors
formed low high rows times fixed floors e =
    let fit = items_fit low high 0 0 (items_of rows times fixed floors) in
    let bound = leb low high && leb high greatest in
    let t = both_true (lengths_agree rows times fixed floors) (leb (length rows) most_items && bound && fit) (not-false (lengths_agree rows times fixed floors && (leb (length rows) most_items && bound && fit)) (sym (malformed_is low high rows times fixed floors) ∙ e)) in
    let u = both_true (leb (length rows) most_items && bound) fit t.1 in
    let v = both_true (leb (length rows) most_items) bound u.0 in
    let b = both_true (leb low high) (leb high greatest) v.1 in
    let lengths = lengths_are rows times fixed floors t.0 in
    record {
      ordered =
          record {
            few = leb-true (length rows) most_items v.0;
            four = λ k l. omega (arith, rows_four low high 0 0 (items_of rows times fixed floors) u.1 k (in_table rows times fixed floors l), row_is rows times fixed floors k l);
            rise = λ j k p l. omega (arith, rows_rise low high 0 0 (items_of rows times fixed floors) u.1 j k p (in_table rows times fixed floors l), row_is rows times fixed floors j (omega arith), row_is rows times fixed floors k l);
          };
      bounds = leb-true low high b.0;
      high_fits = leb-true high greatest b.1;
      fixed_long = lengths.1;
      floors_long = lengths.2;
    }
