use Rattle.std.proofs.Common.{refl}
use Rattle.toml.proofs.Views.{view-Array}
use Rattle.gw_table.proofs.Trees.{tables_in-view}
use Rattle.gw_table.proofs.reading.tables_in.Goals as goal

pub returns-then-are_tables : goal.returns-then-are_tables
returns-then-are_tables c =
    rw (
      c.in-Array.is,
      view-Array c.in-Array.values,
      tables_in-view,
      ← c.as_slice-tables.ensures.value,
      ← c.are_tables.ensures,
      c.if-are_tables.true,
    ) refl

pub returns-else-are_tables : goal.returns-else-are_tables
returns-else-are_tables c =
    rw (
      c.in-Array.is,
      view-Array c.in-Array.values,
      tables_in-view,
      ← c.as_slice-tables.ensures.value,
      ← c.are_tables.ensures,
      c.if-are_tables.false,
    ) refl
