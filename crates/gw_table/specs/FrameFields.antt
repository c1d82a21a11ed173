-- A frame, and beside it the fields of its identifier that tables look up.
use Rattle.std.specs.Prelude.{◌≡◌}
use Rattle.gw_ident.specs.Identifier.{parameter_group, source_address, destination}
use Rattle.gw_frame.specs.Record.{word_of}
use Rattle.gw_table.specs.declared.fields.FrameFields.TheInside.{Inside}

pub record HasFields (inside : Inside) : Type 0 where
  pub group : inside.pgn ≡ parameter_group (word_of inside.frame)
  pub from : inside.source ≡ source_address (word_of inside.frame)
  pub to : inside.destination ≡ destination (word_of inside.frame)
