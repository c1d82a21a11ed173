use Rattle.std.proofs.Common.{length, sym, ap}
use Rattle.gw_trace.specs.declared.byte_order.Endian.TheVariants.{Big}
use Rattle.gw_trace.proofs.Scanned.{no_records, no_frames}
use Rattle.gw_trace.proofs.decoded_piece.DecodedPiece.nothing.Goals as goal

pub invariant_of-result : goal.invariant_of-result
invariant_of-result c = record { records = no_records Big; counted = sym (ap length (no_frames Big)) }

pub returns-clause-others : goal.returns-clause-others
returns-clause-others c = no_frames Big
