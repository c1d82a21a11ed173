-- What a scan over octets found.
use Rattle.std.specs.Prelude.{◌≡◌, ℕ, ◌≤◌, List, length, take}
use Rattle.gw_trace.specs.declared.byte_order.Endian.{Endian}
use Rattle.gw_trace.specs.declared.scan.Front.{Front}
use Rattle.gw_trace.specs.declared.scan.Scan.{Scan}
use Rattle.gw_trace.specs.Traces.{Contents, contents}
use Rattle.gw_trace.specs.Wholes.{AreRecords}

abbrev pub found : Scan → Contents
found scan = record { frames = scan.whole; rest = scan.rest.now; fault = scan.fault }

-- the octets up to an offset are whole records, so many
pub record IsFront (order : Endian) (octets : List ℕ) (front : Front) : Type 0 where
  pub within : front.end ≤ length octets
  pub whole : AreRecords order (take front.end octets)
  pub counted : front.count ≡ length (contents order (take front.end octets)).frames
