-- What a checked trace and its shares keep of the octets.
use Rattle.std.specs.Prelude.{◌≡◌, ℕ, List, length}
use Rattle.gw_trace.specs.declared.checked.Checked.TheInside as checked
use Rattle.gw_trace.specs.declared.share.Share.TheInside as share
use Rattle.gw_trace.specs.Traces.{contents}
use Rattle.gw_trace.specs.Shares.{every}
use Rattle.gw_trace.specs.Wholes.{AreRecords}

abbrev pub frames_of : checked.Inside → List (List ℕ)
frames_of c = (contents c.order c.records.now).frames

pub record IsCounted (c : checked.Inside) : Type 0 where
  pub records : AreRecords c.order c.records.now
  pub counted : c.len ≡ length (frames_of c)

abbrev pub shared_of : share.Inside → List (List ℕ)
shared_of s = every s.skip s.others (contents s.order s.records.now).frames

abbrev pub IsShare : share.Inside → Type 0
IsShare s = AreRecords s.order s.records.now
