-- The frames of a log, by the ports that take them.
use Rattle.std.specs.Prelude.{ℕ, ◌==◌, ◌&&◌, ◌||◌, nat_le, Bool, if◌then◌else◌, List, length, map, slice_index}
use Rattle.std.specs.Prelude.{Option, Some, None}
use Rattle.std.specs.List.{flat_map, range_with_len}
use Rattle.gw_log.specs.LogLines.{line_of}
use Rattle.gw_judge.specs.Judged.{log_lines}
use Rattle.gw_judge.specs.declared.head.NoLog.{NoLog}
use Rattle.gw_judge.specs.declared.head.NoLog.TheVariants.{Pcap, PcapNg, Gzip}
use Rattle.gw_judge.specs.declared.interfaces.NamedInterface.{NamedInterface}
use Rattle.gw_judge.specs.Interfaces.{port_named, taken}

-- the frames of a log that a port takes: those of its lines, in order
unfoldable pub taken_at : (List ℕ → Option ℕ) → ℕ → List ℕ → List (List ℕ)
taken_at takes port log = flat_map (λ line. taken takes port (line_of line)) (log_lines log)

-- the frames of a log's lines, in order: those of a port that takes each interface
abbrev pub log_frames : List ℕ → List (List ℕ)
log_frames log = taken_at (λ interface. Some 0) 0 log

-- by port, the frames of the lines whose interface is named for it
abbrev pub named_inputs : List NamedInterface → ℕ → List ℕ → List (List (List ℕ))
named_inputs names ports log = map (λ port. taken_at (port_named names) port log) (range_with_len 0 ports)

-- ---- what is no log

-- octets that begin with these four
abbrev pub begins : ℕ → ℕ → ℕ → ℕ → List ℕ → Bool
begins a b c d octets =
    nat_le 4 (length octets) && ((slice_index octets 0 == a) && ((slice_index octets 1 == b)
    && ((slice_index octets 2 == c) && (slice_index octets 3 == d))))

-- a capture of classic pcap, with times in microseconds or nanoseconds, in either order of octets
abbrev pub is_pcap : List ℕ → Bool
is_pcap octets =
    (begins 0xA1 0xB2 0xC3 0xD4 octets || begins 0xD4 0xC3 0xB2 0xA1 octets)
    || (begins 0xA1 0xB2 0x3C 0x4D octets || begins 0x4D 0x3C 0xB2 0xA1 octets)

-- what octets are, as their first ones tell, where they are no log
abbrev pub no_log : List ℕ → Option NoLog
no_log octets =
    if is_pcap octets then Some Pcap
    else if begins 0x0A 0x0D 0x0D 0x0A octets then Some PcapNg
    else if nat_le 2 (length octets) && ((slice_index octets 0 == 0x1F) && (slice_index octets 1 == 0x8B)) then Some Gzip
    else None
