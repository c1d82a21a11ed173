-- An input that is a trace, read while its frames are taken.
use Rattle.std.proofs.Common.{◌≡◌, ◌∙◌, ℕ, List, [], ◌++◌, Option, Some, None, Result, Ok, Err, Bool, ap}
use Rattle.std.proofs.Common.{◌≢◌, inl, inr, refl}
use Rattle.std.specs.Borrow.{Bor}
use Rattle.gw_judge.specs.declared.head.NoLog.TheVariants.{Gzip, Pcap, PcapNg}
use Rattle.gw_trace.specs.TraceFrames.{EndsBy, TakesNext}
use Rattle.gw_trace.specs.Traces.{whole_trace}
use Rattle.gw_trace.specs.declared.refusal.TraceRefusal.{TraceRefusal}
use Rattle.gw_trace.specs.declared.refusal.TraceRefusal.TheVariants as trace
use Rattle.gw_trace.specs.declared.trace_frames.TraceFrames.{TraceFrames}
use Rattle.gw_run.specs.Logs.{no_log}
use Rattle.gw_run.specs.PortInputs.{Found, GivesNext, HasGiven, IsOpened}
use Rattle.gw_run.specs.PortInputs.{EndsAs, frames_as, frames_in, trace_frames, trace_refusal}
use Rattle.gw_run.specs.PortInputs.{IsFoundOf, RefusesFile}
use Rattle.gw_run.specs.PortInputs.Found.{Held, NotNamed, Unread}
use Rattle.gw_run.specs.declared.port_input.PortFile.{PortFile}
use Rattle.gw_run.specs.declared.port_input.PortInput.{PortInput}
use Rattle.gw_run.specs.declared.port_input.PortInput.TheVariants.{Listed, Streamed}
use Rattle.gw_run.specs.declared.refusal.ForwardRefusal.TheVariants as refuses
use Rattle.gw_run.specs.declared.refusal.ForwardRefusal.TheVariants.{Command, Trace}
use Rattle.gw_run.proofs.FirstOctets.{pcap_behind}
use Rattle.gw_run.proofs.PortInputs.{held_of}

-- ---- an input that is a trace

-- a file that could not be read to its end
unread_of : (file : Option (Bor (List ℕ))) (octets : List ℕ) → IsFoundOf file (Held octets) → IsFoundOf file Unread
unread_of None octets is = let other : ◌≡◌ {A = Found} (Held octets) NotNamed = is in absurd cc
unread_of (Some file) octets is = tt

pub streamed_next : {R : Type 0} (remaining : R → Option (List ℕ)) (named : PortFile) (old new : TraceFrames R)
    (frame : Option (List ℕ)) → TakesNext remaining old frame new
    → GivesNext remaining (Streamed named old) frame (Streamed named new)
streamed_next remaining named old new frame step = record {
  goes_on = λ file given has.
      let next = step.goes_on has.0 has.1 given has.4 in (
        has.0,
        has.1 ++ next.0,
        held_of file has.1 (has.1 ++ next.0) has.2,
        pcap_behind has.1 next.0 has.3,
        next.1,
      );
  ends = step.ends;
  stays = step.stays;
}

-- the frames of octets that begin as a capture
as_trace : (octets : List ℕ) (found : Result (List (List ℕ)) TraceRefusal) → no_log octets ≡ Some Pcap
    → whole_trace octets ≡ found → frames_in octets ≡ trace_frames found
as_trace octets found is whole = ap (λ why. frames_as why octets) is ∙ ap trace_frames whole

pub ends_well : (file : Option (Bor (List ℕ))) (after : Option (List ℕ)) (failed : Bool) (reads : ℕ) (octets more : List ℕ)
    (frames : List (List ℕ)) → IsFoundOf file (Held octets) → no_log octets ≡ Some Pcap
    → EndsBy after failed reads (octets ++ more) frames (Ok tt) → EndsAs file frames (Ok tt)
ends_well file after failed reads octets more frames is pcap ends = (
  Held (octets ++ more),
  held_of file octets (octets ++ more) is,
  as_trace (octets ++ more) (Ok frames) (pcap_behind octets more pcap) ends.1,
)

pub ends_ill : (file : Option (Bor (List ℕ))) (after : Option (List ℕ)) (failed : Bool) (reads : ℕ) (octets more : List ℕ)
    (frames : List (List ℕ)) (why : TraceRefusal) → IsFoundOf file (Held octets) → no_log octets ≡ Some Pcap
    → EndsBy after failed reads (octets ++ more) frames (Err why) → RefusesFile file (trace_refusal why)
ends_ill file after failed reads octets more frames why is pcap ends = by why ends
  where
    fault : (why : TraceRefusal) → whole_trace (octets ++ more) ≡ Err why → RefusesFile file (Trace why)
    fault why wrong = inl (
      Held (octets ++ more),
      held_of file octets (octets ++ more) is,
      as_trace (octets ++ more) (Err why) (pcap_behind octets more pcap) wrong,
    )

    by : (why : TraceRefusal) → EndsBy after failed reads (octets ++ more) frames (Err why) → RefusesFile file (trace_refusal why)
    by trace.BadMagic ends = fault trace.BadMagic ends
    by trace.BadVersion ends = fault trace.BadVersion ends
    by trace.BadLink ends = fault trace.BadLink ends
    by (trace.BadRecord index refusal) ends = fault (trace.BadRecord index refusal) ends
    by trace.OutOfMemory ends = inr refl
    by trace.Cut ends = fault trace.Cut ends
    by trace.ReadFault ends = inl (Unread, unread_of file octets is, refl)

-- ---- an input that is opened

-- what a reader of a file gave
pub opened_new : {R : Type 0} (remaining : R → Option (List ℕ)) (file : Bor (List ℕ)) (before : Option (List ℕ))
    (input : PortInput R) → IsOpened remaining before input → HasGiven remaining (Some file) [] input
opened_new remaining file before (Listed frames) opened = (Held opened.0, tt, opened.2)
opened_new remaining file before (Streamed named frames) opened = (before, opened.0, tt, opened.1, opened.2)

-- a trace whose front is refused
pub front_refused : (file : Bor (List ℕ)) (front : List ℕ) (why : TraceRefusal) → no_log front ≡ Some Pcap
    → (why ≢ trace.OutOfMemory → whole_trace front ≡ Err why) → RefusesFile (Some file) (trace_refusal why)
front_refused file front why pcap refused = by why refused
  where
    fault : (why : TraceRefusal) → whole_trace front ≡ Err why → RefusesFile (Some file) (Trace why)
    fault why wrong = inl (Held front, tt, as_trace front (Err why) pcap wrong)

    by : (why : TraceRefusal) → (why ≢ trace.OutOfMemory → whole_trace front ≡ Err why)
        → RefusesFile (Some file) (trace_refusal why)
    by trace.BadMagic refused = fault trace.BadMagic (refused (λ e. cc))
    by trace.BadVersion refused = fault trace.BadVersion (refused (λ e. cc))
    by trace.BadLink refused = fault trace.BadLink (refused (λ e. cc))
    by (trace.BadRecord index refusal) refused = fault (trace.BadRecord index refusal) (refused (λ e. cc))
    by trace.OutOfMemory refused = inr refl
    by trace.Cut refused = fault trace.Cut (refused (λ e. cc))
    by trace.ReadFault refused = inl (Unread, tt, refl)

-- what is no log and no capture of classic pcap
pub pcapng_refused : (file : Bor (List ℕ)) (front : List ℕ) → no_log front ≡ Some PcapNg
    → RefusesFile (Some file) (refuses.NoLog PcapNg)
pcapng_refused file front is = inl (Held front, tt, ap (λ why. frames_as why front) is)

pub gzip_refused : (file : Bor (List ℕ)) (front : List ℕ) → no_log front ≡ Some Gzip
    → RefusesFile (Some file) (refuses.NoLog Gzip)
gzip_refused file front is = inl (Held front, tt, ap (λ why. frames_as why front) is)
