use Rattle.std.proofs.Common.{◌∙◌, ◌++◌, ◌<◌, [], length, Ok, Some, ap, subst, sym}
use Rattle.std.specs.Io.KnownBytes.{Consumes}
use Rattle.gw_io.specs.Tries.{inner_of}
use Rattle.gw_io.proofs.Callers.{consumed_more}
use Rattle.gw_run.specs.PortInputs.{RefusesFile}
use Rattle.gw_run.proofs.FirstOctets.{pcap_behind}
use Rattle.gw_run.proofs.TraceInputs.{front_refused, gzip_refused, pcapng_refused}
use Rattle.gw_run.proofs.inputs.read_input.Goals as goal

pub returns-in-Err-clause-refused : goal.returns-in-Err-clause-refused
returns-in-Err-clause-refused g c = λ file.
    subst (RefusesFile (Some file)) (sym c.trace_refusal.ensures)
    (front_refused file c.octets-front.result.now c.in-Err.why
    (sym c.no_log.ensures ∙ c.in-Some-Pcap.is ∙ ap Some c.in-Some-Pcap.field-0-is) c.in-Err.ensures.refused)

pub returns-in-Some-Pcap-clause-input : goal.returns-in-Some-Pcap-clause-input
returns-in-Some-Pcap-clause-input g c =
    let front = c.octets-front.result.now in
    let before = g.R.Read.remaining (inner_of c.args.reader) in
    let consumed =
    subst (Consumes before (g.R.Read.remaining (inner_of c.read.new.reader))) (sym c.octets-front.ensures.octets)
    c.in-Ok.ensures.opened.consumed in
    let ahead = c.read_ahead.ensures.read before front [] (c.in-Ok-new.ensures.begins before consumed) in (
      front ++ ahead.0,
      pcap_behind front ahead.0 (sym c.no_log.ensures ∙ c.in-Some-Pcap.is ∙ ap Some c.in-Some-Pcap.field-0-is),
      ahead.1,
    )

pub returns-in-Some-PcapNg-clause-refused : goal.returns-in-Some-PcapNg-clause-refused
returns-in-Some-PcapNg-clause-refused g c = λ file.
    pcapng_refused file c.octets-front.result.now
    (sym c.no_log.ensures ∙ c.in-Some-PcapNg.is ∙ ap Some c.in-Some-PcapNg.field-0-is)

pub returns-in-Some-Gzip-clause-refused : goal.returns-in-Some-Gzip-clause-refused
returns-in-Some-Gzip-clause-refused g c = λ file.
    gzip_refused file c.octets-front.result.now
    (sym c.no_log.ensures ∙ c.in-Some-Gzip.is ∙ ap Some c.in-Some-Gzip.field-0-is)

pub read_log-requires-clause-all : goal.read_log-requires-clause-all
read_log-requires-clause-all g c short =
    c.in-Ok.ensures.opened.all (subst (λ octets. length octets < 4) c.octets-front.ensures.octets short)

pub returns-clause-input : goal.returns-clause-input
returns-clause-input g c =
    let read = c.in_ok-frames-in-None.ensures.frames in
    let on = read.1 in (
      read.0,
      record {
        more = c.in-Ok.first ++ on.more;
        after = on.after;
        octets_are = on.octets_are ∙ ap (λ l. l ++ on.more) c.octets-front.ensures.octets;
        consumed =
            consumed_more (g.R.Read.remaining (inner_of c.args.reader)) (g.R.Read.remaining (inner_of c.read.new.reader)) on.after
            c.in-Ok.first on.more c.in-Ok.ensures.opened.consumed on.consumed;
        end = on.end;
      },
      read.2 ∙ ap Ok (sym c.into_iter.ensures.rest),
    )
