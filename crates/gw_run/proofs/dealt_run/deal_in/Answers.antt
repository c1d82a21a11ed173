use Rattle.gw_io.specs.Tries.{has_failed, inner_of, unended_reads}
use Rattle.gw_run.proofs.DealtShares.{rings_on}
use Rattle.gw_run.proofs.DealtStarts.{none_dealt, read_all}
use Rattle.gw_run.proofs.dealt_run.deal_in.Goals as goal

pub returns-clause-ended : goal.returns-clause-ended
returns-clause-ended g c =
    let dealt = c.deal_trace-read in
    let run = c.args.run in
    record {
      began = c.requires.run;
      rings = rings_on run.dealer.ports.items dealt.new.self.ports.items c.end.new.self.ports.items dealt.ensures.rings
          c.end.ensures.rings;
      read =
          read_all (g.I.Read.remaining (inner_of c.args.reader.now)) (g.I.Read.remaining (inner_of dealt.new.reader))
          (has_failed dealt.new.reader) (unended_reads c.args.reader.now dealt.new.reader) dealt.result dealt.new.self
          c.end.new.self (dealt.ensures.dealt (none_dealt run c.requires.run)) dealt.ensures.refused c.end.ensures.rings
          c.end.ensures.ended;
      ran = c.join_run-ran.ensures run.limits run.first run.inputs.items g.G.Gate.waits c.start_run-thread.ensures
          c.requires.run.first;
    }
