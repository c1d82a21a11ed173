use Rattle.std.specs.Prelude.{option_copied}
use Rattle.gw_replay.proofs.Reaching.{fed_nothing, fed_more, fed_no_more}
use Rattle.std.proofs.Common.{subst, ap}
use Rattle.std.specs.declared.alloc.AllocError.{AllocError}
use Rattle.gw_replay.specs.Reached.{FedSo}
use Rattle.gw_replay.proofs.script_reader.ScriptReader.feed.Goals as goal

pub loop-rest-init : goal.loop-rest-init
loop-rest-init g c = λ octets text h. fed_nothing octets c.args.piece.now text c.args.self.now h

pub loop-rest-preserved : goal.loop-rest-preserved
loop-rest-preserved g c = λ octets text h.
    fed_more AllocError octets c.args.piece.now text c.in-Some.text.now c.in-Ok.behind c.loop-rest.self c.feed_line.new.self
    (subst (λ rest. FedSo octets c.args.piece.now text rest c.loop-rest.self) (ap option_copied c.in-Some.is)
    (c.loop-rest.invariant octets text h)) c.in-Ok.ensures.fed

pub returns-in-Err : goal.returns-in-Err
returns-in-Err g c = record {
  fed = λ octets text h.
      fed_no_more octets c.args.piece.now text c.in-Some.text.now c.loop-rest.self c.feed_line.new.self
      (subst (λ rest. FedSo octets c.args.piece.now text rest c.loop-rest.self) (ap option_copied c.in-Some.is)
      (c.loop-rest.invariant octets text h)) c.in-Err.ensures.fed;
}
