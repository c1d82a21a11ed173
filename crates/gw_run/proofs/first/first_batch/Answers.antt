use Rattle.std.proofs.Common.{◌∙◌, ℕ, Vec, Global, ap, arith}
use Rattle.gw_run.specs.Forwarding.{MeansAt}
use Rattle.gw_run.proofs.FirstBatch.{begun_more, not_named, octets_of, source_refused}
use Rattle.gw_run.proofs.first.first_batch.Goals as goal

pub loop-port-preserved : goal.loop-port-preserved
loop-port-preserved g c =
    let below = c.loop-port-test.true in
    begun_more c.args.sources.now c.args.texts.now c.loop-port.port _ c.index-texts-port.result c.as_slice.result.now
    c.loop-port.first c.join.new.first _ c.loop-port.invariant (omega arith) c.requires.texts
    (c.as_slice.ensures.value ∙ ap (λ (text : Vec ℕ Global). text.items) c.index-texts-port.is) c.in-Ok.ensures.means
    c.join.ensures

pub returns-in-Err-clause-refused : goal.returns-in-Err-clause-refused
returns-in-Err-clause-refused g c =
    let below = c.loop-port-test.true in
    source_refused c.args.sources.now c.args.texts.now c.loop-port.port _ c.index-texts-port.result c.as_slice.result.now
    c.loop-port.first c.in-Err.refusal c.loop-port.invariant (omega arith) c.requires.texts
    (c.as_slice.ensures.value ∙ ap (λ (text : Vec ℕ Global). text.items) c.index-texts-port.is) c.in-Err.ensures.refused

pub join-requires-clause-free : goal.join-requires-clause-free
join-requires-clause-free g c =
    not_named (MeansAt c.args.sources.now (octets_of c.args.texts.now)) c.loop-port.port c.loop-port.first c.loop-port.invariant
