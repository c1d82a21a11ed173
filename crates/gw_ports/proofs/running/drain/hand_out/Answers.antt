use Rattle.std.proofs.Common.{◌-◌, ◌+◌, ◌++◌, ◌∷◌, ◌∙◌, [], List, ap, arith, length, subst, sym, take}
use Rattle.std.proofs.lemmas.List.{take_more}
use Rattle.gw_ledger.specs.declared.outcome.FrameCopy.{FrameCopy}
use Rattle.gw_ports.specs.Sinks.{Handed, HasRoomFor}
use Rattle.gw_ports.proofs.Sinks.{handed_more}
use Rattle.gw_ports.proofs.running.drain.hand_out.Goals as goal

pub loop-index-preserved : goal.loop-index-preserved
loop-index-preserved g c =
    let index = c.loop-index.index in
    let copies = c.args.copies.now in
    let copy = c.index-copies-index.result in (
      subst (λ (l : List FrameCopy). Handed g.C.Sink.takes c.args.out.now l c.take.new.self)
          (sym (take_more copies index copy c.loop-index-test.true
          ∙ ap (λ (x : FrameCopy). take index copies ++ x ∷ []) (sym c.index-copies-index.is)))
          (handed_more g.C.Sink.takes c.args.out.now _ c.loop-index.out _ c.take.new.self c.loop-index.invariant.0
          c.take.ensures.taken),
      c.take.ensures.left (length copies - (index + 1))
          (subst (λ n. HasRoomFor (g.C.Sink.room c.loop-index.out) n) (omega (arith, c.loop-index-test.true))
          c.loop-index.invariant.1),
    )
