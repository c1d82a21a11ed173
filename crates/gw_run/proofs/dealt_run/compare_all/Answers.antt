use Rattle.std.proofs.Common.{◌<◌, ◌++◌, ◌∙◌, ⊎_elim, List, ap, arith, length, slice_index_or, sym}
use Rattle.std.proofs.Math.ListN.{length-set}
use Rattle.std.proofs.lemmas.Bool.{cases_eq}
use Rattle.std.proofs.lemmas.List.{get_or_default}
use Rattle.gw_run.specs.Dealt.{Putting, Taken}
use Rattle.gw_run.proofs.DealtRings.{as_before}
use Rattle.gw_run.proofs.dealt_run.compare_all.Goals as goal

pub loop-port-preserved : goal.loop-port-preserved
loop-port-preserved g c =
    let so_far = c.loop-port.invariant in
    let port = c.loop-port.port in
    let outs : List Taken = c.loop-port.outs in
    let ins : List Putting = c.loop-port.ins in
    let out : Taken = c.compare.new.self in
    let in_ : Putting = c.compare.new.other in
    let out_inside : port < length outs = omega (arith, c.loop-port-test.true, so_far.many.0) in
    let in_inside : port < length ins = omega (arith, c.loop-port-test.true, so_far.many.1, c.requires.count) in
    let front = c.compare.ensures.front in
    record {
      many = (length-set outs port out ∙ so_far.many.0, length-set ins port in_ ∙ so_far.many.1);
      outs = λ k d.
          as_before outs port out out_inside
          (λ e. c.compare.ensures.same.0 ∙ get_or_default outs port c.index-outs-port.result e out_inside) k d
          ∙ so_far.outs k d;
      ins = λ k d.
          as_before ins port in_ in_inside
          (λ e. c.compare.ensures.same.1 ∙ get_or_default ins port c.index-ins-port.result e in_inside) k d
          ∙ so_far.ins k d;
      fronts = λ k d e below.
          ⊎_elim
          (λ here. (
            front.0,
            ap (λ n. (slice_index_or c.args.outs.now n d).items ++ front.0) here
                ∙ ap (λ (o : Taken). o.items ++ front.0)
                (sym (so_far.outs port d) ∙ get_or_default outs port d c.index-outs-port.result out_inside)
                ∙ front.1
                ∙ ap (λ (i : Putting). i.put)
                (get_or_default ins port c.index-ins-port.result e in_inside ∙ so_far.ins port e)
                ∙ ap (λ n. (slice_index_or c.args.ins.now n e).put) (sym here),
          ))
          (λ before. so_far.fronts k d e (omega (arith, before, below)))
          (cases_eq k port);
    }
