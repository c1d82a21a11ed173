use Rattle.std.proofs.Common.{rules, ◌≡◌, ◌+◌, ◌<◌, suc, ◌++◌, List, length, map, take, drop, ap, subst, ◌∙◌, arith}
use Rattle.std.proofs.Common.{length-set, slice_index_or}
use Rattle.std.specs.Prelude.{slice_set}
use Rattle.gw_core.specs.Standing.{Worker}
use Rattle.gw_core.specs.Renewing.{renewed}
use Rattle.gw_core.proofs.Renewals.{one_renewed}
use Rattle.gw_core.proofs.renewing.renew_all.Goals as goal

pub loop-port-preserved : goal.loop-port-preserved
loop-port-preserved c =
    let so = c.loop-port.invariant in
    let port = c.loop-port.port in
    let xs = c.args.workers.now.items in
    let w = c.index_mut.result.now in
    let within : port < length xs = search rules in
    let read = subst (λ (ys : List Worker). w ≡ slice_index_or ys port w) so.items c.index_mut.ensures.value in
    let more : suc port ≡ port + 1 = omega arith in
    record {
      items = ap (slice_set c.loop-port.workers.items port) c.renew.ensures
          ∙ ap (λ (ys : List Worker). slice_set ys port (renewed w)) so.items
          ∙ one_renewed xs port w within read
          ∙ ap (λ n. map renewed (take n xs) ++ drop n xs) more;
      long = length-set _ _ _ ∙ so.long;
    }
