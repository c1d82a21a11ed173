use Rattle.std.proofs.Common.{arith}
use Rattle.gw_verify.proofs.Arrivals.{goes_on_none, goes_on_more, arrival_at, found_path}
use Rattle.gw_verify.proofs.path.path_back.Goals as goal

pub loop-place-init : goal.loop-place-init
loop-place-init c = record {
  inside = c.requires.inside;
  path = λ forms word told bare.
      let none = goes_on_none forms word c.args.last in
      (bare, rw c.new-places.ensures.items none);
}

pub loop-place-preserved : goal.loop-place-preserved
loop-place-preserved c =
    let place = c.loop-place.place in
    let found = c.loop-place.places.items in
    let now = c.loop-place.invariant in
    let here = arrival_at c.args.arrivals.now place _ now.inside c.in-From.is in
    let falls = c.requires.back place c.in-From.before here in
    record {
      inside = omega (arith, now.inside);
      path = λ forms word told bare.
          let arrival = told place _ here in
          let goes = (now.path forms word told bare).1 in
          let more = goes_on_more forms word place c.in-From.before found c.args.last arrival.1 goes in
          (arrival.0, rw c.in_ok-push.ensures.items more);
    }

pub returns : goal.returns
returns c = λ forms word told bare.
    let now = c.loop-place.invariant in
    let found = now.path forms word told bare in
    rw (c.reverse.ensures.items, c.in_ok-push-2.ensures.items)
    (found_path forms word c.args.arrivals.now told c.loop-place.place c.loop-place.places.items c.args.last
    now.inside c.in_default.not-From found.0 found.1)
