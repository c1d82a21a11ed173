use Rattle.gw_text.specs.Sources.{place_in}
use Rattle.gw_text.proofs.FirstFaults.{faultless_here, faultless_behind, one_encoded}
use Rattle.gw_text.proofs.targets.encode.Goals as goal

pub raw-requires-clause-near : goal.raw-requires-clause-near
raw-requires-clause-near c =
    faultless_here (place_in c.args.places.now) c.args.instructions.now c.loop-place.place c.index-instructions-place.result
    c.loop-place-test.true
    c.index-instructions-place.is c.loop-place.invariant.0

pub loop-place-preserved : goal.loop-place-preserved
loop-place-preserved c = (
  faultless_behind (place_in c.args.places.now) c.args.instructions.now c.loop-place.place c.index-instructions-place.result
      c.loop-place-test.true
      c.index-instructions-place.is c.loop-place.invariant.0,
  one_encoded (place_in c.args.places.now) c.args.instructions.now c.loop-place.place c.index-instructions-place.result
      c.loop-place.code.items _ c.raw.result _
      c.loop-place-test.true c.index-instructions-place.is c.in_ok-push.ensures.items c.raw.ensures c.loop-place.invariant.1,
)
