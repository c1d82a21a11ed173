use Rattle.std.proofs.Common.{arith, ◌≡◌, [], ◌∷◌, ◌++◌, sym, subst}
use Rattle.std.proofs.lemmas.Grind.{common_steps}
use Rattle.std.proofs.lemmas.List.Elements.{All-push, All-same}
use Rattle.gw_frame.specs.Record.{IsRecord}
use Rattle.bench_calls.proofs.loading.load_frames.Goals as goal

pub loop-record-preserved : goal.loop-record-preserved
loop-record-preserved c =
    let before = c.loop-record.frames.items in
    let pushed : c.push.new.self.items ≡ before ++ c.in-Ok.frame ∷ [] = grind (arith, common_steps) in
    let valid = subst IsRecord (sym c.in-Ok.ensures.read.1) c.in-Ok.ensures.read.0 in
    record {
      frames = grind (arith, common_steps);
      valid = All-same IsRecord c.push.new.self.items (before ++ c.in-Ok.frame ∷ []) pushed
          (All-push IsRecord before c.in-Ok.frame c.loop-record.invariant.valid valid);
    }
