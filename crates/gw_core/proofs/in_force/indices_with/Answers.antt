use Rattle.std.proofs.Common.{rules, ◌≡◌, List, Some, sym, ap, ◌∙◌, subst, arith, take, length-set}
use Rattle.std.specs.Prelude.{slice_get}
use Rattle.gw_policy.specs.Filter.{IsFilter}
use Rattle.gw_policy.specs.Batches.{Pair}
use Rattle.gw_core.proofs.PairIndices.{last_after, there_after, not_there, sound_after, all_taken}
use Rattle.std.proofs.lemmas.Option.{slice_get_within}
use Rattle.gw_core.specs.Events.{names_no_port}
use Rattle.gw_core.specs.Turns.{index_in}
use Rattle.gw_core.specs.Gateway.{last_index}
use Rattle.gw_core.proofs.in_force.indices_with.Goals as goal

pub returns-then-from-ports : goal.returns-then-from-ports
returns-then-from-ports c =
    let pair : Pair = record { port = c.in-Some.port; policy = c.in-Some.policy.now.value } in
    let at : slice_get c.args.batch.now c.loop-pair.pair ≡ Some pair = search rules in
    not_there c.args.ports c.loop-pair.pair c.args.batch.now pair at (omega (arith, c.from.ensures))

pub loop-pair-preserved : goal.loop-pair-preserved
loop-pair-preserved c =
    let so = c.loop-pair.invariant in
    let pair : Pair = record { port = c.in-Some.port; policy = c.in-Some.policy.now.value } in
    let at : slice_get c.args.batch.now c.loop-pair.pair ≡ Some pair = search rules in
    let ok : IsFilter pair.policy = subst IsFilter c.deref.ensures c.program-program.ensures.means in
    let i : c.from-in-loop-pair.result ≡ c.in-Some.port = c.from-in-loop-pair.ensures in
    record {
      long = length-set _ _ _ ∙ so.long;
      there = there_after c.args.ports c.loop-pair.pair c.args.batch.now pair at (omega (arith, c.from.ensures)) so.there;
      sound = sound_after c.loop-pair.pair c.args.batch.now pair at ok so.sound;
      last = λ q lt. rw i (last_after q c.args.index c.loop-pair.pair c.args.batch.now pair c.loop-pair.indices _ at
          (omega (arith, c.from.ensures, c.requires, so.long)) (so.last q lt));
    }

pub returns : goal.returns
returns c =
    let so = c.loop-pair.invariant in
    let all : take c.loop-pair.pair c.args.batch.now
    ≡ c.args.batch.now = all_taken c.loop-pair.pair c.args.batch.now (omega (arith, c.len-pair-end.ensures)) in (
      ap (names_no_port c.args.ports) (sym all) ∙ so.there,
      record {
        sound = λ i pair get. so.sound i pair
            (let k = slice_get_within c.args.batch.now i pair get in omega (arith, c.len-pair-end.ensures)) get;
        last = λ q lt. so.last q lt ∙ ap (λ (xs : List Pair). last_index q c.args.index xs 0 (index_in c.args.latest q)) all;
      },
    )
