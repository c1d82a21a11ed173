use Rattle.std.proofs.Common.{rules, ◌≡◌, Some, true, false, sym, ap, subst, ◌∙◌}
use Rattle.std.proofs.lemmas.Bool.{false≢true}
use Rattle.gw_table.specs.PairFrames.{ranges_of, rules_before, is_clear, meet, asking, AsksForPair}
use Rattle.gw_table.proofs.PairFrames.{clear_there, asks_for_pair}
use Rattle.gw_table.proofs.table.Table.pair_frames.Goals as goal

pub returns-then-is_clear-clause-frames : goal.returns-then-is_clear-clause-frames
returns-then-is_clear-clause-frames c =
    let table = c.args.self.now in
    let other = c.args.other.now in
    let x = c.in_ok-own_ranges.own_ranges in
    let y = c.in_ok-its_ranges.its_ranges in
    let of_own : ranges_of table c.args.own ≡ Some x = search rules in
    let of_its : ranges_of other c.args.its ≡ Some y = search rules in
    let clear : is_clear (rules_before table c.args.own) (rules_before other c.args.its) (meet x y) ≡ true = search rules in
    subst (AsksForPair table c.args.own other c.args.its) (sym (c.question.ensures ∙ ap asking c.meet-both.ensures))
    (asks_for_pair table other c.args.own c.args.its x y of_own of_its clear)

pub returns-else-is_clear-clause-none : goal.returns-else-is_clear-clause-none
returns-else-is_clear-clause-none c h =
    let table = c.args.self.now in
    let other = c.args.other.now in
    let x = c.in_ok-own_ranges.own_ranges in
    let y = c.in_ok-its_ranges.its_ranges in
    let of_own : ranges_of table c.args.own ≡ Some x = search rules in
    let of_its : ranges_of other c.args.its ≡ Some y = search rules in
    let clear : is_clear (rules_before table c.args.own) (rules_before other c.args.its) (meet x y) ≡ false = search rules in
    false≢true (sym clear ∙ clear_there table other c.args.own c.args.its x y of_own of_its h)
