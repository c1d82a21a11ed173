use Rattle.std.proofs.Common.{◌+◌, [], ap, sym, refl, subst, ◌∙◌, arith}
use Rattle.std.specs.List.{list_any}
use Rattle.std.proofs.lemmas.List.{length-set, get_or-set_same, get_or-set_other}
use Rattle.gw_table.specs.declared.section.Row.{Row}
use Rattle.gw_table.specs.declared.section.Section.TheVariants as section
use Rattle.gw_table.specs.RuleSets.{span_of, Follows}
use Rattle.gw_table.specs.Sections.{start_property, property_of}
use Rattle.gw_table.specs.Index.{splits}
use Rattle.gw_table.proofs.Rows.{IsMade, none_made, no_ranks, row_absent, row_added}
use Rattle.gw_table.proofs.index.Index.new.Goals as goal
use Rattle.gw_table.proofs.index.Index.new.Goals.{then-any_splits+in_ok-append-2, else-any_splits}

pub loop-number-init : goal.loop-number-init
loop-number-init c =
    let rules = c.args.rules.now in
    let sets = c.append.new.self in
    let words = c.in_ok-append.ensures.words in
    let follows = subst (λ w. Follows start_property 1538 rules w [] sets.bits.items) (sym words)
    (subst (λ old. Follows start_property 1538 rules c.new-sets.result.words old sets.bits.items) c.new-sets.ensures.none
    c.in_ok-append.ensures.follows) in
    record {
      room = omega (arith, c.new-sets.ensures.room, words);
      few = omega (arith, c.new-sets.ensures.few, words);
      all = refl;
      made = none_made rules sets.words sets.bits.items _ follows (no_ranks 65);
    }

pub loop-number-preserved : goal.loop-number-preserved
loop-number-preserved c =
    let rules = c.args.rules.now in
    let number = c.loop-number.number in
    let rank = c.loop-number.rank in
    let ranks = c.loop-number.ranks in
    let sets = c.loop-number.sets in
    let loop = c.loop-number.invariant in
    let row = c.row_at-row.ensures in
    let any : Row → _ = λ r. list_any (λ rule. splits r.least (span_of r.field rule)) rules in
    elim c.if-any_splits.branch [
      | then-any_splits+in_ok-append-2 w ↦ (let new = w.append-then-any_splits.new.self in
          let words = w.in_ok-append-2.ensures.words in
          let of_row : Row → _ =
          λ r. Follows (property_of (section.Row r.field r.least)) 256 rules sets.words sets.bits.items new.bits.items in
          let follows = subst of_row row w.in_ok-append-2.ensures.follows in
          rw (w.sets-is, w.ranks-is, w.rank-is) (record {
            room = omega (arith, loop.room, words);
            few = omega (arith, loop.few, words);
            all = length-set ranks number (rank + 1) ∙ loop.all;
            made = subst (λ n. IsMade rules n new.bits.items _ (number + 1) (rank + 1)) (sym words)
                (row_added rules sets.words sets.bits.items new.bits.items ranks _ number rank loop.made follows
                (get_or-set_same ranks number (rank + 1) 0 (omega (arith, loop.all)))
                (λ other apart. get_or-set_other ranks number other (rank + 1) 0 apart));
          }))
      | else-any_splits w ↦ rw (w.sets-is, w.ranks-is, w.rank-is) (record {
        room = loop.room;
        few = loop.few;
        all = loop.all;
        made = row_absent rules sets.words sets.bits.items ranks number rank loop.made (omega arith)
            (ap any (sym row) ∙ sym c.any_splits.ensures ∙ w.if-any_splits.false);
      })
    ]
