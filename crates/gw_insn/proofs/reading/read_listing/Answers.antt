use Rattle.std.proofs.Common.{[], ◌∷◌, ◌++◌, IfSome, sym, ap, ◌∙◌, arith}
use Rattle.std.proofs.lemmas.Bool.{false≢true}
use Rattle.gw_insn.proofs.Listings.{Keeps, read_more, lacks_next, lists, lists_more, kept_lists, kept_refuses}
use Rattle.gw_insn.proofs.OneListing.{only_memory, only_this}
use Rattle.gw_insn.specs.declared.reading.ListRefusal.TheVariants.{BadCount, BadField, Trailing}
use Rattle.gw_insn.proofs.reading.read_listing.Goals as goal
use Rattle.gw_insn.proofs.reading.read_listing.Goals.{in-Some-code, in_default-code}

pub returns-in_default-item-clause-refused : goal.returns-in_default-item-clause-refused
returns-in_default-item-clause-refused c =
    lacks_next c.in-Some.ensures.found c.loop-index-test.true c.loop-index.invariant c.in_default-item.ensures.none

pub loop-index-preserved : goal.loop-index-preserved
loop-index-preserved c =
    let before = c.loop-index.invariant in
    let grown : IfSome c.match-code-2.code (Keeps c.in-Some.count (before.code ++ c.in-Some-item.instruction ∷ [])) =
    elim c.match-code-2.branch [
      | in-Some-code w ↦
          let had : Keeps c.in-Some.count before.code w.in-Some-code.code = rw w.in-Some-code.is at before.same in
          rw w.code-is (
            w.push_reserved.ensures.items
                ∙ ap (λ xs. xs ++ c.in-Some-item.instruction ∷ []) had.0,
            w.push_reserved.ensures.capacity ∙ had.1,
          )
      | in_default-code w ↦ rw (w.code-is, w.in_default-code.is) tt
    ] in
    read_more c.match-code-2.code c.loop-index-test.true before c.in-Some-item.ensures.found grown

pub returns-then-not-is_blank-clause-refused : goal.returns-then-not-is_blank-clause-refused
returns-then-not-is_blank-clause-refused c =
    lists_more c.in-Some.ensures.found c.loop-index.invariant (omega arith)
    (λ blank. false≢true (sym c.if-not-is_blank.true ∙ c.is_blank.ensures.1 blank))

pub returns-clause-read : goal.returns-clause-read
returns-clause-read c =
    let listing = lists c.in-Some.ensures.found c.loop-index.invariant (omega arith)
    (c.is_blank.ensures.0 c.if-not-is_blank.false) in
    rw c.ok_or.ensures.value (kept_lists c.in-Some.count c.loop-index.code c.loop-index.invariant.same listing)

pub returns-clause-refused : goal.returns-clause-refused
returns-clause-refused c =
    let listing = lists c.in-Some.ensures.found c.loop-index.invariant (omega arith)
    (c.is_blank.ensures.0 c.if-not-is_blank.false) in
    rw c.ok_or.ensures.value (kept_refuses c.loop-index.code listing)

pub returns-in_default-clause-only : goal.returns-in_default-clause-only
returns-in_default-clause-only c = λ code h. only_memory BadCount c.in_default.ensures.none h

pub returns-in_default-item-clause-only : goal.returns-in_default-item-clause-only
returns-in_default-item-clause-only c =
    λ code h. only_memory (BadField c.loop-index.index) (returns-in_default-item-clause-refused c) h

pub returns-then-not-is_blank-clause-only : goal.returns-then-not-is_blank-clause-only
returns-then-not-is_blank-clause-only c = λ code h. only_memory Trailing (returns-then-not-is_blank-clause-refused c) h

pub returns-clause-only : goal.returns-clause-only
returns-clause-only c = λ code h. only_this c.ok_or.result (returns-clause-read c) (returns-clause-refused c) h
