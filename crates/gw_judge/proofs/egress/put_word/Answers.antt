use Rattle.std.proofs.Common.{◌≡◌, ℕ, List, Err, ◌++◌, codes, sym, ◌∙◌, subst}
use Rattle.std.proofs.lemmas.Result.{err_from_is_err_and}
use Rattle.gw_io.specs.Tries.{inner_of, has_failed}
use Rattle.gw_judge.specs.Egress.{word_text}
use Rattle.gw_judge.specs.UnderWay.{Puts}
use Rattle.gw_judge.proofs.Gathering.{puts_both, puts_failed}
use Rattle.gw_judge.proofs.EgressLines.{word_there}
use Rattle.gw_judge.proofs.egress.put_word.Goals as goal

pub returns-in_err-put : goal.returns-in_err-put
returns-in_err-put g c =
    let fault = err_from_is_err_and c.from_residual.result c.from_residual.ensures.1 in
    let old = g.W.Write.contents (inner_of c.args.writer.now) in
    let new = g.W.Write.contents (inner_of c.put.new.writer) in
    let failed = has_failed c.put.new.writer in
    let held : List ℕ = c.args.gathered.now.held.items in
    let now : List ℕ = c.put.new.self.held.items in
    let word : List ℕ = c.args.word.now in
    let there : word ++ codes " " ≡ word_text word = sym (word_there word (sym c.is_empty.ensures ∙ c.if-is_empty.false)) in
    let Put : List ℕ → Type 0 = λ text. Puts {A = Unit {0}} old new failed held text (Err c.in_err-put.field-0.0) now in
    rw (fault.1, fault.2) (subst Put there
    (puts_failed c.put.result c.in_err-put.field-0.0 old new failed held word (codes " ") now now c.in_err-put.was
    c.put.ensures))

pub returns : goal.returns
returns g c =
    let old = g.W.Write.contents (inner_of c.args.writer.now) in
    let mid = g.W.Write.contents (inner_of c.put.new.writer) in
    let new = g.W.Write.contents (inner_of c.put-2.new.writer) in
    let then_failed = has_failed c.put-2.new.writer in
    let held : List ℕ = c.args.gathered.now.held.items in
    let now : List ℕ = c.put-2.new.self.held.items in
    let word : List ℕ = c.args.word.now in
    let there : word ++ codes " " ≡ word_text word = sym (word_there word (sym c.is_empty.ensures ∙ c.if-is_empty.false)) in
    subst (λ (text : List ℕ). Puts old new then_failed held text c.put-2.result now) there
    (puts_both c.put-2.result c.in_ok-put.field-0 old mid new (has_failed c.put.new.writer) then_failed held word (codes " ")
    c.put.new.self.held.items now c.in_ok-put.ensures c.put-2.ensures)
