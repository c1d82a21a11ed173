use Rattle.std.proofs.Common.{ℕ, List, ◌++◌, Ok, codes, subst, ◌∙◌}
use Rattle.std.proofs.lemmas.Result.{err_from_is_err_and}
use Rattle.gw_io.specs.Tries.{inner_of, has_failed}
use Rattle.gw_log.specs.LogTexts.{text_of}
use Rattle.gw_judge.specs.UnderWay.{Puts}
use Rattle.gw_judge.specs.Egress.{word_text}
use Rattle.gw_judge.proofs.Gathering.{puts_both, puts_failed}
use Rattle.gw_judge.proofs.egress.put_untimed.Goals as goal

pub returns-in_err-put_word : goal.returns-in_err-put_word
returns-in_err-put_word g c =
    let fault = err_from_is_err_and c.from_residual.result c.from_residual.ensures.1 in
    let now : List ℕ = c.put_word.new.gathered.held.items in
    let old = g.W.Write.contents (inner_of c.args.writer.now) in
    let new = g.W.Write.contents (inner_of c.put_word.new.writer) in
    let failed = has_failed c.put_word.new.writer in
    let held : List ℕ = c.args.gathered.now.held.items in
    rw (fault.1, fault.2) (puts_failed c.put_word.result c.in_err-put_word.field-0.0 old new failed held
    (word_text c.args.interface.now) (text_of c.args.frame.now ++ codes "\n") now now c.in_err-put_word.was
    (subst (λ (word : List ℕ). Puts old new failed held (word_text word) c.put_word.result now) c.as_bytes.ensures.value
    c.put_word.ensures))

pub returns : goal.returns
returns g c =
    let old = g.W.Write.contents (inner_of c.args.writer.now) in
    let mid = g.W.Write.contents (inner_of c.put_word.new.writer) in
    let new = g.W.Write.contents (inner_of c.put.new.writer) in
    let failed = has_failed c.put_word.new.writer in
    let held : List ℕ = c.args.gathered.now.held.items in
    let now : List ℕ = c.put_word.new.gathered.held.items in
    let line : List ℕ = text_of c.args.frame.now ++ codes "\n" in
    puts_both c.put.result c.in_ok-put_word.field-0 old mid new failed (has_failed c.put.new.writer) held
    (word_text c.args.interface.now) line now c.put.new.self.held.items
    (subst (λ (word : List ℕ). Puts old mid failed held (word_text word) (Ok c.in_ok-put_word.field-0) now)
    c.as_bytes.ensures.value c.in_ok-put_word.ensures)
    (subst (λ (text : List ℕ). Puts mid new (has_failed c.put.new.writer) now text c.put.result c.put.new.self.held.items)
    (c.as_slice.ensures.value ∙ c.frame_line.ensures) c.put.ensures)
