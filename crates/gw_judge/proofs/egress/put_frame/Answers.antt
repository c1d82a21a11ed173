use Rattle.std.proofs.Common.{ℕ, List, Ok, subst}
use Rattle.std.proofs.lemmas.Result.{err_from_is_err_and}
use Rattle.gw_io.specs.Tries.{inner_of, has_failed}
use Rattle.gw_judge.specs.UnderWay.{Puts}
use Rattle.gw_judge.specs.Egress.{word_text, untimed_line}
use Rattle.gw_judge.proofs.Gathering.{puts_both, puts_failed}
use Rattle.gw_judge.proofs.egress.put_frame.Goals as goal

pub returns-in_err-put_word : goal.returns-in_err-put_word
returns-in_err-put_word g c =
    let fault = err_from_is_err_and c.from_residual.result c.from_residual.ensures.1 in
    let now : List ℕ = c.put_word.new.gathered.held.items in
    let old = g.W.Write.contents (inner_of c.args.writer.now) in
    let new = g.W.Write.contents (inner_of c.put_word.new.writer) in
    let failed = has_failed c.put_word.new.writer in
    let held : List ℕ = c.args.gathered.now.held.items in
    let said = c.args.said.now in
    rw (fault.1, fault.2) (puts_failed c.put_word.result c.in_err-put_word.field-0.0 old new failed held
    (word_text said.time) (untimed_line said.octets c.args.interface.now) now now c.in_err-put_word.was
    (subst (λ (word : List ℕ). Puts old new failed held (word_text word) c.put_word.result now) c.time.ensures
    c.put_word.ensures))

pub returns : goal.returns
returns g c =
    let old = g.W.Write.contents (inner_of c.args.writer.now) in
    let mid = g.W.Write.contents (inner_of c.put_word.new.writer) in
    let new = g.W.Write.contents (inner_of c.put_untimed.new.writer) in
    let failed = has_failed c.put_word.new.writer in
    let then_failed = has_failed c.put_untimed.new.writer in
    let held : List ℕ = c.args.gathered.now.held.items in
    let now : List ℕ = c.put_word.new.gathered.held.items in
    let end : List ℕ = c.put_untimed.new.gathered.held.items in
    let said = c.args.said.now in
    let interface : List ℕ = c.args.interface.now in
    puts_both c.put_untimed.result c.in_ok-put_word.field-0 old mid new failed then_failed held
    (word_text said.time) (untimed_line said.octets interface) now end
    (subst (λ (word : List ℕ). Puts old mid failed held (word_text word) (Ok c.in_ok-put_word.field-0) now) c.time.ensures
    c.in_ok-put_word.ensures)
    (subst (λ (octets : List ℕ). Puts mid new then_failed now (untimed_line octets interface) c.put_untimed.result end)
    c.frame.ensures c.put_untimed.ensures)
