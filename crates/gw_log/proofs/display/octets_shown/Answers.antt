use Rattle.std.proofs.Common.{◌≡◌, false, drop, get_or, [], refl, sym, ap, ◌∙◌}
use Rattle.std.proofs.lemmas.List.{get_or-drop}
use Rattle.gw_log.specs.LogLines.{words_of, is_octet_word}
use Rattle.gw_log.proofs.ShownOctets.{too_few}
use Rattle.gw_log.proofs.display.octets_shown.Goals as goal

pub returns-in-None : goal.returns-in-None
returns-in-None c =
    let words = words_of c.args.text.now in
    let fails : is_octet_word (get_or (drop c.args.index words) c.loop-i.i []) ≡ false =
    ap is_octet_word (get_or-drop c.args.index words c.loop-i.i [] ∙ sym c.word_at.ensures) ∙ c.in-None.ensures in
    rw (too_few is_octet_word (drop c.args.index words) c.args.len c.loop-i.i c.loop-i-test.true fails) refl
