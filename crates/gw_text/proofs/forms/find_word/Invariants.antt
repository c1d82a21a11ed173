use Rattle.std.proofs.Common.{◌≡◌, drop, map}
use Rattle.gw_text.specs.AssemblerForms.{forms_among}
use Rattle.gw_text.specs.FormViews.{word_view}
use Rattle.gw_text.proofs.forms.find_word.Given as goal

abbrev pub invariant-loop-word : goal.invariant-loop-word
invariant-loop-word l = forms_among (map word_view (drop l.word-index l.words)) l.name
    ≡ forms_among (map word_view l.words) l.name
