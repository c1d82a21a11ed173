use Rattle.std.proofs.Common.{◌∙◌, ap, sym}
use Rattle.std.proofs.lemmas.Bool.{eqb-true, eq-eqb}
use Rattle.gw_ledger.specs.Ports.{ports_below}
use Rattle.gw_ledger.specs.PortWord.{ports_of_word, word_of, word_of-ports_of}
use Rattle.gw_ledger.proofs.port_set.PortSet.is_empty.Goals as goal

pub returns : goal.returns
unfolding ports_below
returns c = (
  λ none. sym c.self.view_is ∙ ap ports_of_word (eqb-true c.self.inside.word 0 none),
  λ empty. eq-eqb c.self.inside.word 0
      (sym (word_of-ports_of c.self.inside c.self.invariant) ∙ ap word_of (c.self.view_is ∙ empty)),
)
