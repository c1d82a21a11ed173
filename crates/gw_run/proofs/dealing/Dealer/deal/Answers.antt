use Rattle.std.proofs.Common.{◌∙◌, ◌≡◌, ◌++◌, ◌+◌, ◌%◌, ◌∷◌, [], ℕ, List, Some, ap, length, length-append, subst, sym, slice_set}
use Rattle.std.proofs.Math.ListN.{length-set}
use Rattle.std.proofs.lemmas.List.{get_or_default}
use Rattle.gw_run.specs.Dealt.{Putting, Puts}
use Rattle.gw_run.proofs.DealtShares.{dealt_one, first_turn, next_turn, same_rings}
use Rattle.gw_run.proofs.dealing.Dealer.deal.Goals.{then-port-len, else-port-len}
use Rattle.gw_run.proofs.dealing.Dealer.deal.Goals as goal

pub returns-clause-rings : goal.returns-clause-rings
returns-clause-rings g c =
    same_rings c.args.self.now.ports.items c.args.self.now.turn c.put.new.self c.requires.turn (Some c.args.frame)
    (λ d.
    subst (λ end. Puts end (Some c.args.frame) c.put.new.self)
    (c.index_mut.ensures.value ∙ get_or_default c.args.self.now.ports.items c.args.self.now.turn _ d c.requires.turn)
    c.put.ensures)

pub returns-clause-dealt : goal.returns-clause-dealt
returns-clause-dealt g c = λ given is. record {
  turn =
      elim c.if-port-len.branch [
        | then-port-len w ↦
            w.self-is
            ∙ first_turn (length given) (length ports) turn c.requires.turn is.turn (w.if-port-len.true ∙ c.len.ensures ∙ many)
            ∙ counted given
        | else-port-len w ↦
            w.self-is
            ∙ next_turn (length given) (length ports) turn c.requires.turn is.turn
            (λ last. w.if-port-len.false (last ∙ sym many ∙ sym c.len.ensures))
            ∙ counted given
      ];
  each =
      dealt_one c.args.self.now.ports.items c.args.self.now.turn c.put.new.self c.requires.turn given c.args.frame is.turn is.each
      (λ d.
      subst (λ end. Puts end (Some c.args.frame) c.put.new.self)
      (c.index_mut.ensures.value ∙ get_or_default c.args.self.now.ports.items c.args.self.now.turn _ d c.requires.turn)
      c.put.ensures);
}
  where
    ports : List Putting
    ports = c.args.self.now.ports.items

    turn : ℕ
    turn = c.args.self.now.turn

    many : c.args.self.now.ports.len ≡ length ports
    many = c.args.self.now.ports.ok.0

    counted : (given : List (List ℕ)) → (length given + 1) % length ports
        ≡ length (given ++ c.args.frame ∷ []) % length (slice_set ports turn c.put.new.self)
    counted given =
        ap (λ n. n % length ports) (sym (length-append given (c.args.frame ∷ [])))
        ∙ ap (λ n. length (given ++ c.args.frame ∷ []) % n) (sym (length-set ports turn c.put.new.self))
