use Rattle.std.proofs.Common.{◌≡◌, ℕ, Bool, List, false, inl, sym, ◌∙◌, subst}
use Rattle.std.specs.Io.KnownBytes.{Consumes}
use Rattle.gw_io.specs.Tries.{inner_of, has_failed}
use Rattle.gw_judge.specs.FirstOctets.{is_capture}
use Rattle.gw_run.specs.Egress.{EndsOpenedEgress}
use Rattle.gw_run.proofs.egress_command.input_egress.Goals as goal

pub returns-else-is_capture : goal.returns-else-is_capture
returns-else-is_capture g c batches stands =
    let begun = g.I.Read.remaining (inner_of c.args.input.now) in
    let middle = g.I.Read.remaining (inner_of c.read.new.reader) in
    let first : List ℕ = c.in-Ok.first in
    let opened = c.in-Ok.ensures.opened in
    let log : false ≡ is_capture first = sym (sym c.is_capture.ensures ∙ c.if-is_capture.false) in
    let Ends : Bool → Type 0 = λ capture. EndsOpenedEgress capture c.args.gateway.now.names.now batches begun middle
    (g.I.Read.remaining (inner_of c.log_egress.new.input)) (has_failed c.log_egress.new.input)
    (g.W.Write.contents (inner_of c.args.output.now)) (g.W.Write.contents (inner_of c.log_egress.new.output))
    (has_failed c.log_egress.new.output) c.log_egress.result in
    inl (
      first,
      middle,
      opened,
      subst Ends log (c.log_egress.ensures batches begun stands
          (subst (λ (octets : List ℕ). Consumes begun middle octets) (sym c.octets.ensures.octets) opened.consumed)),
    )
