use Rattle.std.proofs.Common.{◌++◌, flat_map, sym, ◌∙◌, ap, string_bytes, arith}
use Rattle.std.proofs.lemmas.List.{append-nil}
use Rattle.std.specs.List.{range_with_len}
use Rattle.gw_commands.specs.ClaimLines.{holder_line, line_at}
use Rattle.gw_input.proofs.Callers.{lines_more}
use Rattle.gw_commands.proofs.ClaimLines.{lines_done, line_held, line_free}
use Rattle.gw_commands.proofs.claims_command.holders.Goals as goal
use Rattle.gw_commands.proofs.claims_command.holders.Goals.{in-Some+in_ok-push_holder, in_default}

pub loop-address-preserved : goal.loop-address-preserved
loop-address-preserved c =
    let table = c.args.claims.now in
    let n = c.loop-address.address in
    let before = flat_map (line_at table) (range_with_len 0 n) in
    let more = sym (lines_more (line_at table) n) in
    elim c.match-holder.branch [
      | in-Some+in_ok-push_holder w ↦
          ap string_bytes w.text-is ∙ w.in_ok-push_holder.ensures
          ∙ ap (λ text. text ++ holder_line n w.in-Some.name) c.loop-address.invariant
          ∙ ap (λ last. before ++ last)
          (sym (line_held table n w.in-Some.name c.holder.result c.holder.ensures.holder w.in-Some.is)) ∙ more
      | in_default w ↦
          ap string_bytes w.text-is ∙ c.loop-address.invariant ∙ sym (append-nil before)
          ∙ ap (λ last. before ++ last) (sym (line_free table n c.holder.result c.holder.ensures.holder w.in_default.is)) ∙ more
    ]

pub returns : goal.returns
returns c = let k = c.loop-address-test.false in
    lines_done c.args.claims.now c.loop-address.address (string_bytes c.loop-address.text) (omega arith) c.loop-address.invariant
