use Rattle.std.proofs.Common.{◌≡◌, ◌+◌, ◌++◌, ℕ, List, map, drop, string_bytes, sym, ap, subst, ◌∙◌, arith}
use Rattle.std.proofs.Common.{append-nil}
use Rattle.std.proofs.lemmas.List.{length-map}
use Rattle.gw_insn.specs.declared.insn.Insn.{Insn}
use Rattle.gw_insn.specs.Table.{raw_of}
use Rattle.gw_verify.specs.Flow.{program_forms}
use Rattle.gw_verify.specs.Orderly.{IsOrderly}
use Rattle.gw_text.specs.Assembly.{Assembles}
use Rattle.gw_text.specs.Disassembly.{disassembly}
use Rattle.gw_text.proofs.LinesWritten.{from_place, line_more, line_none}
use Rattle.gw_text.proofs.ReadBack.{AllFit, all_fit, fit_more, round_trip}
use Rattle.gw_text.proofs.disassembler.disassemble.Goals as goal

pub loop-place-preserved : goal.loop-place-preserved
loop-place-preserved c = record {
  text =
      ap (λ b. b ++ from_place (c.loop-place.place + 1) (drop (c.loop-place.place + 1) c.code-insn-items.result.now))
      c.in_ok-write_line.ensures.line
      ∙ line_more c.code-insn-items.result.now c.loop-place.place _ (string_bytes c.loop-place.text) _ c.loop-place-test.true
      c.loop-place.invariant.text;
  fits = fit_more c.code-insn-items.result.now c.loop-place.place _ c.loop-place-test.true c.write_line.ensures.fits
      c.loop-place.invariant.fits;
}

back : (text : List ℕ) (is program : List Insn) → is ≡ program → text ≡ disassembly (map raw_of is) → AllFit is
    → IsOrderly (program_forms program)
    → Assembles text (map raw_of program)
back text is program same written fits orderly =
    subst (λ t. Assembles t (map raw_of program)) (sym (written ∙ ap (λ js. disassembly (map raw_of js)) same))
    (round_trip program (subst AllFit same fits) orderly (length-map program _))

pub returns-clause-read_back : goal.returns-clause-read_back
returns-clause-read_back c =
    let written : string_bytes c.loop-place.text ≡ disassembly (map raw_of c.code-insn-items.result.now) =
    sym (append-nil (string_bytes c.loop-place.text))
    ∙ line_none c.code-insn-items.result.now c.loop-place.place (string_bytes c.loop-place.text) _ c.loop-place-test.false
    c.loop-place.invariant.text in
    back (string_bytes c.loop-place.text) c.code-insn-items.result.now c.args.program.now c.code-insn-items.ensures.instructions
    written
    (all_fit c.code-insn-items.result.now (λ j d lt. c.loop-place.invariant.fits j d (omega (arith, c.loop-place-test.false))))
    c.code-insn-items.ensures.orderly
