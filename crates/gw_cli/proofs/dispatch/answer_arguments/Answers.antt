use Rattle.std.proofs.Common.{◌∙◌, inl, inr, refl, sym}
use Rattle.std.proofs.lemmas.Bool.{false≢true}
use Rattle.clap.specs.Values.{kind_of}
use Rattle.gw_cli.proofs.Help.{help, not_help}
use Rattle.gw_cli.proofs.dispatch.answer_arguments.Goals as goal

pub returns-then-use_stderr : goal.returns-then-use_stderr
returns-then-use_stderr g c =
    let neither = c.use_stderr.ensures.0 c.if-use_stderr.true in
    inr (inl (
      not_help (kind_of c.args.error.now) neither,
      refl,
      c.requires.output,
      (c.as_str.result.now, c.write_text.ensures),
    ))

pub returns : goal.returns
returns g c =
    inl (
      help (kind_of c.args.error.now) (λ neither. false≢true (sym c.if-use_stderr.false ∙ c.use_stderr.ensures.1 neither)),
      refl,
      (c.as_str-else-use_stderr.result.now, c.write_text-else-use_stderr.ensures),
    )
