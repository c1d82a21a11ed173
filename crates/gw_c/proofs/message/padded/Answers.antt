use Rattle.std.proofs.Common.{◌-◌, ◌++◌, length, drop, replicate, ap, ◌∙◌}
use Rattle.std.proofs.lemmas.List.{drop-replicate}
use Rattle.gw_c.proofs.message.padded.Goals as goal

pub returns : goal.returns
returns c =
    let text = c.args.text.now in let octets = c.as_bytes-octets in
    record {
      text = text;
      utf8 = c.utf8.text;
      ended = c.requires;
      padded = ap (λ xs. xs ++ drop (length octets.result.now) (replicate 256 0))
          (c.copy_from_slice.ensures.after ∙ octets.ensures.value)
          ∙ ap (λ back. text ++ back) (drop-replicate (length octets.result.now) 256 0)
          ∙ ap (λ xs. text ++ replicate (256 - length xs) 0) octets.ensures.value;
    }
