use Rattle.std.proofs.Common.{◌≡◌, ℕ, ◌+◌, take, replicate, false, Ok, Some, refl, sym, ap, ◌∙◌}
use Rattle.std.proofs.lemmas.Bool.{ne_eqb}
use Rattle.std.proofs.lemmas.List.{take-replicate}
use Rattle.gw_log.specs.LogFrames.{has_flag, error, remote, record_of}
use Rattle.gw_log.proofs.Parts.{remote_there}
use Rattle.gw_log.proofs.reading.requested.Goals as goal

pub returns : goal.returns
returns c =
    let len = c.args.len in
    let zeros : take len (replicate 8 0) ≡ replicate len 0 = take-replicate {X = ℕ} len 8 0 c.requires.few in
    let plain : has_flag error c.args.word ≡ false = ne_eqb _ 1 c.if-word-eq1.false in
    ap Ok (c.frame.ensures ∙ ap (record_of (c.args.word + remote)) zeros)
    ∙ sym (remote_there c.args.word len (Some len) refl plain)
