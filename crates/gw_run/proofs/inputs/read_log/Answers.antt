use Rattle.std.proofs.Common.{◌∙◌, Ok, ap, sym}
use Rattle.gw_run.specs.Logs.{log_frames}
use Rattle.gw_run.specs.PortInputs.{frames_as}
use Rattle.gw_run.proofs.inputs.read_log.Goals as goal

pub returns-clause-frames : goal.returns-clause-frames
returns-clause-frames g c =
    let octets = c.in_ok-octets.octets.items in (
      octets,
      c.in_ok-octets.ensures.octets,
      ap (λ why. frames_as why octets) c.in_ok-octets.ensures.log
          ∙ ap Ok (sym (c.in_ok-frames.ensures ∙ ap log_frames c.as_slice.ensures.value)),
    )
