use Rattle.std.proofs.Common.{[], ◌∷◌, inl}
use Rattle.gw_run.proofs.egress_command.write_egress_under.Goals as goal

pub returns-in-Ok : goal.returns-in-Ok
returns-in-Ok g c =
    inl (c.input_egress.ensures (c.args.first.now ∷ []) (c.in-Ok.ensures.stands [] c.new-policies.ensures.start))
