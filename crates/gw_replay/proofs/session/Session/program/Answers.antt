use Rattle.std.proofs.Common.{Ok, refl, ap, ◌∙◌, ◌++◌, decimal, codes}
use Rattle.gw_replay.specs.Requests.{program_of}
use Rattle.gw_replay.proofs.Sessions.{policy_joined}
use Rattle.gw_replay.proofs.session.Session.program.Goals as goal

pub returns : goal.returns
returns c = λ s state.
    let text = c.text.ensures.octets ∙ ap (λ before. before ++ codes "program ") c.new.ensures in
    let line = c.text-2.ensures.octets ∙ ap (λ before. before ++ codes "\n") (c.port.ensures.octets
    ∙ ap (λ before. before ++ decimal c.args.port) text) in
    policy_joined s (codes "program ") c.args.port c.in_ok-policy.policy (program_of c.args.port c.args.listing.now)
    c.text-2.result c.args.self.now _ state (λ r same. (Ok c.in_ok-policy.policy, c.in_ok-policy.ensures, same))
    c.in_ok-join.ensures.free refl refl c.in_ok-join.ensures.joined line
