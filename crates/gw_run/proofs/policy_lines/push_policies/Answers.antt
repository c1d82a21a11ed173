use Rattle.std.proofs.Common.{refl, string_bytes, arith}
use Rattle.gw_run.specs.Forwarding.{policy_line}
use Rattle.gw_input.proofs.Callers.{line_more}
use Rattle.gw_run.proofs.PolicyLines.{policies_done}
use Rattle.gw_run.proofs.policy_lines.push_policies.Goals as goal

pub loop-to-preserved : goal.loop-to-preserved
loop-to-preserved c =
    let lists = c.args.lanes.now in
    line_more (policy_line lists) c.loop-to.to (string_bytes c.args.text.now) (string_bytes c.loop-to.text)
    (policy_line lists c.loop-to.to) (string_bytes c.push_policy.new.text) c.loop-to.invariant refl c.in_ok-push_policy.ensures

pub returns : goal.returns
returns c =
    let last = c.loop-to-test.false in
    let end = c.loop-to.auto.to-end in
    policies_done c.args.ports c.args.lanes.now c.loop-to.to (string_bytes c.args.text.now)
    (string_bytes c.loop-to.text) (omega arith) c.loop-to.invariant
