use Rattle.std.proofs.Common.{codes, ap, string_bytes, ◌∙◌}
use Rattle.std.specs.List.{join_by}
use Rattle.std.proofs.lemmas.Result.{IfOk-weaker}
use Rattle.gw_run.specs.Forwarding.{lane_objects, policy_objects, port_objects}
use Rattle.gw_run.proofs.Objects.{joined, three_arrays}
use Rattle.gw_run.proofs.json.report_json.Goals as goal

pub returns : goal.returns
returns c =
    let ports = c.args.ports in
    let taken =
    joined c.in_ok-port_objects.field-0.items _ c.in_ok-taken.taken.bytes.items
    (c.in_ok-taken.ensures.ok ∙ ap (join_by string_bytes (codes ",")) c.deref-2.ensures.value)
    (c.in_ok-port_objects.ensures ∙ ap port_objects c.deref.ensures.value) in
    let judged =
    joined c.in_ok-policy_objects.field-0.items _ c.in_ok-judged.judged.bytes.items
    (c.in_ok-judged.ensures.ok ∙ ap (join_by string_bytes (codes ",")) c.deref-4.ensures.value)
    (c.in_ok-policy_objects.ensures ∙ ap (policy_objects ports) c.deref-3.ensures.value) in
    let placed =
    joined c.in_ok-lane_objects.field-0.items _ c.in_ok-placed.placed.bytes.items
    (c.in_ok-placed.ensures.ok ∙ ap (join_by string_bytes (codes ",")) c.deref-6.ensures.value)
    (c.in_ok-lane_objects.ensures ∙ ap lane_objects c.deref-5.ensures.value) in
    IfOk-weaker c.with_arrays.result _ _
    (λ text is.
    is ∙ three_arrays _ _ _ _ _ _ (c.deref-7.ensures ∙ taken) (c.deref-8.ensures ∙ judged) (c.deref-9.ensures ∙ placed))
    c.with_arrays.ensures
