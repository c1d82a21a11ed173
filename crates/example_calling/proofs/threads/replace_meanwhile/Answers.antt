use Rattle.std.proofs.Common.{◌≡◌}
use Rattle.example_calling.specs.Threads.{HasOffered, with_batch}
use Rattle.example_calling.proofs.Forwarding.{run_refuses}
use Rattle.example_calling.proofs.threads.replace_meanwhile.Goals as goal

pub returns-in-Err-clause-refused : goal.returns-in-Err-clause-refused
returns-in-Err-clause-refused g c =
    let feed = c.in-Some.offering.promise.0.value in
    let operator = c.in-Some-start_replacing.replacing.promise.0.value in
    let batch = c.in-Some-start_replacing.replacing.promise.1.value in
    run_refuses (λ done. c.join-operator.result.0 ≡ with_batch operator batch) (HasOffered feed) c.args.operator operator
    c.args.feed feed c.args.batch batch c.join-operator.result.1 c.join.result c.and.result c.in-Err.why
    c.in-Some-start_replacing.ensures.0 c.in-Some.ensures c.in-Some-start_replacing.ensures.1
    c.join-operator.ensures c.join.ensures c.and.ensures c.in-Err.is
