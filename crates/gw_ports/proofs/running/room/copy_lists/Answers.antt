use Rattle.std.proofs.Common.{◌≡◌, ◌∙◌, Vec, Global, arith, length, map, min, sym, vec_capacity}
use Rattle.std.proofs.lemmas.List.{get_or-map}
use Rattle.gw_ledger.specs.declared.outcome.FrameCopy.{FrameCopy}
use Rattle.gw_ports.specs.Reports.{sum_of_others}
use Rattle.gw_ports.proofs.Elementwise.{there}
use Rattle.gw_ports.proofs.Room.{lists_push}
use Rattle.gw_ports.proofs.running.room.copy_lists.Goals as goal

pub loop-egress-preserved : goal.loop-egress-preserved
loop-egress-preserved c =
    let list = c.in_ok-with_capacity.ensures in
    let pushed = c.push_reserved.ensures in
    lists_push
    (λ k (v : Vec FrameCopy Global). sum_of_others k (map (λ size. min size c.args.limits.frames) c.args.sizes.now)
    ≡ vec_capacity v)
    (length c.args.sizes.now) c.loop-egress.egress c.loop-egress.lists c.push_reserved.new.self
    c.in_ok-with_capacity.field-0 c.loop-egress.invariant pushed.items pushed.len pushed.capacity list.items
    (sym (list.exact ∙ c.most_copies.ensures))

pub returns-clause-room : goal.returns-clause-room
returns-clause-room c = λ k below.
    let lists = c.loop-egress.lists in
    let many = c.loop-egress.invariant.0 in
    let size = lists.ok.0 in
    let ended = c.loop-egress-test.false in
    let v = there lists.items k (omega arith) in
    c.loop-egress.invariant.3 k v.0 (omega arith)
    ∙ sym (get_or-map (λ (v : Vec FrameCopy Global). vec_capacity v) lists.items k v.0 0 (omega arith))
