use Rattle.std.proofs.Common.{◌≡◌, ◌∙◌, Vec, Global, arith, length, map, min, slice_index, sym, vec_capacity}
use Rattle.std.proofs.lemmas.List.{get_or-map, length-map}
use Rattle.gw_ledger.specs.declared.outcome.Outcome.{Outcome}
use Rattle.gw_ports.proofs.Room.{lists_push, rooms_are}
use Rattle.gw_ports.proofs.running.room.outcome_lists.Goals as goal

pub loop-port-preserved : goal.loop-port-preserved
loop-port-preserved c =
    let list = c.in_ok-with_capacity.ensures in
    let pushed = c.push_reserved.ensures in
    lists_push
    (λ k (v : Vec Outcome Global). vec_capacity v ≡ min (slice_index c.args.sizes.now k) c.args.limits.frames)
    (length c.args.sizes.now) c.loop-port.port c.loop-port.lists c.push_reserved.new.self c.in_ok-with_capacity.field-0
    c.loop-port.invariant pushed.items pushed.len pushed.capacity list.items (list.exact ∙ c.most_taken.ensures.value)

pub returns-clause-room : goal.returns-clause-room
returns-clause-room c =
    let lists = c.loop-port.lists in
    let sizes = c.args.sizes.now in
    let of_size : _ → _ = λ size. min size c.args.limits.frames in
    let many = c.loop-port.invariant.0 in
    let size = lists.ok.0 in
    let ended = c.loop-port-test.false in
    let end = c.loop-port.auto.port-end in
    let count = length-map sizes of_size in
    rooms_are lists.items (map of_size sizes) (omega arith)
    (λ k d below. c.loop-port.invariant.3 k d below ∙ sym (get_or-map of_size sizes k 0 0 (omega arith)))
