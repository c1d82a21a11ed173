use Rattle.std.proofs.Common.{Vec, Global, ap, arith, get_or, length, min, vec_capacity}
use Rattle.std.proofs.lemmas.List.{length-map}
use Rattle.gw_ledger.specs.declared.outcome.Outcome.{Outcome}
use Rattle.gw_ports.specs.Ends.{end_in}
use Rattle.gw_ports.proofs.Room.{room_at}
use Rattle.gw_ports.proofs.Kept.{kept_all, kept_report, kept_room, kept_run}
use Rattle.gw_ports.proofs.running.run_from.Goals as goal

pub kept_lists-requires : goal.kept_lists-requires
kept_lists-requires g c =
    let opened = c.in-Ok.ensures.opened in
    let few = opened.one.few in
    let ports = opened.one.enough_ins in
    let ins = opened.ends.enough_ins in
    let ends = length-map c.in-Ok.parts.ins.items end_in in
    let many = c.requires.count.1 in
    let size = c.args.sizes.ok.0 in
    let is = c.deref.ensures.len in
    omega arith

-- The list of a port has room for the outcome of each frame that its input gives and it can take.
pub run_opened-requires-clause-inputs : goal.run_opened-requires-clause-inputs
run_opened-requires-clause-inputs g c κs within k d e below =
    let asked = c.requires.inputs k d below in
    let rooms = c.in-Ok-kept_lists.ensures in
    let lists = c.in-Ok-kept_lists.outcomes.items in
    let sizes = c.deref.result.now in
    let size = c.args.inputs.ok.0 in
    let size' = c.args.sizes.ok.0 in
    let many = c.requires.count in
    let is = c.deref.ensures.len in
    let count = length-map lists (λ (v : Vec Outcome Global). vec_capacity v) in
    let count' = length-map sizes (λ size. min size c.args.limits.frames) in
    let taken = ap length rooms.taken in
    let room = room_at lists sizes c.args.limits.frames rooms.empty.0 rooms.taken k e (omega arith) in
    let here = ap (λ l. get_or l k 0) c.deref.ensures.value in
    let most = asked.1.1 in
    (asked.0, asked.1.0, λ finite. omega arith)

-- The sinks are lists, which keep what they are handed.
pub returns-in-Ok-run_opened-clause-ran : goal.returns-in-Ok-run_opened-clause-ran
returns-in-Ok-run_opened-clause-ran g c = (
  c.in-Ok-run_opened.ended.inputs.items,
  kept_run g.I.Iterator.next_gives g.G.Gate.waits c.args.limits c.args.first c.args.inputs.items
      c.in-Ok-kept_lists.outcomes.items c.in-Ok-kept_lists.out.items c.args.batches.items c.in-Ok-run_opened.ended
      c.deref.result.now c.in-Ok-kept_lists.ensures
      (c.in-Ok-run_opened.ensures.ran c.args.first c.in-Ok.ensures.opened),
)

pub returns-in-Ok-run_opened-clause-reported : goal.returns-in-Ok-run_opened-clause-reported
returns-in-Ok-run_opened-clause-reported g c = (
  c.in-Ok-run_opened.ended.inputs.items,
  kept_report g.I.Iterator.next_gives g.G.Gate.waits c.args.limits c.args.first c.args.inputs.items
      c.in-Ok-kept_lists.outcomes.items c.in-Ok-kept_lists.out.items c.args.batches.items c.in-Ok-run_opened.ended
      c.deref.result.now c.in-Ok-kept_lists.ensures
      (c.in-Ok-run_opened.ensures.ran c.args.first c.in-Ok.ensures.opened),
)

pub returns-in-Ok-run_opened-clause-room : goal.returns-in-Ok-run_opened-clause-room
returns-in-Ok-run_opened-clause-room g c =
    let size = c.args.sizes.ok.0 in
    let many = c.requires.count.1 in
    let is = c.deref.ensures.len in
    kept_room g.I.Iterator.next_gives g.G.Gate.waits c.args.limits c.args.first c.args.inputs.items
    c.in-Ok-kept_lists.outcomes.items c.in-Ok-kept_lists.out.items c.args.batches.items c.in-Ok-run_opened.ended
    c.deref.result.now c.in-Ok-kept_lists.ensures
    (c.in-Ok-run_opened.ensures.ran c.args.first c.in-Ok.ensures.opened) (omega arith)

pub returns-in-Ok-run_opened-clause-none_lost : goal.returns-in-Ok-run_opened-clause-none_lost
returns-in-Ok-run_opened-clause-none_lost g c =
    kept_all g.I.Iterator.next_gives g.G.Gate.waits c.args.limits c.args.first c.args.inputs.items
    c.in-Ok-kept_lists.outcomes.items c.in-Ok-kept_lists.out.items c.args.batches.items c.in-Ok-run_opened.ended
    c.deref.result.now c.in-Ok-kept_lists.ensures
    (c.in-Ok-run_opened.ensures.ran c.args.first c.in-Ok.ensures.opened)
