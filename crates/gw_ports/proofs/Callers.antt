-- For whoever calls: the ends of one gateway, whose calls leave them so, and what an offer judged.
pub use Rattle.gw_ports.proofs.OneGateway.{ends_in_stay, ends_out_stay, of_board}
pub use Rattle.gw_ports.proofs.Opening.{same_gateway}
pub use Rattle.gw_ports.proofs.Judged.{judged_one}
-- what a list of offers judged, counted, lost and placed
pub use Rattle.gw_ports.proofs.Runs.{heard_after, heard_more, offers_more}
pub use Rattle.gw_ports.proofs.Judged.{are_judged, as_many_outcomes, outcomes_counted}
pub use Rattle.gw_ports.proofs.Losing.{lost_when_full, new_holds}
pub use Rattle.gw_ports.proofs.Copied.{placed_list, placed_to}
pub use Rattle.gw_ports.proofs.Lanes.{none_placed}
-- sinks that are lists: their room, and what they were handed
pub use Rattle.gw_ports.proofs.Room.{room_at}
pub use Rattle.gw_ports.proofs.Sinks.{handed_lists}
-- inputs that are made of a list
pub use Rattle.gw_ports.proofs.Runs.{each_push, list_push}
-- what stands at a place of a list
pub use Rattle.gw_ports.proofs.Elementwise.{there}
