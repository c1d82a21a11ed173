-- For whoever calls: the ends of one gateway, what offers judged, lost and placed, and lists that begin with others.
pub use Rattle.gw_board.proofs.Callers.{prefix_length, prefix_self, prefix_trans, prefix_whole}
pub use Rattle.gw_ports.proofs.Callers.{ends_in_stay, ends_out_stay, of_board, same_gateway, judged_one}
pub use Rattle.gw_ports.proofs.Callers.{heard_after, heard_more, offers_more, are_judged, as_many_outcomes, outcomes_counted}
pub use Rattle.gw_ports.proofs.Callers.{lost_when_full, new_holds, placed_list, placed_to, none_placed}
