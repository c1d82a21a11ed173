-- For whoever calls: lists that begin with others, and a list that all of a kind are pushed on.
pub use Rattle.gw_board.proofs.Prefixes.{prefix_length, prefix_self, prefix_trans, prefix_whole}
pub use Rattle.gw_board.proofs.Lists.{All-push}
