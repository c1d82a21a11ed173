-- For whoever calls: what holds of one of several.
pub use Rattle.gw_boxes.proofs.Pieces.{or_assoc, or_false}
