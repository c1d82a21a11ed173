-- For whoever keeps a `Loose` in a struct of its own: its two machine words, and how it is taken apart and put together.
pub use Rattle.gw_loose.proofs.Values.{both, Loose, loose_good, loose_out, loose_in}
