-- For whoever calls: the fields of an instruction, decimal digits, what stands at the front of a text, and that a listing lists
-- one code.
pub use Rattle.gw_insn.proofs.Encoded.{insn_of-raw_of}
pub use Rattle.gw_insn.proofs.Numbers.{digits_passed, digits_end, number_at, number_alone, field_alone}
pub use Rattle.gw_insn.proofs.Items.{lacks_jt, lacks_jf, lacks_k, lacks_comma}
pub use Rattle.gw_insn.proofs.OneListing.{next_item, listing_alone, only_memory}
