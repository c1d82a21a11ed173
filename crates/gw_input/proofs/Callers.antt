-- For whoever calls: the lines of a text, one after another, and for whoever writes a line for each number.
pub use Rattle.gw_input.proofs.LineByLine.{lines_behind, next_line, all_taken}
pub use Rattle.gw_input.proofs.NumberByNumber.{range_more, lines_more, line_more}
