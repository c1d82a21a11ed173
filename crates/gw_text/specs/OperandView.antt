-- What the code writes behind a word, without its borrows, as that of the definition.
use Rattle.std.specs.Prelude.{codes}
use Rattle.gw_text.specs.declared.spelling.Operand.{Operand as StaticOperand}
use Rattle.gw_text.specs.declared.spelling.Operand.TheVariants.{Nothing, Fixed, Bracket, BracketX, Scratch, Number, HeaderLength}
use Rattle.gw_text.specs.declared.spelling.Operand.TheVariants.{Target, TargetsX, TargetsNumber}
use Rattle.gw_text.specs.Disassembly.{Operand, nothing, fixed, bracket, bracket_x, scratch, number, header_length, target}
use Rattle.gw_text.specs.Disassembly.{targets, targets_number}

abbrev pub operand_view : StaticOperand → Operand
operand_view Nothing = nothing
operand_view (Fixed word) = fixed word.now
operand_view Bracket = bracket
operand_view BracketX = bracket_x
operand_view Scratch = scratch
operand_view Number = number
operand_view HeaderLength = header_length
operand_view Target = target
operand_view TargetsX = targets (codes "x")
operand_view TargetsNumber = targets_number
