-- The table of the code, without its borrows, as that of the definition.
use Rattle.std.specs.Prelude.{map}
use Rattle.gw_text.specs.declared.forms.Form.{Form as StaticForm}
use Rattle.gw_text.specs.declared.forms.Piece.{Piece as StaticPiece}
use Rattle.gw_text.specs.declared.forms.Word.{Word as StaticWord}
use Rattle.gw_text.specs.declared.forms.Piece.TheVariants.{Spelled, Number, Negated, Only, Label}
use Rattle.gw_text.specs.AssemblerForms.{Piece, spelled, number, negated, only, label, Form, Word}

abbrev pub piece_view : StaticPiece → Piece
piece_view (Spelled text) = spelled text.now
piece_view Number = number
piece_view Negated = negated
piece_view (Only n) = only n
piece_view Label = label

abbrev pub form_view : StaticForm → Form
form_view form = record { pieces = map piece_view form.pieces.now; code = form.code; jump = form.jump; constant = form.constant }

abbrev pub word_view : StaticWord → Word
word_view word = record { name = word.name.now; forms = map form_view word.forms.now }
