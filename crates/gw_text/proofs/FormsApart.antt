-- The table is one of words that are spelled apart, and no operands fit two forms of a word: the first form is the only one.
use Rattle.std.proofs.Common.{◌≡◌, Bool, true, false, not, ◌&&◌, List, [], ◌∷◌, refl}
use Rattle.std.specs.List.{list_all}
use Rattle.gw_text.specs.AssemblerTokens.{is_word, is_number}
use Rattle.gw_text.specs.AssemblerForms.{Piece, spelled, number, negated, only, label, Form, Word, words, same_text}

abbrev overlap : Piece → Piece → Bool
overlap (spelled a) (spelled b) = same_text a b
overlap (spelled a) label = is_word a
overlap label (spelled b) = is_word b
overlap (spelled a) number = is_number a
overlap (spelled a) negated = is_number a
overlap (spelled a) (only n) = is_number a
overlap number (spelled b) = is_number b
overlap negated (spelled b) = is_number b
overlap (only n) (spelled b) = is_number b
overlap label label = true
overlap label _ = false
overlap _ label = false
overlap _ _ = true

abbrev overlaps : List Piece → List Piece → Bool
overlaps [] [] = true
overlaps (p ∷ ps) (q ∷ qs) = overlap p q && overlaps ps qs
overlaps _ _ = false

abbrev apart : List Form → Bool
apart [] = true
apart (f ∷ fs) = list_all (λ g. not (overlaps f.pieces g.pieces)) fs && apart fs

-- no two words are spelled alike, and no operands fit two forms of one word
abbrev all_apart : List Word → Bool
all_apart [] = true
all_apart (w ∷ ws) = list_all (λ v. not (same_text w.name v.name)) ws && (apart w.forms && all_apart ws)

words_apart : all_apart words ≡ true
words_apart = refl
