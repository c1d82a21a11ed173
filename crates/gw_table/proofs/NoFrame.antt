-- Why no frame is asked for: where a group, a source and a port are, no group that is asked for has such a destination.
use Rattle.std.proofs.Common.{◌≡◌, ℕ, zero, suc, ◌+◌, ◌*◌, ◌/◌, ◌%◌, ◌<◌, ◌≤◌, inl, Bool, true, false, List, [], ◌∷◌}
use Rattle.std.proofs.Common.{refl, sym, ap, ◌∙◌, arith}
use Rattle.std.proofs.lemmas.Bool.{false≢true}
use Rattle.std.proofs.lemmas.Bool.Decides.{nat_tests}
use Rattle.std.specs.Prelude.{Option, slice_index, MatchBool}
use Rattle.gw_ident.specs.Identifier.{is_extended_data, pdu_format, pdu_specific, page}
use Rattle.gw_ident.specs.Identifier.{parameter_group, source_address, destination_address}
use Rattle.gw_frame.specs.Record.{word_of, IsRecord}
use Rattle.gw_table.specs.declared.table.Span.{Span}
use Rattle.gw_table.specs.declared.question.Question.{Question}
use Rattle.gw_table.specs.Table.{lies_in, Fits}
use Rattle.gw_table.specs.Question.{lies_in_given, IsAsked, AsksNoGroup, AsksNoSource, AsksNoPort, AsksNoDestination}
use Rattle.gw_table.proofs.NeverDecides.{GroupOf, group_of, inside}

-- a record of a word, without payload
abbrev record_of : ℕ → List ℕ
record_of word =
    (word / 16777216 % 256) ∷ (word / 65536 % 256) ∷ (word / 256 % 256) ∷ (word % 256) ∷ 0 ∷ 0 ∷ 0 ∷ 0 ∷ []

octets_fit : (word i : ℕ) → slice_index (record_of word) i < 256
octets_fit word zero = omega arith
octets_fit word (suc zero) = omega arith
octets_fit word (suc (suc zero)) = omega arith
octets_fit word (suc (suc (suc zero))) = omega arith
octets_fit word (suc (suc (suc (suc zero)))) = omega arith
octets_fit word (suc (suc (suc (suc (suc zero))))) = omega arith
octets_fit word (suc (suc (suc (suc (suc (suc zero)))))) = omega arith
octets_fit word (suc (suc (suc (suc (suc (suc (suc zero))))))) = omega arith
octets_fit word (suc (suc (suc (suc (suc (suc (suc (suc i)))))))) = omega arith

is_record : (word : ℕ) → IsRecord (record_of word)
is_record word = record {
  octets_fit = octets_fit word;
  not_short = omega arith;
  not_long = omega arith;
  length_fits = omega arith;
  not_cut = omega arith;
}

word_is : (word : ℕ) → word < 4294967296 → word_of (record_of word) ≡ word
word_is word fits = omega (arith, fits)

-- the word of the group and the PDU specific field of another, from a source
abbrev sent_by : ℕ → ℕ → ℕ
sent_by word source = 2147483648 + 256 * (word / 256 % 262144) + source

record SentBy (word source : ℕ) : Type 0 where
  extended : is_extended_data (sent_by word source) ≡ true
  from_source : source_address (sent_by word source) ≡ source
  group : parameter_group (sent_by word source) ≡ parameter_group word
  destination : destination_address (sent_by word source) ≡ destination_address word
  fits : sent_by word source < 4294967296

sent : (word source : ℕ) → source < 256 → SentBy word source
sent word source fits =
    let format : pdu_format (sent_by word source) ≡ pdu_format word = omega (arith, fits) in
    let specific : pdu_specific (sent_by word source) ≡ pdu_specific word = omega (arith, fits) in
    let pages : page (sent_by word source) ≡ page word = omega (arith, fits) in
    record {
      extended = grind (arith, nat_tests);
      from_source = omega (arith, fits);
      group = rw (format, specific, pages) refl;
      destination = rw (format, specific) refl;
      fits = omega (arith, fits);
    }

-- a number that lies in what is left of a range below its field's greatest number
pub number_there : (span : Option Span) (greatest : ℕ) (cut : Span) → Fits greatest cut
    → ((n : ℕ) → n ≤ greatest → lies_in n cut ≡ lies_in_given n span)
    → (n : ℕ) × (n ≤ greatest) × (lies_in_given n span ≡ true)
number_there span greatest cut fits same =
    let low : cut.low ≤ greatest = omega (arith, fits.0, fits.1) in
    (cut.low, low, sym (same cut.low low) ∙ inside cut.low cut (omega arith) fits.0)

group_fits : (word : ℕ) → parameter_group word ≤ 262143
group_fits word =
    let group : GroupOf word = group_of word in omega (arith, group.group, group.format_fits, group.last_fits)

-- no group lies in the range where none lies in what is left of it
pub no_group : (question : Question) → ((n : ℕ) → n ≤ 262143 → lies_in_given n question.pgn ≡ false) → AsksNoGroup question
no_group question none word = none (parameter_group word) (group_fits word)

pub groups_there : (question : Question) (cut : Span) (has : Bool)
    → ((n : ℕ) → n ≤ 262143 → lies_in n cut ≡ lies_in_given n question.pgn)
    → MatchBool has ((word : ℕ) × (lies_in (parameter_group word) cut ≡ true))
    ((word : ℕ) → lies_in (parameter_group word) cut ≡ false)
    → MatchBool has ((word : ℕ) × (lies_in_given (parameter_group word) question.pgn ≡ true)) (AsksNoGroup question)
groups_there question cut true same found =
    (found.0, sym (same (parameter_group found.0) (group_fits found.0)) ∙ found.1)
groups_there question cut false same none = λ word.
    sym (same (parameter_group word) (group_fits word)) ∙ none word

module _ (question : Question) (source port : ℕ) (source_fits : source < 256) (port_fits : port < 16)
    (of_source : lies_in_given source question.source ≡ true) (of_port : lies_in_given port question.from ≡ true) where
  -- the frame of a group and a destination that are asked for, from a source and a port that are
  is_asked_for : (word : ℕ) → lies_in_given (parameter_group word) question.pgn ≡ true
      → lies_in_given (destination_address word) question.destination ≡ true
      → IsAsked question (record_of (sent_by word source)) port
  is_asked_for word of_group of_destination =
      let is = sent word source source_fits in
      let same = word_is (sent_by word source) is.fits in
      record {
        carried = (is_record (sent_by word source), inl (ap is_extended_data same ∙ is.extended));
        port_fits = port_fits;
        asked =
            rw (of_port, same, is.extended, is.group, is.from_source, is.destination, of_group, of_source, of_destination) refl;
      }

  pub no_destination_left : ((octets : List ℕ) (port : ℕ) → ¬ IsAsked question octets port) → AsksNoDestination question
  no_destination_left none word of_group = by (lies_in_given (destination_address word) question.destination) refl
    where
      by : (b : Bool) → lies_in_given (destination_address word) question.destination ≡ b → b ≡ false
      by true is = absurd (none (record_of (sent_by word source)) port (is_asked_for word of_group is))
      by false is = refl

-- a group, a source and a port are asked for, and no frame is
pub no_destination : (question : Question) → ((octets : List ℕ) (port : ℕ) → ¬ IsAsked question octets port)
    → ((word : ℕ) × (lies_in_given (parameter_group word) question.pgn ≡ true))
    → ((n : ℕ) × (n ≤ 255) × (lies_in_given n question.source ≡ true))
    → ((n : ℕ) × (n ≤ 15) × (lies_in_given n question.from ≡ true))
    → (¬ AsksNoGroup question) × (¬ AsksNoSource question) × (¬ AsksNoPort question) × AsksNoDestination question
no_destination question none group source port =
    let source_fits : source.0 < 256 = omega (arith, source.1) in
    let port_fits : port.0 < 16 = omega (arith, port.1) in (
      λ no. false≢true (sym (no group.0) ∙ group.1),
      λ no. false≢true (sym (no source.0 source_fits) ∙ source.2),
      λ no. false≢true (sym (no port.0 port_fits) ∙ port.2),
      no_destination_left question source.0 port.0 source_fits port_fits source.2 port.2 none,
    )
