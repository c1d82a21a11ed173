-- Each extended frame is a point of a universe, and each point of one has its frame. A rule holds of the frame where the point
-- lies in the rule's box.
use Rattle.std.proofs.Common.{◌≡◌, ℕ, ◌+◌, ◌*◌, ◌/◌, ◌%◌, ◌<◌, ◌≤◌, Bool, true, false, ◌&&◌, refl, sym, ap, subst, ◌∙◌, arith}
use Rattle.std.proofs.lemmas.Bool.{false≢true}
use Rattle.std.proofs.lemmas.Bool.Decides.{nat_tests}
use Rattle.gw_ident.specs.Identifier.{parameter_group, source_address, destination_address, is_extended_data, is_pdu1}
use Rattle.gw_ident.specs.Identifier.{pdu_specific, pdu_format}
use Rattle.gw_table.specs.declared.table.Span.{Span}
use Rattle.gw_table.specs.Table.{lies_in}
use Rattle.std.specs.Prelude.{nat_lt, if◌then◌else◌, List}
use Rattle.gw_frame.specs.Record.{word_of, IsRecord}
use Rattle.gw_boxes.specs.declared.boxes.Range.{Range}
use Rattle.gw_boxes.specs.declared.boxes.Block.{Block}
use Rattle.gw_boxes.specs.declared.boxes.Point.{Point}
use Rattle.gw_boxes.specs.Boxes.{in_range, holds}
use Rattle.gw_table.specs.declared.table.Rule.{Rule}
use Rattle.gw_table.specs.Table.{matches}
use Rattle.gw_table.specs.Universes.{formats_in, range_of, block_of, universe, word_at, IsFrameAt}
use Rattle.gw_table.proofs.NeverDecides.{GroupOf, group_of, all_parts}

pub same_format : (format : ℕ) (span : Span) → lies_in (256 * format) span ≡ lies_in format (formats_in span)
same_format format span = grind (arith, nat_tests)

pub same_range : (n : ℕ) (span : Span) → lies_in n span ≡ in_range n (range_of span)
same_range n span = grind (arith, nat_tests)

-- the point of an extended data frame and a port, which lies in the boxes of the rules that match
pub record PointOf (octets : List ℕ) (port : ℕ) : Type 0 where
  pub pdu1 : Bool
  pub page : ℕ
  pub page_fits : page < 4
  pub point : Point
  pub inside : holds point (universe pdu1 page) ≡ true
  pub same : (rule : Rule) → matches octets port rule ≡ holds point (block_of pdu1 rule)

in_it : (n low end : ℕ) → low ≤ n → n < end → in_range n (record { low = low; end = end }) ≡ true
in_it n low end above under = grind (arith, nat_tests)

four_in : (p : Point) (b : Block) → in_range p.group b.group ≡ true → in_range p.source b.source ≡ true
    → in_range p.destination b.destination ≡ true → in_range p.port b.port ≡ true → holds p b ≡ true
four_in p b e f g h = rw (e, f, g, h) refl

all_same : {a b c d e f g h : Bool} → a ≡ e → b ≡ f → c ≡ g → d ≡ h → (a && b && c && d) ≡ (e && f && g && h)
all_same p q r s = rw (p, q, r, s) refl

destination_fits : (word : ℕ) → destination_address word < 256
destination_fits word = by (is_pdu1 word)
  where
    by : (pdu1 : Bool) → (if pdu1 then pdu_specific word else 255) < 256
    by true = omega arith
    by false = omega arith

pub point_of : (octets : List ℕ) (port : ℕ) → port < 16 → PointOf octets port
point_of octets port fits = by (nat_lt (group.format % 256) 240) refl
  where
    word : ℕ
    word = word_of octets

    group : GroupOf word
    group = group_of word

    by : (below : Bool) → nat_lt (group.format % 256) 240 ≡ below → PointOf octets port
    by true test =
        let below : group.format % 256 < 240 = grind (arith, nat_tests) in
        let whole : parameter_group word ≡ 256 * group.format = omega (arith, group.group, group.pdu1 below) in
        let page = group.format / 256 in
        let point : Point = record {
          group = group.format;
          source = source_address word;
          destination = destination_address word;
          port = port;
        } in
        record {
          pdu1 = true;
          page = page;
          page_fits = omega (arith, group.format_fits);
          point = point;
          inside = four_in point (universe true page)
              (in_it group.format (256 * page) (256 * page + 240) (omega arith) (omega (arith, below)))
              (in_it (source_address word) 0 256 (omega arith) (omega arith))
              (in_it (destination_address word) 0 256 (omega arith) (destination_fits word))
              (in_it port 0 16 (omega arith) fits);
          same = λ rule.
              let e = ap (λ n. lies_in n rule.pgn) whole ∙ same_format group.format rule.pgn
              ∙ same_range group.format (formats_in rule.pgn) in
              let f = same_range (source_address word) rule.source in
              let g = same_range (destination_address word) rule.destination in
              let h = same_range port rule.from in
              all_same e f g h;
        }
    by false test =
        let above : 240 ≤ group.format % 256 = grind (arith, nat_tests) in
        let page = group.format / 256 in
        let to_all = group.pdu2 above in
        let point : Point = record {
          group = parameter_group word;
          source = source_address word;
          destination = destination_address word;
          port = port;
        } in
        record {
          pdu1 = false;
          page = page;
          page_fits = omega (arith, group.format_fits);
          point = point;
          inside = four_in point (universe false page)
              (in_it (parameter_group word) (65536 * page + 61440) (65536 * page + 65536)
              (omega (arith, group.group, above)) (omega (arith, group.group, group.last_fits)))
              (in_it (source_address word) 0 256 (omega arith) (omega arith))
              (in_it (destination_address word) 255 256 (omega (arith, to_all)) (omega (arith, to_all)))
              (in_it port 0 16 (omega arith) fits);
          same = λ rule.
              let e = same_range (parameter_group word) rule.pgn in
              let f = same_range (source_address word) rule.source in
              let g = same_range (destination_address word) rule.destination in
              let h = same_range port rule.from in
              all_same e f g h;
        }

-- the four ranges of a point of a universe
pub record Inside (pdu1 : Bool) (page : ℕ) (p : Point) : Type 0 where
  source : p.source < 256
  destination : p.destination < 256
  pub port : p.port < 16
  first : (universe pdu1 page).group.low ≤ p.group
  past : p.group < (universe pdu1 page).group.end
  to_all : pdu1 ≡ false → p.destination ≡ 255

in_bounds : (n : ℕ) (range : Range) → in_range n range ≡ true → (range.low ≤ n) × (n < range.end)
in_bounds n range is = grind (arith, nat_tests)

pub inside_of : (pdu1 : Bool) (page : ℕ) (p : Point) → holds p (universe pdu1 page) ≡ true → Inside pdu1 page p
inside_of true page p is =
    let parts = all_parts _ _ _ _ is in
    let group = in_bounds p.group (universe true page).group parts.0 in
    let source = in_bounds p.source (universe true page).source parts.1 in
    let destination = in_bounds p.destination (universe true page).destination parts.2 in
    let port = in_bounds p.port (universe true page).port parts.3 in
    record {
      source = source.1;
      destination = destination.1;
      port = port.1;
      first = group.0;
      past = group.1;
      to_all = λ e. absurd (false≢true (sym e));
    }
inside_of false page p is =
    let parts = all_parts _ _ _ _ is in
    let group = in_bounds p.group (universe false page).group parts.0 in
    let source = in_bounds p.source (universe false page).source parts.1 in
    let destination = in_bounds p.destination (universe false page).destination parts.2 in
    let port = in_bounds p.port (universe false page).port parts.3 in
    record {
      source = source.1;
      destination = destination.1;
      port = port.1;
      first = group.0;
      past = group.1;
      to_all = λ e. omega (arith, destination.0, destination.1);
    }

-- the fields of the word of a point
record FieldsOf (pdu1 : Bool) (p : Point) (word : ℕ) : Type 0 where
  extended : is_extended_data word ≡ true
  source : source_address word ≡ p.source
  destination : destination_address word ≡ p.destination
  group : parameter_group word ≡ (if pdu1 then 256 * p.group else p.group)

fields_of : (pdu1 : Bool) (page : ℕ) (p : Point) → page < 4 → Inside pdu1 page p → FieldsOf pdu1 p (word_at pdu1 p)
fields_of true page p fits inside =
    let word = word_at true p in
    let a = inside.source in
    let b = inside.destination in
    let c : 256 * page ≤ p.group = inside.first in
    let d : p.group < 256 * page + 240 = inside.past in
    let format : pdu_format word ≡ p.group % 256 = omega (arith, fits, a, b, c, d) in
    let below : pdu_format word < 240 = omega (arith, fits, c, d, format) in
    let pdu1 : is_pdu1 word ≡ true = grind (arith, nat_tests) in
    record {
      extended = grind (arith, nat_tests);
      source = omega (arith, a);
      destination = rw pdu1 (omega (arith, a, b));
      group = rw pdu1 (omega (arith, fits, a, b, c, d));
    }
fields_of false page p fits inside =
    let word = word_at false p in
    let a = inside.source in
    let b = inside.to_all refl in
    let c : 65536 * page + 61440 ≤ p.group = inside.first in
    let d : p.group < 65536 * page + 65536 = inside.past in
    let format : pdu_format word ≡ p.group / 256 % 256 = omega (arith, fits, a, c, d) in
    let above : 240 ≤ pdu_format word = omega (arith, fits, c, d, format) in
    let pdu2 : is_pdu1 word ≡ false = grind (arith, nat_tests) in
    record {
      extended = grind (arith, nat_tests);
      source = omega (arith, a);
      destination = rw pdu2 (omega (arith, b));
      group = rw pdu2 (omega (arith, fits, a, c, d));
    }

same_rule : (pdu1 : Bool) (p : Point) (word : ℕ) → FieldsOf pdu1 p word → (rule : Rule)
    → (lies_in (parameter_group word) rule.pgn && lies_in (source_address word) rule.source
    && lies_in (destination_address word) rule.destination && lies_in p.port rule.from) ≡ holds p (block_of pdu1 rule)
same_rule true p word fields rule =
    all_same (ap (λ n. lies_in n rule.pgn) fields.group ∙ same_format p.group rule.pgn ∙ same_range p.group (formats_in rule.pgn))
    (ap (λ n. lies_in n rule.source) fields.source ∙ same_range p.source rule.source)
    (ap (λ n. lies_in n rule.destination) fields.destination ∙ same_range p.destination rule.destination)
    (same_range p.port rule.from)
same_rule false p word fields rule =
    all_same (ap (λ n. lies_in n rule.pgn) fields.group ∙ same_range p.group rule.pgn)
    (ap (λ n. lies_in n rule.source) fields.source ∙ same_range p.source rule.source)
    (ap (λ n. lies_in n rule.destination) fields.destination ∙ same_range p.destination rule.destination)
    (same_range p.port rule.from)

-- the frame of a point's word is the point's
pub frame_of_point : (pdu1 : Bool) (page : ℕ) (p : Point) (octets : List ℕ) → page < 4 → holds p (universe pdu1 page) ≡ true
    → IsRecord octets → word_of octets ≡ word_at pdu1 p → IsFrameAt pdu1 p octets
frame_of_point pdu1 page p octets fits inside is_record word =
    let fields = fields_of pdu1 page p fits (inside_of pdu1 page p inside) in
    let there : FieldsOf pdu1 p (word_of octets) = subst (FieldsOf pdu1 p) (sym word) fields in
    record { carried = is_record; extended = there.extended; same = same_rule pdu1 p (word_of octets) there }
