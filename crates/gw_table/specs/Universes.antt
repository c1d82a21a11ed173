-- The universes: boxes in which each point is an extended data frame and its ingress port. Each extended data frame and port
-- below 16 has its point in one of the eight.
use Rattle.std.specs.Prelude.{◌≡◌, ℕ, ◌+◌, ◌*◌, ◌/◌, ◌%◌, Bool, true, false, nat_lt, List}
use Rattle.std.specs.List.{slice_get, position_or_len}
use Rattle.std.specs.Option.{option_map_or}
use Rattle.gw_ident.specs.Identifier.{is_extended_data}
use Rattle.gw_frame.specs.Record.{IsRecord, word_of}
use Rattle.gw_boxes.specs.declared.boxes.Range.{Range}
use Rattle.gw_boxes.specs.declared.boxes.Block.{Block}
use Rattle.gw_boxes.specs.declared.boxes.Point.{Point}
use Rattle.gw_boxes.specs.Boxes.{holds}
use Rattle.gw_table.specs.declared.table.Span.{Span}
use Rattle.gw_table.specs.declared.table.Rule.{Rule}
use Rattle.gw_table.specs.declared.universe.Universe.{Universe}
use Rattle.gw_table.specs.Table.{matches}

-- a range of parameter groups in the numbers of PDU1: the formats, with the page above them, whose group lies in it
abbrev pub formats_in : Span → Span
formats_in span = record { low = (span.low + 255) / 256; high = span.high / 256 }

abbrev pub range_of : Span → Range
range_of span = record { low = span.low; end = span.high + 1 }

-- a rule in the numbers of a kind of groups: formats for PDU1, and groups for PDU2
abbrev pub block_of : Bool → Rule → Block
block_of true rule = record {
  group = range_of (formats_in rule.pgn);
  source = range_of rule.source;
  destination = range_of rule.destination;
  port = range_of rule.from;
}
block_of false rule = record {
  group = range_of rule.pgn;
  source = range_of rule.source;
  destination = range_of rule.destination;
  port = range_of rule.from;
}

-- the formats of PDU1 of a page, each with all destinations, and its groups of PDU2, which go to 255
abbrev pub universe : Bool → ℕ → Block
universe true page = record {
  group = record { low = 256 * page; end = 256 * page + 240 };
  source = record { low = 0; end = 256 };
  destination = record { low = 0; end = 256 };
  port = record { low = 0; end = 16 };
}
universe false page = record {
  group = record { low = 65536 * page + 61440; end = 65536 * page + 65536 };
  source = record { low = 0; end = 256 };
  destination = record { low = 255; end = 256 };
  port = record { low = 0; end = 16 };
}

abbrev pub whole : Universe → Block
whole u = universe u.pdu1 u.page

abbrev pub universe_at : ℕ → Universe
universe_at number = record { pdu1 = nat_lt number 4; page = number % 4 }

-- the word of a point's frame, of priority 0
abbrev pub word_at : Bool → Point → ℕ
word_at true p = 2147483648 + (65536 * p.group + 256 * p.destination + p.source)
word_at false p = 2147483648 + (256 * p.group + p.source)

-- a point's frame, of which a rule holds where the point lies in the rule's box
pub record IsFrameAt (pdu1 : Bool) (p : Point) (octets : List ℕ) : Type 0 where
  pub carried : IsRecord octets
  pub extended : is_extended_data (word_of octets) ≡ true
  pub same : (rule : Rule) → matches octets p.port rule ≡ holds p (block_of pdu1 rule)

-- whether the point lies in the box of a rule
abbrev pub lies_in_rule : Universe → Point → Rule → Bool
lies_in_rule u p rule = holds p (block_of u.pdu1 rule)

-- the least number of a rule in whose box the point lies, or the number of rules
abbrev pub first_holding : Universe → Point → List Rule → ℕ
first_holding u p rules = position_or_len (lies_in_rule u p) rules

-- a point of the universe is decided at these indices of two lists of rules
pub record IsDecidedAt (u : Universe) (old : List Rule) (a : ℕ) (new : List Rule) (b : ℕ) (p : Point) : Type 0 where
  pub inside : holds p (whole u) ≡ true
  pub first : first_holding u p old ≡ a
  pub second : first_holding u p new ≡ b

-- the rule of this number holds of the point, if there is one
abbrev pub holds_if_there : Universe → List Rule → ℕ → Point → Bool
holds_if_there u rules number p = option_map_or (lies_in_rule u p) (slice_get rules number) true
