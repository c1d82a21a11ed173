-- Which frames a question asks for, and why some ask for none.
use Rattle.std.proofs.Common.{◌≡◌, ℕ, ◌%◌, ◌<◌, ◌≤◌, true, false, Option, Some, None, refl, sym, arith}
use Rattle.std.proofs.lemmas.Bool.{false≢true}
use Rattle.gw_ident.specs.Identifier.{parameter_group, destination_address}
use Rattle.gw_table.specs.declared.table.Span.{Span}
use Rattle.gw_table.specs.declared.question.Question.{Question}
use Rattle.gw_table.specs.declared.no_frame.WhyNoFrame.TheVariants.{NoGroup, NoSource, NoPort, NoDestination}
use Rattle.gw_table.specs.Question.{is_asked, AsksNoGroup, AsksNoSource, IsWhyNoFrame}
use Rattle.gw_table.proofs.DifferenceExamples.{request, to_all, short}
use Rattle.gw_table.proofs.NeverDecides.{GroupOf, group_of, bounds, outside}

abbrev one : ℕ → Option Span
one n = Some (record { low = n; high = n })

abbrev given : Option Span → Option Span → Option Span → Option Span → Question
given pgn source destination from = record { pgn = pgn; source = source; destination = destination; from = from }

-- requests, 59904, to the engine, address 0, at port 1
abbrev to_engine : Question
to_engine = given (one 59904) None (one 0) (one 1)

request_is_asked : is_asked to_engine request 1 ≡ true
request_is_asked = refl

at_another_port : is_asked to_engine request 2 ≡ false
at_another_port = refl

to_another_address : is_asked to_engine to_all 1 ≡ false
to_another_address = refl

-- a frame of 11 bits has a port alone
short_at_a_port : is_asked (given None None None (one 1)) short 1 ≡ true
short_at_a_port = refl

short_at_any_port : is_asked (given None None None None) short 15 ≡ true
short_at_any_port = refl

short_has_no_group : is_asked (given (Some (record { low = 0; high = 262143 })) None None None) short 1 ≡ false
short_has_no_group = refl

short_has_no_source : is_asked (given None (Some (record { low = 0; high = 255 })) None None) short 1 ≡ false
short_has_no_source = refl

-- 59905 is no group, since the format of 59904 is 234, which is PDU1; 65262 has the format 254, PDU2
no_group : IsWhyNoFrame (given (one 59905) None (one 0) None) NoGroup
no_group word =
    let group : GroupOf word = group_of word in
    outside (parameter_group word) (record { low = 59905; high = 59905 }) (λ both.
    let below : group.format % 256 < 240 = omega (arith, group.group, group.last_fits, both.0, both.1) in
    omega (arith, group.group, group.pdu1 below, both.0, both.1))

some_group : (source destination from : Option Span) → AsksNoGroup (given None source destination from) → ⊥
some_group source destination from none = false≢true (sym (none 0))

some_source : (pgn destination from : Option Span) → AsksNoSource (given pgn None destination from) → ⊥
some_source pgn destination from none = false≢true (sym (none 0 (omega arith)))

no_source : IsWhyNoFrame (given None (one 256) None (one 16)) NoSource
no_source = (
  some_group (one 256) None (one 16),
  λ octet fits. outside octet (record { low = 256; high = 256 }) (λ both. omega (arith, fits, both.0)),
)

no_port : IsWhyNoFrame (given None None None (one 16)) NoPort
no_port = (
  some_group None None (one 16),
  some_source None None (one 16),
  λ port fits. outside port (record { low = 16; high = 16 }) (λ both. omega (arith, fits, both.0)),
)

no_destination : IsWhyNoFrame (given (one 65262) None (Some (record { low = 0; high = 254 })) None) NoDestination
no_destination = (
  λ none. false≢true (sym (none 16707072)),
  some_source (one 65262) (Some (record { low = 0; high = 254 })) None,
  λ none. false≢true (sym (none 0 (omega arith))),
  λ word of_group.
      let group : GroupOf word = group_of word in
      let (above, under) = bounds (parameter_group word) (record { low = 65262; high = 65262 }) of_group in
      let pdu2 : 240 ≤ group.format % 256 = omega (arith, group.group, group.last_fits, above, under) in
      outside (destination_address word) (record { low = 0; high = 254 }) (λ both.
      omega (arith, group.pdu2 pdu2, both.1)),
)
