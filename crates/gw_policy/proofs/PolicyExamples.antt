-- Worked examples of policies in force.
use Rattle.std.proofs.Common.{◌≡◌, ℕ, List, [], ◌∷◌, replicate, true, false, Some, None, refl}
use Rattle.gw_insn.specs.declared.insn.Insn.TheVariants.{ReturnConstant}
use Rattle.gw_insn.specs.Form.{Load, LoadIndexed, LoadLength, Word, Half, Byte, A}
use Rattle.gw_insn.specs.Form as form
use Rattle.gw_machine.specs.Answers.{answer_of, answer_within, steps_of}
use Rattle.gw_table.specs.declared.table.Action.TheVariants.{Pass, Block}
use Rattle.gw_table.specs.Table.{Meaning}
use Rattle.gw_table.specs.Emission.{emission}
use Rattle.gw_policy.specs.Filter.{Filter, filter_passes, filter_steps}
use Rattle.gw_policy.specs.Batches.{Pair, in_force, passes, steps}
use Rattle.gw_policy.specs.Cached.{takes_word_alone}

-- EEC1 of an engine, and a frame with a standard identifier
abbrev pub engine_speed : List ℕ
engine_speed = 0x8C ∷ 0xF0 ∷ 0x04 ∷ 0x00 ∷ 8 ∷ 0 ∷ 0 ∷ 0 ∷ replicate 8 255

abbrev standard : List ℕ
standard = 0x00 ∷ 0x00 ∷ 0x01 ∷ 0x23 ∷ 8 ∷ 0 ∷ 0 ∷ 0 ∷ replicate 8 0

-- the program `ret #answer`
abbrev pub returning : ℕ → Filter
returning answer = record { code = ReturnConstant answer ∷ []; table = None }

abbrev pair : ℕ → ℕ → Pair
pair port answer = record { port = port; policy = returning answer }

abbrev batch : List Pair
batch = pair 3 1 ∷ pair 200 1 ∷ []

nothing_at_first : in_force 3 [] ≡ None
nothing_at_first = refl

port_of_a_batch : in_force 3 (batch ∷ []) ≡ Some (returning 1)
port_of_a_batch = refl

port_above_15 : in_force 200 (batch ∷ []) ≡ None
port_above_15 = refl

another_port : in_force 4 (batch ∷ []) ≡ None
another_port = refl

last_batch_decides : in_force 3 ((pair 3 0 ∷ []) ∷ batch ∷ []) ≡ Some (returning 0)
last_batch_decides = refl

last_pair_decides : in_force 3 ((pair 3 0 ∷ pair 4 1 ∷ pair 3 7 ∷ []) ∷ []) ≡ Some (returning 7)
last_pair_decides = refl

opening_block : passes None engine_speed 0 ≡ false
opening_block = refl

opening_block_is_one_instruction : steps None engine_speed 0 ≡ 1
opening_block_is_one_instruction = refl

passes_by_its_answer : passes (in_force 3 (batch ∷ [])) engine_speed 0 ≡ true
unfolding answer_of answer_within
passes_by_its_answer = refl

blocks_by_answer_0 : passes (Some (returning 0)) engine_speed 0 ≡ false
unfolding answer_of answer_within
blocks_by_answer_0 = refl

-- the table `default = "pass"`
abbrev passing : Meaning
passing = record { otherwise = Pass; other = Block; rules = [] }

abbrev compiled : Filter
compiled = record { code = emission passing; table = Some passing }

table_passes_a_group : filter_passes compiled engine_speed 0 ≡ true
table_passes_a_group = refl

table_blocks_a_standard_frame : filter_passes compiled standard 0 ≡ false
table_blocks_a_standard_frame = refl

-- as many steps as the worked replay of this table takes before the frame is placed
steps_of_a_table : filter_steps compiled engine_speed 0 ≡ 14
unfolding steps_of answer_within
steps_of_a_table = refl

-- the identifier word, its PDU format and specific, and its source address; the payload's length is the next octet
the_word : takes_word_alone (Load Word 0) ≡ true
the_word = refl

format_and_specific : takes_word_alone (Load Half 1) ≡ true
format_and_specific = refl

the_source_address : takes_word_alone (Load Byte 3) ≡ true
the_source_address = refl

the_length_octet : takes_word_alone (Load Byte 4) ≡ false
the_length_octet = refl

the_next_word : takes_word_alone (Load Word 4) ≡ false
the_next_word = refl

half_beyond_the_word : takes_word_alone (Load Half 3) ≡ false
half_beyond_the_word = refl

the_ingress_port : takes_word_alone (Load Word 0xfffff008) ≡ true
the_ingress_port = refl

an_octet_by_index : takes_word_alone (LoadIndexed Byte 0) ≡ false
an_octet_by_index = refl

the_record's_length : takes_word_alone (LoadLength A) ≡ false
the_record's_length = refl

an_answer : takes_word_alone (form.ReturnConstant 1) ≡ true
an_answer = refl
