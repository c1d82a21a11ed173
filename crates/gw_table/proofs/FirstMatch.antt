-- An emission answers by the first rule that holds.
use Rattle.std.proofs.Common.{◌≡◌, ℕ, ◌<◌, ◌↔◌, Bool, true, false, ◌&&◌, List, [], ◌∷◌, ◌++◌, Some, refl, sym, ap, subst, ◌∙◌}
use Rattle.std.proofs.Common.{arith}
use Rattle.std.specs.Prelude.{if◌then◌else◌, option_map, unwrap_or}
use Rattle.std.specs.List.{find, flat_map}
use Rattle.gw_ident.specs.Identifier.{is_extended_data}
use Rattle.gw_frame.specs.Record.{IsRecord, word_of}
use Rattle.gw_machine.specs.Machine.{start}
use Rattle.gw_machine.specs.Runs.{at_start, Returns}
use Rattle.gw_machine.specs.Answers.{answer_of, steps_of}
use Rattle.gw_table.specs.declared.table.Action.{Action}
use Rattle.gw_table.specs.declared.table.Action.TheVariants.{Pass, Block}
use Rattle.gw_table.specs.declared.table.Rule.{Rule}
use Rattle.gw_table.specs.Table.{Meaning, is_pass, lies_in, matches, action_for, table_passes}
use Rattle.gw_table.specs.Emission.{answer_for, return_of, groups_of, group_code, emission}
use Rattle.gw_table.proofs.Groups.{all_of-groups_of, groups_alike}
use Rattle.gw_table.proofs.Parts.{Decides, Fields, all_hold, first_answer, groups_decide}
use Rattle.gw_table.proofs.Prologue.{fields_of, prologue_yields}
use Rattle.gw_table.proofs.Yields.{Yields, returned, returns_from}

module _ (octets : List ℕ) (port : ℕ) where
  abbrev fields : Fields
  fields = fields_of (word_of octets)

  all_hold-matches : (rule : Rule) → all_hold octets port fields rule ≡ matches octets port rule
  unfolding fields_of
  all_hold-matches rule = by (lies_in _ rule.pgn) (lies_in _ rule.source) (lies_in _ rule.destination) (lies_in port rule.from)
    where
      by : (a b c d : Bool) → (a && (b && (c && d))) ≡ (a && b && c && d)
      by true true c d = refl
      by true false c d = refl
      by false b c d = refl

  -- the answer of the first rule of which all four spans hold
  abbrev answer_in : List Rule → Action → ℕ
  answer_in rules otherwise = first_answer (all_hold octets port fields) rules (answer_for otherwise)

  -- its action
  abbrev action_in : List Rule → Action → Action
  action_in rules otherwise = unwrap_or (option_map (λ rule. rule.action) (find (matches octets port) rules)) otherwise

  answer_in-find : (rules : List Rule) (otherwise : Action) → answer_in rules otherwise ≡ answer_for (action_in rules otherwise)
  answer_in-find [] otherwise = refl
  answer_in-find (rule ∷ rules) otherwise =
      rw all_hold-matches (by (matches octets port rule) (answer_in-find rules otherwise))
    where
      by : (here : Bool) → answer_in rules otherwise ≡ answer_for (action_in rules otherwise)
          → (if here then answer_for rule.action else answer_in rules otherwise)
          ≡ answer_for (unwrap_or
          (option_map (λ rule. rule.action) (if here then Some rule else find (matches octets port) rules)) otherwise)
      by true later = refl
      by false later = later

  emission_yields : (table : Meaning) → IsRecord octets → port < 256
      → Yields octets port (emission table) start (answer_for (action_for table octets port))
  emission_yields table is_record fits =
      let otherwise = answer_for table.otherwise in
      let last = return_of table.otherwise ∷ [] in
      let rest = flat_map group_code (groups_of table.rules) ++ last in
      let decides = groups_decide octets port fields (groups_of table.rules) last otherwise (omega arith)
      (groups_alike table.rules) (λ m keeps. returned otherwise) in
      let answer = ap (λ rules. answer_in rules table.otherwise) (all_of-groups_of table.rules)
      ∙ answer_in-find table.rules table.otherwise in
      let yields = prologue_yields octets port is_record table.other rest _
      (subst (Decides octets port fields rest) answer decides) in
      subst (Yields octets port (emission table) start) (chosen (is_extended_data (word_of octets))) yields
    where
      chosen : (extended : Bool)
          → (if extended then answer_for (action_in table.rules table.otherwise) else answer_for table.other)
          ≡ answer_for (if extended then action_in table.rules table.otherwise else table.other)
      chosen true = refl
      chosen false = refl

  -- the emission returns what `answer_of` says of it, and nothing else
  abbrev pub HasOneAnswer : Meaning → Type 0
  HasOneAnswer table =
      (answer n : ℕ) → Returns (emission table) octets port answer n ↔ ((answer ≡ answer_of (emission table) octets port)
      × (n ≡ steps_of (emission table) octets port))

  answer_of-emission : (table : Meaning) → HasOneAnswer table → IsRecord octets → port < 256
      → answer_of (emission table) octets port ≡ answer_for (action_for table octets port)
  answer_of-emission table one_answer is_record fits =
      let answer = answer_for (action_for table octets port) in
      let returns = returns_from (emission table) octets port 0 start answer (emission table) refl at_start
      (emission_yields table is_record fits) in
      sym ((one_answer answer returns.0).0 returns.1).0

  -- the answer 0 of an action is that of block
  blocks : (action : Action) → (answer_for action ≡ 0) ↔ (is_pass action ≡ false)
  blocks Pass = (λ e. absurd (omega arith), λ e. absurd (cc))
  blocks Block = (λ e. refl, λ e. refl)

  -- an emission blocks what its table blocks
  pub emission_blocks : (table : Meaning) → HasOneAnswer table → IsRecord octets → port < 256
      → (answer_of (emission table) octets port ≡ 0) ↔ (table_passes table octets port ≡ false)
  emission_blocks table one_answer is_record fits =
      rw (answer_of-emission table one_answer is_record fits) (blocks (action_for table octets port))
