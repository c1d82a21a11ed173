-- Frames that a question asks for, and the parts that decide them.
use Rattle.std.proofs.Common.{◌≡◌, ◌≢◌, ℕ, ◌+◌, ◌<◌, ◌≤◌, inl, inr, Bool, true, false, List, [], ◌∷◌, length, Option, Some, None}
use Rattle.std.proofs.Common.{Result, Ok, Err, refl, sym, ap, ◌∙◌, arith}
use Rattle.std.proofs.lemmas.Bool.{cases_lt}
use Rattle.std.specs.Prelude.{IfOk, MatchOption}
use Rattle.std.specs.List.{position_or_len}
use Rattle.gw_ident.specs.Identifier.{is_extended_data}
use Rattle.gw_frame.specs.Record.{word_of}
use Rattle.gw_table.specs.declared.table.Action.{Action}
use Rattle.gw_table.specs.declared.table.Rule.{Rule}
use Rattle.gw_table.specs.declared.difference.Witness.{Witness}
use Rattle.gw_table.specs.declared.question.Question.{Question}
use Rattle.gw_table.specs.Table.{Meaning, matches, is_pass, action_of, table_passes}
use Rattle.gw_table.specs.PartIndices.{part_at, index_of, HoldFirst}
use Rattle.gw_table.specs.Question.{is_asked, IsAsked, IsSample}
use Rattle.gw_table.proofs.PartsAt.{index_extended, index_other, is_extended, is_no_extended, decides_there, acts_there}

module _ (table : Meaning) (question : Question) (index : ℕ) where
  -- what is found of an index: a frame that is asked for, or that there is none
  abbrev pub None_there : Type 0
  None_there = (octets : List ℕ) (port : ℕ) → IsAsked question octets port → index_of table octets port ≢ index

  abbrev pub Is_there : Witness → Type 0
  Is_there w = IsAsked question w.frame w.port × (index_of table w.frame w.port ≡ index)

  pub asked_short : length table.rules < index → index < length table.rules + 2 → (found : Option Witness)
      → MatchOption found
      ((octets : List ℕ) (port : ℕ) → IsAsked question octets port → is_extended_data (word_of octets) ≢ false)
      (λ w. IsAsked question w.frame w.port × (is_extended_data (word_of w.frame) ≡ false))
      → MatchOption found None_there Is_there
  asked_short above fits None none = λ octets port asked is.
      none octets port asked (is_no_extended table octets port (omega (arith, above, is)))
  asked_short above fits (Some w) found =
      (found.0, (let e = index_other table w.frame w.port found.1 in omega (arith, e, above, fits)))

  module _ (below : index ≤ length table.rules) (rule : Rule)
      (same : (octets : List ℕ) (port : ℕ) → port < 16 → is_extended_data (word_of octets) ≡ true
      → matches octets port rule ≡ is_asked question octets port) where
    held : (octets : List ℕ) (port : ℕ) → position_or_len (matches octets port) (rule ∷ []) ≡ 0 → matches octets port rule ≡ true
    held octets port is = by (matches octets port rule) refl
      where
        by : (b : Bool) → matches octets port rule ≡ b → b ≡ true
        by true e = refl
        by false e =
            let one : position_or_len (matches octets port) (rule ∷ []) ≡ 1 = rw e refl in absurd (omega (arith, one, is))

    pub asked_first : {E : Type 0} (result : Result (Option Witness) E)
        → IfOk result (λ found. MatchOption found
        ((octets : List ℕ) (port : ℕ) → ¬ HoldFirst (rule ∷ []) 0 table.rules index octets port)
        (λ w. HoldFirst (rule ∷ []) 0 table.rules index w.frame w.port))
        → IfOk result (λ found. MatchOption found None_there Is_there)
    asked_first (Err e) found = found
    asked_first (Ok None) none = λ octets port asked is.
        (let extended = is_extended table octets port (omega (arith, below, is)) in
        let holds : matches octets port rule ≡ true = same octets port asked.port_fits extended ∙ asked.asked in
        none octets port (record {
          carried = asked.carried.0;
          extended = extended;
          port_fits = asked.port_fits;
          first = rw holds refl;
          second = sym (index_extended table octets port extended) ∙ is;
        }))
    asked_first (Ok (Some w)) found = (
      record {
        carried = (found.carried, inl found.extended);
        port_fits = found.port_fits;
        asked = sym (same w.frame w.port found.port_fits found.extended) ∙ held w.frame w.port found.first;
      },
      index_extended table w.frame w.port found.extended ∙ found.second,
    )

  -- the part there passes what is of that index, or blocks it
  pub passes_there : (action : Action) → action_of table (part_at (length table.rules) index) ≡ Some action
      → (octets : List ℕ) (port : ℕ) → index_of table octets port ≡ index → table_passes table octets port ≡ is_pass action
  passes_there action of octets port is = ap is_pass (acts_there table octets port index action is of)

  pub is_sample : (action : Action) → action_of table (part_at (length table.rules) index) ≡ Some action → (passes : Bool)
      → is_pass action ≡ passes → (w : Witness) → Is_there w
      → IsSample table question passes (record { by = part_at (length table.rules) index; frame = w.frame; port = w.port })
  is_sample action of passes so w there = record {
    asked = there.0;
    decided = decides_there table w.frame w.port index there.1;
    passes_so = passes_there action of w.frame w.port there.1 ∙ so;
  }

  -- none of the indices before passes so, and then none of the next
  abbrev pub Before : Bool → ℕ → Type 0
  Before passes n =
      (octets : List ℕ) (port : ℕ) → IsAsked question octets port → index_of table octets port < n
      → table_passes table octets port ≢ passes

  pub next_has_none : (passes : Bool) → Before passes index
      → ((octets : List ℕ) (port : ℕ) → IsAsked question octets port → index_of table octets port ≡ index
      → table_passes table octets port ≢ passes) → Before passes (index + 1)
  next_has_none passes before here octets port asked below =
      elim (cases_lt (index_of table octets port) index) [
        | inl sooner ↦ before octets port asked sooner
        | inr same ↦ here octets port asked (omega (arith, same, below))
      ]
