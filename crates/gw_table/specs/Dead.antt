-- Rules that can never decide (the anomalies of E. Al-Shaer and H. Hamed, 2004: shadowing and irrelevance).
use Rattle.std.specs.Prelude.{◌≡◌, ℕ, ◌<◌, Bool, true, false, ◌&&◌, nat_le, List, ◌∷◌, map, take, Some, slice_get, All}
use Rattle.std.specs.List.{range_with_len}
use Rattle.gw_ident.specs.Identifier.{parameter_group, destination_address}
use Rattle.gw_table.specs.declared.table.Span.{Span}
use Rattle.gw_table.specs.declared.table.Rule.{Rule}
use Rattle.gw_table.specs.declared.dead.WhyDead.{WhyDead}
use Rattle.gw_table.specs.declared.dead.WhyDead.TheVariants.{NoGroup, NoPort, NoDestination, Covered}
use Rattle.gw_table.specs.Table.{lies_in}

-- no identifier's parameter group lies in the rule's range
abbrev pub HasNoGroup : Rule → Type 0
HasNoGroup rule = (word : ℕ) → lies_in (parameter_group word) rule.pgn ≡ false

-- no port does: ports are 0 to 15
abbrev pub HasNoPort : Rule → Type 0
HasNoPort rule = (port : ℕ) → port < 16 → lies_in port rule.from ≡ false

-- no identifier whose parameter group lies in the rule's range has a destination that does
abbrev pub HasNoDestination : Rule → Type 0
HasNoDestination rule =
    (word : ℕ) → lies_in (parameter_group word) rule.pgn ≡ true → lies_in (destination_address word) rule.destination ≡ false

abbrev pub is_within : Span → Span → Bool
is_within inner outer = nat_le outer.low inner.low && nat_le inner.high outer.high

-- each range of the later rule lies within that of the earlier one
abbrev pub covers : Rule → Rule → Bool
covers earlier later =
    is_within later.pgn earlier.pgn && is_within later.source earlier.source
    && is_within later.destination earlier.destination && is_within later.from earlier.from

-- there is a rule of this number, and it has the property
pub record AtRule (rules : List Rule) (number : ℕ) (P : Rule → Type 0) : Type 0 where
  pub rule : Rule
  pub here : slice_get rules number ≡ Some rule
  pub holds : P rule

-- why the rule of a number can never decide
abbrev pub IsDead : List Rule → ℕ → WhyDead → Type 0
IsDead rules number NoGroup = AtRule rules number HasNoGroup
IsDead rules number NoPort = AtRule rules number HasNoPort
IsDead rules number NoDestination = AtRule rules number HasNoDestination
IsDead rules number (Covered by) =
    (by < number) × AtRule rules by (λ earlier. AtRule rules number (λ rule. covers earlier rule ≡ true))

-- the causes in the order in which they are told of the rule of a number: those that it has by itself, then that a rule before
-- it covers it, from rule 0 on
abbrev pub causes : ℕ → List WhyDead
causes number = NoGroup ∷ NoPort ∷ NoDestination ∷ map Covered (range_with_len 0 number)

-- the first of the causes that the rule of a number has
pub record IsFirstCause (rules : List Rule) (number : ℕ) (why : WhyDead) : Type 0 where
  pub index : ℕ
  pub here : slice_get (causes number) index ≡ Some why
  pub dead : IsDead rules number why
  pub first : All (λ earlier. ¬ IsDead rules number earlier) (take index (causes number))

-- inside: the cause that is told of the three that a rule has by itself
abbrev pub IsOwnCause : Rule → WhyDead → Type 0
IsOwnCause rule NoGroup = HasNoGroup rule
IsOwnCause rule NoPort = (¬ HasNoGroup rule) × HasNoPort rule
IsOwnCause rule NoDestination = (¬ HasNoGroup rule) × (¬ HasNoPort rule) × HasNoDestination rule
IsOwnCause rule (Covered by) = ⊥

-- a rule without a cause of its own
pub record HasNoOwnCause (rule : Rule) : Type 0 where
  pub group : ¬ HasNoGroup rule
  pub port : ¬ HasNoPort rule
  pub destination : ¬ HasNoDestination rule
