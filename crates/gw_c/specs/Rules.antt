-- What C is told of the rules of a policy's table.
use Rattle.std.specs.Prelude.{◌≡◌, ◌<◌, ℕ, nat_lt, nat_le, if◌then◌else◌, List, length, Option, Some, None}
use Rattle.std.specs.Prelude.{IfSome, IfNone, OnSome}
use Rattle.std.specs.Option.{option_map_or}
use Rattle.gw_table.specs.declared.table.Part.{Part}
use Rattle.gw_table.specs.declared.table.Part.TheVariants as part
use Rattle.gw_table.specs.declared.dead.WhyDead.{WhyDead}
use Rattle.gw_table.specs.declared.dead.WhyDead.TheVariants.{NoGroup, NoPort, NoDestination, Covered}
use Rattle.gw_table.specs.Table.{Meaning, Decides}
use Rattle.gw_table.specs.Dead.{IsDead, IsFirstCause}
use Rattle.gw_policy.specs.Filter.{Filter}
use Rattle.gw_c.specs.declared.can.CanFrame.{CanFrame}
use Rattle.gw_c.specs.Faults.{nowhere}
use Rattle.gw_c.specs.Frames.{record_of}

-- the table of a policy, where there is one
abbrev pub table_in : Option Filter → Option Meaning
table_in None = None
table_in (Some policy) = policy.table

-- what refuses a question: 121, the handle holds no policy; 127, its policy is a program; else what this says of the table
abbrev pub asked : Option Filter → (Meaning → ℕ) → ℕ
asked None refusal = 121
asked (Some policy) refusal = option_map_or refusal policy.table 127

abbrev pub rules_refusal : Option Filter → ℕ
rules_refusal held = asked held (λ table. 0)

-- 128: the table has no rule of this number
abbrev pub never_refusal : Option Filter → ℕ → ℕ
never_refusal held rule = asked held (λ table. if nat_le (length table.rules) rule then 128 else 0)

-- 3: the frame's length is above 8
abbrev pub deciding_refusal : Option Filter → CanFrame → ℕ
deciding_refusal held can = asked held (λ table. if nat_lt 8 can.len then 3 else 0)

-- how many rules the table has; of no table, what stood there
abbrev pub rules_count : Option Filter → ℕ → ℕ
rules_count held old = option_map_or (λ table. length table.rules) (table_in held) old

-- a cause as C is told it: 0 where none is known
abbrev pub why_number : Option WhyDead → ℕ
why_number None = 0
why_number (Some NoGroup) = 1
why_number (Some NoPort) = 2
why_number (Some NoDestination) = 3
why_number (Some (Covered by)) = 4

-- the earlier rule that it names
abbrev pub covering_rule : Option WhyDead → ℕ
covering_rule (Some (Covered by)) = by
covering_rule _ = nowhere

-- the first cause for which the rule of a number can never decide, or that it has none of these causes
pub record IsNeverTold (table : Meaning) (rule why covering : ℕ) : Type 0 where
  pub cause : Option WhyDead
  pub dead : IfSome cause (IsFirstCause table.rules rule)
  pub alive : IfNone cause ((other : WhyDead) → ¬ IsDead table.rules rule other)
  pub never : OnSome cause ((octets : List ℕ) (port : ℕ) → port < 16 → ¬ Decides table octets port (part.Rule rule))
  pub said : why ≡ why_number cause
  pub named : covering ≡ covering_rule cause

-- a part as C is told it: a rule by its number, `default` and `other` by numbers that no rule has
abbrev pub part_number : Part → ℕ
part_number (part.Rule number) = number
part_number part.Default = 4294967294
part_number part.Other = 4294967293

-- the part that decides a frame which was taken at a port
pub record IsDecidedTold (table : Meaning) (can : CanFrame) (port number : ℕ) : Type 0 where
  pub deciding : Part
  pub decides : Decides table (record_of can) port deciding
  pub said : number ≡ part_number deciding
