use Rattle.std.proofs.Common.{◌≡◌, ℕ, ◌+◌, ◌-◌, ◌≤◌, length}
use Rattle.std.specs.List.{filter, range_with_len}
use Rattle.gw_commands.specs.Shown.{is_group}
use Rattle.gw_commands.proofs.show_command.group_count.Given as goal

-- the groups among the numbers so far
pub record Counted (low high number count : ℕ) : Type 0 where
  pub groups : count ≡ length (filter is_group (range_with_len low (number - low)))
  pub least : low ≤ number
  pub most : number - low ≤ high + 1 - low
  pub few : count + low ≤ number

abbrev pub invariant-loop-number : goal.invariant-loop-number
invariant-loop-number l = Counted l.fn.range.low l.fn.range.high l.number l.count
