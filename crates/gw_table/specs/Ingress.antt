-- The ports at which frames are taken, and rules that hold of every extended data frame at the others.
use Rattle.std.specs.Prelude.{◌≢◌, ℕ, ◌<◌, List, ◌∷◌}
use Rattle.gw_table.specs.declared.table.Action.TheVariants.{Block}
use Rattle.gw_table.specs.declared.table.Rule.{Rule}
use Rattle.gw_table.specs.declared.ingress.Ingress.{Ingress}

-- one of the ports below a number, but for one
pub record IsIngress (ingress : Ingress) (port : ℕ) : Type 0 where
  pub below : port < ingress.below
  pub apart : port ≢ ingress.without

abbrev pub all_ports : Ingress
all_ports = record { below = 16; without = 16 }

-- a rule that holds of every extended data frame at ports of a range
abbrev pub at_ports : ℕ → ℕ → Rule
at_ports low high = record {
  action = Block;
  pgn = record { low = 0; high = 262143 };
  source = record { low = 0; high = 255 };
  destination = record { low = 0; high = 255 };
  from = record { low = low; high = high };
}

-- rules behind two that hold of every extended data frame at the other ports
abbrev pub guarded_rules : Ingress → List Rule → List Rule
guarded_rules ingress rules = at_ports ingress.without ingress.without ∷ at_ports ingress.below 255 ∷ rules
