use Rattle.std.proofs.Common.{vec_len}
use Rattle.gw_ports.proofs.running.drain.+drain_all.Given as goal

abbrev pub decreases-drain_all : goal.decreases-drain_all
decreases-drain_all g l = vec_len l.work.drains
