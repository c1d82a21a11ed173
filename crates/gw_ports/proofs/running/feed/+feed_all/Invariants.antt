use Rattle.std.proofs.Common.{vec_len}
use Rattle.gw_ports.proofs.running.feed.+feed_all.Given as goal

abbrev pub decreases-feed_all : goal.decreases-feed_all
decreases-feed_all g l = vec_len l.intake.feeds
