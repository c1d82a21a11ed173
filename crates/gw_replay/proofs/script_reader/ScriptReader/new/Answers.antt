use Rattle.std.proofs.Common.{refl}
use Rattle.gw_replay.proofs.Reaching.{reached_nothing}
use Rattle.gw_replay.proofs.script_reader.ScriptReader.new.Goals as goal

pub returns-clause-reached : goal.returns-clause-reached
returns-clause-reached c = reached_nothing _ c.new-2.ensures.items c.new.ensures refl
