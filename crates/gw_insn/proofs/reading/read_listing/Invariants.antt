-- the instructions so far
use Rattle.gw_insn.proofs.Listings.{HasRead}
use Rattle.gw_insn.proofs.reading.read_listing.Given as goal

abbrev pub invariant-loop-index : goal.invariant-loop-index
invariant-loop-index l = HasRead l.count l.initial.rest l.index l.rest l.code
