use Rattle.std.proofs.Common.{◌≡◌, All, vec_len}
use Rattle.gw_board.specs.Ends.{new_watch}
use Rattle.gw_board.proofs.make.ends.Given as goal

abbrev pub invariant-loop : goal.invariant-loop
invariant-loop l = (vec_len l.watches ≡ l.counter) × All (λ watch. watch ≡ new_watch l.nothing-inside.seen.book) l.watches.items
