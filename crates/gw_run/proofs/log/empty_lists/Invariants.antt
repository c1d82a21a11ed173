use Rattle.std.proofs.Common.{◌≡◌, ◌<◌, [], ℕ, slice_index_or, vec_len}
use Rattle.gw_run.proofs.log.empty_lists.Given as goal

abbrev pub invariant-loop : goal.invariant-loop
invariant-loop l =
    (vec_len l.lists ≡ l.counter) × ((k : ℕ) (d : _) → k < l.counter → (slice_index_or l.lists.items k d).items ≡ [])
