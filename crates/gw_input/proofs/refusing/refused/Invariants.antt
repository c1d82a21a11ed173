use Rattle.std.proofs.Common.{◌≡◌, ◌≤◌, ◌+◌, ◌*◌, ◌∷◌, ◌++◌, length, take}
use Rattle.std.specs.Prelude.{codes, decimal}
use Rattle.std.specs.List.{flat_map}
use Rattle.gw_input.proofs.refusing.refused.Given as goal

abbrev pub invariant-loop-detail : goal.invariant-loop-detail
invariant-loop-detail l = record {
  octets : l.line ≡ codes "refused" ++ 32 ∷ decimal l.number ++ flat_map (λ n. 32 ∷ decimal n) (take l.detail-index l.details);
  len : length l.line ≤ 28 + 21 * l.detail-index;
}
