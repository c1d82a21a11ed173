-- A reading as long as what was told is what was told.
use Rattle.std.proofs.Common.{◌≡◌, List, length, arith, sym, subst, refl}
use mathlib.Core.List.{IsPrefix}
use Rattle.gw_board.specs.Ends.{Board}
use Rattle.gw_policy.specs.Batches.{Pair}
use Rattle.gw_board.proofs.Callers.{prefix_trans, prefix_whole}
use Rattle.gw_ports.specs.Ends.{Ingress}

-- what was told begins what was learnt, and that begins what was read
pub settled : (known learnt read told : List (List Pair)) → IsPrefix known learnt → IsPrefix told learnt → IsPrefix learnt read
    → length read ≡ length told → (read ≡ told) × IsPrefix known told
settled known learnt read told kept heard later size =
    let whole : told ≡ read = prefix_whole told read (prefix_trans told learnt read heard later) (omega arith) in
    (sym whole, subst (λ (l : List (List Pair)). IsPrefix known l) (sym whole) (prefix_trans known learnt read kept later))

-- nothing but what is known changes
pub renewed : (a b : Ingress) (board : Board) (read told : List (List Pair)) → a ≡ b → board ≡ a.board → read ≡ told
    → record a { board = board; known = read } ≡ record b { known = told }
renewed a b board read told same at is = rw (at, is, same) refl
