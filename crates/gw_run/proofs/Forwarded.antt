-- Lines of a run and shares of a trace, one after another.
use Rattle.std.proofs.Common.{◌≡◌, ◌∙◌, ℕ, ◌+◌, ◌%◌, ◌<◌, List, [], ◌∷◌, ◌++◌, length, flat_map, ap, refl, get_or, sym, arith}
use Rattle.std.proofs.Common.{take}
use Rattle.std.proofs.lemmas.Grind.{flat_map-append}
use Rattle.std.proofs.lemmas.List.{append-nil, append_assoc, take_all, take_more}
use Rattle.std.proofs.lemmas.Bool.Decides.{nat_tests}
use Rattle.std.proofs.lemmas.Option.{slice_get-get_or}
use Rattle.std.proofs.Math.Nat.{mod-lt}
use Rattle.std.specs.List.{range_with_len}
use Rattle.std.specs.Option.{option_map_or}
use Rattle.gw_ledger.specs.declared.ledger.InLedger.{InLedger}
use Rattle.gw_trace.specs.Shares.{shared_from}
use Rattle.gw_run.specs.declared.tally.LaneTally.{LaneTally}
use Rattle.gw_run.specs.Forwarding.{lane_line, lane_lines, line_of, port_line, port_lines}

-- the share of the one port is all
pub all_shared : (i : ℕ) (frames : List (List ℕ)) → shared_from i 0 1 frames ≡ frames
all_shared i [] = refl
all_shared i (frame ∷ frames) =
    taken i 0 1 frame frames (only (i % 1) (mod-lt i one)) ∙ ap (λ later. frame ∷ later) (all_shared (i + 1) frames)
  where
    taken : (i port ports : ℕ) (frame : List ℕ) (frames : List (List ℕ)) → i % ports ≡ port
        → shared_from i port ports (frame ∷ frames) ≡ frame ∷ shared_from (i + 1) port ports frames
    taken i port ports frame frames h = grind (arith, nat_tests)

    only : (n : ℕ) → n < 1 → n ≡ 0
    only n below = omega arith

    one : 0 < 1
    one = omega arith

-- all lines behind a text
pub ports_done : (ledgers : List InLedger) (n : ℕ) (before text : List ℕ) → n ≡ length ledgers
    → text ≡ before ++ flat_map (line_of ledgers) (range_with_len 0 n) → text ≡ before ++ port_lines ledgers
unfolding port_lines
ports_done ledgers n before text all same = same ∙ ap (λ m. before ++ flat_map (line_of ledgers) (range_with_len 0 m)) all

-- the line of a port
pub line_there : (ledgers : List InLedger) (n : ℕ) (d : InLedger) → n < length ledgers
    → port_line n (get_or ledgers n d) ≡ line_of ledgers n
line_there ledgers n d below = ap (λ o. option_map_or (port_line n) o []) (sym (slice_get-get_or ledgers n d below))

-- the lines of lanes, with that of one more
pub one_lane_more : (lanes : List LaneTally) (n : ℕ) (d : LaneTally) (before now new : List ℕ) → n < length lanes
    → now ≡ before ++ flat_map lane_line (take n lanes) → new ≡ now ++ lane_line (get_or lanes n d)
    → new ≡ before ++ flat_map lane_line (take (n + 1) lanes)
one_lane_more lanes n d before now new within so_far more =
    let line = lane_line (get_or lanes n d) in
    more ∙ ap (λ t. t ++ line) so_far ∙ append_assoc before (flat_map lane_line (take n lanes)) line
    ∙ ap (λ t. before ++ t)
    (ap (λ t. flat_map lane_line (take n lanes) ++ t) (sym (append-nil line))
    ∙ sym (flat_map-append lane_line (take n lanes) (get_or lanes n d ∷ []))
    ∙ ap (flat_map lane_line) (sym (take_more lanes n d within)))

-- all of them
pub lanes_done : (lanes : List LaneTally) (n : ℕ) (before text : List ℕ) → n ≡ length lanes
    → text ≡ before ++ flat_map lane_line (take n lanes) → text ≡ before ++ lane_lines lanes
unfolding lane_lines
lanes_done lanes n before text all same =
    same ∙ ap (λ l. before ++ flat_map lane_line l) (take_all n lanes (omega arith))
