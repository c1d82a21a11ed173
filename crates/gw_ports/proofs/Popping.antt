-- Ingress a copy out of one of several lanes.
use Rattle.std.proofs.Common.{◌≡◌, ◌∙◌, ℕ, ◌<◌, List, length, slice_set, get_or, Option, Some, None, MatchOption, sym, ap, subst}
use Rattle.std.proofs.lemmas.List.{get_or-set_same, get_or_default, set-get_or}
use Rattle.gw_ledger.specs.declared.outcome.FrameCopy.{FrameCopy}
use Rattle.gw_lanes.specs.Ends.{Outlet}
use Rattle.gw_ports.specs.Ends.{lane_at}
use Rattle.gw_ports.specs.Sending.{Pops, PopsFrom}

pub taken : (result : Option FrameCopy) (lanes : List (Option Outlet)) (ingress : ℕ) (d lane' : Option Outlet)
    → ingress < length lanes
    → MatchOption result (lane' ≡ get_or lanes ingress d) (λ copy. Pops (get_or lanes ingress d) copy lane')
    → MatchOption result (slice_set lanes ingress lane' ≡ lanes)
    (λ copy. PopsFrom ingress lanes copy (slice_set lanes ingress lane'))
taken None lanes ingress d lane' inside same = ap (λ l. slice_set lanes ingress l) same ∙ set-get_or lanes ingress d
taken (Some copy) lanes ingress d lane' inside gives =
    let first : get_or lanes ingress d ≡ lane_at lanes ingress = get_or_default lanes ingress d None inside in
    let then_is : lane_at (slice_set lanes ingress lane') ingress ≡ lane' = get_or-set_same lanes ingress lane' None inside in
    record {
      there = inside;
      lane = subst (λ (l : Option Outlet). Pops (lane_at lanes ingress) copy l) (sym then_is)
          (subst (λ (l : Option Outlet). Pops l copy lane') first gives);
      others = ap (λ l. slice_set lanes ingress l) (sym then_is);
    }
