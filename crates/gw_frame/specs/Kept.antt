-- How a frame keeps its octets: in front of an array, with zeros behind them.
use Rattle.std.specs.Prelude.{◌≡◌, ℕ, ◌-◌, ◌≤◌, List, ◌++◌, length, take, drop, replicate}
use Rattle.std.proofs.Common.{sym, ap, ◌∙◌, subst}
use Rattle.std.proofs.lemmas.List.{length-take-le, take-append-drop}
use Rattle.gw_frame.specs.Record.{IsRecord}
use Rattle.gw_frame.specs.declared.frame.Frame.TheInside.{Inside}

abbrev pub octets_of : Inside → List ℕ
octets_of f = take f.len f.octets

pub record Holds (f : Inside) : Type 0 where
  pub long : length f.octets ≡ 16
  pub within : f.len ≤ 16
  pub zeros : drop f.len f.octets ≡ replicate (16 - f.len) 0
  pub valid : IsRecord (take f.len f.octets)

abbrev pub inside_of : List ℕ → Inside
inside_of octets = record { octets = octets ++ replicate (16 - length octets) 0; len = length octets }

-- a frame is known by its octets
pub inside_of-octets_of : (f : Inside) → Holds f → inside_of (octets_of f) ≡ f
inside_of-octets_of f h =
    let fits : f.len ≤ length f.octets = subst (λ n. f.len ≤ n) (sym h.long) h.within in
    let len : length (take f.len f.octets) ≡ f.len = length-take-le f.len f.octets fits in
    let octets : take f.len f.octets ++ replicate (16 - length (take f.len f.octets)) 0 ≡ f.octets =
    ap (λ n. take f.len f.octets ++ replicate (16 - n) 0) len ∙ ap (λ zeros. take f.len f.octets ++ zeros) (sym h.zeros)
    ∙ take-append-drop f.len f.octets in
    λ i. record { octets = octets i; len = len i }
