-- How paths that leave a word unset come to each place.
use Rattle.std.specs.Prelude.{ℕ, ◌≡◌, ◌<◌, List, Some, slice_get, slice_set}
use Rattle.gw_verify.specs.declared.arrival.Arrival.{Arrival}
use Rattle.gw_verify.specs.declared.arrival.Arrival.TheVariants.{Never, Start, From}
use Rattle.gw_verify.specs.Flow.{Forms, IsBare, PassesBy}

-- what an arrival at place j says: that j is not bare of the word, that j is the first place, or a bare place
-- that j may follow
abbrev pub IsArrival : Forms → ℕ → ℕ → Arrival → Type 0
IsArrival forms word j Never = ¬ IsBare forms j word
IsArrival forms word j Start = j ≡ 0
IsArrival forms word j (From i) = IsBare forms i word × PassesBy forms word i j

-- each is an arrival at its place
abbrev pub AreArrivals : Forms → ℕ → List Arrival → Type 0
AreArrivals forms word arrivals =
    (j : ℕ) (arrival : Arrival) → slice_get arrivals j ≡ Some arrival → IsArrival forms word j arrival

-- each is from an earlier place
abbrev pub ComeFromBefore : List Arrival → Type 0
ComeFromBefore arrivals = (j i : ℕ) → slice_get arrivals j ≡ Some (From i) → i < j

-- the arrivals, with one from place i at place j
abbrev pub with_arrival_from : ℕ → ℕ → List Arrival → List Arrival
with_arrival_from i j arrivals = slice_set arrivals j (From i)
