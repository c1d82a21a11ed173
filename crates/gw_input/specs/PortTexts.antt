-- Sets of ports as text.
use Rattle.std.specs.Prelude.{ℕ, List, [], ◌∷◌, ◌++◌, codes, decimal}
use Rattle.std.specs.List.{flat_map}

-- the ports with commas between
abbrev pub commas : List ℕ → List ℕ
commas [] = []
commas (port ∷ others) = decimal port ++ flat_map (λ other. 44 ∷ decimal other) others

-- the same, and `-` for none
abbrev pub ports_text : List ℕ → List ℕ
ports_text [] = codes "-"
ports_text (port ∷ others) = commas (port ∷ others)
