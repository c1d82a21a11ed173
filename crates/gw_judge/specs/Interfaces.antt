-- The ports that take the frames of a log, by their interfaces.
use Rattle.std.specs.Prelude.{ℕ, ◌==◌, Bool, false, if◌then◌else◌, List, [], ◌∷◌, Option, Some, None, Ok, Err, option_map}
use Rattle.std.specs.List.{find}
use Rattle.std.specs.Option.{option_map_or}
use Rattle.std.specs.Str.{bytes_eq}
use Rattle.gw_log.specs.LogLines.{Reading}
use Rattle.gw_judge.specs.declared.interfaces.NamedInterface.{NamedInterface}

-- the port that the first of these names gives an interface
abbrev pub names_interface : List ℕ → NamedInterface → Bool
names_interface interface named = bytes_eq named.name.now interface

abbrev pub port_named : List NamedInterface → List ℕ → Option ℕ
port_named names interface = option_map (λ named. named.port) (find (names_interface interface) names)

-- what a line gives a port: its frame, where the port takes the frames of its interface
abbrev pub taken : (List ℕ → Option ℕ) → ℕ → Reading → List (List ℕ)
taken takes port (Err why) = []
taken takes port (Ok None) = []
taken takes port (Ok (Some entry)) =
    if option_map_or (λ taker. taker == port) (takes entry.interface) false then entry.octets ∷ [] else []
