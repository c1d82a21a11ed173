-- The names of well-known parameter groups.
use Rattle.std.specs.Prelude.{ℕ, ◌==◌, ◌&&◌, nat_le, if◌then◌else◌, List, [], codes}

-- the name of a well-known group (docs/IDENTIFIERS.md), which stands behind its number
unfoldable pub group_name : ℕ → List ℕ
group_name n =
    if n == 0 then codes " (torque/speed control 1, TSC1)"
    else if n == 59392 then codes " (acknowledgment)"
    else if n == 59904 then codes " (request)"
    else if n == 60160 then codes " (transport protocol, data transfer, TP.DT)"
    else if n == 60416 then codes " (transport protocol, connection management, TP.CM)"
    else if n == 60928 then codes " (address claimed)"
    else if n == 61184 then codes " (proprietary A)"
    else if n == 61442 then codes " (electronic transmission controller 1, ETC1)"
    else if n == 61443 then codes " (electronic engine controller 2, EEC2)"
    else if n == 61444 then codes " (electronic engine controller 1, EEC1)"
    else if n == 65226 then codes " (active diagnostic trouble codes, DM1)"
    else if n == 65253 then codes " (engine hours, revolutions, HOURS)"
    else if n == 65262 then codes " (engine temperature 1, ET1)"
    else if n == 65265 then codes " (cruise control/vehicle speed, CCVS)"
    else if n == 65266 then codes " (fuel economy, liquid, LFE)"
    else if nat_le 65280 n && nat_le n 65535 then codes " (proprietary B)"
    else if n == 126720 then codes " (proprietary A2)"
    else []
