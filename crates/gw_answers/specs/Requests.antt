-- What a query asks for.
use Rattle.std.specs.Prelude.{Bool, false}
use Rattle.gw_answers.specs.declared.requests.Query.{Query}
use Rattle.gw_answers.specs.declared.requests.Query.TheVariants.{Verdict, Table}

-- whether the exit status is to tell that a frame is blocked
abbrev pub tells_blocked : Query → Bool
tells_blocked (Verdict port word tells) = tells
tells_blocked (Table port frame why tells) = tells
tells_blocked _ = false
