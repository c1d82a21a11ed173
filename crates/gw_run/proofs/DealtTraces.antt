-- What is wrong with a trace whose frames were dealt.
use Rattle.std.proofs.Common.{◌≡◌, ℕ, Bool, List, Option, Result, Ok, Err, IfErr, ap, sym}
use Rattle.std.specs.Option.{option_map_or}
use Rattle.std.specs.Result.{result_err}
use Rattle.gw_trace.specs.Traces.{ending, reading}
use Rattle.gw_trace.specs.declared.refusal.TraceRefusal.{TraceRefusal}
use Rattle.gw_run.specs.Dealing.{IsNoTrace}
use Rattle.gw_run.specs.Forwarding.{IsTraceInput}

pub ends_ill : (before after : Option (List ℕ)) (failed : Bool) (octets : List ℕ) (result : Result (Unit {0}) TraceRefusal)
    → IsTraceInput before after failed octets → result_err result ≡ ending (reading octets).stage (reading octets).rest
    → IfErr result (IsNoTrace before after failed)
ends_ill before after failed octets (Ok done) input shows = tt
ends_ill before after failed octets (Err fault) input shows = (
  octets,
  input,
  ap (λ e. option_map_or Err e (Ok (reading octets).frames)) (sym shows),
)
