-- What the code holds after lines.
use Rattle.std.specs.Prelude.{◌≡◌, ℕ, Bool, false, List, codes, is_err}
use Rattle.std.specs.Prelude.{Option, Some, None, Result, Ok, Err}
use Rattle.gw_ledger.specs.Bounds.{Bounds}
use Rattle.gw_core.specs.Start.{unheard}
use Rattle.gw_core.specs.declared.event.Event.{Event}
use Rattle.gw_core.specs.Gateway.{Stands}
use Rattle.gw_replay.specs.declared.fault.Fault.{Fault}
use Rattle.gw_replay.specs.declared.fault.Fault.TheVariants as fault
use Rattle.gw_replay.specs.declared.session.Session.{Session}
use Rattle.gw_replay.specs.Faults.{UnlessMemory, line_of}
use Rattle.gw_replay.specs.Requests.{Request}
use Rattle.gw_replay.specs.Replies.{SessionState, Replies, after_event}
use Rattle.gw_replay.specs.Scripts.{meaning_of, told_without, first_told, limits_fit, Obeys, Answers}

-- the gateway and the open batch of a session
pub record HasState (r : Session) (s : SessionState) : Type 0 where
  pub limits : r.limits ≡ s.limits
  pub core : r.core.limits ≡ s.limits
  pub batch : r.batch ≡ s.batch
  pub stands : Stands r.core unheard s.history

-- an event was answered
pub record Happened (s : SessionState) (e : Event) (said : Result (List ℕ) Fault) (new : Session) : Type 0 where
  pub says : said ≡ (after_event s e).said
  pub stands : HasState new (after_event s e).session

-- a command was obeyed
pub record IsDone (s : SessionState) (request : Request) (said : Result (List ℕ) Fault) (new : Session) : Type 0 where
  pub session : SessionState
  pub replies : Replies s request (record { said = said; session = session })
  pub stands : HasState new session

-- of one that wanted memory nothing is said
abbrev pub Done : SessionState → Request → Result (List ℕ) Fault → Session → Type 0
Done s request said new = UnlessMemory said (λ kept. IsDone s request kept new)

-- why limits make no gateway
abbrev pub IsLimitsFault : Bounds → Fault → Type 0
IsLimitsFault limits fault.BadLimits = limits_fit limits ≡ false
IsLimitsFault limits fault.OutOfMemory = Unit {0}
IsLimitsFault limits _ = ⊥

-- a gateway stands where limits were accepted
abbrev pub StandsIn : Option Session → Option SessionState → Type 0
StandsIn None None = Unit {0}
StandsIn (Some r) (Some s) = HasState r s
StandsIn _ _ = ⊥

-- a first command made a gateway
pub record Begins (request : Request) (r : Session) : Type 0 where
  pub session : SessionState
  pub told : first_told request ≡ record { text = line_of (Ok (codes "limits\n")); session = Some session; refused = false }
  pub stands : HasState r session

-- it made none
abbrev pub IsFirstFault : Request → Fault → Type 0
IsFirstFault request fault.OutOfMemory = Unit {0}
IsFirstFault request why = first_told request ≡ told_without (Err why)

-- a command was obeyed, with or without a gateway
pub record IsObeyed (s : Option SessionState) (request : Request) (said : Result (List ℕ) Fault) (new : Option Session)
    : Type 0 where
  pub session : Option SessionState
  pub obeys : Obeys s request (record { text = line_of said; session = session; refused = is_err said })
  pub stands : StandsIn new session

-- a line was answered with a text, and maybe refused
pub record IsAnswered (s : Option SessionState) (line text : List ℕ) (refused : Bool) (new : Option Session) : Type 0 where
  pub session : Option SessionState
  pub answers : Answers s (meaning_of line) (record { text = text; session = session; refused = refused })
  pub stands : StandsIn new session
