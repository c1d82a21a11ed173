-- The two ends of what a thread that reads a trace hands a port: `ring` is which ring of `rtrb` it is, as both ends know it.
use Rattle.std.specs.Prelude.{◌≡◌, ◌⊎◌, ◌<◌, ◌^◌, ℕ, Bool, true, false, List, [], ◌∷◌, ◌++◌, length, Option, is_none}
use Rattle.std.specs.declared.alloc.Global.{Global}
use Rattle.rtrb.specs.Shared.{Names}
use Rattle.rtrb.specs.declared.end.End.{End}
use denote.RawPtr.{Ptr}

-- what a port is handed: the next of its frames, or none behind the last
abbrev pub Dealt : Type 0
Dealt = Option (List ℕ)

-- which ring
pub record Ring : Type 0 where
  pub words : Ptr
  pub slots : Ptr
  pub names : Names
  pub heap : Global

abbrev pub ring_of : {T P : Type 0} → End T Global P → Ring
ring_of {T} {P} end = record { words = end.words; slots = end.slots; names = end.names; heap = end.heap }

-- the end at which items are put: the items put there, oldest first, and whether the port was left
pub record Putting : Type 0 where
  pub ring : Ring
  pub put : List Dealt
  pub is_left : Bool

-- the end from which items are taken: the items taken, oldest first, and whether the end of the frames was among them
pub record Taken : Type 0 where
  pub ring : Ring
  pub items : List Dealt
  pub is_over : Bool

-- a list ends with these items
abbrev pub EndsWith : List Dealt → List Dealt → Type 0
EndsWith items last = (first : List Dealt) × (items ≡ first ++ last)

-- the ends of a new ring
pub record IsNewRing (dealt_in : Putting) (dealt_out : Taken) : Type 0 where
  pub one : dealt_in.ring ≡ dealt_out.ring
  pub nothing : (dealt_in.put ≡ []) × (dealt_in.is_left ≡ false)
  pub none : (dealt_out.items ≡ []) × (dealt_out.is_over ≡ false)

-- fewer items than these go through a ring
abbrev pub MayFollow : List Dealt → Dealt → Type 0
MayFollow before item = length before < 2 ^ 64

-- an item was put behind the others, which no port that was left before gets; or none was put, and the port is left
pub record Puts (old : Putting) (item : Dealt) (new : Putting) : Type 0 where
  pub same : new.ring ≡ old.ring
  pub put : ((new.put ≡ old.put ++ item ∷ []) × (old.is_left ≡ false)) ⊎ ((new.put ≡ old.put) × (new.is_left ≡ true))
  pub stays : old.is_left ≡ true → new.is_left ≡ true

-- nothing was put, and the port may be left
pub record Flushes (old : Putting) (new : Putting) : Type 0 where
  pub same : new ≡ record old { is_left = new.is_left }
  pub stays : old.is_left ≡ true → new.is_left ≡ true

-- the next item was taken: a frame, or the end of the frames
pub record TakesItem (old : Taken) (frame : Option (List ℕ)) (new : Taken) : Type 0 where
  pub same : new.ring ≡ old.ring
  pub taken : old.is_over ≡ false → new.items ≡ old.items ++ frame ∷ []
  pub goes_on : old.is_over ≡ false → new.is_over ≡ is_none frame
