-- The causes of a refusal: their numbers, and their order.
use Rattle.std.specs.Prelude.{ℕ}
use Rattle.gw_verify.specs.declared.cause.Cause.{Cause}
use Rattle.gw_verify.specs.declared.cause.Cause.TheVariants.{Empty, TooLong, UnknownCode, DivideByZero, ShiftTooFar, NoSuchWord}
use Rattle.gw_verify.specs.declared.cause.Cause.TheVariants.{JumpOut, Ancillary, NoReturnAtEnd, UnsetWord, OutOfMemory}

-- the number that a cause has for users
abbrev pub cause_number : Cause → ℕ
cause_number Empty = 20
cause_number TooLong = 21
cause_number UnknownCode = 22
cause_number DivideByZero = 23
cause_number ShiftTooFar = 24
cause_number NoSuchWord = 25
cause_number JumpOut = 26
cause_number Ancillary = 27
cause_number NoReturnAtEnd = 28
cause_number (UnsetWord word) = 29
cause_number OutOfMemory = 30

-- the order of the causes: those that an instruction has by itself share a rank, and come by their places
abbrev pub rank : Cause → ℕ
rank Empty = 0
rank TooLong = 1
rank UnknownCode = 2
rank DivideByZero = 2
rank ShiftTooFar = 2
rank NoSuchWord = 2
rank JumpOut = 2
rank Ancillary = 2
rank NoReturnAtEnd = 3
rank (UnsetWord word) = 4
rank OutOfMemory = 5
