-- Calls that took or gave nothing.
use Rattle.std.specs.Prelude.{ℕ, Bool, true, false, ◌&&◌, ◌==◌, nat_lt, List, length, Option, Some, Result, Ok, Err}

-- a write that failed: an error, or nothing taken of at least one octet
abbrev pub took_nothing : {E : Type 0} → Result ℕ E → List ℕ → Bool
took_nothing (Ok n) octets = (n == 0) && nat_lt 0 (length octets)
took_nothing (Err e) octets = true

-- the error of the last call that failed, after one call more
abbrev pub last_error : {A E : Type 0} → Option E → Result A E → Option E
last_error before (Ok gave) = before
last_error before (Err e) = Some e

-- a read that met the end: it gave none of at least one octet
abbrev pub gave_nothing : {E : Type 0} → Result ℕ E → ℕ → Bool
gave_nothing (Ok n) asked = (n == 0) && nat_lt 0 asked
gave_nothing (Err e) asked = false
