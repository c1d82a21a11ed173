-- What is known of a reader or a writer that remembers its calls.
use Rattle.std.specs.Prelude.{ℕ, Bool, not, ◌&&◌, if◌then◌else◌, Option}
use Rattle.std.specs.declared.io.Error.{Error}
use Rattle.gw_io.specs.declared.tried.Tried.{Tried}

-- the reader or writer itself
abbrev pub inner_of : {T : Type 0} → Tried T → T
inner_of t = t.inner

-- a call failed, or a write of at least one octet took nothing
abbrev pub has_failed : {T : Type 0} → Tried T → Bool
has_failed t = t.failed

-- the error by which a call failed last
abbrev pub error_of : {T : Type 0} → Tried T → Option Error
error_of t = t.error

-- a read of at least one octet gave none
abbrev pub has_ended : {T : Type 0} → Tried T → Bool
has_ended t = t.ended

-- how often it was read, up to 4294967295
abbrev pub reads_of : {T : Type 0} → Tried T → ℕ
reads_of t = t.reads

-- how often a reader was read from one state to another, if none of these reads met the end; else 0
abbrev pub unended_reads : {T : Type 0} → Tried T → Tried T → ℕ
unended_reads old new = if has_ended new && not (has_ended old) then 0 else reads_of new
