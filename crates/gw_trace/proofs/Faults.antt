-- A fault of octets is of a header or of a record: neither memory nor a reader is one.
use Rattle.std.proofs.Common.{◌≡◌, ◌≢◌, ℕ, ◌+◌, Bool, true, false, not, cond, List, [], ◌∷◌, length, take, drop, Option}
use Rattle.std.proofs.Common.{Some, None, Result, Ok, Err, sym, ap, ◌∙◌, subst, refl}
use Rattle.std.specs.Io.KnownBytes.{Consumes, IsAtEnd}
use Rattle.std.specs.Option.{option_map_or}
use Rattle.gw_trace.specs.declared.byte_order.Endian.{Endian}
use Rattle.gw_trace.specs.declared.stage.Stage.{Stage}
use Rattle.gw_trace.specs.declared.stage.Stage.TheVariants.{Header, Records, Failed}
use Rattle.gw_trace.specs.declared.refusal.TraceRefusal.{TraceRefusal}
use Rattle.gw_trace.specs.declared.refusal.TraceRefusal.TheVariants.{BadMagic, BadVersion, BadLink, BadRecord, OutOfMemory, Cut}
use Rattle.gw_trace.specs.declared.refusal.TraceRefusal.TheVariants.{ReadFault}
use Rattle.gw_trace.specs.Traces.{Contents, contents, index_of, reading_from, reading_behind, reading, header_in, header_of}
use Rattle.gw_trace.specs.Traces.{is_version_2_4, is_link_227, order_of, ending}
use Rattle.gw_trace.specs.FaultKinds.{IsFault, IsHeaderFault}
use Rattle.gw_trace.specs.Progress.{IsNoTrace, IsUnread}
use Rattle.gw_trace.proofs.Resuming.{reading_header, reading_records, by_test}

-- a header has a fault of its own
pub header_faults : (header : List ℕ) (r : Result Endian TraceRefusal) (fault : TraceRefusal) → header_of header ≡ r
    → r ≡ Err fault → IsHeaderFault fault
unfolding header_of
header_faults header r fault e h = behind_magic (order_of header) (e ∙ h)
  where
    failed_with : (met : TraceRefusal) → IsHeaderFault met → ◌≡◌ {A = Result Endian TraceRefusal} (Err met) (Err fault)
        → IsHeaderFault fault
    failed_with met is same = let one : met ≡ fault = cc in subst IsHeaderFault one is

    is_fine : (order : Endian) → ◌≡◌ {A = Result Endian TraceRefusal} (Ok order) (Err fault) → ⊥
    is_fine order h = cc

    behind_version : (order : Endian) (version link : Bool)
        → cond (not version) (Err BadVersion) (cond (not link) (Err BadLink) (Ok order)) ≡ Err fault → IsHeaderFault fault
    behind_version order false link h = failed_with BadVersion tt h
    behind_version order true false h = failed_with BadLink tt h
    behind_version order true true h = absurd (is_fine order h)

    behind_magic : (order : Option Endian) → header_in header order ≡ Err fault → IsHeaderFault fault
    behind_magic None h = failed_with BadMagic tt h
    behind_magic (Some order) h = behind_version order (is_version_2_4 order header) (is_link_227 order header) h

-- which is one of octets
of_header : (fault : TraceRefusal) → IsHeaderFault fault → IsFault fault
of_header BadMagic kind = tt
of_header BadVersion kind = tt
of_header BadLink kind = tt
of_header (BadRecord index why) kind = absurd kind
of_header OutOfMemory kind = absurd kind
of_header Cut kind = absurd kind
of_header ReadFault kind = absurd kind

-- a fault that shows in a reading is of the octets
pub reading_faults : (octets : List ℕ) (fault : TraceRefusal) → (reading octets).stage ≡ Failed fault → IsFault fault
reading_faults octets fault h =
    by_test (IsFault fault) (length octets) 24
    (λ short. absurd (in_header (sym (ap (λ r. r.stage) (reading_header octets short)) ∙ h)))
    (λ long. behind (header_of (take 24 octets)) refl (sym (ap (λ r. r.stage) (reading_records octets long)) ∙ h))
  where
    in_header : Header ≡ Failed fault → ⊥
    in_header h = cc

    among : (order : Endian) → Records order ≡ Failed fault → ⊥
    among order h = cc

    failed_with : (met : TraceRefusal) → IsFault met → Failed met ≡ Failed fault → IsFault fault
    failed_with met is same = let one : met ≡ fault = cc in subst IsFault one is

    in_records : (order : Endian) (c : Contents) → (reading_from order 0 c).stage ≡ Failed fault → IsFault fault
    in_records order c h = elim c.fault as (λ f. option_map_or (λ why. Failed (BadRecord (index_of (0 + length c.frames)) why))
        f (Records order) ≡ Failed fault → IsFault fault) [
          | None ↦ λ e. absurd (among order e)
          | Some why ↦ λ e. failed_with (BadRecord (index_of (0 + length c.frames)) why) tt e
        ] h

    behind : (r : Result Endian TraceRefusal) → header_of (take 24 octets) ≡ r
        → (reading_behind r (drop 24 octets)).stage ≡ Failed fault → IsFault fault
    behind (Err met) e h = failed_with met (of_header met (header_faults (take 24 octets) (Err met) met e refl)) h
    behind (Ok order) e h = in_records order (contents order (drop 24 octets)) h

-- want of memory is no fault of octets
pub no_memory_fault : (octets : List ℕ) → (reading octets).stage ≡ Failed OutOfMemory → ⊥
no_memory_fault octets h = reading_faults octets OutOfMemory h

-- what is wrong with a whole trace is no failed read
pub ending_is : (stage : Stage) (rest : List ℕ) (fault : TraceRefusal) → ((met : TraceRefusal) → stage ≡ Failed met → IsFault met)
    → Some fault ≡ ending stage rest → fault ≢ ReadFault
ending_is Header rest fault faults h k = let same : Some ReadFault ≡ Some Cut = sym (ap Some k) ∙ h in absurd (cc)
ending_is (Records order) [] fault faults h k = absurd (cc)
ending_is (Records order) (octet ∷ rest) fault faults h k =
    let same : Some ReadFault ≡ Some Cut = sym (ap Some k) ∙ h in absurd (cc)
ending_is (Failed met) rest fault faults h k = faults ReadFault (let same : met ≡ ReadFault = cc in ap Failed same)

unread : (before after : Option (List ℕ)) (failed : Bool) (reads : ℕ) (fault : TraceRefusal) → IsNoTrace before after fault
    → fault ≢ ReadFault → IsUnread before after failed reads fault
unread before after failed reads BadMagic none other = none
unread before after failed reads BadVersion none other = none
unread before after failed reads BadLink none other = none
unread before after failed reads (BadRecord index why) none other = none
unread before after failed reads OutOfMemory none other = tt
unread before after failed reads Cut none other = none
unread before after failed reads ReadFault none other = absurd (other refl)

-- a trace that a reader gave to its end is refused by what the octets end with
pub trace_is_unread : (before after : Option (List ℕ)) (failed : Bool) (reads : ℕ) (fault : TraceRefusal) (octets : List ℕ)
    → Consumes before after octets → IsAtEnd after
    → Some fault ≡ ending (reading octets).stage (reading octets).rest → IsUnread before after failed reads fault
trace_is_unread before after failed reads fault octets consumed end h =
    unread before after failed reads fault
    (record {
      octets = octets;
      consumed = consumed;
      end = end;
      refused = ap (λ e. option_map_or Err e (Ok (reading octets).frames)) (sym h);
    })
    (ending_is (reading octets).stage (reading octets).rest fault (reading_faults octets) h)
