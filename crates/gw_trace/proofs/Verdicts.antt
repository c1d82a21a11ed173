-- What is said of a whole trace.
use Rattle.std.proofs.Common.{◌≡◌, ℕ, ◌+◌, ◌*◌, ◌^◌, ◌≤◌, ◌<◌, List, [], ◌∷◌, length, take, drop, Some, None, Result, Ok, Err}
use Rattle.std.proofs.Common.{sym, ap, ◌∙◌, refl, arith}
use Rattle.std.proofs.Math.Nat.{min-eq_left}
use Rattle.std.specs.Option.{option_map_or}
use Rattle.gw_frame.specs.declared.refusal.FrameRefusal.{FrameRefusal}
use Rattle.gw_trace.specs.declared.byte_order.Endian.{Endian}
use Rattle.gw_trace.specs.declared.refusal.TraceRefusal.{TraceRefusal}
use Rattle.gw_trace.specs.declared.refusal.TraceRefusal.TheVariants.{BadRecord, Cut}
use Rattle.gw_trace.specs.Traces.{Contents, contents, Reading, index_of, reading_from, reading_behind, reading, header_of, ending}
use Rattle.gw_trace.specs.Traces.{whole_trace}
use Rattle.gw_trace.proofs.Resuming.{reading_header, reading_records}

abbrev verdict : Reading → Result (List (List ℕ)) TraceRefusal
verdict r = option_map_or Err (ending r.stage r.rest) (Ok r.frames)

-- octets that end within the header
pub header_cut : (octets : List ℕ) → length octets < 24 → whole_trace octets ≡ Err Cut
header_cut octets h = ap verdict (reading_header octets h)

-- octets with a header that is refused
pub header_refused : (octets header : List ℕ) (why : TraceRefusal) → 24 ≤ length octets → header ≡ take 24 octets
    → Err why ≡ header_of header → whole_trace octets ≡ Err why
header_refused octets header why long front h =
    ap verdict (reading_records octets long ∙ ap (λ r. reading_behind r (drop 24 octets)) (sym (h ∙ ap header_of front)))

-- the reading of octets with a good header
behind_header : (octets header rest : List ℕ) (order : Endian) (c : Contents) → 24 ≤ length octets → header ≡ take 24 octets
    → rest ≡ drop 24 octets → Ok order ≡ header_of header → c ≡ contents order rest
    → reading octets ≡ reading_from order 0 c
behind_header octets header rest order c long front back h e =
    reading_records octets long ∙ ap (λ r. reading_behind r (drop 24 octets)) (sym (h ∙ ap header_of front))
    ∙ ap (λ xs. reading_from order 0 (contents order xs)) (sym back) ∙ sym (ap (reading_from order 0) e)

-- octets with a record that is refused
pub record_refused : (octets header rest : List ℕ) (order : Endian) (c : Contents) (why : FrameRefusal) (n : ℕ)
    → 24 ≤ length octets → header ≡ take 24 octets → rest ≡ drop 24 octets → Ok order ≡ header_of header
    → c ≡ contents order rest
    → c.fault ≡ Some why → n ≡ length c.frames → 24 * n < 2 ^ 64 → whole_trace octets ≡ Err (BadRecord n why)
record_refused octets header rest order c why n long front back h e fault count few =
    ap verdict (behind_header octets header rest order c long front back h e)
    ∙ ap (λ f. verdict (reading_from order 0 (record c { fault = f }))) fault
    ∙ ap (λ i. Err (BadRecord i why)) (ap (λ m. index_of (0 + m)) (sym count) ∙ small n few)
  where
    zero_and : (n : ℕ) → 0 + n ≡ n
    zero_and n = omega arith

    within : (n : ℕ) → 24 * n < 2 ^ 64 → n ≤ 18446744073709551615
    within n h = omega arith

    small : (n : ℕ) → 24 * n < 2 ^ 64 → index_of (0 + n) ≡ n
    small n h = ap index_of (zero_and n) ∙ min-eq_left (within n h)

-- without a fault the octets are a trace where nothing is left
pub record_cut : (octets header rest : List ℕ) (order : Endian) (c : Contents) → 24 ≤ length octets → header ≡ take 24 octets
    → rest ≡ drop 24 octets → Ok order ≡ header_of header → c ≡ contents order rest
    → c.fault ≡ None → 0 < length c.rest → whole_trace octets ≡ Err Cut
record_cut octets header rest order c long front back h e sound some =
    ap verdict (behind_header octets header rest order c long front back h e)
    ∙ ap (λ f. verdict (reading_from order 0 (record c { fault = f }))) sound
    ∙ cut c.rest some
  where
    cut : (rest : List ℕ) → 0 < length rest
        → verdict (reading_from order 0 (record { frames = c.frames; rest = rest; fault = None })) ≡ Err Cut
    cut [] some = absurd (omega arith)
    cut (octet ∷ rest) some = refl

-- octets of a whole trace
pub is_whole : (octets header rest : List ℕ) (order : Endian) (c : Contents) → 24 ≤ length octets → header ≡ take 24 octets
    → rest ≡ drop 24 octets → Ok order ≡ header_of header → c ≡ contents order rest
    → c.fault ≡ None → length c.rest ≡ 0 → whole_trace octets ≡ Ok c.frames
is_whole octets header rest order c long front back h e sound none =
    ap verdict (behind_header octets header rest order c long front back h e)
    ∙ ap (λ f. verdict (reading_from order 0 (record c { fault = f }))) sound
    ∙ whole c.rest none
  where
    whole : (rest : List ℕ) → length rest ≡ 0
        → verdict (reading_from order 0 (record { frames = c.frames; rest = rest; fault = None })) ≡ Ok c.frames
    whole [] none = refl
    whole (octet ∷ rest) none = absurd (omega (arith, none))
