-- What the code reads of the texts of a script's commands is what a script tells of them, and this is one thing.
use Rattle.std.proofs.Common.{ℕ, ◌≡◌, ◌≢◌, ◌+◌, ◌<◌, ◌≤◌, ◌⊎◌, inl, inr, Bool, true, false, List, [], ◌∷◌, length}
use Rattle.std.proofs.Common.{map, Option, Some, None, Result, Ok, Err, refl, subst, sym, ap, ◌∙◌, arith}
use Rattle.std.specs.Prelude.{nat_le, is_err, if◌then◌else◌}
use Rattle.std.specs.Str.{IsUtf8, is_utf8}
use Rattle.std.proofs.lemmas.Str.{IsUtf8-from_is_utf8, is_utf8-from_IsUtf8}
use Rattle.std.specs.Option.{option_map_or}
use Rattle.std.proofs.lemmas.Bool.{false≢true, le-ltb}
use Rattle.std.proofs.lemmas.Bool.Decides.{nat_tests}
use Rattle.hex.specs.Hex.{decode_of}
use Rattle.hex.specs.declared.error.FromHexError.{FromHexError}
use Rattle.toml.specs.Data.{Data, Members}
use Rattle.toml.specs.Parse.{parse_document}
use Rattle.gw_frame.specs.Record as frame
use Rattle.gw_frame.specs.Record.{IsRecord, payload_length, refusal_of}
use Rattle.gw_insn.specs.declared.insn.Insn.{Insn}
use Rattle.gw_insn.specs.declared.reading.ListRefusal.{ListRefusal}
use Rattle.gw_insn.specs.Table.{insn_of}
use Rattle.gw_insn.specs.Listing.{refusal_number}
use Rattle.gw_insn.proofs.Callers.{listing_alone, only_memory}
use Rattle.gw_verify.specs.declared.cause.Cause.{Cause}
use Rattle.gw_verify.specs.declared.cause.Cause.TheVariants as cause
use Rattle.gw_verify.specs.Cause.{cause_number}
use Rattle.gw_verify.specs.Flow.{Forms, forms_of}
use Rattle.gw_verify.specs.Accepted.{IsAccepted, IsRefusal}
use Rattle.gw_table.specs.Table.{Meaning}
use Rattle.gw_table.specs.TableText as text
use Rattle.gw_table.specs.declared.table.Part.{Part}
use Rattle.gw_table.specs.declared.refusal.KeyLocation.{KeyLocation}
use Rattle.gw_table.specs.declared.refusal.ActionFault.{ActionFault}
use Rattle.gw_table.specs.declared.refusal.Field.{Field}
use Rattle.gw_table.specs.declared.refusal.RangeFault.{RangeFault}
use Rattle.gw_table.specs.declared.refusal.TableRefusal.{TableRefusal}
use Rattle.gw_table.specs.declared.refusal.TableRefusal.TheVariants as table
use Rattle.gw_policy.specs.Filter.{Filter}
use Rattle.gw_replay.specs.declared.fault.Fault.{Fault}
use Rattle.gw_replay.specs.declared.fault.Fault.TheVariants.{Listing, Program, NoHex, NoUtf8, Table}
use Rattle.gw_input.specs.declared.records.RecordFault.{RecordFault}
use Rattle.gw_input.specs.declared.records.RecordFault.TheVariants.{NoDigit, OddDigits, NoRecord}
use Rattle.gw_input.specs.Refused.{listing_details, cause_details, table_details, refused_line}
use Rattle.gw_input.specs.Programs.{IsProgramPolicy}
use Rattle.gw_replay.specs.Faults.{line_of}
use Rattle.gw_replay.specs.Policies.{IsProgramText, IsTableRead, IsTableHex}
use Rattle.gw_input.specs.Records.{IsRecordText, record_number}
use Rattle.gw_replay.specs.Telling.{TellsListing, TellsCode, TellsProgram, Found, judged, found_in, found_of, table_found}
use Rattle.gw_replay.specs.Telling.{told_found, told_octets, table_told, spelled_record, record_told}
use Rattle.gw_replay.proofs.OneListing.{list_refusal_alone}

-- code has one refusal at most
abbrev pub OneRefusal : Type 0
OneRefusal = (forms : Forms) (cause other : Cause) (i j : ℕ) → IsRefusal forms cause i → IsRefusal forms other j
    → (cause ≡ other) × (i ≡ j)

-- what was read of a policy's text, as far as a script tells it: the policy, or the line of the refusal
abbrev pub told_policy : Result Filter Fault → Result Filter (List ℕ)
told_policy (Ok filter) = Ok filter
told_policy (Err why) = Err (line_of (Err why))

-- programs

-- instructions are the same where their decodings are
some_alone : (xs ys : List Insn) → map Some xs ≡ map Some ys → xs ≡ ys
some_alone [] [] e = refl
some_alone [] (y ∷ ys) e = cc
some_alone (x ∷ xs) [] e = cc
some_alone (x ∷ xs) (y ∷ ys) e =
    let both : Some x ∷ map Some xs ≡ Some y ∷ map Some ys = e in
    let tails : map Some xs ≡ map Some ys = cc in
    let rest : xs ≡ ys = some_alone xs ys tails in
    cc

-- two policies of one code and one table are one
same_filter : (f g : Filter) → f.code ≡ g.code → f.table ≡ g.table → f ≡ g
same_filter f g codes tables = λ i. record { code = codes i; table = tables i }

-- where a text is the listing of accepted code, each reading of it is that policy
accepted_with : OneRefusal → (listing : List ℕ) (f : Filter) (read : Result Filter (List ℕ)) → IsProgramPolicy listing f
    → TellsProgram listing read → Ok f ≡ read
accepted_with law listing f (Ok g) p q =
    let code : p.named.code ≡ q.named.code = listing_alone p.named.listed q.named.listed in
    let same : map Some f.code ≡ map Some g.code =
    p.named.decoded ∙ ap (λ c. map insn_of c) code ∙ sym q.named.decoded in
    ap (λ (h : Filter). Ok h) (same_filter f g (some_alone f.code g.code same) (p.plain ∙ sym q.plain))
accepted_with law listing f (Err line) p (inl q) = absurd (q.known (only_memory q.why q.refusal p.named.listed))
accepted_with law listing f (Err line) p (inr q) =
    let code : p.named.code ≡ q.code = listing_alone p.named.listed q.listed in
    let accepted : IsAccepted (forms_of q.code) = subst (λ c. IsAccepted (forms_of c)) code p.named.accepted in
    absurd (q.known (law (forms_of q.code) q.why cause.OutOfMemory q.place 0 q.refusal (accepted, refl)).0)

-- a text meets one refusal, as far as its line tells it
one_line : OneRefusal → (listing line other : List ℕ) → TellsListing listing line ⊎ TellsCode listing line
    → TellsListing listing other ⊎ TellsCode listing other → line ≡ other
one_line law listing line other (inl p) (inl q) =
    p.told ∙ ap (λ (w : ListRefusal). refused_line (refusal_number w) (listing_details w))
    (list_refusal_alone listing p.why q.why p.refusal q.refusal p.known q.known) ∙ sym q.told
one_line law listing line other (inl p) (inr q) = absurd (p.known (only_memory p.why p.refusal q.listed))
one_line law listing line other (inr p) (inl q) = absurd (q.known (only_memory q.why q.refusal p.listed))
one_line law listing line other (inr p) (inr q) =
    let code : p.code ≡ q.code = listing_alone p.listed q.listed in
    let both : (p.why ≡ q.why) × (p.place ≡ q.place) =
    law (forms_of q.code) p.why q.why p.place q.place (subst (λ c. IsRefusal (forms_of c) p.why p.place) code p.refusal)
    q.refusal in
    p.told ∙ (λ i. refused_line (cause_number (both.0 i)) (cause_details (both.0 i) (both.1 i))) ∙ sym q.told

-- a program's text is read in one way
pub program_alone : OneRefusal → (listing : List ℕ) (read other : Result Filter (List ℕ)) → TellsProgram listing read
    → TellsProgram listing other → read ≡ other
program_alone law listing (Ok f) other p q = accepted_with law listing f other p q
program_alone law listing (Err line) (Ok g) p q = sym (accepted_with law listing g (Err line) q p)
program_alone law listing (Err line) (Err other) p q = ap (λ (l : List ℕ). Err l) (one_line law listing line other p q)

-- what the code reads of it is told
pub program_tells : (listing : List ℕ) (read : Result Filter Fault) → IsProgramText listing read
    → TellsProgram listing (told_policy read)
program_tells listing (Ok policy) h = h
program_tells listing (Err (Listing why)) h = inl (record { why = why; refusal = h.0; known = h.1; told = refl })
program_tells listing (Err (Program refused)) h = inr (record {
  code = refused.code.items;
  why = refused.why;
  place = refused.place;
  listed = h.0;
  refusal = h.1;
  known = h.2;
  told = refl;
})
program_tells listing _ h = absurd h

-- tables

-- a document with an unknown key is refused by it
by_keys : (document : Members) (rules : List Data) (key : KeyLocation × List ℕ) → text.unknown_key document rules ≡ Some key
    → found_in document (Some rules) ≡ Err (51, [])
by_keys document rules key keys = λ i.
    judged (keys i) (text.bad_action document rules) (text.bad_range rules) (nat_le (length rules) 256)
    (text.meaning_in document rules)

-- one of known keys with a bad action is refused by that
by_actions : (document : Members) (rules : List Data) (action : Part × ActionFault)
    → text.unknown_key document rules ≡ None → text.bad_action document rules ≡ Some action
    → found_in document (Some rules) ≡ Err (52, [])
by_actions document rules action keys actions = λ i.
    judged (keys i) (actions i) (text.bad_range rules) (nat_le (length rules) 256) (text.meaning_in document rules)

-- and otherwise its ranges decide, and then the number of its rules
by_ranges : (document : Members) (rules : List Data) (range : Option (ℕ × (Field × RangeFault))) (few : Bool)
    → text.unknown_key document rules ≡ None → text.bad_action document rules ≡ None → text.bad_range rules ≡ range
    → nat_le (length rules) 256 ≡ few
    → found_in document (Some rules) ≡ judged None None range few (text.meaning_in document rules)
by_ranges document rules range few keys actions ranges fits = λ i.
    judged (keys i) (actions i) (ranges i) (fits i) (text.meaning_in document rules)

-- a document with a meaning is found to mean that
document_says : (document : Members) (meaning : Meaning) → text.IsDocument document meaning → found_of document ≡ Ok meaning
document_says document meaning h =
    let faultless = h.2 in
    let fits : length h.0 ≤ 256 = faultless.few in
    let few : nat_le (length h.0) 256 ≡ true = grind (arith, nat_tests) in
    ap (found_in document) h.1
    ∙ by_ranges document h.0 None true faultless.keys faultless.actions faultless.ranges few
    ∙ ap (judged None None None true) (sym h.3)

-- the number of a refusal, with what stands behind it
abbrev told_refusal : TableRefusal → ℕ × List ℕ
told_refusal why = (text.refusal_number why, table_details why)

-- and a document that is refused is found to be refused so
document_refused : (document : Members) (why : TableRefusal) → text.IsDocumentRefusal document why → why ≢ table.OutOfMemory
    → found_of document ≡ Err (told_refusal why)
document_refused document table.OutOfMemory h known = absurd (known refl)
document_refused document (table.BadToml error) h known = absurd h.2
document_refused document table.NoRuleTables h known = ap (found_in document) h
document_refused document (table.UnknownKey place key) h known = ap (found_in document) h.1 ∙ by_keys document h.0 _ h.2
document_refused document (table.BadAction of why) h known =
    ap (found_in document) h.1 ∙ by_actions document h.0 (of, why) h.2.0 h.2.1
document_refused document (table.BadRange rule field why) h known =
    ap (found_in document) h.1
    ∙ by_ranges document h.0 (Some (rule, (field, why))) (nat_le (length h.0) 256) h.2.0 h.2.1 h.2.2 refl
document_refused document (table.TooManyRules rules) h known =
    let many : 256 < length h.0 = h.2.3 in
    let few : nat_le (length h.0) 256 ≡ false = grind (arith, nat_tests) in
    ap (found_in document) h.1 ∙ by_ranges document h.0 None false h.2.0 h.2.1 h.2.2 few

-- octets of a document in UTF-8, of one that is none, and of no UTF-8
found_document : (octets : List ℕ) (document : Members) → IsUtf8 octets → parse_document octets ≡ Some document
    → table_found octets ≡ found_of document
found_document octets document utf8 parsed =
    ap (λ (b : Bool). if b then option_map_or found_of (parse_document octets) (Err (50, [])) else Err (50, []))
    (is_utf8-from_IsUtf8 octets utf8)
    ∙ ap (λ (d : Option Members). option_map_or found_of d (Err (50, []))) parsed

no_document : (octets : List ℕ) → parse_document octets ≡ None → table_found octets ≡ Err (50, [])
no_document octets none =
    ap (λ (d : Option Members). if is_utf8 octets then option_map_or found_of d (Err (50, [])) else Err (50, [])) none
    ∙ alike (is_utf8 octets) (Err (50, []))
  where
    alike : (b : Bool) (found : Found) → (if b then found else found) ≡ found
    alike true found = refl
    alike false found = refl

no_text : (octets : List ℕ) → (IsUtf8 octets → ⊥) → table_found octets ≡ Err (50, [])
no_text octets none = go (is_utf8 octets) refl
  where
    go : (b : Bool) → is_utf8 octets ≡ b
        → (if b then option_map_or found_of (parse_document octets) (Err (50, [])) else Err (50, [])) ≡ Err (50, [])
    go true is = absurd (none (IsUtf8-from_is_utf8 octets is))
    go false is = refl

-- a refusal of octets is found
refused_octets : (octets : List ℕ) (why : TableRefusal) → IsUtf8 octets → text.IsTableRefusal octets why
    → why ≢ table.OutOfMemory → table_found octets ≡ Err (told_refusal why)
refused_octets octets table.OutOfMemory utf8 h known = absurd (known refl)
refused_octets octets (table.BadToml e) utf8 h known = no_document octets h
refused_octets octets why utf8 h known = found_document octets h.0 utf8 h.1 ∙ document_refused h.0 why h.2 known

-- what the code reads of octets is told
octets_told : (octets : List ℕ) (read : Result Filter Fault) → IsTableRead octets read
    → told_policy read ≡ told_found (table_found octets)
octets_told octets (Ok f) h =
    let document = h.table.text in
    ap (λ (g : Filter). Ok g) h.compiled
    ∙ sym (ap told_found (found_document octets document.0 h.table.utf8 document.1
    ∙ document_says document.0 h.meaning document.2))
octets_told octets (Err NoUtf8) h = sym (ap told_found (no_text octets h))
octets_told octets (Err (Table why)) h = sym (ap told_found (refused_octets octets why h.0 h.1 h.2))
octets_told octets _ h = absurd h

-- digits that spell no octets are told by 97
unspelled_table : (read : Result (List ℕ) FromHexError) → is_err read ≡ true → told_octets read ≡ Err (refused_line 97 [])
unspelled_table (Ok octets) e = absurd (false≢true e)
unspelled_table (Err why) e = refl

-- and what it reads of digits
pub hex_told : (hex : List ℕ) (read : Result Filter Fault) → IsTableHex hex read → told_policy read ≡ table_told hex
hex_told hex (Err NoHex) h = sym (unspelled_table (decode_of hex) h)
hex_told hex read h = octets_told h.0 read h.2 ∙ sym (ap told_octets h.1)

-- records

-- what was read of a record's text, as far as a script tells it: the octets, or the number of the fault
abbrev pub told_record : Result (List ℕ) RecordFault → Result (List ℕ) ℕ
told_record (Ok octets) = Ok octets
told_record (Err why) = Err (record_number why)

-- a record has no refusal
no_refusal : (octets : List ℕ) → IsRecord octets → refusal_of octets ≡ None
no_refusal octets r =
    let long_enough = le-ltb (length octets) 8 r.not_short in
    let short_enough = le-ltb 16 (length octets) r.not_long in
    let fits = le-ltb 8 (payload_length octets) r.length_fits in
    let whole = le-ltb (length octets) (8 + payload_length octets) r.not_cut in
    rw (long_enough, short_enough, fits, whole) refl

-- digits that spell no octets are told by 97
unspelled : (read : Result (List ℕ) FromHexError) → is_err read ≡ true → spelled_record read ≡ Err 97
unspelled (Ok octets) e = absurd (false≢true e)
unspelled (Err why) e = refl

-- what the code reads of a record's text is what its digits spell
pub record_spelled : (hex : List ℕ) (read : Result (List ℕ) RecordFault) → IsRecordText hex read
    → told_record read ≡ record_told hex
record_spelled hex (Ok octets) h = sym (ap spelled_record h.hex
    ∙ ap (λ o. option_map_or (λ why. Err (frame.refusal_number why)) o (Ok octets)) (no_refusal octets h.valid))
record_spelled hex (Err (NoDigit at octet)) h = sym (unspelled (decode_of hex) h.0)
record_spelled hex (Err (OddDigits digits)) h = sym (ap spelled_record h.0)
record_spelled hex (Err (NoRecord why)) h = sym (ap spelled_record h.1
    ∙ ap (λ o. option_map_or (λ w. Err (frame.refusal_number w)) o (Ok h.0)) h.2)
