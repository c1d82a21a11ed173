-- Lines that name records, one after another.
use Rattle.std.proofs.Common.{◌≡◌, ℕ, ◌+◌, ◌<◌, ◌-◌, ◌^◌, ◌||◌, Bool, true, false, not, ◌&&◌, List, [], ◌∷◌, ◌++◌}
use Rattle.std.proofs.Common.{Result, Ok, Err, length, replicate, take, get_or, reverse, flat_map, Option, Some, None, refl, ap}
use Rattle.std.proofs.Common.{sym, ◌∙◌, append_assoc, subst, arith}
use Rattle.std.specs.Prelude.{is_none, is_err, option_map}
use Rattle.std.specs.List.{list_any, position, range_with_len}
use Rattle.std.specs.Option.{option_and_then, option_map_or}
use Rattle.std.specs.Result.{result_ok}
use Rattle.std.specs.Fmt.{AppendsText, char_count, decimal, digits, format_spec, padded_integral, ◌++?◌}
use Rattle.std.proofs.lemmas.Bool.{false≢true, le-ltb, lt-ltb}
use Rattle.std.proofs.lemmas.List.{append-nil, get_or-take, length-take, reverse-append, take_more}
use Rattle.std.proofs.lemmas.List.Elements.{filter_map-append}
use Rattle.std.proofs.lemmas.List.Folds.{list_any_at, list_any_more}
use Rattle.std.proofs.lemmas.List.Sums.{position_or_len_is}
use Rattle.gw_frame.specs.Record.{IsRecord, refusal_of}
use Rattle.gw_claims.specs.Holders.{holder_of}
use Rattle.hex.specs.Hex.{decode_of}
use Rattle.hex.specs.declared.error.FromHexError.{FromHexError}
use Rattle.gw_input.specs.declared.records.RecordFault.{RecordFault}
use Rattle.gw_input.specs.declared.records.RecordFault.TheVariants.{NoDigit, OddDigits, NoRecord}
use Rattle.gw_input.specs.Records.{NamesRecord, IsRecordFault}
use Rattle.gw_commands.specs.ClaimLines.{is_blank, if_record, record_on, heard_on, is_bad, records_on, name_digits, holder_line}
use Rattle.gw_commands.specs.ClaimLines.{line_at}
use Rattle.gw_commands.specs.ClaimLines.{holder_lines}

no_refusal : (octets : List ℕ) → IsRecord octets → refusal_of octets ≡ None
no_refusal octets r =
    let short = le-ltb _ _ r.not_short in
    let long = le-ltb _ _ r.not_long in
    let bad = le-ltb _ _ r.length_fits in
    let cut = le-ltb _ _ r.not_cut in
    rw (short, long, bad, cut) refl

-- an empty line names no record, and is not bad
pub blank_names_none : (line : List ℕ) → is_blank line ≡ true → record_on line ≡ None
blank_names_none line blank = rw blank refl

pub blank_is_good : (line : List ℕ) → is_blank line ≡ true → is_bad line ≡ false
blank_is_good line blank = rw blank refl

-- a line with a record names it, and is not bad
pub names_record : (line octets : List ℕ) → is_blank line ≡ false → NamesRecord line octets → record_on line ≡ Some octets
names_record line octets blank named =
    let valid = no_refusal octets named.valid in
    rw blank (ap (λ read. option_and_then if_record (result_ok read)) named.hex ∙ (rw valid refl))

pub record_is_good : (line octets : List ℕ) → record_on line ≡ Some octets → is_bad line ≡ false
record_is_good line octets named =
    ap (λ known. not (is_blank line) && is_none known) named
    ∙ (elim (not (is_blank line)) as (λ b. (b && false) ≡ false) [ true ↦ refl | false ↦ refl ])

-- a line with a fault is bad
no_record_is_bad : (line : List ℕ) → is_blank line ≡ false → record_on line ≡ None → is_bad line ≡ true
no_record_is_bad line blank none =
    ap (λ known. not (is_blank line) && is_none known) none ∙ ap (λ b. not b && true) blank

none_of_error : (read : Result (List ℕ) FromHexError) → is_err read ≡ true → option_and_then if_record (result_ok read) ≡ None
none_of_error (Ok octets) failed = absurd (false≢true failed)
none_of_error (Err e) failed = refl

pub fault_is_bad : (line : List ℕ) (fault : RecordFault) → is_blank line ≡ false → IsRecordFault line fault → is_bad line ≡ true
fault_is_bad line (NoDigit at octet) blank fault =
    let none : record_on line ≡ None = rw blank (none_of_error (decode_of line) fault.0) in
    no_record_is_bad line blank none
fault_is_bad line (OddDigits digits) blank fault =
    let none : record_on line ≡ None = rw blank (ap (λ known. option_and_then if_record (result_ok known)) fault.0) in
    no_record_is_bad line blank none
fault_is_bad line (NoRecord why) blank fault =
    let refused = fault.2 in
    let none : record_on line ≡ None = rw blank (ap (λ known. option_and_then if_record (result_ok known)) fault.1
    ∙ (rw refused refl)) in
    no_record_is_bad line blank none

-- what was heard, with one line more
pub heard_more : (lines : List (List ℕ)) (n : ℕ) (line : List ℕ) → n < length lines → line ≡ get_or lines n line
    → heard_on line (reverse (records_on (take n lines))) ≡ reverse (records_on (take (n + 1) lines))
heard_more lines n line within at =
    sym (
    ap (λ known. reverse (records_on known)) (take_more lines n line within)
    ∙ ap reverse (filter_map-append record_on (take n lines) (get_or lines n line ∷ []))
    ∙ ap (λ known. reverse (records_on (take n lines) ++ records_on (known ∷ []))) (sym at) ∙ go (record_on line) refl
    )
  where
    go : (named : Option (List ℕ)) → record_on line ≡ named
        → reverse (records_on (take n lines) ++ records_on (line ∷ [])) ≡ heard_on line (reverse (records_on (take n lines)))
    go None is = rw is (ap reverse (append-nil (records_on (take n lines))))
    go (Some octets) is = rw is (reverse-append (records_on (take n lines)) (octets ∷ []))

pub good_more : (lines : List (List ℕ)) (n : ℕ) (line : List ℕ) → n < length lines → line ≡ get_or lines n line
    → list_any is_bad (take n lines) ≡ false
    → is_bad line ≡ false → list_any is_bad (take (n + 1) lines) ≡ false
good_more lines n line within at before good =
    list_any_more is_bad lines n line within ∙ ap (λ known. list_any is_bad (take n lines) || is_bad known) (sym at)
    ∙ ap (λ b. b || is_bad line) before ∙ good

none_at : {X : Type 0} (p : X → Bool) (xs : List X) (k : ℕ) (d : X) → k < length xs → list_any p xs ≡ false
    → p (get_or xs k d) ≡ false
none_at p xs k d within none = go (p (get_or xs k d)) refl
  where
    go : (b : Bool) → p (get_or xs k d) ≡ b → b ≡ false
    go false same = refl
    go true same = absurd (false≢true (sym none ∙ list_any_at p xs k d within same))

-- the line at a place is the first bad one
pub first_bad : (lines : List (List ℕ)) (n : ℕ) (line : List ℕ) → n < length lines → line ≡ get_or lines n line
    → list_any is_bad (take n lines) ≡ false
    → is_bad line ≡ true → position is_bad lines ≡ Some n
first_bad lines n line within at before bad =
    let first = position_or_len_is is_bad lines n line (omega arith)
    (λ k below. ap is_bad (sym (get_or-take n lines k line below))
    ∙ none_at is_bad (take n lines) k line (omega (arith, length-take {A = List ℕ})) before) (λ _. ap is_bad (sym at) ∙ bad) in
    let inside = lt-ltb n (length lines) within in
    rw (first, inside) refl

-- the 16 digits of a NAME, as they are printed
name_printed : (n : ℕ) → padded_integral (format_spec 32 0 4 16 (2 ^ 64 - 1)) false [] (digits 16 false n) ≡ name_digits n
unfolding padded_integral char_count
name_printed n =
    let d = digits 16 false n in
    let zeros : 16 - length d - 0 - 0 ≡ 16 - length d = omega arith in
    ap (λ count. replicate count 48 ++ (d ++ [])) zeros ∙ ap (λ printed. replicate (16 - length d) 48 ++ printed) (append-nil d)

pub name_styled : (shown : Option (List ℕ)) (n : ℕ) → shown ≡ Some (digits 16 false n)
    → option_map (padded_integral (format_spec 32 0 4 16 (2 ^ 64 - 1)) false []) shown ≡ Some (name_digits n)
name_styled shown n is = ap (option_map (padded_integral (format_spec 32 0 4 16 (2 ^ 64 - 1)) false [])) is
    ∙ ap Some (name_printed n)

pub holder_printed : (before after : List ℕ) (address name : ℕ) (printed : Option (List ℕ)) → printed ≡ Some (name_digits name)
    → AppendsText before after (Some (decimal address) ++? (Some (32 ∷ []) ++? (printed ++? Some (10 ∷ []))))
    → after ≡ before ++ holder_line address name
holder_printed before after address name printed is text =
    let P : Option (List ℕ) → Type 0 =
    λ o. AppendsText before after (Some (decimal address) ++? (Some (32 ∷ []) ++? (o ++? Some (10 ∷ [])))) in
    let known : after ≡ before ++ (decimal address ++ (32 ∷ (name_digits name ++ 10 ∷ []))) = subst P is text in
    known ∙ ap (λ line. before ++ line) (sym (append_assoc (decimal address) (32 ∷ name_digits name) (10 ∷ [])))

pub lines_done : (table : List (Option ℕ)) (n : ℕ) (text : List ℕ) → n ≡ 254
    → text ≡ flat_map (line_at table) (range_with_len 0 n) → text ≡ holder_lines table
unfolding holder_lines
lines_done table n text all same = same ∙ ap (λ m. flat_map (line_at table) (range_with_len 0 m)) all

-- the line of an address: that of its holder, or nothing
pub line_held : (table : List (Option ℕ)) (n name : ℕ) (held : Option ℕ) → held ≡ holder_of table n → held ≡ Some name
    → line_at table n ≡ holder_line n name
line_held table n name held holder is = ap (λ o. option_map_or (holder_line n) o []) (sym holder ∙ is)

pub line_free : (table : List (Option ℕ)) (n : ℕ) (held : Option ℕ) → held ≡ holder_of table n → held ≡ None
    → line_at table n ≡ []
line_free table n held holder is = ap (λ o. option_map_or (holder_line n) o []) (sym holder ∙ is)
