-- Records one behind another, as more octets come.
use Rattle.std.proofs.Common.{◌≡◌, ℕ, ◌+◌, ◌-◌, ◌≤◌, ◌<◌, nat_lt, min, List, [], ◌∷◌, ◌++◌, length, map, take, drop, Option}
use Rattle.std.proofs.Common.{inl, inr, Result, Ok, Err, sym, ap, ◌∙◌, subst, refl, arith, append-nil, append_assoc}
use Rattle.std.proofs.Common.{length-append}
use Rattle.std.proofs.Common.{length-take, length-drop}
use Rattle.std.proofs.lemmas.Bool.Decides.{nat_tests}
use Rattle.std.proofs.lemmas.List.{take_all, drop_all, take-append-drop, take-append-le, drop-append-le, map-append}
use Rattle.std.proofs.lemmas.List.{flat_map_more}
use Rattle.std.proofs.lemmas.List.Elements.{All-append, All-cons, All-nil}
use Rattle.std.specs.List.{flat_map}
use Rattle.std.specs.Prelude.{IfOk, if◌then◌else◌}
use Rattle.std.specs.Result.{result_err}
use Rattle.gw_frame.specs.declared.refusal.FrameRefusal.{FrameRefusal}
use Rattle.gw_frame.specs.Record.{IsRecord, refusal_of}
use Rattle.gw_trace.specs.declared.byte_order.Endian.{Endian}
use Rattle.gw_trace.specs.declared.record.Beginning.{Beginning}
use Rattle.gw_trace.specs.declared.record.Beginning.TheVariants.{Bad, Whole}
use Rattle.gw_trace.specs.Traces.{beginning, begun, captured, captured_length, header_of, index_of}
use Rattle.gw_trace.specs.declared.refusal.TraceRefusal.{TraceRefusal}
use Rattle.gw_trace.specs.declared.refusal.TraceRefusal.TheVariants.{BadMagic, BadVersion, BadLink, BadRecord, OutOfMemory, Cut}
use Rattle.gw_trace.specs.declared.refusal.TraceRefusal.TheVariants.{ReadFault}
use Rattle.gw_trace.specs.declared.stage.Stage.{Stage}
use Rattle.gw_trace.specs.declared.stage.Stage.TheVariants.{Header, Records, Failed}
use Rattle.gw_trace.specs.FaultKinds.{IsHeaderFault}
use Rattle.gw_trace.specs.Recorded.{AreParted, Begun, Ends, HasBadHeader, HasRecords, HasSoFar, IsCut, IsCutBad, IsPart, IsReadIn}
use Rattle.gw_trace.specs.Recorded.{IsReadTo}
use Rattle.gw_trace.specs.Recorded.{at_bad_header, in_records, wanted}
use Rattle.gw_trace.specs.Recorded.{IsWholeRecord, frame_of}
use Rattle.gw_trace.proofs.Beginnings.{field_on, whole_of}
use Rattle.gw_trace.proofs.Contents.{by_beginning}
use Rattle.gw_trace.proofs.Faults.{header_faults}
use Rattle.gw_trace.proofs.Resuming.{by_test}

-- the captured length stands in the first 32 octets
pub captured_front : (order : Endian) (xs : List ℕ) → 16 ≤ length xs
    → captured_length order (take 32 xs) ≡ captured_length order xs
captured_front order xs h =
    sym (field_on order 8 4 (take 32 xs) (drop 32 xs) (rw (length-take 32 xs) (in_front (length xs) h)))
    ∙ ap (captured_length order) (take-append-drop 32 xs)
  where
    in_front : (n : ℕ) → 16 ≤ n → 8 + 4 ≤ min 32 n
    in_front n h = grind (arith, nat_tests)

-- more octets behind the first 32
pub front_on : (xs ys : List ℕ) → take 32 (take 32 xs ++ ys) ≡ take 32 (xs ++ ys)
front_on xs ys =
    by_test (take 32 (take 32 xs ++ ys) ≡ take 32 (xs ++ ys)) (length xs) 32
    (λ short. ap (λ zs. take 32 (zs ++ ys)) (take_all 32 xs (omega arith)))
    (λ long. rw (take-append-le 32 (take 32 xs) ys (rw (length-take 32 xs) (all (length xs) long)), take-append-le 32 xs ys long)
    (take_all 32 (take 32 xs) (rw (length-take 32 xs) (few (length xs)))))
  where
    all : (n : ℕ) → 32 ≤ n → 32 ≤ min 32 n
    all n h = grind (arith, nat_tests)

    few : (n : ℕ) → min 32 n ≤ 32
    few n = grind (arith, nat_tests)

-- what less than a record begins with, its first 32 octets tell
pub part_begins : (order : Endian) (xs : List ℕ) → IsPart order xs → beginning order (take 32 xs) ≡ beginning order xs
unfolding beginning
part_begins order xs part =
    by_test (beginning order (take 32 xs) ≡ beginning order xs) (length xs) 32
    (λ short. ap (beginning order) (take_all 32 xs (omega arith)))
    (λ long. rw (captured_front order xs (omega arith), length-take 32 xs)
    (long_bad (length xs) (captured_length order xs) (refusal_of (captured (captured_length order xs) (take 32 xs)))
    (refusal_of (captured (captured_length order xs) xs)) long (part (omega arith))))
  where
    long_bad : (there count : ℕ) (one other : Option FrameRefusal) → 32 ≤ there → there < 16 + count
        → begun (min 32 there) count one ≡ begun there count other
    long_bad there count one other long part = grind (arith, nat_tests)

-- less than a record is no whole one
pub part_not_whole : (order : Endian) (xs : List ℕ) (n : ℕ) → IsPart order xs → beginning order xs ≡ Whole n → ⊥
part_not_whole order xs n part e =
    let w = whole_of order xs n e in
    let header : 16 ≤ length xs = w.header in
    let less = part header in
    omega (arith, w.all, w.count_is, less)

-- a read gives what the octets are
pub read_is : (r : Result (List ℕ) FrameRefusal) (octets : List ℕ) → IfOk r (λ f. IsRecord octets × (f ≡ octets))
    → refusal_of octets ≡ result_err r → r ≡ frame_of octets
read_is (Ok frame) octets read refused = rw refused (ap Ok read.1)
read_is (Err why) octets read refused = rw refused refl

-- octets taken behind records, less than a record with those before
pub parted_part : (order : Endian) (octets rest used : List ℕ) (records : List (Result (List ℕ) FrameRefusal))
    → AreParted order octets records rest → IsPart order (rest ++ used) → AreParted order (octets ++ used) records (rest ++ used)
parted_part order octets rest used records h part = record {
  written = h.written;
  whole = h.whole;
  split = ap (λ xs. xs ++ used) h.split ∙ append_assoc (flat_map (λ octets. octets) h.written) rest used;
  said = h.said;
  part = part;
}

-- less than nothing
empty_part : (order : Endian) → IsPart order []
empty_part order = λ h. absurd (omega (arith, h))

-- octets taken behind records, a whole one with those before
pub parted_whole : (order : Endian) (octets rest used : List ℕ) (records : List (Result (List ℕ) FrameRefusal))
    (said : Result (List ℕ) FrameRefusal) → AreParted order octets records rest → IsWholeRecord order (rest ++ used)
    → said ≡ frame_of (drop 16 (rest ++ used)) → AreParted order (octets ++ used) (records ++ said ∷ []) []
parted_whole order octets rest used records said h whole is = record {
  written = h.written ++ (rest ++ used) ∷ [];
  whole = All-append (IsWholeRecord order) h.written ((rest ++ used) ∷ []) h.whole
      (All-cons (IsWholeRecord order) (rest ++ used) [] whole (All-nil (IsWholeRecord order)));
  split =
      ap (λ xs. xs ++ used) h.split ∙ append_assoc (flat_map (λ octets. octets) h.written) rest used
      ∙ flat_map_more (λ octets. octets) [] h.written (rest ++ used)
      ∙ sym (append-nil (flat_map (λ octets. octets) (h.written ++ (rest ++ used) ∷ [])));
  said =
      ap (λ xs. xs ++ said ∷ []) h.said
      ∙ ap (λ x. map (λ octets. frame_of (drop 16 octets)) h.written ++ x ∷ []) is
      ∙ sym (map-append (λ octets. frame_of (drop 16 octets)) h.written ((rest ++ used) ∷ []));
  part = empty_part order;
}

-- octets behind a header and its records
pub records_on : (octets used : List ℕ) (order : Endian) (records more : List (Result (List ℕ) FrameRefusal)) (rest left : List ℕ)
    → HasRecords octets order records rest
    → (AreParted order (drop 24 octets) records rest → AreParted order (drop 24 octets ++ used) more left)
    → HasRecords (octets ++ used) order more left
records_on octets used order records more rest left h on =
    let long : 24 ≤ length octets = h.long in
    record {
      long = rw (length-append octets used) (omega (arith, long));
      header = rw (take-append-le 24 octets used long) h.header;
      parted = rw (drop-append-le 24 octets used long) (on h.parted);
    }

-- ---- the end

-- a header that is refused
bad_header_ends : (octets : List ℕ) (records : List (Result (List ℕ) FrameRefusal)) (fault : TraceRefusal)
    → HasBadHeader octets fault → records ≡ [] → Ends {A = Unit {0}} octets records (Err fault)
bad_header_ends octets records fault bad none =
    by_kind fault bad (header_faults (take 24 octets) (header_of (take 24 octets)) fault refl bad.header)
  where
    by_kind : (fault : TraceRefusal) → HasBadHeader octets fault → IsHeaderFault fault
        → Ends {A = Unit {0}} octets records (Err fault)
    by_kind BadMagic bad kind = (bad, none)
    by_kind BadVersion bad kind = (bad, none)
    by_kind BadLink bad kind = (bad, none)
    by_kind (BadRecord index why) bad kind = absurd kind
    by_kind OutOfMemory bad kind = absurd kind
    by_kind Cut bad kind = absurd kind
    by_kind ReadFault bad kind = absurd kind

-- what is kept, where the stage is known
pub read_at : (kept : Begun) (stage : Stage) (octets : List ℕ) (records : List (Result (List ℕ) FrameRefusal))
    → kept.stage ≡ stage → IsReadTo kept octets records
    → IsReadIn stage kept.front kept.there kept.count octets records
read_at kept stage octets records e h =
    subst (λ s. IsReadIn s kept.front kept.there kept.count octets records) e h

pub failed_ends : (kept : Begun) (fault : TraceRefusal) (octets : List ℕ)
    (records : List (Result (List ℕ) FrameRefusal)) → kept.stage ≡ Failed fault → IsReadTo kept octets records
    → Ends {A = Unit {0}} octets records (Err fault)
failed_ends kept fault octets records e h =
    let bad = read_at kept (Failed fault) octets records e h in bad_header_ends octets records fault bad.0 bad.1

-- within a record that is no frame, as its header shows
pub ends_bad : (kept : Begun) (order : Endian) (why : FrameRefusal) (octets : List ℕ)
    (records : List (Result (List ℕ) FrameRefusal)) → kept.stage ≡ Records order → Bad why ≡ beginning order kept.front
    → IsReadTo kept octets records → IsCutBad octets records why × (kept.count ≡ index_of (length records))
ends_bad kept order why octets records e shown h =
    let r = read_at kept (Records order) octets records e h in
    ((order, r.0, r.1, sym (shown ∙ ap (beginning order) r.2 ∙ part_begins order r.0 r.1.parted.part)), r.4)

-- within another one
pub ends_cut : (kept : Begun) (order : Endian) (shown : Beginning) (octets : List ℕ)
    (records : List (Result (List ℕ) FrameRefusal)) → kept.stage ≡ Records order → shown ≡ beginning order kept.front
    → ((why : FrameRefusal) → shown ≡ Bad why → ⊥) → 0 < kept.there → IsReadTo kept octets records → IsCut octets records
ends_cut kept order shown octets records e is fine some h =
    let r = read_at kept (Records order) octets records e h in
    let there : kept.there ≡ length r.0 = r.3 in
    let begins : shown ≡ beginning order r.0 = is ∙ ap (beginning order) r.2 ∙ part_begins order r.0 r.1.parted.part in
    by_beginning (IsCut octets records) shown
    (λ unfinished. inr (order, r.0, r.1, omega (arith, some, there), sym begins ∙ unfinished))
    (λ why bad. absurd (fine why bad))
    (λ n whole. absurd (part_not_whole order r.0 n r.1.parted.part (sym begins ∙ whole)))

-- ---- octets of a header

-- no records
nothing_parted : (order : Endian) (octets : List ℕ) → octets ≡ [] → AreParted order octets [] []
nothing_parted order octets none = record {
  written = [];
  whole = All-nil (IsWholeRecord order);
  split = none;
  said = refl;
  part = empty_part order;
}

-- octets that fill the header
header_filled : (octets used front : List ℕ) → front ≡ take 24 (octets ++ used) → 24 ≤ length front
    → length octets + length used ≤ 24 → (front ≡ octets ++ used) × (length (octets ++ used) ≡ 24)
header_filled octets used front e all few =
    let len : length (octets ++ used) ≡ length octets + length used = length-append octets used in
    let same : front ≡ octets ++ used = e ∙ take_all 24 (octets ++ used) (omega (arith, len, few)) in
    (same, omega (arith, len, few, all, ap length same))

-- a header that is whole
pub header_read : (kept after : Begun) (order : Endian) (octets used front : List ℕ)
    (records : List (Result (List ℕ) FrameRefusal)) → kept.stage ≡ Header → front ≡ take 24 (kept.front ++ used)
    → 24 ≤ length front → length kept.front + length used ≤ 24 → Ok order ≡ header_of front → after ≡ in_records order [] 0 0
    → IsReadTo kept octets records → IsReadTo after (octets ++ used) (records ++ [])
header_read kept after order octets used front records e joined all few shown is h =
    let r = read_at kept Header octets records e h in
    let filled = header_filled octets used front (joined ∙ ap (λ xs. take 24 (xs ++ used)) r.0) all
    (subst (λ xs. length xs + length used ≤ 24) r.0 few) in
    let len : length (octets ++ used) ≡ 24 = filled.1 in
    let has : HasRecords (octets ++ used) order [] [] = record {
      long = omega (arith, len);
      header = ap header_of (take_all 24 (octets ++ used) (omega (arith, len)) ∙ sym filled.0) ∙ sym shown;
      parted = nothing_parted order (drop 24 (octets ++ used)) (drop_all 24 (octets ++ used) (omega (arith, len)));
    } in
    subst (λ a. IsReadTo a (octets ++ used) (records ++ [])) (sym is)
    (subst (λ rs. IsReadTo (in_records order [] 0 0) (octets ++ used) rs) (sym (append-nil records ∙ r.2))
    ([], has, refl, refl, refl))

-- a header that is refused
pub header_refused : (kept after : Begun) (fault : TraceRefusal) (octets piece used rest front : List ℕ)
    (records : List (Result (List ℕ) FrameRefusal)) → kept.stage ≡ Header → front ≡ take 24 (kept.front ++ used)
    → 24 ≤ length front → length kept.front + length used ≤ 24 → Err fault ≡ header_of front → after ≡ at_bad_header fault
    → piece ≡ used ++ rest → IsReadTo kept octets records
    → HasBadHeader (octets ++ piece) fault × IsReadTo after (octets ++ piece) records
header_refused kept after fault octets piece used rest front records e joined all few shown is split h =
    let r = read_at kept Header octets records e h in
    let filled = header_filled octets used front (joined ∙ ap (λ xs. take 24 (xs ++ used)) r.0) all
    (subst (λ xs. length xs + length used ≤ 24) r.0 few) in
    let len : length (octets ++ used) ≡ 24 = filled.1 in
    let whole : octets ++ piece ≡ (octets ++ used) ++ rest =
    ap (λ xs. octets ++ xs) split ∙ sym (append_assoc octets used rest) in
    let front_is : take 24 (octets ++ piece) ≡ front =
    ap (take 24) whole ∙ take-append-le 24 (octets ++ used) rest (omega (arith, len))
    ∙ take_all 24 (octets ++ used) (omega (arith, len)) ∙ sym filled.0 in
    let bad : HasBadHeader (octets ++ piece) fault = record {
      long = rw (whole, length-append (octets ++ used) rest) (omega (arith, len));
      header = ap header_of front_is ∙ sym shown;
    } in
    (bad, subst (λ a. IsReadTo a (octets ++ piece) records) (sym is) (bad, r.2, refl))

-- ---- octets of a record

-- the first octets that are kept, and how many there are
pub front_len : (front used joined : List ℕ) (there : ℕ) → joined ≡ take 32 (front ++ used) → length front ≡ min 32 there
    → length joined ≡ min 32 (there + length used)
front_len front used joined there e len =
    ap length e ∙ length-take 32 (front ++ used) ∙ ap (min 32) (length-append front used)
    ∙ ap (λ n. min 32 (n + length used)) len ∙ at_most there (length used)
  where
    at_most : (n m : ℕ) → min 32 (min 32 n + m) ≡ min 32 (n + m)
    at_most n m = grind (arith, nat_tests)

-- no more are taken than the record has
pub taken_within : (order : Endian) (front used joined : List ℕ) (there : ℕ) → joined ≡ take 32 (front ++ used)
    → length front ≡ min 32 there → length used ≤ wanted order front there
    → (16 ≤ there → there < 16 + captured_length order front) → 16 ≤ there + length used
    → there + length used ≤ 16 + captured_length order joined
taken_within order front used joined there e len few part all =
    by_test (there + length used ≤ 16 + captured_length order joined) there 16
    (λ short. within_header there (captured_length order front) (captured_length order joined) (length used) short few)
    (λ long.
    let header : 16 ≤ length front = in_front there (length front) long len in
    let same : captured_length order joined ≡ captured_length order front =
    ap (captured_length order) e
    ∙ captured_front order (front ++ used) (rw (length-append front used) (omega (arith, header)))
    ∙ field_on order 8 4 front used (omega (arith, header)) in
    within there (captured_length order front) (captured_length order joined) (length used) long few (part long) same)
  where
    within_header : (there count later n : ℕ) → there < 16 → n ≤ (if nat_lt there 16 then 16 - there else 16 + count - there)
        → there + n ≤ 16 + later
    within_header there count later n short few = grind (arith, nat_tests)

    in_front : (n m : ℕ) → 16 ≤ n → m ≡ min 32 n → 16 ≤ m
    in_front n m h e = grind (arith, nat_tests)

    within : (there count later n : ℕ) → 16 ≤ there → n ≤ (if nat_lt there 16 then 16 - there else 16 + count - there)
        → there < 16 + count → later ≡ count → there + n ≤ 16 + later
    within there count later n long few part same = grind (arith, nat_tests)

-- one record more
index_more : (n : ℕ) → min (index_of n + 1) 18446744073709551615 ≡ index_of (n + 1)
index_more n = grind (arith, nat_tests)

-- a record that is whole
pub record_read : (kept after : Begun) (order : Endian) (octets used joined : List ℕ)
    (records : List (Result (List ℕ) FrameRefusal)) (said : Result (List ℕ) FrameRefusal) → kept.stage ≡ Records order
    → joined ≡ take 32 (kept.front ++ used)
    → ((xs : List ℕ) → joined ≡ take 32 xs → kept.there + length used ≡ length xs
    → IsWholeRecord order xs × (said ≡ frame_of (drop 16 xs)))
    → after ≡ in_records order [] 0 (min (kept.count + 1) 18446744073709551615) → IsReadTo kept octets records
    → IsReadTo after (octets ++ used) (records ++ said ∷ [])
record_read kept after order octets used joined records said e is makes now h =
    let r = read_at kept (Records order) octets records e h in
    let made = makes (r.0 ++ used) (is ∙ ap (λ xs. take 32 (xs ++ used)) r.2 ∙ front_on r.0 used)
    (ap (λ n. n + length used) r.3 ∙ sym (length-append r.0 used)) in
    let has = records_on octets used order records (records ++ said ∷ []) r.0 [] r.1
    (λ parted. parted_whole order (drop 24 octets) r.0 used records said parted made.0 made.1) in
    subst (λ a. IsReadTo a (octets ++ used) (records ++ said ∷ [])) (sym now) (
      [],
      has,
      refl,
      refl,
      ap (λ n. min (n + 1) 18446744073709551615) r.4 ∙ index_more (length records)
          ∙ sym (ap index_of (length-append records (said ∷ []))),
    )

-- a record that is not whole yet
pub part_read : (kept after : Begun) (order : Endian) (octets used joined : List ℕ)
    (records : List (Result (List ℕ) FrameRefusal)) → kept.stage ≡ Records order → joined ≡ take 32 (kept.front ++ used)
    → (16 ≤ kept.there + length used → kept.there + length used < 16 + captured_length order joined)
    → after ≡ in_records order joined (kept.there + length used) kept.count → IsReadTo kept octets records
    → IsReadTo after (octets ++ used) (records ++ [])
part_read kept after order octets used joined records e is part now h =
    let r = read_at kept (Records order) octets records e h in
    let front : joined ≡ take 32 (r.0 ++ used) = is ∙ ap (λ xs. take 32 (xs ++ used)) r.2 ∙ front_on r.0 used in
    let there : kept.there + length used ≡ length (r.0 ++ used) =
    ap (λ n. n + length used) r.3 ∙ sym (length-append r.0 used) in
    let has = records_on octets used order records records r.0 (r.0 ++ used) r.1
    (λ parted. parted_part order (drop 24 octets) r.0 used records parted
    (λ header.
    let less = part (omega (arith, there, header)) in
    let same = ap (captured_length order) front ∙ captured_front order (r.0 ++ used) header in
    omega (arith, there, less, same))) in
    subst (λ a. IsReadTo a (octets ++ used) (records ++ [])) (sym now)
    (subst (λ rs. IsReadTo (in_records order joined (kept.there + length used) kept.count) (octets ++ used) rs)
    (sym (append-nil records)) (r.0 ++ used, has, front, there, r.4))

-- ---- what a call takes of a piece

-- all of a piece
pub split_again : (n : ℕ) (piece used rest : List ℕ) → used ≡ take n piece → rest ≡ drop n piece → piece ≡ used ++ rest
split_again n piece used rest front back = rw (front, back) (sym (take-append-drop n piece))

-- no more than is wanted
pub few_taken : (wanted n m : ℕ) → m ≡ min wanted n → m ≤ wanted
few_taken wanted n m is = grind (arith, nat_tests)

-- less is left where something is wanted
pub rest_shorter : (wanted n : ℕ) (piece rest : List ℕ) → n ≡ min wanted (length piece) → rest ≡ drop n piece → 0 < wanted
    → 0 < length piece → length rest < length piece
rest_shorter wanted n piece rest is e some there =
    less wanted n (length piece) (length rest) is (ap length e ∙ length-drop n piece) some there
  where
    less : (wanted n m left : ℕ) → n ≡ min wanted m → left ≡ m - n → 0 < wanted → 0 < m → left < m
    less wanted n m left is e some there = grind (arith, nat_tests)

-- something is wanted
pub some_wanted : (order : Endian) (front : List ℕ) (there : ℕ) → (16 ≤ there → there < 16 + captured_length order front)
    → 0 < wanted order front there
some_wanted order front there part =
    by_test (0 < wanted order front there) there 16 (λ short. within_header there (captured_length order front) short)
    (λ long. within there (captured_length order front) long (part long))
  where
    within_header : (there count : ℕ) → there < 16 → 0 < (if nat_lt there 16 then 16 - there else 16 + count - there)
    within_header there count short = grind (arith, nat_tests)

    within : (there count : ℕ) → 16 ≤ there → there < 16 + count
        → 0 < (if nat_lt there 16 then 16 - there else 16 + count - there)
    within there count long less = grind (arith, nat_tests)

-- how many records are whole
pub count_read : (kept : Begun) (octets : List ℕ) (records : List (Result (List ℕ) FrameRefusal)) → IsReadTo kept octets records
    → kept.count ≡ index_of (length records)
count_read kept octets records h = at_stage kept.stage h
  where
    none : kept.count ≡ 0 → records ≡ [] → kept.count ≡ index_of (length records)
    none zero empty = zero ∙ sym (ap (λ (rs : List (Result (List ℕ) FrameRefusal)). index_of (length rs)) empty)

    at_stage : (stage : Stage) → IsReadIn stage kept.front kept.there kept.count octets records
        → kept.count ≡ index_of (length records)
    at_stage Header r = none r.3 r.2
    at_stage (Records order) r = r.4
    at_stage (Failed fault) r = none r.2 r.1

-- and which they are
pub so_far_read : (kept : Begun) (octets : List ℕ) (records : List (Result (List ℕ) FrameRefusal)) → IsReadTo kept octets records
    → HasSoFar octets records
so_far_read kept octets records h = at_stage kept.stage h
  where
    at_stage : (stage : Stage) → IsReadIn stage kept.front kept.there kept.count octets records → HasSoFar octets records
    at_stage Header r = inl (r.1, r.2)
    at_stage (Records order) r = inr (inr (order, r.0, r.1))
    at_stage (Failed fault) r = inr (inl (fault, r.0, r.1))
