use Rattle.std.proofs.Common.{◌≡◌, List, [], map, length, get_or, sym, ap, subst, ◌∙◌, arith}
use Rattle.std.specs.List.{enumerate_from}
use Rattle.std.proofs.lemmas.List.{length-map}
use Rattle.std.proofs.lemmas.List.FromFn.{length-enumerate_from}
use Rattle.gw_text.specs.Assembly.{Line, lines_from, definitions, defined_again, place_of, raw_at}
use Rattle.gw_text.specs.Sources.{instruction_view, label_view, place_in}
use Rattle.gw_text.proofs.TextFaults.{lines_are, refused_target, refused_length, faultless_text, all_inside}
use Rattle.gw_text.proofs.assembler.assemble.Goals as goal

pub returns-in-Some-clause-refused : goal.returns-in-Some-clause-refused
returns-in-Some-clause-refused c = λ ne.
    let ls : List Line = lines_from 1 (map (λ t. t.now) c.deref-2.result.now) in
    let defined : map label_view c.deref-3.result.now ≡ definitions ls = ap (map label_view) c.deref-3.ensures.value
    ∙ c.in_ok-source.ensures.labels in
    refused_target c.args.text.now ls (place_in c.in_ok-places.places) (map instruction_view c.deref-4.result.now)
    c.in-Some.refusal
    (lines_are c.args.text.now c.as_bytes.result.now c.in_ok-text.text.items c.deref.result.now c.in_ok-lines.lines.items
    c.deref-2.result.now
    c.as_bytes.ensures.value c.in_ok-text.ensures c.deref.ensures.value c.in_ok-lines.ensures c.deref-2.ensures.value)
    c.in_ok-source.ensures.faultless (sym (ap (defined_again []) defined) ∙ c.in_ok-places.ensures.once)
    (λ name. c.in_ok-places.ensures.places name ∙ ap (λ ds. place_of ds name) defined)
    (ap (map instruction_view) c.deref-4.ensures.value ∙ c.in_ok-source.ensures.instructions) (sym c.first_bad_target.ensures
    ∙ c.in-Some.is)

pub returns-then-len-gt-MAX_INSNS-clause-refused : goal.returns-then-len-gt-MAX_INSNS-clause-refused
returns-then-len-gt-MAX_INSNS-clause-refused c = λ ne.
    let ls : List Line = lines_from 1 (map (λ t. t.now) c.deref-2.result.now) in
    let defined : map label_view c.deref-3.result.now ≡ definitions ls = ap (map label_view) c.deref-3.ensures.value
    ∙ c.in_ok-source.ensures.labels in
    refused_length c.args.text.now ls (place_in c.in_ok-places.places) c.deref-4.result.now c.index.result.now
    (lines_are c.args.text.now c.as_bytes.result.now c.in_ok-text.text.items c.deref.result.now c.in_ok-lines.lines.items
    c.deref-2.result.now
    c.as_bytes.ensures.value c.in_ok-text.ensures c.deref.ensures.value c.in_ok-lines.ensures c.deref-2.ensures.value)
    c.in_ok-source.ensures.faultless (sym (ap (defined_again []) defined) ∙ c.in_ok-places.ensures.once)
    (λ name. c.in_ok-places.ensures.places name ∙ ap (λ ds. place_of ds name) defined)
    (ap (map instruction_view) c.deref-4.ensures.value ∙ c.in_ok-source.ensures.instructions) (sym c.first_bad_target.ensures
    ∙ c.in_default.is)
    (omega (arith, c.deref-4.ensures.len, c.len.ensures, c.if-len-gt-MAX_INSNS.true))
    (subst (λ is. c.index.result.now ≡ get_or is 4096 c.index.result.now) (sym c.deref-4.ensures.value) c.index.ensures)

pub encode-requires-clause-inside : goal.encode-requires-clause-inside
encode-requires-clause-inside c =
    let ls : List Line = lines_from 1 (map (λ t. t.now) c.deref-2.result.now) in
    let defined : map label_view c.deref-3.result.now ≡ definitions ls = ap (map label_view) c.deref-3.ensures.value
    ∙ c.in_ok-source.ensures.labels in
    all_inside ls (place_in c.in_ok-places.places) c.deref-4.result.now (λ name. c.in_ok-places.ensures.places name
    ∙ ap (λ ds. place_of ds name) defined)
    (ap (map instruction_view) c.deref-4.ensures.value ∙ c.in_ok-source.ensures.instructions)
    (omega (arith, c.deref-4.ensures.len, c.len.ensures, c.if-len-gt-MAX_INSNS.false))

pub returns-clause-assembled : goal.returns-clause-assembled
returns-clause-assembled c =
    let ls : List Line = lines_from 1 (map (λ t. t.now) c.deref-2.result.now) in
    let defined : map label_view c.deref-3.result.now ≡ definitions ls = ap (map label_view) c.deref-3.ensures.value
    ∙ c.in_ok-source.ensures.labels in
    faultless_text c.args.text.now ls (place_in c.in_ok-places.places) c.deref-4.result.now c.in_ok-encode.field-0.items
    (lines_are c.args.text.now c.as_bytes.result.now c.in_ok-text.text.items c.deref.result.now c.in_ok-lines.lines.items
    c.deref-2.result.now
    c.as_bytes.ensures.value c.in_ok-text.ensures c.deref.ensures.value c.in_ok-lines.ensures c.deref-2.ensures.value)
    c.in_ok-source.ensures.faultless (sym (ap (defined_again []) defined) ∙ c.in_ok-places.ensures.once)
    (λ name. c.in_ok-places.ensures.places name ∙ ap (λ ds. place_of ds name) defined)
    (ap (map instruction_view) c.deref-4.ensures.value ∙ c.in_ok-source.ensures.instructions) (sym c.first_bad_target.ensures
    ∙ c.in_default.is)
    (omega (arith, c.deref-4.ensures.len, c.len.ensures, c.if-len-gt-MAX_INSNS.false))
    (c.in_ok-encode.ensures
    ∙ ap (λ is. map (raw_at (place_in c.in_ok-places.places)) (enumerate_from 0 (map instruction_view is)))
    (c.deref-5.ensures.value ∙ sym c.deref-4.ensures.value))

pub returns-clause-few : goal.returns-clause-few
returns-clause-few c =
    let views = map instruction_view c.deref-5.result.now in
    let long =
    ap length c.in_ok-encode.ensures ∙ length-map (enumerate_from 0 views) (raw_at (place_in c.in_ok-places.places))
    ∙ length-enumerate_from 0 views
    ∙ length-map c.deref-5.result.now instruction_view ∙ ap length (c.deref-5.ensures.value ∙ sym c.deref-4.ensures.value) in
    omega (arith, long, c.deref-4.ensures.len, c.len.ensures, c.if-len-gt-MAX_INSNS.false)
