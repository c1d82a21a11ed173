use Rattle.std.proofs.Common.{◌≡◌, ◌∷◌, ◌+◌, ◌<◌, ℕ, Bool, true, not, List, [], map, drop, length, get_or, Option, Some, None}
use Rattle.std.proofs.Common.{is_some, refl, subst, sym, ap, ◌∙◌}
use Rattle.std.proofs.lemmas.Bool.{false≢true}
use Rattle.std.proofs.lemmas.List.{drop_more}
use Rattle.gw_text.specs.declared.source.Label.{Label}
use Rattle.gw_text.specs.Assembly.{Definition, Labels}
use Rattle.gw_text.specs.Sources.{label_view, place_in}
use Rattle.gw_text.proofs.LabelTable.{SoFar, one_more, is_again}
use Rattle.gw_text.proofs.places.places.Goals as goal

abbrev no_label : Label
no_label = record { name = record { ref_ptr = (0, 0); now = [] }; place = 0; line = 0 }

next : (before : Labels) (labels : List Label) (i : ℕ) (whole : List Definition) → i < length labels
    → SoFar before (map label_view (drop i labels)) whole
    → SoFar before (label_view (get_or labels i no_label) ∷ map label_view (drop (i + 1) labels)) whole
next before labels i whole lt so = subst (λ ls. SoFar before (map label_view ls) whole) (drop_more labels i no_label lt) so

not_there : (o : Option ℕ) (new : Bool) → is_some o ≡ not new → new ≡ true → o ≡ None
not_there None new h e = refl
not_there (Some n) new h e = absurd (false≢true (sym (h ∙ ap not e)))

pub loop-label-preserved : goal.loop-label-preserved
loop-label-preserved c =
    one_more (place_in c.loop-label.places) (place_in c.add.new.places)
    (label_view (get_or c.args.labels.now c.loop-label.label-index no_label))
    (map label_view (drop (c.loop-label.label-index + 1) c.args.labels.now)) (map label_view c.args.labels.now)
    (next (place_in c.loop-label.places) c.args.labels.now c.loop-label.label-index _ c.loop-label-test.true
    c.loop-label.invariant)
    (not_there _ c.in_ok-add.field-0 c.in_ok-add.ensures.new c.if-not-branch.false) c.in_ok-add.ensures.added

pub returns-then-not-branch-clause-refused : goal.returns-then-not-branch-clause-refused
returns-then-not-branch-clause-refused c = λ ne.
    is_again (place_in c.loop-label.places) (label_view (get_or c.args.labels.now c.loop-label.label-index no_label))
    (map label_view (drop (c.loop-label.label-index + 1) c.args.labels.now)) (map label_view c.args.labels.now)
    (next (place_in c.loop-label.places) c.args.labels.now c.loop-label.label-index _ c.loop-label-test.true
    c.loop-label.invariant)
    (c.in_ok-add.ensures.new ∙ ap not c.if-not-branch.true)
