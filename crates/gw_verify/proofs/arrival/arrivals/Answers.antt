use Rattle.std.proofs.Common.{◌≡◌, arith, length, ap, refl, length-take}
use Rattle.std.proofs.lemmas.Bool.{false≢true}
use Rattle.std.proofs.lemmas.List.{with_items_is}
use Rattle.std.proofs.lemmas.Option.{slice_get_read}
use Rattle.gw_insn.specs.Form.{form}
use Rattle.gw_verify.specs.Flow.{forms_of}
use Rattle.gw_verify.proofs.Arrivals.{bare_told, never_told, noted_more, noted_skip, arrivals_noted, length-at_next}
use Rattle.gw_verify.proofs.Bare.{reached_from_bare, step_unset, no_step}
use Rattle.gw_verify.proofs.Decoding.{form_at_front, length_forms}
use Rattle.gw_verify.proofs.arrival.arrivals.Goals as goal
use Rattle.gw_verify.proofs.arrival.arrivals.Goals.{in-Some+then-comes+then-not-stores, in-Some+else-comes}
use Rattle.gw_verify.proofs.arrival.arrivals.Goals.{else-comes-via-then-comes+else-not-stores, else-comes-via-else-comes}
use Rattle.gw_verify.proofs.arrival.arrivals.Goals.{in_default}

pub loop-place-preserved : goal.loop-place-preserved
loop-place-preserved c =
    let code = c.args.code.now in
    let forms = forms_of code in
    let word = c.args.word in
    let i = c.loop-place.place in
    let arrivals = c.loop-place.arrivals.items in
    let before = c.loop-place.invariant in
    let len = length_forms code in
    let front = length-take c.args.last code in
    elim c.match-decode.branch [
      | in-Some+then-comes+then-not-stores w ↦
          let insn = form w.in-Some.insn in
          let at = form_at_front code c.args.last i _ _ (omega arith) w.in-Some.ensures.table in
          let arrival = w.index.result.now in
          let read = slice_get_read arrivals (length arrivals) i arrival refl (omega arith) w.index.ensures in
          let told = before.noted i arrival read in
          let bare = bare_told forms word _ i arrival (omega arith) told w.if-comes.ensures in
          let kept = length-at_next insn i arrivals in
          let same = ap length w.arrive.ensures in
          let long = c.loop-place.arrivals.ok.0 in
          let items = with_items_is c.loop-place.arrivals w.arrive.new.arrivals (omega (arith, long)) in
          record {
            long = rw (w.arrivals-is, items, w.arrive.ensures, w.deref_mut.ensures.value, kept) before.long;
            noted =
                rw (w.arrivals-is, items, w.arrive.ensures, w.deref_mut.ensures.value)
                (noted_more forms word i insn arrivals (omega arith) at
                (λ s. false≢true (w.if-not-stores.ensures.1 s)) bare before.noted);
          }
      | in-Some+else-comes w ↦
          let insn = form w.in-Some.insn in
          let at = form_at_front code c.args.last i _ _ (omega arith) w.in-Some.ensures.table in
          let arrival = w.index.result.now in
          let read = slice_get_read arrivals (length arrivals) i arrival refl (omega arith) w.index.ensures in
          record {
            long = rw w.arrivals-is before.long;
            noted =
                rw w.arrivals-is
                (noted_skip forms word i arrivals
                (λ j b p. elim w.else-comes.branch [
                  | else-comes-via-then-comes+else-not-stores w' ↦
                      step_unset forms word i j insn at p (w'.if-not-stores.ensures.0 refl)
                  | else-comes-via-else-comes w' ↦
                      let told = before.noted i arrival read in
                      let never = never_told forms word _ i arrival told w'.if-comes.ensures in
                      never (reached_from_bare forms word i b)
                ])
                before.noted);
          }
      | in_default w ↦
          let at = form_at_front code c.args.last i _ _ (omega arith) w.in_default.ensures.table in
          record {
            long = rw w.arrivals-is before.long;
            noted =
                rw w.arrivals-is
                (noted_skip forms word i arrivals (λ j b p. no_step forms word i j at p) before.noted);
          }
    ]

pub returns-clause-arrivals : goal.returns-clause-arrivals
returns-clause-arrivals c =
    let last = c.args.last in
    let front = length-take last c.args.code.now in
    let all : c.loop-place.place ≡ last = omega arith in
    let after = c.loop-place.invariant in
    arrivals_noted (forms_of c.args.code.now) c.args.word last c.loop-place.arrivals.items after.long
    (rw (← all) after.noted)
