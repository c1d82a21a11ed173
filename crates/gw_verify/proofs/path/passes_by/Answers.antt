use Rattle.std.proofs.Common.{ℕ, ◌<◌, length, Bool, true, false, not, IsTrue, ◌↔◌, refl, sym, ◌∙◌, subst, arith}
use Rattle.std.proofs.lemmas.Bool.{false≢true}
use Rattle.gw_insn.specs.Form.{Form, form}
use Rattle.gw_verify.specs.Flow.{Forms, forms_of, HasAt, LeadsTo, Stores, PassesBy}
use Rattle.gw_verify.proofs.Decoding.{length_forms, form_at, no_form, one_form}
use Rattle.gw_verify.proofs.path.passes_by.Goals as goal

-- an instruction that leads to a place of the code passes by it unless it stores the word
passes : (forms : Forms) (word i j : ℕ) (insn : Form) (stored : Bool) → HasAt forms i insn → j < length forms → LeadsTo insn i j
    → IsTrue stored ↔ Stores insn word → IsTrue (not stored) ↔ PassesBy forms word i j
passes forms word i j insn true here inside leads stores =
    (λ e. absurd (false≢true e), λ p. absurd (p.unset (record { insn = insn; here = here; stores = stores.0 refl })))
passes forms word i j insn false here inside leads stores = (
  λ e. record {
    next = record { insn = insn; here = here; leads = leads; inside = inside };
    unset = λ s. false≢true (stores.1 (subst (λ x. Stores x word) (one_form forms i s.insn insn s.here here) s.stores));
  },
  λ p. refl,
)

pub returns-then-leads_to : goal.returns-then-leads_to
returns-then-leads_to c =
    let code = c.args.code.now in
    let long = length_forms code in
    let here = form_at code c.args.place _ _ (omega arith) c.in-Some.ensures.table in
    passes (forms_of code) c.args.word c.args.place c.args.to (form c.in-Some.insn) c.stores.result here (omega arith)
    (c.if-leads_to.ensures.0 refl) c.stores.ensures

pub returns-else-leads_to : goal.returns-else-leads_to
returns-else-leads_to c =
    let code = c.args.code.now in
    let here = form_at code c.args.place _ _ (omega arith) c.in-Some.ensures.table in (
      λ e. absurd (false≢true (sym c.if-leads_to.false ∙ e)),
      λ p. c.leads_to.ensures.1
          (subst (λ x. LeadsTo x c.args.place c.args.to)
          (one_form (forms_of code) c.args.place p.next.insn (form c.in-Some.insn) p.next.here here) p.next.leads),
    )

pub returns-in-None : goal.returns-in-None
returns-in-None c =
    let code = c.args.code.now in
    let here = form_at code c.args.place _ _ (omega arith) c.in-None.ensures.table in
    (λ e. absurd (false≢true e), λ p. absurd (no_form (forms_of code) c.args.place p.next.insn here p.next.here))
