-- At the end the text is the one spelling, and the fields of every instruction were read and fit their types.
use Rattle.std.proofs.Common.{◌≡◌, ℕ, ◌<◌, List, All, length, get_or, subst, sym, arith}
use Rattle.std.proofs.lemmas.Grind.{common_steps}
use Rattle.std.proofs.lemmas.List.{take_all}
use Rattle.std.proofs.lemmas.List.Elements.{All-more, All-same}
use Rattle.gw_insn.specs.Listing.{IsListing}
use Rattle.gw_insn.specs.Spelling.{plain_listing}
use Rattle.gw_insn.specs.Table.{fields}
use Rattle.gw_insn.proofs.PlainListing.{FieldsFit, plain_listing-IsListing}
use Rattle.gw_insn.proofs.writing.write_listing.Goals as goal

pub loop-raw-preserved : goal.loop-raw-preserved
loop-raw-preserved c =
    let below : c.loop-raw.raw-index < length c.args.code.now = omega arith in
    let fits : FieldsFit (get_or c.args.code.now c.loop-raw.raw-index (fields 0 0 0 0)) =
    record { code = omega arith; jt = omega arith; jf = omega arith; k = omega arith } in (
      grind (arith, common_steps),
      All-more FieldsFit c.args.code.now c.loop-raw.raw-index (fields 0 0 0 0) below c.loop-raw.invariant.1 fits,
    )

pub returns-clause-listing : goal.returns-clause-listing
returns-clause-listing c =
    let spelled : c.into_bytes.result.items ≡ plain_listing c.args.code.now = grind (arith, common_steps) in
    let fits : All FieldsFit c.args.code.now =
    All-same FieldsFit _ _ (sym (take_all c.loop-raw.raw-index c.args.code.now c.loop-raw-test.false)) c.loop-raw.invariant.1 in
    let P : List ℕ → Type 0 = λ text. IsListing text c.args.code.now in
    subst P (sym spelled) (plain_listing-IsListing c.args.code.now c.requires fits)
