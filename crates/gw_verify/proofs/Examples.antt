-- Examples of the definitions.
use Rattle.std.proofs.Common.{◌≡◌, [], ◌∷◌, Some, refl, inr, subst, arith, lit≤}
use Rattle.gw_insn.specs.Form.{Load, LoadScratch, Store, Jump, Branch, ReturnA, Word, Half, A, Equal, Constant}
use Rattle.gw_insn.specs.Table.{fields}
use Rattle.gw_verify.specs.declared.cause.Cause.TheVariants.{UnsetWord, UnknownCode}
use Rattle.gw_verify.specs.Accepted.{IsFault, IsAncillary}
use Rattle.gw_verify.specs.Cause.{cause_number}
use Rattle.gw_verify.specs.Flow.{Forms, forms_of, PassesBy, IsBare, IsBarePathTo}
use Rattle.gw_verify.proofs.FlowLaws.{bare_path_start, bare_path_on}
use Rattle.gw_verify.proofs.Bare.{Reached, at_start, from, reached_from_bare, step, step_leads}

-- `jeq #0, L1, L2` / `L1: st M[3]` / `L2: ld M[3]` / `ret a`
abbrev branch_around : Forms
branch_around = forms_of (fields 21 0 1 0 ∷ fields 2 0 0 3 ∷ fields 96 0 0 3 ∷ fields 22 0 0 0 ∷ [])

branch_around_is : branch_around
    ≡ Some (Branch Equal (Constant 0) 0 1) ∷ Some (Store A 3) ∷ Some (LoadScratch A 3) ∷ Some ReturnA ∷ []
branch_around_is = refl

-- the path 0 2 leaves word 3 unset
around : IsBarePathTo branch_around (0 ∷ 2 ∷ []) 2 3
around =
    let jump = Branch Equal (Constant 0) 0 1 in
    let passes = step branch_around 3 0 2 jump refl (inr refl) (omega arith) (λ s. s) in
    let start = bare_path_start branch_around 3 (omega arith) in
    bare_path_on branch_around 3 (0 ∷ []) 0 2 start passes.unset passes.next

-- so the load at place 2 is a fault, of number 29
unset_load : IsFault branch_around (UnsetWord 3) 2
unset_load = (
  record { insn = LoadScratch A 3; here = refl; holds = refl },
  record { places = 0 ∷ 2 ∷ []; to = around },
)

number : cause_number (UnsetWord 3) ≡ 29
number = refl

-- `ja L` / `ld M[3]` / `L: ret #1`: no path reaches the load
abbrev unreached : Forms
unreached = forms_of (fields 5 0 0 1 ∷ fields 96 0 0 3 ∷ fields 6 0 0 1 ∷ [])

not_bare : IsBare unreached 1 3 → ⊥
not_bare b = reached (reached_from_bare unreached 3 1 b)
  where
    reached : Reached unreached 3 1 1 → ⊥
    reached (at_start e) = omega arith
    reached (from i l bare p) =
        let first : i ≡ 0 = omega arith in
        let passes = subst (λ k. PassesBy unreached 3 k 1) first p in
        let leads = step_leads unreached 3 0 1 (Jump 1) refl passes in
        omega (arith, leads)

-- code 14 is unknown
unknown : IsFault (forms_of (fields 14 0 0 0 ∷ [])) UnknownCode 0
unknown = refl

-- `ld ifidx` is no ancillary load, and a half-word load at its offset is one
interface : IsAncillary (Load Word 4294963208) → ⊥
interface h = h.1 refl

half_word : IsAncillary (Load Half 4294963208)
half_word = lit≤ tt
