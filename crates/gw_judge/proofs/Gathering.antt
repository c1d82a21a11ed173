-- What is held and what is written of it.
use Rattle.std.proofs.Common.{◌≡◌, ℕ, ◌+◌, Bool, false, List, [], ◌++◌, length, take, Option, Some, None}
use Rattle.std.proofs.Common.{Result, Ok, Err, refl, sym, ap, ◌∙◌, subst, append_assoc, append-nil, arith, inl, inr}
use Rattle.std.specs.Io.KnownBytes.{Appends}
use Rattle.std.proofs.lemmas.Bool.{cases_lt}
use Rattle.std.proofs.lemmas.List.{take_all, take_at, take-append-le}
use Rattle.gw_io.specs.Written.{WritesPart}
use Rattle.gw_io.proofs.Callers.{appended_on, part_behind}
use Rattle.gw_judge.specs.declared.fault.JudgeFault.{JudgeFault}
use Rattle.gw_judge.specs.declared.fault.JudgeFault.TheVariants.{ReadFault, WriteFault, Refused}
use Rattle.gw_judge.specs.UnderWay.{Puts}

-- a writer that was not called
pub appended_nothing : (a : Option (List ℕ)) → Appends a a []
appended_nothing None = tt
appended_nothing (Some xs) = sym (append-nil xs)

pub front_part : (a b : Option (List ℕ)) (text tail : List ℕ) → WritesPart a b text → WritesPart a b (text ++ tail)
front_part a b text tail part =
    elim (cases_lt (length text) part.0) [
      | inl past ↦
          let whole : take part.0 text ≡ take (length text) (text ++ tail) =
          take_all part.0 text (omega arith) ∙ sym (take_at text tail (length text) refl) in
          (length text, subst (Appends a b) whole part.1)
      | inr within ↦ (part.0, subst (Appends a b) (sym (take-append-le part.0 text tail within)) part.1)
    ]

-- a text that was held, with nothing written
pub puts_held : (w : Option (List ℕ)) (failed : Bool) (held text now : List ℕ) → failed ≡ false → now ≡ held ++ text
    → (failed ≡ false) × ((more : List ℕ) × Appends w w more × (held ++ text ≡ more ++ now))
puts_held w failed held text now fine same = (fine, ([], appended_nothing w, sym same))

-- a text that was put, and then another
pub puts_both : {A B : Type 0} (r : Result B JudgeFault) (done : A) (w x y : Option (List ℕ)) (failed then_failed : Bool)
    (held first then mid now : List ℕ) → Puts w x failed held first (Ok done) mid
    → Puts x y then_failed mid then r now → Puts w y then_failed held (first ++ then) r now
puts_both (Ok done) before w x y failed then_failed held first then mid now a b = (
  b.0,
  (
    a.1.0 ++ b.1.0,
    appended_on w x y a.1.0 b.1.0 a.1.1 b.1.1,
    sym (append_assoc held first then) ∙ ap (λ (xs : List ℕ). xs ++ then) a.1.2 ∙ append_assoc a.1.0 mid then
        ∙ ap (λ (xs : List ℕ). a.1.0 ++ xs) b.1.2 ∙ sym (append_assoc a.1.0 b.1.0 now),
  ),
)
puts_both (Err WriteFault) before w x y failed then_failed held first then mid now a b = (
  b.0,
  subst (WritesPart w y)
      (sym (append_assoc a.1.0 mid then) ∙ ap (λ (xs : List ℕ). xs ++ then) (sym a.1.2) ∙ append_assoc held first then)
      (part_behind w x y a.1.0 (mid ++ then) a.1.1 b.1),
)
puts_both (Err ReadFault) before w x y failed then_failed held first then mid now a b = absurd b
puts_both (Err (Refused refused)) before w x y failed then_failed held first then mid now a b = absurd b

-- a text of which a write failed, whatever was to follow
pub puts_failed : {A : Type 0} (r : Result A JudgeFault) (e : JudgeFault) (w x : Option (List ℕ)) (failed : Bool)
    (held first then now later : List ℕ) → r ≡ Err e → Puts w x failed held first r now
    → Puts {A = A} w x failed held (first ++ then) (Err e) later
puts_failed {A} r e w x failed held first then now later bad put =
    go e (subst (λ (s : Result A JudgeFault). Puts w x failed held first s now) bad put)
  where
    go : (e : JudgeFault) → Puts {A = A} w x failed held first (Err e) now
        → Puts {A = A} w x failed held (first ++ then) (Err e) later
    go WriteFault p =
        (p.0, subst (WritesPart w x) (append_assoc held first then) (front_part w x (held ++ first) then p.1))
    go ReadFault p = absurd p
    go (Refused refused) p = absurd p
