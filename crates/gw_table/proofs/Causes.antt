-- Which cause is told of a rule that never decides: the first, and none where no cause holds.
use Rattle.std.proofs.Common.{◌≡◌, ℕ, suc, ◌+◌, ◌<◌, true, List, [], ◌∷◌, Some, None, get_or, map, take, sym, ap, subst, ◌∙◌}
use Rattle.std.proofs.Common.{refl, arith}
use Rattle.std.proofs.lemmas.Bool.{false≢true}
use Rattle.std.proofs.lemmas.List.{length-take, get_or-take}
use Rattle.std.proofs.lemmas.List.Elements.{All-nil, All-cons, All-same, All-map}
use Rattle.std.proofs.lemmas.List.FromFn.{length-range_with_len, get_or-range_with_len, length-map-range_with_len}
use Rattle.std.proofs.lemmas.List.FromFn.{get_or-map-range_with_len, take-map-range_with_len}
use Rattle.std.proofs.lemmas.List.Quantifiers.{position-Some}
use Rattle.std.proofs.lemmas.List.Sums.{fails_before_first}
use Rattle.std.proofs.lemmas.Option.{get_or_from_slice_get, slice_get_within, slice_get-get_or, same_Some}
use Rattle.std.specs.Prelude.{slice_get, Option, IfSome, OnSome, All, length}
use Rattle.std.specs.List.{position, position_or_len, range_with_len}
use Rattle.gw_table.specs.declared.table.Rule.{Rule}
use Rattle.gw_table.specs.declared.table.Part.TheVariants as part
use Rattle.gw_table.specs.declared.dead.WhyDead.{WhyDead}
use Rattle.gw_table.specs.declared.dead.WhyDead.TheVariants.{NoGroup, NoPort, NoDestination, Covered}
use Rattle.gw_table.specs.Table.{Meaning, Decides}
use Rattle.gw_table.specs.Dead.{HasNoGroup, HasNoPort, HasNoDestination, covers, AtRule, IsDead, IsFirstCause}
use Rattle.gw_table.specs.Dead.{IsOwnCause, HasNoOwnCause}
use Rattle.gw_table.proofs.NeverDecides.{position_is, position_none, dead_never}

-- a cause does not hold of the rule of a number
abbrev Absent : List Rule → ℕ → WhyDead → Type 0
Absent rules number why = ¬ IsDead rules number why

-- what the rule of a number has not, no rule of the number has
not_there : (rules : List Rule) (number : ℕ) (judged : Rule) (P : Rule → Type 0) → slice_get rules number ≡ Some judged
    → ¬ P judged → AtRule rules number P → ⊥
not_there rules number judged P here none at = none (subst P (same_Some at.rule judged (sym at.here ∙ here)) at.holds)

-- a rule before the first that covers it does not cover it
not_covered : (rules : List Rule) (number : ℕ) (judged : Rule) (before : ℕ) → slice_get rules number ≡ Some judged
    → before < position_or_len (λ rule. covers rule judged) (take number rules) → ¬ IsDead rules number (Covered before)
not_covered rules number judged before here early = λ dead.
    let earlier = dead.1 in
    let fails = fails_before_first (λ rule. covers rule judged) (take number rules) before earlier.rule early in
    let found = get_or-take number rules before earlier.rule dead.0
    ∙ get_or_from_slice_get rules before earlier.rule earlier.rule earlier.here in
    not_there rules number judged (λ rule. covers earlier.rule rule ≡ true) here
    (λ is. false≢true (sym fails ∙ ap (λ rule. covers rule judged) found ∙ is)) earlier.holds

-- no cause holds of a rule that has none by itself and that no earlier rule covers
pub is_alive : (rules : List Rule) (number : ℕ) (judged : Rule) → slice_get rules number ≡ Some judged → HasNoOwnCause judged
    → position (λ rule. covers rule judged) (take number rules) ≡ None → (why : WhyDead) → ¬ IsDead rules number why
is_alive rules number judged here own none NoGroup = not_there rules number judged HasNoGroup here own.group
is_alive rules number judged here own none NoPort = not_there rules number judged HasNoPort here own.port
is_alive rules number judged here own none NoDestination =
    not_there rules number judged HasNoDestination here own.destination
is_alive rules number judged here own none (Covered before) = λ dead.
    let past = position_none (λ rule. covers rule judged) (take number rules) none in
    let inside = slice_get_within rules before dead.1.rule dead.1.here in
    not_covered rules number judged before here (omega (arith, past, inside, dead.0, length-take number rules)) dead

-- a rule that an earlier one, of this number, covers
covered_dead : (rules : List Rule) (number : ℕ) (judged : Rule) (before : ℕ) → slice_get rules number ≡ Some judged
    → position (λ rule. covers rule judged) (take number rules) ≡ Some before → IsDead rules number (Covered before)
covered_dead rules number judged before here is =
    let (same, inside) = position_is (λ rule. covers rule judged) (take number rules) before is in
    let first = position-Some (λ rule. covers rule judged) (take number rules) before judged is in
    let earlier : before < number = omega (arith, inside, length-take number rules) in
    let short : before < length rules = omega (arith, inside, length-take number rules) in (
      earlier,
      record {
        rule = get_or rules before judged;
        here = slice_get-get_or rules before judged short;
        holds = record {
          rule = judged;
          here = here;
          holds = ap (λ rule. covers rule judged) (sym (get_or-take number rules before judged earlier)) ∙ first.1;
        };
      },
    )

-- the cause that a rule has by itself is the first of all
pub own_is_first : (rules : List Rule) (number : ℕ) (judged : Rule) (why : WhyDead) → slice_get rules number ≡ Some judged
    → IsOwnCause judged why → IsFirstCause rules number why
own_is_first rules number judged NoGroup here is =
    record {
      index = 0;
      here = refl;
      dead = record { rule = judged; here = here; holds = is };
      first = All-nil (Absent rules number);
    }
own_is_first rules number judged NoPort here is =
    record {
      index = 1;
      here = refl;
      dead = record { rule = judged; here = here; holds = is.1 };
      first =
          All-cons (Absent rules number) NoGroup [] (not_there rules number judged HasNoGroup here is.0)
          (All-nil (Absent rules number));
    }
own_is_first rules number judged NoDestination here is =
    record {
      index = 2;
      here = refl;
      dead = record { rule = judged; here = here; holds = is.2 };
      first =
          All-cons (Absent rules number) NoGroup (NoPort ∷ []) (not_there rules number judged HasNoGroup here is.0)
          (All-cons (Absent rules number) NoPort [] (not_there rules number judged HasNoPort here is.1)
          (All-nil (Absent rules number)));
    }
own_is_first rules number judged (Covered by) here is = absurd is

-- no rule before the first that covers it does
no_earlier : (rules : List Rule) (number : ℕ) (judged : Rule) (by : ℕ) → slice_get rules number ≡ Some judged
    → position_or_len (λ rule. covers rule judged) (take number rules) ≡ by → by < number
    → All (Absent rules number) (take by (map Covered (range_with_len 0 number)))
no_earlier rules number judged by here same early =
    All-same (Absent rules number) _ _ (take-map-range_with_len Covered 0 number by (omega arith))
    (All-map (Absent rules number) Covered (range_with_len 0 by) (λ k d below.
    let less : k < by = omega (arith, below, length-range_with_len 0 by) in
    subst (λ n. Absent rules number (Covered n)) (sym (get_or-range_with_len 0 by k d less))
    (not_covered rules number judged (0 + k) here (omega arith))))

-- no cause that a rule has by itself, and none of a list behind these
none_of_own : (rules : List Rule) (number : ℕ) (judged : Rule) → slice_get rules number ≡ Some judged → HasNoOwnCause judged
    → (rest : List WhyDead) → All (Absent rules number) rest
    → All (Absent rules number) (NoGroup ∷ NoPort ∷ NoDestination ∷ rest)
none_of_own rules number judged here own rest absent =
    All-cons (Absent rules number) NoGroup (NoPort ∷ NoDestination ∷ rest)
    (not_there rules number judged HasNoGroup here own.group)
    (All-cons (Absent rules number) NoPort (NoDestination ∷ rest) (not_there rules number judged HasNoPort here own.port)
    (All-cons (Absent rules number) NoDestination rest (not_there rules number judged HasNoDestination here own.destination)
    absent))

-- where a rule has no cause by itself, the first rule that covers it is the first of all
pub cover_is_first : (rules : List Rule) (number : ℕ) (judged : Rule) (by : ℕ) → slice_get rules number ≡ Some judged
    → HasNoOwnCause judged → position (λ rule. covers rule judged) (take number rules) ≡ Some by
    → IsFirstCause rules number (Covered by)
cover_is_first rules number judged by here own is =
    let dead = covered_dead rules number judged by here is in
    let same = (position_is (λ rule. covers rule judged) (take number rules) by is).0 in
    record {
      index = suc (suc (suc by));
      here =
          slice_get-get_or (map Covered (range_with_len 0 number)) by (Covered by)
          (omega (arith, dead.0, length-map-range_with_len Covered 0 number))
          ∙ ap Some (get_or-map-range_with_len Covered 0 number by by (Covered by) dead.0 (omega arith));
      dead = dead;
      first =
          none_of_own rules number judged here own (take by (map Covered (range_with_len 0 number)))
          (no_earlier rules number judged by here same dead.0);
    }

-- what is told of a rule, if anything
pub told_never : (table : Meaning) (number : ℕ) (found : Option WhyDead) → IfSome found (IsFirstCause table.rules number)
    → OnSome found ((octets : List ℕ) (port : ℕ) → port < 16 → ¬ Decides table octets port (part.Rule number))
told_never table number None is = tt
told_never table number (Some why) is = dead_never table number why is.dead
