-- How a table of claims follows the set.
use Rattle.std.proofs.Common.{◌≡◌, ℕ, zero, suc, ◌<◌, ◌≤◌, Bool, true, false, not, ◌==◌, ◌&&◌, nat_lt, nat_le, if◌then◌else◌}
use Rattle.std.proofs.Common.{List, [], ◌∷◌, length, set, get_or, replicate, Option, Some, None, inl, inr, sym, ap, ◌∙◌, subst}
use Rattle.std.proofs.Common.{refl, arith}
use Rattle.std.proofs.lemmas.Bool.{eqb-true, eqb-false, eq-eqb, ne_eqb, and_parts, and_from, or_cases, or_left, or_right}
use Rattle.std.proofs.lemmas.Bool.{false≢true, leb-true, le-leb, lt-leb, cases_eq, not_from_false, not_from_true, not-true}
use Rattle.std.proofs.lemmas.Bool.{and_left, lt-ltb, le-ltb, cases_lt, false_from_ne_true}
use Rattle.std.proofs.lemmas.List.{get_or-set_other, get_or-set_same, get_or_past, length-set, set_past}
use Rattle.std.specs.Option.{is_some, option_map_or}
use Rattle.gw_claims.specs.Claims.{Claim, is_held_by, is_held, is_defended, without_name, without_address, claims_taken}
use Rattle.gw_claims.specs.Holders.{holder_of, IsTableOf, IsTable, GivesUp, is_open_to, table_taken}
use Rattle.gw_claims.specs.declared.address_claimed.Claim.{Claim as Heard}
use Rattle.gw_claims.proofs.ClaimSets.{claim, found, finds, kept, keeps}

-- an empty table
pub nobody : (count address : ℕ) → holder_of (replicate count None) address ≡ None
nobody zero a = refl
nobody (suc n) zero = refl
nobody (suc n) (suc a) = nobody n a

-- in which no NAME has two addresses
pub nobody_twice : (count one other name : ℕ) → holder_of (replicate count None) one ≡ Some name
    → holder_of (replicate count None) other ≡ Some name → one ≡ other
nobody_twice count one other name has also = let nothing = nobody count one in cc

-- it is the table of no claims
pub empty_table : IsTableOf (replicate 254 None) []
empty_table = record { held = λ a n. ((λ has. let nothing = nobody 254 a in cc), (λ stands. absurd (false≢true stands))) }

module _ (table : List (Option ℕ)) (claims : List Claim) (address : ℕ) (t : IsTableOf table claims) where
  -- a claim of the address is its holder's
  holder_at : (c : Claim) → (c.address == address) ≡ true → is_held_by c.address c.name claims ≡ true
      → holder_of table address ≡ Some c.name
  holder_at c same stands =
      subst (λ a. holder_of table a ≡ Some c.name) (eqb-true c.address address same) ((t.held c.address c.name).1 stands)

  held_at : (holder : Option ℕ) → holder_of table address ≡ holder → is_some holder ≡ is_held address claims
  held_at None none =
      sym (false_from_ne_true (is_held address claims) (λ any.
      let by = finds (λ c. c.address == address) claims any in
      let some = holder_at by.0 by.1 by.2 in cc))
  held_at (Some n) some =
      sym (found (λ c. c.address == address) address n claims ((t.held address n).0 some) (eq-eqb address address refl))

  -- an address is held where the table has a NAME
  pub held_where_some : is_some (holder_of table address) ≡ is_held address claims
  held_where_some = held_at (holder_of table address) refl

  open_at : (name : ℕ) (holder : Option ℕ) → holder_of table address ≡ holder
      → option_map_or (λ held. nat_lt name held) holder true ≡ not (is_defended address name claims)
  open_at m None none =
      sym (not_from_false (is_defended address m claims) (false_from_ne_true _ (λ any.
      let by = finds (λ c. (c.address == address) && nat_le c.name m) claims any in
      let some = holder_at by.0 (and_parts _ _ by.1).0 by.2 in cc)))
  open_at m (Some k) some = elim (cases_lt m k) [ inl greater ↦ lower greater | inr most ↦ defended most ]
    where
      -- a greater holder does not defend the address
      lower : m < k → nat_lt m k ≡ not (is_defended address m claims)
      lower greater = lt-ltb m k greater ∙ sym (not_from_false (is_defended address m claims) (false_from_ne_true _ (λ any.
          let by = finds (λ c. (c.address == address) && nat_le c.name m) claims any in
          let tests = and_parts _ _ by.1 in
          let held = holder_at by.0 tests.0 by.2 in
          let same : by.0.name ≡ k = cc in
          let below : by.0.name ≤ m = leb-true by.0.name m tests.1 in
          absurd (omega arith))))

      defended : k ≤ m → nat_lt m k ≡ not (is_defended address m claims)
      defended most =
          let tests = and_from _ _ (eq-eqb address address refl) (le-leb k m most) in
          let test : Claim → Bool = λ c. (c.address == address) && nat_le c.name m in
          let any = found test address k claims ((t.held address k).0 some) tests in
          le-ltb m k most ∙ sym (not_from_true (is_defended address m claims) any)

  -- the address is open to the NAME just where the set lets it be taken
  pub open_where_free : (name : ℕ) → is_open_to table address name ≡ (nat_le address 253 && not (is_defended address name claims))
  open_where_free m = ap (λ b. nat_le address 253 && b) (open_at m (holder_of table address) refl)

-- the NAME gives up what it held
pub given_up : (old new : List (Option ℕ)) (claims : List Claim) (name : ℕ) → GivesUp old new name → IsTableOf old claims
    → IsTableOf new (without_name name claims)
given_up old new claims m g t = record {
  held = λ a n. (
    (λ has. let before = (g.others a n).0 has in
        kept (λ c. not (c.name == m)) a n claims ((t.held a n).0 before.0) (not_from_false (n == m) (ne_eqb n m before.1))),
    (λ stands. let before = keeps (λ c. not (c.name == m)) a n claims stands in
        (g.others a n).1 ((t.held a n).1 before.0, eqb-false n m (not-true (n == m) before.1))),
  );
}

module _ (table : List (Option ℕ)) (claims : List Claim) (address name : ℕ) (long : length table ≡ 254)
    (t : IsTableOf table claims) where
  -- the table with the address set has the claim and those of other addresses
  taken_there : address ≤ 253 → IsTableOf (set table address (Some name)) (claim address name ∷ without_address address claims)
  taken_there fits =
      let inside : address < length table = omega arith in
      let now : get_or (set table address (Some name)) address None ≡ Some name =
      get_or-set_same table address (Some name) None inside in
      record {
        held = λ a n. (
          (λ has. elim (cases_eq a address) [
            | inl same ↦
                let here : get_or (set table address (Some name)) address None ≡ Some n =
                subst (λ k. get_or (set table address (Some name)) k None ≡ Some n) same has in
                let is : name ≡ n = cc in
                or_left _ _ (and_from _ _ (eq-eqb address a (sym same)) (eq-eqb name n is))
            | inr other ↦
                let before = (t.held a n).0 (sym (get_or-set_other table address a (Some name) None other) ∙ has) in
                let passes = not_from_false (a == address) (ne_eqb a address other) in
                or_right _ _ (kept (λ c. not (c.address == address)) a n claims before passes)
          ]),
          (λ stands. elim (or_cases _ _ stands) [
            | inl here ↦
                let parts = and_parts _ _ here in
                let same = eqb-true address a parts.0 in
                let is = eqb-true name n parts.1 in
                subst (λ k. get_or (set table address (Some name)) k None ≡ Some n) same (now ∙ ap Some is)
            | inr there ↦
                let before = keeps (λ c. not (c.address == address)) a n claims there in
                let other : a ≡ address → ⊥ = eqb-false a address (not-true (a == address) before.1) in
                get_or-set_other table address a (Some name) None other ∙ (t.held a n).1 before.0
          ]),
        );
      }

  taken_where : (free : Bool) → (free ≡ true → address ≤ 253)
      → IsTableOf (if free then set table address (Some name) else table)
      (if free then claim address name ∷ without_address address claims else claims)
  taken_where true fits = taken_there (fits refl)
  taken_where false fits = t

  -- the NAME takes the address
  pub taken : IsTableOf (table_taken table address name) (claims_taken address name claims)
  taken =
      let free = open_where_free table claims address t name in
      subst
      (λ free. IsTableOf (table_taken table address name)
      (if free then claim address name ∷ without_address address claims else claims))
      free
      (taken_where (is_open_to table address name) (λ free. leb-true address 253 (and_parts _ _ free).0))

-- where the table with an address cleared has a NAME, the table has it
still_held : (table : List (Option ℕ)) (cleared address name : ℕ) → holder_of (set table cleared None) address ≡ Some name
    → holder_of table address ≡ Some name
still_held table cleared a n has = elim (cases_lt cleared (length table)) [
  | inl inside ↦ elim (cases_eq a cleared) [
    | inl same ↦
        let there = get_or-set_same table cleared None None inside in
        let nobody_there : holder_of (set table cleared None) a ≡ None =
        subst (λ k. holder_of (set table cleared None) k ≡ None) (sym same) there in
        cc
    | inr other ↦ sym (get_or-set_other table cleared a None None other) ∙ has
  ]
  | inr past ↦ subst (λ t. holder_of t a ≡ Some n) (set_past table cleared None past) has
]

-- a table with an address cleared
pub table_cleared : (table : List (Option ℕ)) (cleared : ℕ) → IsTable table → IsTable (set table cleared None)
table_cleared table cleared t = record {
  addresses = length-set table cleared None ∙ t.addresses;
  one_each = λ one other name has also. t.one_each one other name (still_held table cleared one name has)
      (still_held table cleared other name also);
}

-- a frame with a destination is local where the destination is held. The parts of its identifier are variables here.
pub local_where : (table : List (Option ℕ)) (claims : List Claim) → IsTableOf table claims
    → (extended pdu1 : Bool) (specific address : ℕ)
    → (if extended then Some (if pdu1 then specific else 255) else None) ≡ Some address
    → (253 < address → holder_of table address ≡ None)
    → is_some (holder_of table address)
    ≡ (extended && (pdu1 && (nat_le (if pdu1 then specific else 255) 253 && is_held (if pdu1 then specific else 255) claims)))
local_where table claims t false pdu1 ps a d above = cc
local_where table claims t true true ps a d above =
    let is : ps ≡ a = cc in
    elim (cases_lt 253 a) [
      | inl high ↦
          let past : nat_le ps 253 ≡ false = lt-leb ps 253 (subst (λ k. 253 < k) (sym is) high) in
          ap is_some (above high) ∙ sym (and_left (nat_le ps 253) (is_held ps claims) past)
      | inr low ↦
          let within : nat_le ps 253 ≡ true = le-leb ps 253 (subst (λ k. k ≤ 253) (sym is) low) in
          held_where_some table claims a t ∙ ap (λ k. is_held k claims) (sym is) ∙ ap (λ b. b && is_held ps claims) (sym within)
    ]
local_where table claims t true false ps a d above =
    let is : 255 ≡ a = cc in
    ap is_some (above (omega arith))

-- and a frame with none is not
pub not_local : (extended rest : Bool) (address : ℕ) → (if extended then Some address else None) ≡ None
    → false ≡ (extended && rest)
not_local false rest a d = refl
not_local true rest a d = cc

-- what a claim leaves, where the table follows it in the same two steps
pub claim_followed : (old between new : List (Option ℕ)) (claims : List Claim) (address name : ℕ) → GivesUp old between name
    → new ≡ table_taken between address name → length between ≡ 254 → IsTableOf old claims
    → IsTableOf new (claims_taken address name (without_name name claims))
claim_followed old between new claims a n gives takes long t =
    subst (λ table. IsTableOf table (claims_taken a n (without_name n claims))) (sym takes)
    (taken between (without_name n claims) a n long (given_up old between claims n gives t))

-- a claim of the NAME that holds the address: it gives the address up, and takes it again
module _ (table : List (Option ℕ)) (address name : ℕ) (t : IsTable table) (has : holder_of table address ≡ Some name) where
  abbrev cleared : List (Option ℕ)
  cleared = set table address None

  inside : address < length table
  inside = elim (cases_lt address (length table)) [
    | inl below ↦ below
    | inr past ↦ let nobody_there = get_or_past table address None past in cc
  ]

  given : GivesUp table cleared name
  given = record {
    others = λ a n. (
      (λ held. let before = still_held table address a n held in (
        before,
        (λ same.
            let here = t.one_each a address name (before ∙ ap Some same) has in
            let nobody_there = get_or-set_same table address None None inside in
            let held_there : holder_of (set table address None) address ≡ Some n =
            subst (λ k. holder_of (set table address None) k ≡ Some n) here held in
            cc),
      )),
      (λ held.
          get_or-set_other table address a None None
          (λ same. let before = subst (λ k. holder_of table k ≡ Some n) same held.0 in held.1 cc) ∙ held.0),
    );
  }

  retaken : (a : ℕ) → holder_of (set cleared address (Some name)) a ≡ holder_of table a
  retaken a = elim (cases_eq a address) [
    | inl same ↦
        ap (λ k. holder_of (set cleared address (Some name)) k) same
        ∙ get_or-set_same cleared address (Some name) None (subst (λ n. address < n) (sym (length-set table address None)) inside)
        ∙ sym has ∙ ap (holder_of table) (sym same)
    | inr other ↦
        get_or-set_other cleared address a (Some name) None other ∙ get_or-set_other table address a None None other
  ]

  free : is_open_to cleared address name ≡ true
  free =
      let within : nat_le address 253 ≡ true = le-leb address 253 (omega (arith, inside, t.addresses)) in
      and_from _ _ within
      (ap (λ holder. option_map_or (λ held. nat_lt name held) holder true) (get_or-set_same table address None None inside))

  -- so the table stays
  pub claimed_again : (claims : List Claim) → IsTableOf table claims
      → IsTableOf table (claims_taken address name (without_name name claims))
  claimed_again claims is =
      let after =
      claim_followed table cleared (set cleared address (Some name)) claims address name given
      (sym (ap (λ (b : Bool). if b then set cleared address (Some name) else cleared) free))
      (length-set table address None ∙ t.addresses) is in
      record {
        held = λ a n. (
          (λ held. (after.held a n).0 (retaken a ∙ held)),
          (λ stands. sym (retaken a) ∙ (after.held a n).1 stands),
        );
      }

-- a record that counts is heard as the claim that it makes, and another changes nothing
pub record_followed : (new : List (Option ℕ)) (claims : List Claim) (counts : Bool) (address name : ℕ) (heard : Heard)
    → Some heard ≡ (if counts then Some (record { address = address; name = name }) else None)
    → IsTableOf new (claims_taken heard.address heard.name (without_name heard.name claims))
    → IsTableOf new (if counts then claims_taken address name (without_name name claims) else claims)
record_followed new claims true a n heard is follows =
    let claim : heard ≡ record { address = a; name = n } = cc in
    subst (λ h. IsTableOf new (claims_taken h.address h.name (without_name h.name claims))) claim follows
record_followed new claims false a n heard is follows = cc
