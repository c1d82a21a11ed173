-- What leaves of a line, and the claims once it was heard.
use Rattle.std.proofs.Common.{◌≡◌, ℕ, zero, suc, ◌<◌, ◌≤◌, ◌==◌, Bool, true, false, if◌then◌else◌, List, [], ◌∷◌, ◌++◌, length}
use Rattle.std.proofs.Common.{codes, not, ◌&&◌, Option, Some, refl, sym, ap, ap₂, ◌∙◌, subst, get_or, set, arith, inl, inr}
use Rattle.std.specs.List.{flat_map}
use Rattle.std.proofs.lemmas.List.{get_or-set_same, get_or-set_other}
use Rattle.std.proofs.lemmas.Bool.{cases_Bool, le-ltb, eqb-true, eqb-false}
use Rattle.gw_log.specs.LogLines.{Entry}
use Rattle.gw_claims.specs.Claims.{is_local}
use Rattle.gw_claims.specs.Holders.{HoldsAfter}
use Rattle.gw_ledger.specs.Ports.{ports_below}
use Rattle.gw_policy.specs.Batches.{Pair, PortPolicies, StandsAfter, passes}
use Rattle.gw_policy.specs.Allowed.{allowed_ports, may_leave}
use Rattle.gw_judge.specs.declared.interfaces.NamedInterface.{NamedInterface}
use Rattle.gw_judge.specs.Egress.{word_text, lines_at, heard_at, egress_lines, taken_lines}
use Rattle.gw_judge.specs.EgressUnderWay.{HearPorts, lines_below, set_passes}

-- a word that is there has a blank behind it
pub word_there : (word : List ℕ) → (length word == 0) ≡ false → word_text word ≡ word ++ codes " "
word_there word some = ap (λ none. if none then [] else word ++ codes " ") some

-- ports that pass one of two tests that are alike
ports_alike : (n : ℕ) (one other : ℕ → Bool) → ((port : ℕ) → one port ≡ other port) → ports_below n one ≡ ports_below n other
unfolding ports_below
ports_alike zero one other alike = refl
ports_alike (suc n) one other alike =
    ap₂ (λ (ports : List ℕ) b. ports ++ (if b then n ∷ [] else [])) (ports_alike n one other alike) (alike n)

-- a local frame leaves nowhere
pub local_lines : (names : List NamedInterface) (batches : List (List Pair)) (lines : List (List ℕ)) (entry : Entry) (own : ℕ)
    → is_local (heard_at names lines own) entry.octets ≡ true → egress_lines names batches lines entry own ≡ []
local_lines names batches lines entry own local =
    ap (λ b. flat_map (lines_at names entry) (allowed_ports 16 b batches own entry.octets)) local

-- another leaves by the policies that stand after the batches
pub allowed_lines : (names : List NamedInterface) (batches : List (List Pair)) (policies : PortPolicies)
    (lines : List (List ℕ)) (entry : Entry) (own : ℕ) → StandsAfter policies batches
    → is_local (heard_at names lines own) entry.octets ≡ false
    → lines_below names policies entry own 16 ≡ egress_lines names batches lines entry own
allowed_lines names batches policies lines entry own stands other =
    ap (flat_map (lines_at names entry)) (ports_alike 16 (set_passes policies own entry.octets)
    (may_leave batches own entry.octets)
    (λ port. ap (λ policy. not (port == own) && passes policy entry.octets own) (stands.policies port)))
    ∙ sym (ap (λ b. flat_map (lines_at names entry) (allowed_ports 16 b batches own entry.octets)) other)

-- a frame was heard at one port, and nothing at the others
heard_at_own : (claims : List (List (Option ℕ))) (heard : ℕ → List (List ℕ)) (own : ℕ) (octets : List ℕ)
    (now first : List (Option ℕ)) → own < length claims → own < 16 → HearPorts claims heard
    → ((before : List (List ℕ)) → HoldsAfter (get_or claims own first) before → HoldsAfter now (octets ∷ before))
    → HearPorts (set claims own now) (λ port. (if own == port then octets ∷ [] else []) ++ heard port)
heard_at_own claims heard own octets now first within below hears next port d few =
    elim (cases_Bool (own == port)) [
      | inl same ↦
          let is : own ≡ port = eqb-true own port same in
          let there : HoldsAfter now (octets ∷ heard own) = next (heard own) (hears own first below) in
          let at : get_or (set claims own now) port d ≡ now =
          ap (λ p. get_or (set claims own now) p d) (sym is) ∙ get_or-set_same claims own now d within in
          subst (λ b. HoldsAfter (get_or (set claims own now) port d) ((if b then octets ∷ [] else []) ++ heard port)) (sym same)
          (subst (λ p. HoldsAfter (get_or (set claims own now) port d) (octets ∷ heard p)) is
          (subst (λ (table : List (Option ℕ)). HoldsAfter table (octets ∷ heard own)) (sym at) there))
      | inr apart ↦
          let other : port ≡ own → ⊥ = λ same. eqb-false own port apart (sym same) in
          subst (λ b. HoldsAfter (get_or (set claims own now) port d) ((if b then octets ∷ [] else []) ++ heard port)) (sym apart)
          (subst (λ (table : List (Option ℕ)). HoldsAfter table (heard port))
          (sym (get_or-set_other claims own port now d other)) (hears port d few))
    ]

pub heard_there : (claims : List (List (Option ℕ))) (heard : ℕ → List (List ℕ)) (own index : ℕ) (octets said : List ℕ)
    (now first : List (Option ℕ)) → index ≡ own → said ≡ octets → length claims ≡ 16 → own < 16 → HearPorts claims heard
    → ((before : List (List ℕ)) → HoldsAfter (get_or claims index first) before → HoldsAfter now (said ∷ before))
    → HearPorts (set claims index now) (λ port. (if own == port then octets ∷ [] else []) ++ heard port)
heard_there claims heard own index octets said now first at is all below hears next =
    let within : index < length claims = omega arith in
    let few : index < 16 = omega arith in
    subst (λ (o : ℕ). HearPorts (set claims index now) (λ port. (if o == port then octets ∷ [] else []) ++ heard port)) at
    (subst (λ (s : List ℕ). HearPorts (set claims index now) (λ port. (if index == port then s ∷ [] else []) ++ heard port)) is
    (heard_at_own claims heard index said now first within few hears next))

-- whether a frame is local there
pub local_there : (claims : List (List (Option ℕ))) (heard : ℕ → List (List ℕ)) (own index : ℕ) (octets said : List ℕ)
    (first : List (Option ℕ)) (local : Bool) → index ≡ own → said ≡ octets → own < 16 → HearPorts claims heard
    → ((before : List (List ℕ)) → HoldsAfter (get_or claims index first) before → local ≡ is_local before said)
    → is_local (heard own) octets ≡ local
local_there claims heard own index octets said first local at is below hears finds =
    let few : index < 16 = omega arith in
    sym (finds (heard index) (hears index first few)
    ∙ ap (λ (s : List ℕ). is_local (heard index) s) is ∙ ap (λ (o : ℕ). is_local (heard o) octets) at)

-- the frames of an interface of no port are not taken
pub untaken_lines : (names : List NamedInterface) (batches : List (List Pair)) (lines : List (List ℕ)) (entry : Entry)
    (own : ℕ) → 16 ≤ own → taken_lines names batches lines entry (Some own) ≡ []
untaken_lines names batches lines entry own above =
    ap (λ b. if b then egress_lines names batches lines entry own else []) (le-ltb own 16 above)
