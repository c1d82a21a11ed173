-- The batch with which a run begins, one source after another.
use Rattle.std.proofs.Common.{◌≡◌, ◌∙◌, ℕ, ◌+◌, ◌<◌, ◌≤◌, ◌==◌, false, List, [], ◌∷◌, ◌++◌, length, get_or}
use Rattle.std.proofs.Common.{ap, sym, subst, refl, arith, map, Vec, Global}
use Rattle.std.proofs.Common.{zero, suc, Option, Some, None, if◌then◌else◌, length-append, ⊎_elim}
use Rattle.std.specs.List.{All}
use Rattle.std.proofs.lemmas.List.{get_or_default, get_or-map}
use Rattle.std.proofs.lemmas.Bool.{cases_eq, false≢true}
use Rattle.std.proofs.lemmas.Bool.Decides.{nat_tests}
use Rattle.std.proofs.lemmas.List.Elements.{All-append}
use Rattle.std.proofs.lemmas.List.Folds.{list_any_none}
use Rattle.gw_policy.specs.Filter.{Filter}
use Rattle.gw_policy.specs.Batches.{Pair, names, names_port, policy_after}
use Rattle.gw_policy.proofs.Callers.{policy_after-more}
use Rattle.gw_answers.specs.declared.policies.PolicySource.{PolicySource}
use Rattle.gw_answers.specs.declared.policies.PolicySource.TheVariants.{Opening}
use Rattle.gw_answers.specs.declared.refusal.Refusal.{Refusal}
use Rattle.gw_policy.specs.BatchRefusals.{IsBatchRefusal}
use Rattle.gw_policy.specs.declared.batch.BatchRefusal.{BatchRefusal}
use Rattle.gw_policy.specs.declared.batch.BatchRefusal.TheVariants.{SamePortTwice, Full}
use Rattle.gw_answers.specs.Policies.{MeansPolicy, RefusesSource}
use Rattle.gw_run.specs.Forwarding.{MeansAt, RefusesSources, joined}

-- what the files hold
abbrev pub octets_of : List (Vec ℕ Global) → List (List ℕ)
octets_of texts = map (λ (text : Vec ℕ Global). text.items) texts

-- what holds of a port's source and of its text, wherever they were read
at_port : (P : PolicySource → List ℕ → Type 0) (sources : List PolicySource) (texts : List (Vec ℕ Global)) (port : ℕ)
    (d : PolicySource) (e : Vec ℕ Global) (text : List ℕ) → port < length sources → length texts ≡ length sources
    → text ≡ (get_or texts port e).items → P (get_or sources port d) text
    → P (get_or sources port Opening) (get_or (octets_of texts) port [])
at_port P sources texts port d e text below even is holds =
    subst (λ s. P s (get_or (octets_of texts) port [])) (get_or_default sources port d Opening below)
    (subst (P (get_or sources port d))
    (is ∙ sym (get_or-map (λ (t : Vec ℕ Global). t.items) texts port e [] (omega arith))) holds)

-- the ports below a number have what is meant for them, and no other port has a policy
pub record IsBegun (Means : ℕ → Option Filter → Type 0) (port : ℕ) (first : List Pair) : Type 0 where
  pub means : (k : ℕ) → k < port → Means k (policy_after k first None)
  pub others : (k : ℕ) → port ≤ k → policy_after k first None ≡ None
  pub ports : All (λ pair. pair.port < port) first
  pub few : length first ≤ port

-- the port has no policy yet
pub not_named : (Means : ℕ → Option Filter → Type 0) (port : ℕ) (first : List Pair) → IsBegun Means port first
    → names_port port first ≡ false
not_named Means port first so_far =
    list_any_none (names port) first (λ k d below. apart (get_or first k d).port port (so_far.ports k d below))
  where
    apart : (a b : ℕ) → a < b → (a == b) ≡ false
    apart a b less = grind (arith, nat_tests)

more_ports : (port : ℕ) (first : List Pair) → All (λ pair. pair.port < port) first → All (λ pair. pair.port < port + 1) first
more_ports port first so_far = λ k d below. weaker (get_or first k d).port port (so_far k d below)
  where
    weaker : (a b : ℕ) → a < b → a < b + 1
    weaker a b less = omega arith

-- the opening block is meant for the port
begun_without : (Means : ℕ → Option Filter → Type 0) (port : ℕ) (first : List Pair) → IsBegun Means port first
    → Means port None → IsBegun Means (port + 1) first
begun_without Means port first so_far none = record {
  means = λ k below. ⊎_elim
      (λ (here : k ≡ port).
      subst (λ n. Means n (policy_after n first None)) (sym here)
      (subst (Means port) (sym (so_far.others port (omega arith))) none))
      (λ (other : k ≡ port → ⊥). so_far.means k (strict k port below other))
      (cases_eq k port);
  others = λ k above. so_far.others k (omega arith);
  ports = more_ports port first so_far.ports;
  few = (let few = so_far.few in omega arith);
}
  where
    strict : (k n : ℕ) → k < n + 1 → (k ≡ n → ⊥) → k < n
    strict k n below other = grind arith

-- a policy is meant for the port
begun_with : (Means : ℕ → Option Filter → Type 0) (port : ℕ) (first now : List Pair) (policy : Filter) → IsBegun Means port first
    → now ≡ first ++ record { port = port; policy = policy } ∷ []
    → Means port (Some policy) → IsBegun Means (port + 1) now
begun_with Means port first now policy so_far added meant = record {
  means = λ k below. ⊎_elim
      (λ (here : k ≡ port).
      subst (λ n. Means n (policy_after n now None)) (sym here) (subst (Means port) (sym (at port ∙ own port)) meant))
      (λ (other : k ≡ port → ⊥).
      subst (Means k) (sym (at k ∙ foreign k (λ (e : port ≡ k). other (sym e)))) (so_far.means k (strict k port below other)))
      (cases_eq k port);
  others = λ k above. at k ∙ foreign k (λ (e : port ≡ k). omega arith) ∙ so_far.others k (omega arith);
  ports =
      subst (λ (l : List Pair). All (λ pair. pair.port < port + 1) l) (sym added)
      (All-append (λ pair. pair.port < port + 1) first (pair ∷ []) (more_ports port first so_far.ports) one);
  few = (let few = so_far.few in let size = ap length added ∙ length-append first (pair ∷ []) in omega arith);
}
  where
    pair : Pair
    pair = record { port = port; policy = policy }

    at : (k : ℕ) → policy_after k now None ≡ (if port == k then Some policy else policy_after k first None)
    at k = ap (λ l. policy_after k l None) added ∙ policy_after-more k first pair None

    own : (k : ℕ) → (if k == k then Some policy else policy_after k first None) ≡ Some policy
    own k = grind (arith, nat_tests)

    foreign : (k : ℕ) → (port ≡ k → ⊥)
        → (if port == k then Some policy else policy_after k first None) ≡ policy_after k first None
    foreign k other = grind (arith, nat_tests)

    strict : (k n : ℕ) → k < n + 1 → (k ≡ n → ⊥) → k < n
    strict k n below other = grind arith

    only : (k : ℕ) (d : Pair) → k < length (pair ∷ []) → get_or (pair ∷ []) k d ≡ pair
    only zero d below = refl
    only (suc k) d below = absurd (omega arith)

    one : All (λ pair. pair.port < port + 1) (pair ∷ [])
    one = λ k d below. subst (λ (p : Pair). p.port < port + 1) (sym (only k d below)) (omega arith)

-- the policy that the port's source means joins, if it means one
pub begun_more : (sources : List PolicySource) (texts : List (Vec ℕ Global)) (port : ℕ) (d : PolicySource) (e : Vec ℕ Global)
    (text : List ℕ) (first now : List Pair) (policy : Option Filter) → IsBegun (MeansAt sources (octets_of texts)) port first
    → port < length sources → length texts ≡ length sources → text ≡ (get_or texts port e).items
    → MeansPolicy (get_or sources port d) text policy → now ≡ joined port policy first
    → IsBegun (MeansAt sources (octets_of texts)) (port + 1) now
begun_more sources texts port d e text first now (Some policy) so_far below even is meant added =
    begun_with (MeansAt sources (octets_of texts)) port first now policy so_far added
    (at_port (λ s t. MeansPolicy s t (Some policy)) sources texts port d e text below even is meant)
begun_more sources texts port d e text first now None so_far below even is meant added =
    subst (λ (f : List Pair). IsBegun (MeansAt sources (octets_of texts)) (port + 1) f) (sym added)
    (begun_without (MeansAt sources (octets_of texts)) port first so_far
    (at_port (λ s t. MeansPolicy s t None) sources texts port d e text below even is meant))

-- a port that has no policy yet joins
pub not_refused : (port : ℕ) (policy : Filter) (first : List Pair) (why : BatchRefusal) → names_port port first ≡ false
    → length first < 16 → IsBatchRefusal port policy first why → ⊥
not_refused port policy first (SamePortTwice back) free room why = absurd (false≢true (sym free ∙ why.0))
not_refused port policy first (Full back) free room why = let full = why.1 in absurd (omega arith)

pub source_refused : (sources : List PolicySource) (texts : List (Vec ℕ Global)) (port : ℕ) (d : PolicySource)
    (e : Vec ℕ Global) (text : List ℕ) (first : List Pair) (refusal : Refusal)
    → IsBegun (MeansAt sources (octets_of texts)) port first → port < length sources → length texts ≡ length sources
    → text ≡ (get_or texts port e).items → RefusesSource (get_or sources port d) text refusal
    → RefusesSources sources (octets_of texts) refusal
source_refused sources texts port d e text first refusal so_far below even is refused = record {
  port = port;
  within = below;
  before = λ k earlier. (policy_after k first None, so_far.means k earlier);
  refused = at_port (λ s t. RefusesSource s t refusal) sources texts port d e text below even is refused;
}
