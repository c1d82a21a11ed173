-- Verdicts that are kept by the words of frames.
use Rattle.std.proofs.Common.{◌≡◌, ℕ, ◌<◌, ◌==◌, nat_lt, Bool, true, false, ◌&&◌, ◌||◌, not, List, []}
use Rattle.std.proofs.Common.{◌≢◌, refl, sym, ap, ◌∙◌, subst, inl, inr}
use Rattle.std.proofs.lemmas.Bool.{and_parts, cases_eq, false≢true, lt-ltb, ne_eqb}
use Rattle.gw_frame.specs.Record.{IsRecord, word_of}
use Rattle.gw_ledger.specs.Ports.{has_port, ports_below}
use Rattle.gw_ledger.proofs.Callers.{has_port-ports_below, same_ports}
use Rattle.gw_policy.specs.Batches.{PortPolicies, passes, policy_at}
use Rattle.gw_policy.specs.Cached.{AreByWord, IsByWord}

-- ---- ports whose policies judge by the word

pub has_none : (ports : List ℕ) → ports ≡ [] → (port : ℕ) → has_port port ports ≢ true
has_none ports none port has = false≢true (sym (ap (has_port port) none) ∙ has)

pub one_more_by_word : (set : PortPolicies) (n : ℕ) (ports more : List ℕ) → AreByWord set ports → IsByWord (policy_at n set)
    → ((port : ℕ) → has_port port more ≡ ((n == port) || has_port port ports)) → AreByWord set more
one_more_by_word set n ports more before this members port has = elim (cases_eq n port) [
  | inl same ↦ subst (λ k. IsByWord (policy_at k set)) same this
  | inr apart ↦ before port (sym (members port ∙ ap (λ b. b || has_port port ports) (ne_eqb n port apart)) ∙ has)
]

-- ---- what is kept, and what is judged anew

in_set : (set : List ℕ) (test : ℕ → Bool) (port : ℕ) → set ≡ ports_below 16 test → port < 16 → has_port port set ≡ test port
in_set set test port is low =
    ap (has_port port) is ∙ has_port-ports_below 16 port test ∙ ap (λ b. b && test port) (lt-ltb port 16 low)

known_one : (judged passes asked : Bool) → (asked && not judged) ≡ false → ((judged && passes) && asked) ≡ (asked && passes)
known_one true true true is = refl
known_one true true false is = refl
known_one true false true is = refl
known_one true false false is = refl
known_one false passes true is = absurd (false≢true (sym is))
known_one false passes false is = refl

known_or_judged : (judged passes asked : Bool) → (((judged && passes) && asked) || ((asked && not judged) && passes))
    ≡ (asked && passes)
known_or_judged true true true = refl
known_or_judged true true false = refl
known_or_judged true false true = refl
known_or_judged true false false = refl
known_or_judged false passes true = refl
known_or_judged false passes false = refl

by_word_alone : (asked passes by_word other : Bool) → (by_word ≡ true → passes ≡ other)
    → ((asked && passes) && by_word) ≡ ((asked && by_word) && other)
by_word_alone true true true other same = same refl
by_word_alone true false true other same = same refl
by_word_alone true true false other same = refl
by_word_alone true false false other same = refl
by_word_alone false passes by_word other same = refl

-- a port of which nothing is known is one that is asked for
pub unknown_within : (asked judged unknown : List ℕ)
    → unknown ≡ ports_below 16 (λ port. has_port port asked && not (has_port port judged)) → (ports : ℕ)
    → ((port : ℕ) → has_port port asked ≡ true → port < ports) → (port : ℕ) → has_port port unknown ≡ true → port < ports
unknown_within asked judged unknown unknown_is ports within port has =
    let (low, rest) = and_parts (nat_lt port 16) (has_port port asked && not (has_port port judged))
    (sym (ap (has_port port) unknown_is
    ∙ has_port-ports_below 16 port (λ port. has_port port asked && not (has_port port judged))) ∙ has) in
    within port (and_parts (has_port port asked) (not (has_port port judged)) rest).0

module _ (asked judged passing kept unknown : List ℕ) (test : ℕ → Bool)
    (passing_is : passing ≡ ports_below 16 (λ port. has_port port judged && test port))
    (kept_is : kept ≡ ports_below 16 (λ port. has_port port passing && has_port port asked))
    (unknown_is : unknown ≡ ports_below 16 (λ port. has_port port asked && not (has_port port judged))) where
  in_kept : (port : ℕ) → port < 16 → has_port port kept ≡ ((has_port port judged && test port) && has_port port asked)
  in_kept port low = in_set kept (λ port. has_port port passing && has_port port asked) port kept_is low
      ∙ ap (λ b. b && has_port port asked) (in_set passing (λ port. has_port port judged && test port) port passing_is low)

  in_unknown : (port : ℕ) → port < 16 → has_port port unknown ≡ (has_port port asked && not (has_port port judged))
  in_unknown port low = in_set unknown (λ port. has_port port asked && not (has_port port judged)) port unknown_is low

  -- where all that are asked for were judged, those that pass are kept
  pub all_known : unknown ≡ [] → kept ≡ ports_below 16 (λ port. has_port port asked && test port)
  all_known none =
      kept_is ∙ same_ports 16 (λ port. has_port port passing && has_port port asked) (λ port. has_port port asked && test port)
      (λ port low. sym (in_set kept (λ port. has_port port passing && has_port port asked) port kept_is low) ∙ in_kept port low
      ∙ known_one (has_port port judged) (test port) (has_port port asked)
      (sym (in_unknown port low) ∙ ap (has_port port) none))

  -- and else those are added that are judged
  pub rest_judged : (others all : List ℕ) → others ≡ ports_below 16 (λ port. has_port port unknown && test port)
      → all ≡ ports_below 16 (λ port. has_port port kept || has_port port others)
      → all ≡ ports_below 16 (λ port. has_port port asked && test port)
  rest_judged others all others_is all_is =
      all_is ∙ same_ports 16 (λ port. has_port port kept || has_port port others) (λ port. has_port port asked && test port)
      (λ port low. ap (λ b. b || has_port port others) (in_kept port low)
      ∙ ap (λ b. ((has_port port judged && test port) && has_port port asked) || b)
      (in_set others (λ port. has_port port unknown && test port) port others_is low
      ∙ ap (λ b. b && test port) (in_unknown port low))
      ∙ known_or_judged (has_port port judged) (test port) (has_port port asked))

-- what policies by the word said of one record they say of each that has its word
pub told_of_the_word : (set : PortPolicies) (asked by_word all judged passing frame : List ℕ) (from : ℕ) → AreByWord set by_word
    → IsRecord frame
    → all ≡ ports_below 16 (λ port. has_port port asked && passes (policy_at port set) frame from)
    → judged ≡ ports_below 16 (λ port. has_port port asked && has_port port by_word)
    → passing ≡ ports_below 16 (λ port. has_port port all && has_port port by_word) → (other : List ℕ) → IsRecord other
    → word_of other ≡ word_of frame
    → passing ≡ ports_below 16 (λ port. has_port port judged && passes (policy_at port set) other from)
told_of_the_word set asked by_word all judged passing frame from are is_frame all_is judged_is passing_is other is_other same =
    passing_is ∙ same_ports 16 (λ port. has_port port all && has_port port by_word)
    (λ port. has_port port judged && passes (policy_at port set) other from)
    (λ port low.
    ap (λ b. b && has_port port by_word)
    (in_set all (λ port. has_port port asked && passes (policy_at port set) frame from) port all_is low)
    ∙ by_word_alone (has_port port asked) (passes (policy_at port set) frame from) (has_port port by_word)
    (passes (policy_at port set) other from) (λ has. are port has frame other from is_frame is_other (sym same))
    ∙ ap (λ b. b && passes (policy_at port set) other from)
    (sym (in_set judged (λ port. has_port port asked && has_port port by_word) port judged_is low)))
