-- Lists of the ports that pass a test, and what adding a port leaves of them.
use Rattle.std.proofs.Common.{◌≡◌, ℕ, zero, suc, ◌<◌, ◌≤◌, Bool, true, false, ◌==◌, nat_lt, ◌&&◌, ◌||◌, if◌then◌else◌, List, []}
use Rattle.std.proofs.Common.{◌∷◌, ◌++◌, length, inl, inr, sym, ap, ◌∙◌, subst, refl, arith, append-nil}
use Rattle.std.specs.List.{All}
use Rattle.std.proofs.lemmas.Bool.{cases_lt, cases_eq, eq-eqb, ne_eqb, eqb-true, lt-ltb, le-ltb, false≢true}
use Rattle.std.proofs.lemmas.List.{length-append}
use Rattle.std.proofs.lemmas.List.Folds.{list_any-append}
use Rattle.std.proofs.lemmas.List.Elements.{All-nil, All-cons, All-head, All-tail, All-append, All-weaker}
use Rattle.gw_ledger.specs.Ports.{has_port, with_port, ports_below, IsPortSet, IsPartOf}

-- the port alone where it passes, else none: what one more port adds to `ports_below`
abbrev when : Bool → ℕ → List ℕ
when passes port = if passes then port ∷ [] else []

-- two tests that agree below a number pass the same ports below it
pub same_ports : (count : ℕ) (test other : ℕ → Bool) → ((port : ℕ) → port < count → test port ≡ other port)
    → ports_below count test ≡ ports_below count other
unfolding ports_below
same_ports zero test other agree = refl
same_ports (suc n) test other agree =
    let rest = same_ports n test other (λ port below. agree port (omega arith)) in
    ap (λ ports. ports ++ when (test n) n) rest ∙ ap (λ b. ports_below n other ++ when b n) (agree n (omega arith))

has_last : (passes : Bool) (n port : ℕ) → has_port port (when passes n) ≡ (passes && (n == port))
has_last true n port = or_none (n == port)
  where
    or_none : (b : Bool) → (b || false) ≡ b
    or_none true = refl
    or_none false = refl
has_last false n port = refl

-- A port below suc n passes where it is below n and passes, or where it is n and passes: by whether the port is below n, is n,
-- or is above it.
one_more : (n port : ℕ) (test : ℕ → Bool)
    → ((nat_lt port n && test port) || (test n && (n == port))) ≡ (nat_lt port (suc n) && test port)
one_more n port test = elim (cases_lt port n) [
  | inl below ↦
      rw (lt-ltb port n below, lt-ltb port (suc n) (omega arith), ne_eqb n port (λ same. omega arith))
      (or_never (test port) (test n))
  | inr from ↦ elim (cases_eq n port) [
    | inl same ↦
        rw (le-ltb port n from, lt-ltb port (suc n) (omega arith), eq-eqb n port same) (and_true (test n) ∙ ap test same)
    | inr other ↦
        let above : suc n ≤ port = omega arith in
        rw (le-ltb port n from, le-ltb port (suc n) above, ne_eqb n port other) (and_false (test n))
  ]
]
  where
    or_never : (a b : Bool) → (a || (b && false)) ≡ a
    or_never true b = refl
    or_never false true = refl
    or_never false false = refl

    and_true : (b : Bool) → (b && true) ≡ b
    and_true true = refl
    and_true false = refl

    and_false : (b : Bool) → (b && false) ≡ false
    and_false true = refl
    and_false false = refl

-- the list has the ports that pass, and no others
pub has_port-ports_below : (count port : ℕ) (test : ℕ → Bool)
    → has_port port (ports_below count test) ≡ (nat_lt port count && test port)
unfolding ports_below
has_port-ports_below zero port test =
    let past : nat_lt port 0 ≡ false = le-ltb port 0 (omega arith) in ap (λ b. b && test port) (sym past)
has_port-ports_below (suc n) port test =
    list_any-append (λ other. other == port) (ports_below n test) (when (test n) n)
    ∙ ap (λ b. b || has_port port (when (test n) n)) (has_port-ports_below n port test)
    ∙ ap (λ b. (nat_lt port n && test port) || b) (has_last (test n) n port)
    ∙ one_more n port test

-- the ports below a number are below it
pub all_below : (count : ℕ) (test : ℕ → Bool) → All (λ port. port < count) (ports_below count test)
unfolding ports_below
all_below zero test = All-nil (λ port. port < 0)
all_below (suc n) test =
    let lower : (port : ℕ) → port < n → port < suc n = λ port below. omega arith in
    let rest = All-weaker (λ port. port < n) (λ port. port < suc n) lower (ports_below n test) (all_below n test) in
    All-append (λ port. port < suc n) (ports_below n test) (when (test n) n) rest (last (test n))
  where
    last : (passes : Bool) → All (λ port. port < suc n) (when passes n)
    last true = All-cons (λ port. port < suc n) n [] (omega arith) (All-nil (λ port. port < suc n))
    last false = All-nil (λ port. port < suc n)

-- Where a port goes. A port above all of a set goes to its end ..
pub with_greatest : (port : ℕ) (ports : List ℕ) → All (λ other. other < port) ports → with_port port ports ≡ ports ++ port ∷ []
with_greatest port [] below = refl
with_greatest port (x ∷ xs) below =
    let first : x < port = All-head (λ other. other < port) x xs below in
    let not_below : nat_lt port x ≡ false = le-ltb port x (omega arith) in
    let apart : (port == x) ≡ false = ne_eqb port x (λ same. omega arith) in
    rw (not_below, apart) (ap (λ rest. x ∷ rest) (with_greatest port xs (All-tail (λ other. other < port) x xs below)))

-- .. and there it stays when it is added once more ..
with_last : (port : ℕ) (ports : List ℕ) → All (λ other. other < port) ports
    → with_port port (ports ++ port ∷ []) ≡ ports ++ port ∷ []
with_last port [] below =
    let not_below : nat_lt port port ≡ false = le-ltb port port (omega arith) in
    let same : (port == port) ≡ true = eq-eqb port port refl in
    rw (not_below, same) refl
with_last port (x ∷ xs) below =
    let first : x < port = All-head (λ other. other < port) x xs below in
    let not_below : nat_lt port x ≡ false = le-ltb port x (omega arith) in
    let apart : (port == x) ≡ false = ne_eqb port x (λ same. omega arith) in
    rw (not_below, apart) (ap (λ rest. x ∷ rest) (with_last port xs (All-tail (λ other. other < port) x xs below)))

-- .. and a lower port goes in front of the end.
with_lower : (port greatest : ℕ) (ports : List ℕ) → port < greatest
    → with_port port (ports ++ greatest ∷ []) ≡ with_port port ports ++ greatest ∷ []
with_lower port g [] lower = let below : nat_lt port g ≡ true = lt-ltb port g lower in rw below refl
with_lower port g (x ∷ xs) lower = placed (nat_lt port x) (port == x) (with_lower port g xs lower)
  where
    placed : (a b : Bool) → with_port port (xs ++ g ∷ []) ≡ with_port port xs ++ g ∷ []
        → (if a then port ∷ x ∷ (xs ++ g ∷ []) else if b then x ∷ (xs ++ g ∷ []) else x ∷ with_port port (xs ++ g ∷ []))
        ≡ (if a then port ∷ x ∷ xs else if b then x ∷ xs else x ∷ with_port port xs) ++ g ∷ []
    placed true b rest = refl
    placed false true rest = refl
    placed false false rest = ap (λ ports. x ∷ ports) rest

-- the same where the end may be absent
with_lower_when : (passes : Bool) (port greatest : ℕ) (ports : List ℕ) → port < greatest
    → with_port port (ports ++ when passes greatest) ≡ with_port port ports ++ when passes greatest
with_lower_when true port g ports lower = with_lower port g ports lower
with_lower_when false port g ports lower = rw (append-nil ports, append-nil (with_port port ports)) refl

with_last_when : (passes : Bool) (port : ℕ) (ports : List ℕ) → All (λ other. other < port) ports
    → with_port port (ports ++ when passes port) ≡ ports ++ port ∷ []
with_last_when true port ports below = with_last port ports below
with_last_when false port ports below = rw append-nil (with_greatest port ports below)

-- the ports that pass once one more does are those with it: it is one of the lower ports, or the last one
pub ports_with : (count port : ℕ) (test more : ℕ → Bool) → port < count → more port ≡ true
    → ((other : ℕ) → other < count → (other ≡ port → ⊥) → more other ≡ test other)
    → ports_below count more ≡ with_port port (ports_below count test)
unfolding ports_below
ports_with zero port test more below now same = absurd (omega arith)
ports_with (suc n) port test more below now same = elim (cases_lt port n) [
  | inl l ↦ lower l (ports_with n port test more l now (λ other under apart. same other (omega arith) apart))
  | inr g ↦ last (omega arith)
]
  where
    lower : port < n → ports_below n more ≡ with_port port (ports_below n test)
        → ports_below n more ++ when (more n) n ≡ with_port port (ports_below n test ++ when (test n) n)
    lower l rest =
        let last_same = same n (omega arith) (λ is. omega arith) in
        ap (λ ports. ports ++ when (more n) n) rest
        ∙ ap (λ b. with_port port (ports_below n test) ++ when b n) last_same
        ∙ sym (with_lower_when (test n) port n (ports_below n test) l)

    last : port ≡ n → ports_below n more ++ when (more n) n ≡ with_port port (ports_below n test ++ when (test n) n)
    last is =
        let rest = same_ports n more test (λ other under. same other (omega arith) (λ equal. omega arith)) in
        let more_n : more n ≡ true = subst (λ k. more k ≡ true) is now in
        ap (λ ports. ports ++ when (more n) n) rest
        ∙ ap (λ b. ports_below n test ++ when b n) more_n
        ∙ sym (with_last_when (test n) n (ports_below n test) (all_below n test))
        ∙ ap (λ k. with_port k (ports_below n test ++ when (test n) n)) (sym is)

-- fewer ports pass a stricter test
pub fewer : (count : ℕ) (strict test : ℕ → Bool) → ((port : ℕ) → port < count → strict port ≡ true → test port ≡ true)
    → length (ports_below count strict) ≤ length (ports_below count test)
unfolding ports_below
fewer zero strict test implies = omega arith
fewer (suc n) strict test implies =
    let rest = fewer n strict test (λ port below. implies port (omega arith)) in
    let one = fewer_when (strict n) (test n) n (implies n (omega arith)) in
    let stricts = length-append (ports_below n strict) (when (strict n) n) in
    let tests = length-append (ports_below n test) (when (test n) n) in
    omega (arith, stricts, tests)
  where
    fewer_when : (a b : Bool) (port : ℕ) → (a ≡ true → b ≡ true) → length (when a port) ≤ length (when b port)
    fewer_when true true port implies = omega arith
    fewer_when true false port implies = absurd (false≢true (implies refl))
    fewer_when false true port implies = omega arith
    fewer_when false false port implies = omega arith

-- the ports below a number that pass a test are those below a greater one that pass it and are below the number
pub ports_within : (count n : ℕ) (test : ℕ → Bool) → n ≤ count
    → ports_below count (λ port. nat_lt port n && test port) ≡ ports_below n test
unfolding ports_below
ports_within zero n test fits = let none : 0 ≡ n = omega arith in ap (λ k. ports_below k test) none
ports_within (suc c) n test fits = elim (cases_lt c n) [
  | inl all ↦
      let is : suc c ≡ n = omega arith in
      same_ports (suc c) (λ port. nat_lt port n && test port) test
      (λ port below. ap (λ b. b && test port) (lt-ltb port n (omega arith)))
      ∙ ap (λ k. ports_below k test) is
  | inr past ↦
      ap (λ b. ports_below c (λ port. nat_lt port n && test port) ++ when (b && test c) c) (le-ltb c n past)
      ∙ append-nil (ports_below c (λ port. nat_lt port n && test port)) ∙ ports_within c n test past
]

-- no port passes
none_pass : (count : ℕ) (test : ℕ → Bool) → ((port : ℕ) → port < count → test port ≡ false) → ports_below count test ≡ []
unfolding ports_below
none_pass zero test none = refl
none_pass (suc n) test none =
    ap (λ b. ports_below n test ++ when b n) (none n (omega arith)) ∙ append-nil (ports_below n test)
    ∙ none_pass n test (λ port below. none port (omega arith))

-- the least port that passes stands in front of the others
pub least_first : (count least : ℕ) (test others : ℕ → Bool) → least < count → test least ≡ true
    → ((port : ℕ) → port < least → test port ≡ false) → others least ≡ false
    → ((port : ℕ) → port < count → (port ≡ least → ⊥) → others port ≡ test port)
    → ports_below count test ≡ least ∷ ports_below count others
unfolding ports_below
least_first zero least test others within passes below left same = absurd (omega arith)
least_first (suc n) least test others within passes below left same = elim (cases_lt least n) [
  | inl lower ↦
      ap (λ ports. ports ++ when (test n) n)
      (least_first n least test others lower passes below left (λ port under apart. same port (omega arith) apart))
      ∙ ap (λ b. least ∷ (ports_below n others ++ when b n)) (sym (same n (omega arith) (λ is. omega arith)))
  | inr from ↦
      let is : n ≡ least = omega arith in
      let last : test n ≡ true = ap test is ∙ passes in
      let gone : others n ≡ false = ap others is ∙ left in
      let before = none_pass n test (λ port under. below port (omega arith)) in
      let rest = none_pass n others (λ port under. same port (omega arith) (λ e. omega arith) ∙ below port (omega arith)) in
      ap (λ ports. ports ++ when (test n) n) before ∙ ap (λ b. when b n) last ∙ ap (λ k. k ∷ []) is
      ∙ sym (ap (λ ports. least ∷ (ports ++ when (others n) n)) rest ∙ ap (λ b. least ∷ when b n) gone)
]

-- the ports below 16 that pass are a set
pub is_set : (test : ℕ → Bool) → IsPortSet (ports_below 16 test)
is_set test = record { in_order = same_ports 16 test (λ port. has_port port (ports_below 16 test)) passes }
  where
    passes : (port : ℕ) → port < 16 → test port ≡ has_port port (ports_below 16 test)
    passes port below = sym (has_port-ports_below 16 port test ∙ ap (λ b. b && test port) (lt-ltb port 16 below))

-- a part has at most as many ports
pub length-part : (part whole : List ℕ) → IsPortSet part → IsPortSet whole → IsPartOf part whole
    → length part ≤ length whole
length-part part whole p w inside =
    let least = fewer 16 (λ port. has_port port part) (λ port. has_port port whole) (λ port below. inside.ports port) in
    omega (arith, ap length p.in_order, ap length w.in_order)

-- the ports of a set with a port
pub has_port-with_port : (port other : ℕ) (ports : List ℕ)
    → has_port other (with_port port ports) ≡ ((port == other) || has_port other ports)
has_port-with_port port other [] = refl
has_port-with_port port other (x ∷ xs) =
    placed (nat_lt port x) (port == x) (eqb-true port x) (has_port-with_port port other xs)
  where
    once : (a b : Bool) → (a || b) ≡ (a || (a || b))
    once true b = refl
    once false b = refl

    swapped : (a b c : Bool) → (a || (b || c)) ≡ (b || (a || c))
    swapped true true c = refl
    swapped true false c = refl
    swapped false b c = refl

    placed : (a b : Bool) → (b ≡ true → port ≡ x) → has_port other (with_port port xs) ≡ ((port == other) || has_port other xs)
        → has_port other (if a then port ∷ x ∷ xs else if b then x ∷ xs else x ∷ with_port port xs)
        ≡ ((port == other) || ((x == other) || has_port other xs))
    placed true b same rest = refl
    placed false true same rest =
        once (x == other) (has_port other xs)
        ∙ ap (λ k. (k == other) || ((x == other) || has_port other xs)) (sym (same refl))
    placed false false same rest =
        ap (λ b. (x == other) || b) rest ∙ swapped (x == other) (port == other) (has_port other xs)
