-- Lists of ports as text, one port more at a time.
use Rattle.std.proofs.Common.{◌≡◌, ℕ, ◌+◌, Bool, true, false, List, [], ◌∷◌, ◌++◌, refl, ap, sym, ◌∙◌}
use Rattle.std.proofs.Common.{append_assoc, add-one}
use Rattle.std.specs.Prelude.{if◌then◌else◌, decimal}
use Rattle.std.specs.List.{flat_map}
use Rattle.std.proofs.lemmas.Grind.{flat_map-append}
use Rattle.std.proofs.lemmas.List.{append-nil}
use Rattle.gw_ledger.specs.Ports.{ports_below}
use Rattle.gw_input.specs.PortTexts.{commas}

-- a list with a port
abbrev pub is_some_port : List ℕ → Bool
is_some_port [] = false
is_some_port (port ∷ others) = true

-- one port more, behind a comma where others stand before it
pub commas_more : (ports : List ℕ) (port : ℕ)
    → commas (ports ++ port ∷ []) ≡ commas ports ++ (if is_some_port ports then 44 ∷ decimal port else decimal port)
commas_more [] port = append-nil (decimal port)
commas_more (first ∷ others) port =
    ap (λ text. decimal first ++ text) (flat_map-append (λ other. 44 ∷ decimal other) others (port ∷ [])
    ∙ ap (λ text. flat_map (λ other. 44 ∷ decimal other) others ++ text) (append-nil (44 ∷ decimal port)))
    ∙ sym (append_assoc (decimal first) (flat_map (λ other. 44 ∷ decimal other) others) (44 ∷ decimal port))

some_more : (ports : List ℕ) (port : ℕ) → is_some_port (ports ++ port ∷ []) ≡ true
some_more [] port = refl
some_more (first ∷ others) port = refl

-- the ports below the next number
next_below : (n : ℕ) (test : ℕ → Bool) → ports_below (n + 1) test ≡ ports_below n test ++ (if test n then n ∷ [] else [])
unfolding ports_below
next_below n test = ap (λ m. ports_below m test) (add-one n)

-- with the next number, and without it
pub below_with : (n : ℕ) (test : ℕ → Bool) → test n ≡ true → ports_below (n + 1) test ≡ ports_below n test ++ n ∷ []
below_with n test is = next_below n test ∙ rw is refl

pub below_without : (n : ℕ) (test : ℕ → Bool) → test n ≡ false → ports_below (n + 1) test ≡ ports_below n test
below_without n test is = next_below n test ∙ rw is (append-nil (ports_below n test))

-- the text with the next port
pub text_with : (n : ℕ) (test : ℕ → Bool) (before line next : List ℕ) (some : Bool) → test n ≡ true
    → line ≡ before ++ commas (ports_below n test) → some ≡ is_some_port (ports_below n test)
    → next ≡ line ++ (if some then 44 ∷ decimal n else decimal n)
    → (next ≡ before ++ commas (ports_below (n + 1) test)) × (true ≡ is_some_port (ports_below (n + 1) test))
text_with n test before line next some is so_far is_some more =
    let below = below_with n test is in
    let text = ap commas below ∙ commas_more (ports_below n test) n in
    let member = ap (λ b. if b then 44 ∷ decimal n else decimal n) is_some in (
      more ∙ ap (λ text. text ++ (if some then 44 ∷ decimal n else decimal n)) so_far
          ∙ append_assoc before (commas (ports_below n test)) (if some then 44 ∷ decimal n else decimal n)
          ∙ ap (λ text. before ++ (commas (ports_below n test) ++ text)) member
          ∙ ap (λ text. before ++ text) (sym text),
      sym (ap is_some_port below ∙ some_more (ports_below n test) n),
    )

-- the text without it
pub text_without : (n : ℕ) (test : ℕ → Bool) (before line : List ℕ) (some : Bool) → test n ≡ false
    → line ≡ before ++ commas (ports_below n test) → some ≡ is_some_port (ports_below n test)
    → (line ≡ before ++ commas (ports_below (n + 1) test)) × (some ≡ is_some_port (ports_below (n + 1) test))
text_without n test before line some is so_far is_some =
    let below = below_without n test is in
    (so_far ∙ ap (λ ports. before ++ commas ports) (sym below), is_some ∙ ap is_some_port (sym below))

-- no port yet
pub text_before : (test : ℕ → Bool) (before : List ℕ) → before ≡ before ++ commas (ports_below 0 test)
unfolding ports_below
text_before test before = sym (append-nil before)

-- and so no comma
pub none_before : (test : ℕ → Bool) → false ≡ is_some_port (ports_below 0 test)
unfolding ports_below
none_before test = refl
