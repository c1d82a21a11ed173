-- A map of labels, filled one by one, against the list of their definitions.
use Rattle.std.proofs.Common.{◌≡◌, ℕ, Bool, true, false, List, [], ◌∷◌, Option, Some, None, option_map, is_some, if◌then◌else◌}
use Rattle.std.proofs.Common.{refl, sym, ap, ◌∙◌, rules, subst}
use Rattle.std.specs.List.{list_any}
use Rattle.std.specs.Map.{update}
use Rattle.std.specs.Str.{bytes_eq}
use Rattle.std.proofs.lemmas.Slice.Eq.{bytes_eq-Decides}
use Rattle.gw_text.specs.AssemblerForms.{same_text}
use Rattle.gw_text.specs.Assembly.{Definition, Labels, defined_again, place_of, label_twice}

-- the first of two answers that is there
abbrev pub or_else : Option ℕ → Option ℕ → Option ℕ
or_else (Some n) other = Some n
or_else None other = other

-- a map of the definitions before `rest`: what it lacks is looked up in the rest, and its names are those defined before
pub record SoFar (labels : Labels) (rest whole : List Definition) : Type 0 where
  pub names : List (List ℕ)
  pub known : (name : List ℕ) → list_any (same_text name) names ≡ is_some (labels name)
  pub again : defined_again names rest ≡ defined_again [] whole
  pub found : (name : List ℕ) → or_else (labels name) (place_of rest name) ≡ place_of whole name

-- nothing is known at first
pub nothing_yet : (labels : Labels) (whole : List Definition) → ((name : List ℕ) → labels name ≡ None) → SoFar labels whole whole
nothing_yet labels whole empty = record {
  names = [];
  known = λ name. rw (empty name);
  again = refl;
  found = λ name. rw (empty name);
}

same_from_true : (a b : List ℕ) → bytes_eq a b ≡ true → a ≡ b
same_from_true a b h = search (rules, bytes_eq-Decides a b)

-- the answers of a map that has one name more
added : (labels : Labels) (d : Definition) (rest : List Definition) (name : List ℕ) (b : Bool) → bytes_eq d.name name ≡ b
    → labels d.name ≡ None
    → or_else (if b then Some d.place else labels name) (place_of rest name) ≡ or_else (labels name) (place_of (d ∷ rest) name)
added labels d rest name true same new =
    let missing : labels name ≡ None = ap labels (sym (same_from_true d.name name same)) ∙ new in
    rw (missing, same)
added labels d rest name false other new = rw other

swapped : (a b : List ℕ) → bytes_eq a b ≡ bytes_eq b a
swapped a b = go (bytes_eq a b) (bytes_eq b a) refl refl
  where
    go : (p q : Bool) → bytes_eq a b ≡ p → bytes_eq b a ≡ q → p ≡ q
    go true true e f = refl
    go false false e f = refl
    go true false e f =
        let same : b ≡ a = sym (same_from_true a b e) in sym (subst (λ c. bytes_eq a c ≡ true) same e)
        ∙ subst (λ c. bytes_eq c a ≡ false) same f
    go false true e f =
        let same : a ≡ b = sym (same_from_true b a f) in sym (subst (λ c. bytes_eq c b ≡ false) same e)
        ∙ subst (λ c. bytes_eq b c ≡ true) same f

named : (labels : Labels) (name other : List ℕ) (names : List (List ℕ)) (place : ℕ) (b : Bool) → bytes_eq name other ≡ b
    → list_any (same_text other) names ≡ is_some (labels other)
    → list_any (same_text other) (name ∷ names) ≡ is_some (if b then Some place else labels other)
named labels name other names place true same h = rw (swapped other name, same)
named labels name other names place false apart h = rw (swapped other name, apart) h

-- a name that is not there yet is added
pub one_more : (before after : Labels) (d : Definition) (rest whole : List Definition) → SoFar before (d ∷ rest) whole
    → before d.name ≡ None
    → ((name : List ℕ) → after name ≡ update bytes_eq before d.name (Some d.place) name) → SoFar after rest whole
one_more before after d rest whole so new updates =
    let fresh : list_any (same_text d.name) so.names ≡ false = so.known d.name ∙ ap is_some new in
    record {
      names = d.name ∷ so.names;
      known = λ name. named before d.name name so.names d.place (bytes_eq d.name name) refl (so.known name)
          ∙ ap is_some (sym (updates name));
      again = let skipped : defined_again so.names (d ∷ rest) ≡ defined_again (d.name ∷ so.names) rest = rw fresh in sym skipped
          ∙ so.again;
      found = λ name. ap (λ p. or_else p (place_of rest name)) (updates name)
          ∙ added before d rest name (bytes_eq d.name name) refl new ∙ so.found name;
    }

-- a name that is there already is the first to be defined again
pub is_again : (labels : Labels) (d : Definition) (rest whole : List Definition) → SoFar labels (d ∷ rest) whole
    → is_some (labels d.name) ≡ true
    → option_map label_twice (defined_again [] whole) ≡ Some (label_twice d)
is_again labels d rest whole so there =
    let named : list_any (same_text d.name) so.names ≡ true = so.known d.name ∙ there in
    let again : defined_again so.names (d ∷ rest) ≡ Some d = rw named in
    ap (option_map label_twice) (sym so.again ∙ again)

-- a map of all definitions
pub all_known : (labels : Labels) (whole : List Definition) → SoFar labels [] whole → (name : List ℕ)
    → labels name ≡ place_of whole name
all_known labels whole so name = sym (or_none (labels name)) ∙ so.found name
  where
    or_none : (p : Option ℕ) → or_else p None ≡ p
    or_none (Some n) = refl
    or_none None = refl

-- a map of all definitions has none of them twice
pub none_again : (labels : Labels) (whole : List Definition) → SoFar labels [] whole → defined_again [] whole ≡ None
none_again labels whole so = sym so.again
