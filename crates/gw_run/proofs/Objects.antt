-- Texts for a JSON array, one after another.
use Rattle.std.proofs.Common.{◌≡◌, ◌∙◌, ℕ, ◌+◌, ◌<◌, List, [], ◌∷◌, ◌++◌, Global, map, length, ap, sym, refl, string_bytes}
use Rattle.std.proofs.Common.{get_or, append_assoc, add-one, zero-add, arith, take}
use Rattle.std.proofs.lemmas.List.{map-append, take_all, take_more}
use Rattle.std.proofs.lemmas.List.Folds.{flat_map-map}
use Rattle.std.proofs.lemmas.Option.{slice_get-get_or}
use Rattle.std.specs.Prelude.{codes, String}
use Rattle.std.specs.List.{join_by, range_with_len}
use Rattle.std.specs.Option.{option_map_or}
use Rattle.gw_ledger.specs.declared.ledger.InLedger.{InLedger}
use Rattle.gw_input.proofs.Callers.{range_more}
use Rattle.gw_run.specs.declared.tally.LaneTally.{LaneTally}
use Rattle.gw_run.specs.Forwarding.{object_of, port_object, port_objects, policy_object, policy_objects, lane_object}
use Rattle.gw_run.specs.Forwarding.{lane_objects, with_commas}

-- the numbers below one more
numbers_more : (n : ℕ) → range_with_len 0 (n + 1) ≡ range_with_len 0 n ++ n ∷ []
numbers_more n =
    ap (range_with_len 0) (add-one n) ∙ range_more 0 n ∙ ap (λ m. range_with_len 0 n ++ m ∷ []) (zero-add n)

-- texts with that of one number more
pub text_more : (f : ℕ → List ℕ) (n : ℕ) (before now : List (String Global)) (text : String Global)
    → map string_bytes before ≡ map f (range_with_len 0 n) → now ≡ before ++ text ∷ [] → string_bytes text ≡ f n
    → map string_bytes now ≡ map f (range_with_len 0 (n + 1))
text_more f n before now text so_far more is =
    ap (map string_bytes) more ∙ map-append string_bytes before (text ∷ [])
    ∙ ap (λ t. map string_bytes before ++ t ∷ []) is ∙ ap (λ t. t ++ f n ∷ []) so_far
    ∙ sym (ap (map f) (numbers_more n) ∙ map-append f (range_with_len 0 n) (n ∷ []))

-- one text more is pushed
pub pushed : (before now : List (String Global)) (text : String Global) (is : List ℕ) → now ≡ before ++ text ∷ []
    → string_bytes text ≡ is → map string_bytes now ≡ map string_bytes before ++ is ∷ []
pushed before now text is more same =
    ap (map string_bytes) more ∙ map-append string_bytes before (text ∷ [])
    ∙ ap (λ t. map string_bytes before ++ t ∷ []) same

-- all objects
pub ports_whole : (ledgers : List InLedger) (n : ℕ) (texts : List (List ℕ)) → n ≡ length ledgers
    → texts ≡ map (object_of ledgers) (range_with_len 0 n) → texts ≡ port_objects ledgers
unfolding port_objects
ports_whole ledgers n texts all same = same ∙ ap (λ m. map (object_of ledgers) (range_with_len 0 m)) all

pub policies_whole : (ports : ℕ) (lanes : List LaneTally) (n : ℕ) (texts : List (List ℕ)) → n ≡ ports
    → texts ≡ map (policy_object lanes) (range_with_len 0 n) → texts ≡ policy_objects ports lanes
unfolding policy_objects
policies_whole ports lanes n texts all same = same ∙ ap (λ m. map (policy_object lanes) (range_with_len 0 m)) all

-- the objects of lanes, with that of one more
pub one_object_more : (lanes : List LaneTally) (n : ℕ) (d : LaneTally) (before now : List (String Global)) (text : String Global)
    → n < length lanes → map string_bytes before ≡ map lane_object (take n lanes) → now ≡ before ++ text ∷ []
    → string_bytes text ≡ lane_object (get_or lanes n d) → map string_bytes now ≡ map lane_object (take (n + 1) lanes)
one_object_more lanes n d before now text within so_far more is =
    pushed before now text (lane_object (get_or lanes n d)) more is
    ∙ ap (λ t. t ++ lane_object (get_or lanes n d) ∷ []) so_far
    ∙ sym (ap (map lane_object) (take_more lanes n d within) ∙ map-append lane_object (take n lanes) (get_or lanes n d ∷ []))

pub lanes_whole : (lanes : List LaneTally) (n : ℕ) (texts : List (List ℕ)) → n ≡ length lanes
    → texts ≡ map lane_object (take n lanes) → texts ≡ lane_objects lanes
unfolding lane_objects
lanes_whole lanes n texts all same = same ∙ ap (map lane_object) (take_all n lanes (omega arith))

-- the object of a port
pub object_there : (ledgers : List InLedger) (n : ℕ) (d : InLedger) → n < length ledgers
    → port_object n (get_or ledgers n d) ≡ object_of ledgers n
object_there ledgers n d below = ap (λ o. option_map_or (port_object n) o []) (sym (slice_get-get_or ledgers n d below))

-- joined texts, by their octets
pub joined : (texts : List (String Global)) (objects : List (List ℕ)) (text : List ℕ)
    → text ≡ join_by string_bytes (codes ",") texts → map string_bytes texts ≡ objects → text ≡ with_commas objects
joined texts objects text is same = is ∙ by_octets texts ∙ ap with_commas same
  where
    by_octets : (texts : List (String Global)) → join_by string_bytes (codes ",") texts ≡ with_commas (map string_bytes texts)
    by_octets [] = refl
    by_octets (text ∷ others) =
        ap (λ rest. string_bytes text ++ rest) (sym (flat_map-map (λ other. codes "," ++ other) string_bytes others))

-- a text behind an empty one
pub behind_none : (none text more : List ℕ) → text ≡ none ++ more → none ≡ [] → text ≡ more
behind_none none text more is empty = is ∙ ap (λ t. t ++ more) empty

-- nine parts of a text, put together from either end
pub nine_parts : (a b c d e f g h i : List ℕ)
    → a ++ (b ++ (c ++ (d ++ (e ++ (f ++ (g ++ (h ++ i))))))) ≡ (((((((a ++ b) ++ c) ++ d) ++ e) ++ f) ++ g) ++ h) ++ i
nine_parts a b c d e f g h i = grind (arith, append_assoc)

-- the object of other arrays
pub three_arrays : (a b c x y z : List ℕ) → a ≡ x → b ≡ y → c ≡ z
    → codes "{\"ports\":[" ++ a ++ codes "],\"policies\":[" ++ b ++ codes "],\"lanes\":[" ++ c ++ codes "]}\n"
    ≡ codes "{\"ports\":[" ++ x ++ codes "],\"policies\":[" ++ y ++ codes "],\"lanes\":[" ++ z ++ codes "]}\n"
three_arrays a b c x y z one two three =
    ap (λ t. codes "{\"ports\":[" ++ t ++ codes "],\"policies\":[" ++ b ++ codes "],\"lanes\":[" ++ c ++ codes "]}\n") one
    ∙ ap (λ t. codes "{\"ports\":[" ++ x ++ codes "],\"policies\":[" ++ t ++ codes "],\"lanes\":[" ++ c ++ codes "]}\n") two
    ∙ ap (λ t. codes "{\"ports\":[" ++ x ++ codes "],\"policies\":[" ++ y ++ codes "],\"lanes\":[" ++ t ++ codes "]}\n") three
