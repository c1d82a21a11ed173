use Rattle.std.proofs.Common.{◌≡◌, ℕ, List, [], ◌∷◌, Some, None, sym, ap, ◌∙◌, subst}
use Rattle.std.specs.List.{position}
use Rattle.std.specs.Str.{bytes_eq}
use Rattle.gw_claims.specs.Holders.{HoldsAfter}
use Rattle.gw_commands.specs.LogClaims.{Segment, AreSegments}
use Rattle.gw_commands.proofs.LogClaims.{heard_again, heard_first}
use Rattle.gw_commands.proofs.segments.SegmentsListener.hear.Goals as goal

pub returns-in-Some : goal.returns-in-Some
returns-in-Some c entries h =
    let segments = c.self.inside.segments.items in
    let place = c.in-Some.place in
    let old = c.index_mut.result.now in
    let first : position (λ segment. bytes_eq c.args.said.now.interface segment.interface) segments ≡ Some place =
    subst (λ (name : List ℕ). position (λ segment. bytes_eq name segment.interface) segments ≡ Some place)
    c.interface-interface.ensures
    (subst (λ (all : List Segment).
    position (λ segment. bytes_eq c.interface-interface.result.now segment.interface) all ≡ Some place) (sym c.self.view_is)
    (sym c.place.ensures ∙ c.in-Some.is)) in
    heard_again entries c.args.said.now segments place c.hear.new.self old first
    (subst (AreSegments entries) (sym c.self.view_is) h)
    (c.hear.ensures.interface ∙ ap (λ (segment : Segment). segment.interface) c.index_mut.ensures.value)
    (subst (λ (segment : Segment). (records : List (List ℕ)) → HoldsAfter segment.table records
    → HoldsAfter c.hear.new.self.table (c.args.said.now.octets ∷ records)) c.index_mut.ensures.value
    (subst (λ (octets : List ℕ). (records : List (List ℕ)) → HoldsAfter old.table records
    → HoldsAfter c.hear.new.self.table (octets ∷ records)) c.frame.ensures c.hear.ensures.heard))

pub returns-in_ok-first-in-None : goal.returns-in_ok-first-in-None
returns-in_ok-first-in-None c entries h =
    let fresh = c.in_ok-first-in-None.field-0 in
    heard_first c.add.result entries c.args.said.now c.args.self.now c.add.new.self fresh c.add.ensures
    (subst (λ (name : List ℕ). position (λ segment. bytes_eq name segment.interface) c.args.self.now ≡ None)
    c.interface-interface.ensures (sym c.place.ensures ∙ c.in-None.is))
    h (c.in_ok-first-in-None.ensures.interface ∙ c.interface-interface.ensures)
    (subst (λ (octets : List ℕ). HoldsAfter fresh.table (octets ∷ [])) c.frame-in-None.ensures
    c.in_ok-first-in-None.ensures.heard)
