use Rattle.std.proofs.Common.{◌≡◌, ◌∙◌, ◌++◌, ◌∷◌, [], List, ap, subst, arith}
use Rattle.j1939_gateway.specs.BoardEnds.{Publishing}
use Rattle.j1939_gateway.specs.InLedger.{InLedger}
use Rattle.j1939_gateway.specs.Batches.{Pair}
use Rattle.example_calling.specs.Replacing.{TakesTold}
use Rattle.example_calling.proofs.Replaced.{judged_around}
use Rattle.example_calling.proofs.replacing.offer_around.Goals as goal

-- the port has taken one frame of two
pub offer-requires-2-clause-room : goal.offer-requires-2-clause-room
offer-requires-2-clause-room g c = λ spent.
    let none = ap (λ (l : InLedger). l.taken) c.requires.port.ledger in
    let most = c.requires.port.most in
    let took = (c.in_ok-earlier.ensures.taken [] c.requires.port.claims).offered in
    let taken = ap (λ (l : InLedger). l.taken) took.ledger in
    let same = took.same.2 in
    omega arith

pub returns-clause-published : goal.returns-clause-published
returns-clause-published g c =
    let old = c.args.operator.now in
    let first = c.args.first in
    let second = c.args.second in
    c.in_ok-publish-2.ensures.published
    ∙ ap (λ (o : Publishing). record o { published = o.published ++ second ∷ [] }) c.in_ok-publish.ensures.published
    ∙ ap (λ (l : List (List Pair)). record old { published = (l ++ first ∷ []) ++ second ∷ [] })
    (ap (λ (o : Publishing). o.published) c.requires.operator)

pub returns-clause-judged : goal.returns-clause-judged
returns-clause-judged g c =
    let first = c.args.first in
    let second = c.args.second in
    let octets = c.args.frame in
    let port = c.args.port.now in
    let middle = c.offer.new.port in
    let last = c.offer-2.new.port in
    let one : c.publish.new.operator.published ≡ first ∷ [] =
    ap (λ (o : Publishing). o.published) c.in_ok-publish.ensures.published
    ∙ ap (λ (o : Publishing). o.published ++ first ∷ []) c.requires.operator in
    let both : c.publish-2.new.operator.published ≡ first ∷ second ∷ [] =
    ap (λ (o : Publishing). o.published) c.in_ok-publish-2.ensures.published
    ∙ ap (λ (l : List (List Pair)). l ++ second ∷ []) one in
    let took = subst (λ (l : List (List Pair)). TakesTold l [] port octets c.in_ok-earlier.earlier middle) one
    (c.in_ok-earlier.ensures.taken [] c.requires.port.claims) in
    let again = subst (λ (l : List (List Pair)). TakesTold l (octets ∷ []) middle octets c.in_ok-later.later last) both
    (c.in_ok-later.ensures.taken (octets ∷ []) took.offered.claims) in
    λ begins. judged_around first second octets c.in_ok-earlier.earlier c.in_ok-later.later port middle last c.requires.port took
    again begins
