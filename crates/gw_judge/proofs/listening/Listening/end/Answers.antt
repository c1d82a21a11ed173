use Rattle.std.proofs.Common.{rules, ◌≡◌, ℕ, List, [], ◌∷◌, ◌++◌, length, sym, ap, ◌∙◌, subst}
use Rattle.gw_log.specs.LogLines.{Entry}
use Rattle.gw_judge.specs.Counting.{tally_with}
use Rattle.gw_judge.specs.Heard.{entries_on, unjudged}
use Rattle.gw_judge.proofs.PartByPart.{some_octets}
use Rattle.gw_judge.proofs.Hearing.{ends_without, ends_with}
use Rattle.gw_judge.proofs.listening.Listening.end.Goals as goal

pub returns-then-is_empty : goal.returns-then-is_empty
returns-then-is_empty g c octets h =
    let empty : length c.args.self.kept.items ≡ 0 = search rules in
    ends_without (g.L.Listener.has_heard c.args.listener.now) octets c.args.self h empty

pub returns-in-Ok : goal.returns-in-Ok
returns-in-Ok g c octets h =
    let self = c.args.self in
    let Before : List Entry → Type 0 = g.L.Listener.has_heard c.args.listener.now in
    let After : List Entry → Type 0 = g.L.Listener.has_heard c.hear_line.new.listener in
    let there = c.as_slice.ensures.value in
    ends_with Before After octets self c.hear_line.new.tally h
    (some_octets self.kept.items (sym c.is_empty.ensures ∙ c.if-is_empty.false))
    (c.hear_line.ensures.tally ∙ ap (λ (line : List ℕ). tally_with (unjudged line) self.tally) there)
    (subst (λ (line : List ℕ). (entries : List Entry) → Before entries → After (entries ++ entries_on (line ∷ []))) there
    c.in-Ok.ensures.heard)
