use Rattle.std.proofs.Common.{rules, ◌≡◌, ℕ, List, length, refl, sym, ◌∙◌}
use Rattle.gw_judge.proofs.PartByPart.{none_kept, whole_part}
use Rattle.gw_judge.proofs.Hearing.{hears_line, keeps_open}
use Rattle.gw_judge.proofs.listening.Listening.take.Goals as goal

pub returns-then-part-le-MAX_KEPT : goal.returns-then-part-le-MAX_KEPT
returns-then-part-le-MAX_KEPT g c octets h =
    let self = c.args.self.now in
    let part : List ℕ = c.args.part.now in
    let empty : length self.kept.items ≡ 0 = search rules in
    hears_line c.hear_line.result (g.L.Listener.has_heard c.args.listener.now)
    (g.L.Listener.has_heard c.hear_line.new.listener) octets part part self
    (record { kept = self.kept; tally = c.hear_line.new.tally }) h c.requires
    (sym c.ends_line-is_ended.ensures ∙ c.if-is_ended.true) (whole_part self.kept.items part empty c.if-part-le-MAX_KEPT.true)
    (none_kept self.kept.items empty) c.hear_line.ensures.tally c.hear_line.ensures.heard

pub returns-then-not-is_ended : goal.returns-then-not-is_ended
returns-then-not-is_ended g c octets h =
    let self = c.args.self.now in
    keeps_open (g.L.Listener.has_heard c.args.listener.now) octets c.args.part.now self
    (record { kept = c.keep.new.kept; tally = self.tally }) h c.requires
    (sym c.ends_line-is_ended.ensures ∙ c.if-not-is_ended.true) c.keep.ensures refl

pub returns : goal.returns
returns g c octets h =
    hears_line c.hear_line-heard.result (g.L.Listener.has_heard c.args.listener.now)
    (g.L.Listener.has_heard c.hear_line-heard.new.listener) octets c.args.part.now c.as_slice.result.now c.args.self.now
    (record { kept = c.clear.new.self; tally = c.hear_line-heard.new.tally }) h c.requires
    (sym c.ends_line-is_ended.ensures ∙ c.if-not-is_ended.false) (c.as_slice.ensures.value ∙ c.keep.ensures) c.clear.ensures
    c.hear_line-heard.ensures.tally c.hear_line-heard.ensures.heard
