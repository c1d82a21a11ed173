use Rattle.std.proofs.Common.{◌≡◌, ℕ, List, Bool, true, false, inl, inr, sym, ◌∙◌, subst}
use Rattle.std.specs.Io.KnownBytes.{Consumes}
use Rattle.gw_io.specs.Tries.{inner_of, has_failed}
use Rattle.gw_judge.specs.FirstOctets.{is_capture}
use Rattle.gw_commands.specs.Judgings.{EndsCapture, EndsOpened}
use Rattle.gw_commands.proofs.judge_command.judge_grouped.Goals as goal

pub returns-then-is_capture : goal.returns-then-is_capture
returns-then-is_capture g c =
    let query = c.args.query in
    let fate = g.D.Decider.fate_by c.args.policy.decider.now query.port in
    let lines : List ℕ = c.args.policy.rule_lines.now in
    let counts = g.D.TellsParts.counts_by c.args.policy.decider.now lines in
    let before = g.I.Read.remaining (inner_of c.args.input.now) in
    let middle = g.I.Read.remaining (inner_of c.read.new.reader) in
    let after = g.I.Read.remaining (inner_of c.judge_frames.new.input) in
    let read_failed = has_failed c.judge_frames.new.input in
    let old = g.W.Write.contents (inner_of c.args.output.now) in
    let new = g.W.Write.contents (inner_of c.judge_frames.new.output) in
    let failed = has_failed c.judge_frames.new.output in
    let status = c.judge_frames.result in
    let first : List ℕ = c.in-Ok.octets in
    let Ends : Bool → Type 0 = λ capture. EndsOpened capture fate lines counts query.by query.shown query.strict first before
    middle after read_failed old new failed status in
    let EndsAt : List ℕ → Type 0 = λ octets. EndsCapture fate counts query.by query.shown query.strict octets
    middle after read_failed old new failed status in
    let yes : is_capture first ≡ true = sym c.is_capture.ensures ∙ c.if-is_capture.true in
    inl (
      first,
      middle,
      c.in-Ok.ensures.opened,
      subst Ends (sym yes) (subst EndsAt c.octets-first.ensures.octets c.judge_frames.ensures),
    )

pub returns-else-is_capture : goal.returns-else-is_capture
returns-else-is_capture g c =
    let query = c.args.query in
    let fate = g.D.Decider.fate_by c.args.policy.decider.now query.port in
    let lines : List ℕ = c.args.policy.rule_lines.now in
    let counts = g.D.TellsParts.counts_by c.args.policy.decider.now lines in
    let before = g.I.Read.remaining (inner_of c.args.input.now) in
    let middle = g.I.Read.remaining (inner_of c.read.new.reader) in
    let after = g.I.Read.remaining (inner_of c.judge_lines.new.input) in
    let read_failed = has_failed c.judge_lines.new.input in
    let old = g.W.Write.contents (inner_of c.args.output.now) in
    let new = g.W.Write.contents (inner_of c.judge_lines.new.output) in
    let failed = has_failed c.judge_lines.new.output in
    let status = c.judge_lines.result in
    let first : List ℕ = c.in-Ok.octets in
    let Ends : Bool → Type 0 = λ capture. EndsOpened capture fate lines counts query.by query.shown query.strict first before
    middle after read_failed old new failed status in
    let no : is_capture first ≡ false = sym c.is_capture.ensures ∙ c.if-is_capture.false in
    inl (
      first,
      middle,
      c.in-Ok.ensures.opened,
      subst Ends (sym no) (c.judge_lines.ensures before (subst (Consumes before middle) (sym c.octets-first.ensures.octets)
          c.in-Ok.ensures.opened.consumed)),
    )

pub returns-in-Err : goal.returns-in-Err
returns-in-Err g c =
    inr (record {
      got = c.in-Err.ensures.part.0;
      consumed = c.in-Err.ensures.part.1;
      short = c.in-Err.ensures.part.2;
      fault = c.in-Err.ensures.fault;
      told = c.tell_end.ensures.told;
    })
