use Rattle.std.proofs.Common.{◌∙◌, ℕ, Vec, Global, ap}
use Rattle.gw_commands.proofs.show_command.show.Goals as goal

pub returns-in-Ok-shown_text-clause-answered : goal.returns-in-Ok-shown_text-clause-answered
returns-in-Ok-shown_text-clause-answered g c =
    let text = ap (λ (v : Vec ℕ Global). v.items) c.into_bytes.ensures.value in
    (c.in-Ok.stated, c.in-Ok.ensures.table, text ∙ c.in-Ok-shown_text.ensures)
