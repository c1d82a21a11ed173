use Rattle.std.proofs.Common.{ℕ, ◌+◌, ◌-◌, length, ap, sym, ◌∙◌, rules, Option}
use Rattle.std.specs.Option.{option_map_or}
use Rattle.gw_input.proofs.places.place_behind.Goals as goal
use Rattle.gw_input.proofs.places.place_behind.Goals.{in-Some, in-None}

pub returns : goal.returns
returns c =
    let before = c.args.before.now in
    let told : Option ℕ → ℕ = λ feed. option_map_or (λ at. length before - at) feed (length before + 1) in
    record {
      line = search rules;
      feed = c.memrchr.result;
      last = c.memrchr.ensures;
      column =
          elim c.match-memrchr.branch [
            | in-Some w ↦ w.column-is ∙ sym (ap told w.in-Some.is)
            | in-None w ↦ w.column-is
                ∙ sym (ap told w.in-None.is)
          ];
    }
