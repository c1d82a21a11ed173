use Rattle.std.proofs.Common.{◌≡◌, drop}
use Rattle.std.specs.List.{list_all}
use Rattle.gw_text.specs.AssemblerTokens.{is_token_character}
use Rattle.gw_text.proofs.tokens.are_tokens.Given as goal

abbrev pub invariant-loop-c : goal.invariant-loop-c
invariant-loop-c l = list_all is_token_character (drop l.c-index l.line) ≡ list_all is_token_character l.line
