-- The output for a refusal.
use Rattle.std.proofs.Common.{◌≡◌, ℕ, Vec, Global, refl}
use Rattle.gw_verify.specs.declared.path.Path.{Path}
use Rattle.gw_verify.specs.declared.refused.Refused.{Refused}
use Rattle.gw_answers.specs.declared.refusal.Refusal.{Refusal}
use Rattle.gw_answers.specs.declared.refusal.Refusal.TheVariants.{Explained}
use Rattle.gw_answers.specs.Refusals.{refusal_line, refusal_text}

-- it is the line alone, but for a refusal that a path explains
pub line_alone : (r : Refusal) → ((refused : Refused) (path : Path) (lines : Vec ℕ Global) → r ≡ Explained refused path lines → ⊥)
    → refusal_text r ≡ refusal_line r
line_alone (Explained refused path lines) not = absurd (not refused path lines refl)
line_alone _ not = refl
