-- Which of `clap`'s answers is help or the version.
use Rattle.std.proofs.Common.{◌≢◌, refl}
use Rattle.clap.specs.declared.error.kind.ErrorKind.{ErrorKind}
use Rattle.clap.specs.declared.error.kind.ErrorKind.TheVariants.{DisplayHelp, DisplayVersion}
use Rattle.gw_cli.specs.Asked.{IsHelp}

-- what goes to stderr is neither, and what does not is one of them
pub not_help : (kind : ErrorKind) → (kind ≢ DisplayHelp) × (kind ≢ DisplayVersion) → IsHelp kind → ⊥
not_help DisplayHelp neither is = neither.0 refl
not_help DisplayVersion neither is = neither.1 refl
not_help _ neither is = is

pub help : (kind : ErrorKind) → ((kind ≢ DisplayHelp) × (kind ≢ DisplayVersion) → ⊥) → IsHelp kind
help DisplayHelp not = tt
help DisplayVersion not = tt
help _ not = absurd (not ((λ e. cc), (λ e. cc)))
