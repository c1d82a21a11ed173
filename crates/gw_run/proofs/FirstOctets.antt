-- The first four octets tell what octets are, whatever stands behind them.
use Rattle.std.proofs.Common.{◌≡◌, ◌∙◌, ◌≤◌, ℕ, ◌==◌, ◌&&◌, nat_le, Bool, true, false, if◌then◌else◌, List, [], ◌∷◌, ◌++◌}
use Rattle.std.proofs.Common.{Some, None, arith, length, length-append, refl}
use Rattle.std.proofs.lemmas.Bool.Decides.{nat_tests}
use Rattle.gw_judge.specs.declared.head.NoLog.TheVariants.{Pcap, Gzip}
use Rattle.gw_run.specs.Logs.{no_log}

four : (n : ℕ) → 4 ≤ n → nat_le 4 n ≡ true
four n enough = grind (arith, nat_tests)

two : (n : ℕ) → 4 ≤ n → nat_le 2 n ≡ true
two n enough = grind (arith, nat_tests)

pub no_log_behind : (front more : List ℕ) → 4 ≤ length front → no_log (front ++ more) ≡ no_log front
no_log_behind [] more enough = absurd (omega arith)
no_log_behind (a ∷ []) more enough = absurd (omega arith)
no_log_behind (a ∷ b ∷ []) more enough = absurd (omega arith)
no_log_behind (a ∷ b ∷ c ∷ []) more enough = absurd (omega arith)
no_log_behind (a ∷ b ∷ c ∷ d ∷ rest) more enough =
    let all : 4 ≤ length (a ∷ b ∷ c ∷ d ∷ rest ++ more) = omega (arith, length-append {A = ℕ}) in
    rw (
      four (length (a ∷ b ∷ c ∷ d ∷ rest ++ more)) all,
      four (length (a ∷ b ∷ c ∷ d ∷ rest)) enough,
      two (length (a ∷ b ∷ c ∷ d ∷ rest ++ more)) all,
      two (length (a ∷ b ∷ c ∷ d ∷ rest)) enough,
    ) refl

no_gzip : (test : Bool) → (if test then Some Gzip else None) ≡ Some Pcap → ⊥
no_gzip true is = cc
no_gzip false is = cc

pcap_long : (octets : List ℕ) → no_log octets ≡ Some Pcap → 4 ≤ length octets
pcap_long [] is = absurd (no_gzip false is)
pcap_long (a ∷ []) is = absurd (no_gzip false is)
pcap_long (a ∷ b ∷ []) is = absurd (no_gzip ((a == 0x1F) && (b == 0x8B)) is)
pcap_long (a ∷ b ∷ c ∷ []) is = absurd (no_gzip ((a == 0x1F) && (b == 0x8B)) is)
pcap_long (a ∷ b ∷ c ∷ d ∷ rest) is = omega arith

pub pcap_behind : (front more : List ℕ) → no_log front ≡ Some Pcap → no_log (front ++ more) ≡ Some Pcap
pcap_behind front more is = no_log_behind front more (pcap_long front is) ∙ is
