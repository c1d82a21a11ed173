-- Worked examples of sets of ports and of ledgers.
use Rattle.std.proofs.Common.{◌≡◌, ◌-◌, ◌^◌, [], ◌∷◌, true, false, refl}
use Rattle.gw_ledger.specs.Ports.{has_port, with_port, ports_below}
use Rattle.gw_ledger.specs.PortWord.{ports_of_word, word_of}
use Rattle.gw_ledger.specs.Ledgers.{ledger_with, count_after}

added : (with_port 3 (0 ∷ 15 ∷ []) ≡ 0 ∷ 3 ∷ 15 ∷ []) × (with_port 3 (0 ∷ 3 ∷ []) ≡ 0 ∷ 3 ∷ []) × (with_port 3 [] ≡ 3 ∷ [])
added = (refl, refl, refl)

members : (has_port 3 (0 ∷ 3 ∷ []) ≡ true) × (has_port 4 (0 ∷ 3 ∷ []) ≡ false)
members = (refl, refl)

words : (ports_of_word 0x8009 ≡ 0 ∷ 3 ∷ 15 ∷ []) × (word_of (0 ∷ 3 ∷ 15 ∷ []) ≡ 0x8009)
unfolding ports_below
words = (refl, refl)

-- a frame that was allowed at ports 1 and 2 and placed at 1, and a local one
counted : ledger_with
    (ledger_with
    (record { taken = 0; local = 0; allowed = 0; placed = 0; lost = 0 })
    (record { number = 0; front = 1; local = false; allowed = 1 ∷ 2 ∷ []; placed = 1 ∷ [] }))
    (record { number = 1; front = 1; local = true; allowed = []; placed = [] })
    ≡ record { taken = 2; local = 1; allowed = 2; placed = 1; lost = 1 }
counted = refl

stays : (count_after (2 ^ 64 - 2) ≡ 2 ^ 64 - 1) × (count_after (2 ^ 64 - 1) ≡ 2 ^ 64 - 1)
stays = (refl, refl)
