-- The mask of a set of ports, port by port.
use Rattle.std.proofs.Common.{arith, ◌≡◌, ℕ, suc, ◌+◌, ◌<◌, ◌≤◌, ◌^◌, Bool, true, false, [], ◌∷◌, refl, sym, ap, ◌∙◌}
use Rattle.std.specs.Prelude.{if◌then◌else◌}
use Rattle.std.proofs.Math.Nat.{zero-add, two-pow-succ}
use Rattle.std.proofs.lemmas.List.Sums.{sum_by-append}
use Rattle.gw_ledger.specs.Ports.{ports_below}
use Rattle.gw_c.specs.Offers.{mask_of}

mask_of_one : (there : Bool) (port : ℕ) → mask_of (if there then port ∷ [] else []) ≡ (if there then 2 ^ port else 0)
mask_of_one true port = zero-add (2 ^ port)
mask_of_one false port = refl

mask_more : (n : ℕ) (test : ℕ → Bool)
    → mask_of (ports_below (suc n) test) ≡ mask_of (ports_below n test) + (if test n then 2 ^ n else 0)
unfolding ports_below
mask_more n test = sum_by-append (λ port. 2 ^ port) (ports_below n test) (if test n then n ∷ [] else [])
    ∙ ap (λ m. mask_of (ports_below n test) + m) (mask_of_one (test n) n)

-- no ports, and one more
pub mask_none : (test : ℕ → Bool) → mask_of (ports_below 0 test) ≡ 0
unfolding ports_below
mask_none test = refl

pub mask_next : (n mask bit : ℕ) (test : ℕ → Bool) → mask ≡ mask_of (ports_below n test)
    → bit ≡ (if test n then 2 ^ n else 0) → mask + bit ≡ mask_of (ports_below (n + 1) test)
mask_next n mask bit test is bit_is =
    let on : suc n ≡ n + 1 = omega arith in
    ap (λ m. m + bit) is
    ∙ ap (λ b. mask_of (ports_below n test) + b) bit_is
    ∙ sym (mask_more n test) ∙ ap (λ m. mask_of (ports_below m test)) on

bit_below : (there : Bool) (n bit : ℕ) → bit ≡ (if there then 2 ^ n else 0) → bit ≤ 2 ^ n
bit_below true n bit is = omega (arith, is)
bit_below false n bit is = omega (arith, is)

pub mask_below : (n mask bit : ℕ) (there : Bool) → mask < 2 ^ n → bit ≡ (if there then 2 ^ n else 0)
    → mask + bit < 2 ^ (n + 1)
mask_below n mask bit there below is =
    let on : suc n ≡ n + 1 = omega arith in
    omega (arith, below, bit_below there n bit is, two-pow-succ n, ap (λ m. 2 ^ m) on)
