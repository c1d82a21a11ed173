-- Shares of frames, as they are found by passing over the frames of others.
use Rattle.std.proofs.Common.{◌≡◌, ◌≢◌, ℕ, zero, suc, ◌+◌, ◌-◌, ◌*◌, ◌/◌, ◌%◌, ◌<◌, ◌≤◌, List, [], ◌∷◌, length, length-drop, drop}
use Rattle.std.proofs.Common.{sym, ap, ◌∙◌, refl, arith}
use Rattle.std.proofs.lemmas.Bool.Decides.{nat_tests}
use Rattle.std.proofs.Math.Nat.{add-mod_right, div-add-mod, mul-le-mul_left, mod-eq_of_lt}
use Rattle.std.proofs.Math.ListN.{drop_of_length-le}
use Rattle.std.proofs.lemmas.List.{drop-drop}
use Rattle.gw_trace.specs.Shares.{shared_from, share_of, every}

-- a number at which the port's own is so many further on is not the port's
others_number : (i k port ports : ℕ) → (i + suc k) % ports ≡ port → suc k < ports → i % ports ≢ port
others_number i k port ports later near now =
    apart ports (i / ports) ((i + suc k) / ports) port i k (div-add-mod i ports) (div-add-mod (i + suc k) ports) now later near
    (λ h. mul-le-mul_left ports h) (λ h. mul-le-mul_left ports h)
  where
    apart : (ports a b port i k : ℕ) {r s : ℕ} → ports * a + r ≡ i → ports * b + s ≡ i + suc k → r ≡ port → s ≡ port
        → suc k < ports
        → (b ≤ a → ports * b ≤ ports * a) → (a + 1 ≤ b → ports * (a + 1) ≤ ports * b) → ⊥
    apart ports a b port i k e f now later near less more = grind arith

taken : (i port ports : ℕ) (frame : List ℕ) (frames : List (List ℕ)) → i % ports ≡ port
    → shared_from i port ports (frame ∷ frames) ≡ frame ∷ shared_from (i + 1) port ports frames
taken i port ports frame frames h = grind (arith, nat_tests)

left_out : (i port ports : ℕ) (frame : List ℕ) (frames : List (List ℕ)) → i % ports ≢ port
    → shared_from i port ports (frame ∷ frames) ≡ shared_from (i + 1) port ports frames
left_out i port ports frame frames h = grind (arith, nat_tests)

-- the share of frames numbered from i on, where so many stand before the port's next one
pub every_is_shared : (i skip port ports : ℕ) (frames : List (List ℕ)) → (i + skip) % ports ≡ port → skip < ports
    → every skip (ports - 1) frames ≡ shared_from i port ports frames
every_is_shared i zero port ports [] own near = refl
every_is_shared i (suc skip) port ports [] own near = refl
every_is_shared i zero port ports (frame ∷ frames) own near =
    let next : (i + 1 + (ports - 1)) % ports ≡ port =
    ap (λ n. n % ports) (round i ports near) ∙ add-mod_right i ports ∙ ap (λ n. n % ports) (nothing i) ∙ own in
    ap (λ fs. frame ∷ fs) (every_is_shared (i + 1) (ports - 1) port ports frames next (below ports near))
    ∙ sym (taken i port ports frame frames (ap (λ n. n % ports) (nothing i) ∙ own))
  where
    round : (i ports : ℕ) → 0 < ports → i + 1 + (ports - 1) ≡ i + ports
    round i ports h = omega arith

    nothing : (i : ℕ) → i ≡ i + 0
    nothing i = omega arith

    below : (ports : ℕ) → 0 < ports → ports - 1 < ports
    below ports h = omega arith
every_is_shared i (suc skip) port ports (frame ∷ frames) own near =
    every_is_shared (i + 1) skip port ports frames (ap (λ n. n % ports) (further i skip) ∙ own) (nearer skip ports near)
    ∙ sym (left_out i port ports frame frames (others_number i skip port ports own near))
  where
    further : (i skip : ℕ) → i + 1 + skip ≡ i + suc skip
    further i skip = omega arith

    nearer : (skip ports : ℕ) → suc skip < ports → skip < ports
    nearer skip ports h = omega arith

-- a port's share, from the first frame on
pub share_begins : (port ports : ℕ) (frames : List (List ℕ)) → port < ports
    → every port (ports - 1) frames ≡ share_of port ports frames
share_begins port ports frames h =
    every_is_shared 0 port port ports frames (ap (λ n. n % ports) (zero_and port) ∙ small port ports h) h
  where
    zero_and : (n : ℕ) → 0 + n ≡ n
    zero_and n = omega arith

    small : (n m : ℕ) → n < m → n % m ≡ n
    small n m h = mod-eq_of_lt h

-- the share of the one port is all
pub all_shared : (frames : List (List ℕ)) → share_of 0 1 frames ≡ frames
all_shared frames = sym (share_begins 0 1 frames (omega arith)) ∙ every_one frames
  where
    every_one : (frames : List (List ℕ)) → every 0 0 frames ≡ frames
    every_one [] = refl
    every_one (frame ∷ frames) = ap (λ fs. frame ∷ fs) (every_one frames)

-- frames passed over
pub every_passed : (skip others : ℕ) (frames : List (List ℕ)) → every skip others frames ≡ every 0 others (drop skip frames)
every_passed zero others frames = refl
every_passed (suc skip) others [] = refl
every_passed (suc skip) others (frame ∷ frames) = every_passed skip others frames

-- the next frame of a share, where the frames passed over are known
pub none_left : (skip others : ℕ) (frames later : List (List ℕ)) → later ≡ drop skip frames → later ≡ []
    → every skip others frames ≡ []
none_left skip others frames later e h = every_passed skip others frames ∙ ap (every 0 others) (sym e ∙ h)

-- a frame is left
pub next_is : (skip others : ℕ) (frames later rest : List (List ℕ)) (frame : List ℕ) → later ≡ drop skip frames
    → later ≡ frame ∷ rest → every skip others frames ≡ frame ∷ every others others rest
next_is skip others frames later rest frame e h = every_passed skip others frames ∙ ap (every 0 others) (sym e ∙ h)

-- frames passed over, one more
pub drop_one_more : (i : ℕ) (frames later rest : List (List ℕ)) (frame : List ℕ) → later ≡ drop i frames → later ≡ frame ∷ rest
    → rest ≡ drop (i + 1) frames
drop_one_more i frames later rest frame e h = ap (drop 1) (sym h ∙ e) ∙ drop-drop 1 i frames

-- where none are left, none are left further on
pub drop_past : (i n : ℕ) (frames : List (List ℕ)) → [] ≡ drop i frames → i ≤ n → [] ≡ drop n frames
drop_past i n frames e h =
    let short : length frames ≤ i = omega (arith, ap length e, length-drop i frames) in
    sym (drop_of_length-le frames (omega arith))

-- no frames, no share
pub none_at_all : (skip others : ℕ) → every skip others [] ≡ []
none_at_all zero others = refl
none_at_all (suc skip) others = refl
