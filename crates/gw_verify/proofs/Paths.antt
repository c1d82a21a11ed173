-- Bare paths, place by place.
use Rattle.std.proofs.Common.{◌≡◌, ℕ, zero, suc, ◌+◌, ◌-◌, ◌<◌, List, [], ◌∷◌, length, get_or, take, sym, ap, ◌∙◌, subst, arith}
use Rattle.std.proofs.lemmas.List.{take_more, get_or_append_left, length_push, same_from_push}
use Rattle.gw_verify.specs.declared.cause.Cause.TheVariants.{UnsetWord}
use Rattle.gw_verify.specs.Accepted.{IsAccepted, At, EndsAtLoad}
use Rattle.gw_verify.specs.Flow.{Forms, IsNext, Walks, IsPath, Loads, PassesBy, IsBarePath, IsBarePathTo}
use Rattle.gw_verify.proofs.FlowLaws.{bare_path_on}

-- the first n places of the list are a bare path
abbrev pub IsFront : Forms → ℕ → List ℕ → ℕ → Type 0
IsFront forms word places n = IsBarePathTo forms (take n places) (get_or places (n - 1) 0) word

-- one place more
pub front_more : (forms : Forms) (word : ℕ) (places : List ℕ) (n : ℕ) → n < length places
    → PassesBy forms word (get_or places (n - 1) 0) (get_or places n 0) → IsFront forms word places n
    → IsFront forms word places (n + 1)
front_more forms word places n within p front =
    let one : n + 1 - 1 ≡ n = omega arith in
    let last = get_or places (n - 1) 0 in
    let on = bare_path_on forms word (take n places) last (get_or places n 0) front p.unset p.next in
    rw (one, take_more places n 0 within) on

walks_at : (forms : Forms) (i : ℕ) (js : List ℕ) (k : ℕ) → k < length js → Walks forms i js
    → IsNext forms (get_or (i ∷ js) k 0) (get_or js k 0)
walks_at forms i [] k l w = absurd (omega arith)
walks_at forms i (j ∷ js) zero l w = w.0
walks_at forms i (j ∷ js) (suc k) l w = walks_at forms j js k (omega arith) w.1

path_at : (forms : Forms) (places : List ℕ) (k : ℕ) → suc k < length places → IsPath forms places
    → IsNext forms (get_or places k 0) (get_or places (suc k) 0)
path_at forms [] k l p = absurd p
path_at forms (i ∷ js) k l p = walks_at forms i js k (omega arith) p.2

-- each place of a bare path passes to the next one
pub bare_path_passes : (forms : Forms) (word : ℕ) (places : List ℕ) (k : ℕ) → suc k < length places
    → IsBarePath forms places word → PassesBy forms word (get_or places k 0) (get_or places (suc k) 0)
bare_path_passes forms word places k l b =
    let long = ap length b.to.ends ∙ length_push b.to.earlier b.last in
    let within : k < length b.to.earlier = omega arith in
    let same : get_or places k 0 ≡ get_or b.to.earlier k 0 =
    ap (λ ps. get_or ps k 0) b.to.ends ∙ get_or_append_left b.to.earlier (b.last ∷ []) 0 k within in
    record { next = path_at forms places k l b.to.path; unset = rw same (b.to.unset k 0 within) }

-- a bare path to a load of its word is a fault
pub refuted : (forms : Forms) (word : ℕ) (places : List ℕ) → IsBarePath forms places word
    → EndsAtLoad forms places word → IsAccepted forms → ⊥
refuted forms word places b e accepted =
    let same = same_from_push b.to.earlier e.earlier b.last e.last (sym b.to.ends ∙ e.ends) in
    let load = subst (λ i. At forms i (λ insn. Loads insn word)) (sym same.1) e.load in
    accepted (UnsetWord word) b.last (load, record { places = places; to = b.to })
