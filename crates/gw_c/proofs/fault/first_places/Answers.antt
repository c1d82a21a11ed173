use Rattle.std.proofs.Common.{rules, arith, ◌≡◌, ◌-◌, ◌++◌, min, length, take, drop, replicate, ap, ◌∙◌}
use Rattle.std.proofs.lemmas.List.{take_min, drop-replicate}
use Rattle.gw_c.proofs.fault.first_places.Goals as goal

pub returns : goal.returns
returns c =
    let places = c.args.places.now in let count = c.min-count.result in
    let front : c.copy_from_slice.new.self ≡ take count places = search rules in
    let count_is : count ≡ min 32 (length places) = omega (arith, c.min-count.ensures) in
    let rest : 32 - count ≡ 32 - length places = omega (arith, c.min-count.ensures) in
    ap (λ xs. xs ++ drop count (replicate 32 0)) (front ∙ ap (λ n. take n places) count_is ∙ take_min 32 places)
    ∙ ap (λ back. take 32 places ++ back) (drop-replicate count 32 0)
    ∙ ap (λ n. take 32 places ++ replicate n 0) rest
