-- Counts over ports and lines of policies, one after another.
use Rattle.std.proofs.Common.{◌≡◌, ◌∙◌, ℕ, ◌+◌, List, ◌++◌, length, flat_map, ap, sym, ◌<◌, arith, get_or, take}
use Rattle.std.proofs.lemmas.List.Sums.{sum_by_more}
use Rattle.std.proofs.lemmas.List.{take_all}
use Rattle.std.specs.List.{range_with_len, sum_by}
use Rattle.gw_run.specs.declared.tally.Counted.{Counted}
use Rattle.gw_run.specs.declared.tally.LaneTally.{LaneTally}
use Rattle.gw_run.specs.Forwarding.{count_others, count_to, policy_line, policy_lines}

-- a count with that of one lane more
pub count_more : (what : Counted) (to : ℕ) (lanes : List LaneTally) (n : ℕ) (d : LaneTally) (count more : ℕ) → n < length lanes
    → count ≡ sum_by (count_to what to) (take n lanes) → more ≡ count_to what to (get_or lanes n d)
    → count + more ≡ sum_by (count_to what to) (take (n + 1) lanes)
count_more what to lanes n d count more within so_far is =
    ap (λ m. m + more) so_far ∙ ap (λ m. sum_by (count_to what to) (take n lanes) + m) is
    ∙ sym (sum_by_more (count_to what to) lanes n d within)

-- the whole count
pub count_done : (what : Counted) (to : ℕ) (lanes : List LaneTally) (n count : ℕ) → n ≡ length lanes
    → count ≡ sum_by (count_to what to) (take n lanes) → count ≡ count_others what to lanes
unfolding count_others
count_done what to lanes n count all same =
    same ∙ ap (sum_by (count_to what to)) (take_all n lanes (omega arith))

-- all lines behind a text
pub policies_done : (ports : ℕ) (lanes : List LaneTally) (n : ℕ) (before text : List ℕ) → n ≡ ports
    → text ≡ before ++ flat_map (policy_line lanes) (range_with_len 0 n) → text ≡ before ++ policy_lines ports lanes
unfolding policy_lines
policies_done ports lanes n before text all same =
    same ∙ ap (λ m. before ++ flat_map (policy_line lanes) (range_with_len 0 m)) all
