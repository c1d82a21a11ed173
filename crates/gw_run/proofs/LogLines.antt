-- The lines of a log, one after another, and what a port takes of them.
use Rattle.std.proofs.Common.{◌≡◌, ◌∙◌, ℕ, ◌+◌, ◌<◌, false, Option, List, [], ◌∷◌, ◌++◌, length, take, drop, get_or}
use Rattle.std.proofs.Common.{refl, ap, append_assoc, sym, subst, arith, map, zero-add, Vec, Global}
use Rattle.std.proofs.lemmas.List.FromFn.{get_or-map-range_with_len, length-map-range_with_len}
use Rattle.std.specs.List.{after_first, before_first, position_or_len, range_with_len, slice_split}
use Rattle.std.proofs.lemmas.Bool.{eqb-true}
use Rattle.std.proofs.lemmas.List.{append-nil, get_or-map, length-map, same_lists, take_more}
use Rattle.std.proofs.Math.Seq.{take-append_seam}
use Rattle.std.proofs.lemmas.List.Splits.{slice_split_first, slice_split_none, length-slice_split}
use Rattle.std.proofs.lemmas.List.Sums.{fails_before_first, passes_at_first}
use Rattle.std.proofs.lemmas.List.Elements.{All-from_get_or}
use Rattle.gw_log.specs.LogLines.{line_of}
use Rattle.gw_input.specs.Lines.{is_line_feed}
use Rattle.gw_judge.specs.Judged.{log_lines, with_ends}
use Rattle.gw_judge.specs.Interfaces.{taken}
use Rattle.gw_judge.proofs.Callers.{ended_more}
use Rattle.gw_run.specs.Logs.{taken_at}

-- the first line of a log ends at its first line feed
pub line_ended : (log : List ℕ) → position_or_len is_line_feed log < length log
    → log_lines log
    ≡ take (position_or_len is_line_feed log + 1) log ∷ log_lines (drop (position_or_len is_line_feed log + 1) log)
unfolding log_lines
line_ended log ended =
    let at = position_or_len is_line_feed log in
    let feed : get_or log at 0 ≡ 10 = eqb-true (get_or log at 0) 10 (passes_at_first is_line_feed log 0 ended) in
    let line : take (at + 1) log ≡ before_first is_line_feed log ++ 10 ∷ [] =
    take_more log at 0 ended ∙ ap (λ c. take at log ++ c ∷ []) feed in
    let some : 0 < length (slice_split is_line_feed (after_first is_line_feed log)) =
    omega (arith, length-slice_split is_line_feed (after_first is_line_feed log)) in
    ap with_ends (slice_split_first is_line_feed log 0 ended)
    ∙ ended_more (before_first is_line_feed log) (slice_split is_line_feed (after_first is_line_feed log)) some
    ∙ ap (λ first. first ∷ log_lines (drop (at + 1) log)) (sym line)

-- a log without one is a line
pub line_alone : (log : List ℕ) → 0 < length log → position_or_len is_line_feed log ≡ length log
    → log_lines log ≡ log ∷ log_lines []
unfolding log_lines
line_alone [] some none = absurd (omega arith)
line_alone (c ∷ cs) some none =
    let log = c ∷ cs in
    ap with_ends (slice_split_none is_line_feed log
    (All-from_get_or (λ c. is_line_feed c ≡ false) log 0 (λ k within. fails_before_first is_line_feed log k 0 (omega arith))))

-- what a port takes of a log, by its first line and what stands behind it
pub taken_first : (takes : List ℕ → Option ℕ) (port : ℕ) (log line more : List ℕ) → log_lines log ≡ line ∷ log_lines more
    → taken_at takes port log ≡ taken takes port (line_of line) ++ taken_at takes port more
unfolding taken_at
taken_first takes port log line more lines = rw lines refl

pub taken_none : (takes : List ℕ → Option ℕ) (port : ℕ) → taken_at takes port [] ≡ []
unfolding taken_at log_lines
taken_none takes port = refl

-- the lists of all ports, where each has what its port takes
pub lists_of_all : (takes : List ℕ → Option ℕ) (ports len : ℕ) (log : List ℕ) (lists rest : List (Vec (List ℕ) Global))
    → len ≡ ports → length lists ≡ ports
    → ((k : ℕ) (d : Vec (List ℕ) Global) → k < ports → (get_or lists k d).items ≡ taken_at takes k log)
    → map (λ (list : Vec (List ℕ) Global). list.items) (take len (lists ++ rest))
    ≡ map (λ port. taken_at takes port log) (range_with_len 0 ports)
lists_of_all takes ports len log lists rest all count each =
    let front : take len (lists ++ rest) ≡ lists =
    ap (λ n. take n (lists ++ rest)) (all ∙ sym count) ∙ take-append_seam lists rest in
    ap (map (λ (list : Vec (List ℕ) Global). list.items)) front
    ∙ same_lists (map (λ (list : Vec (List ℕ) Global). list.items) lists)
    (map (λ port. taken_at takes port log) (range_with_len 0 ports))
    (length-map lists (λ (list : Vec (List ℕ) Global). list.items) ∙ count
    ∙ sym (length-map-range_with_len (λ port. taken_at takes port log) 0 ports))
    (λ k d below.
    let within : k < length lists = subst (λ n. k < n) (length-map lists (λ (list : Vec (List ℕ) Global). list.items)) below in
    let there : k < ports = subst (λ n. k < n) count within in
    get_or_there lists k d within
    (λ e. each k e there ∙ sym (get_or-map-range_with_len (λ port. taken_at takes port log) 0 ports k k d there (zero-add k))))
  where
    get_or_there : (lists : List (Vec (List ℕ) Global)) (k : ℕ) (d : List (List ℕ)) → k < length lists → {o : List (List ℕ)}
        → ((e : Vec (List ℕ) Global) → (get_or lists k e).items ≡ o)
        → get_or (map (λ (list : Vec (List ℕ) Global). list.items) lists) k d ≡ o
    get_or_there [] k d within is = absurd (omega arith)
    get_or_there (list ∷ lists) k d within is =
        get_or-map (λ (list : Vec (List ℕ) Global). list.items) (list ∷ lists) k list d within ∙ is list

-- a log's lines, where its first line feed stands at a place
pub line_at : (log line more : List ℕ) (at : ℕ) → at ≡ position_or_len is_line_feed log → at < length log
    → line ≡ take (at + 1) log → more ≡ drop (at + 1) log → log_lines log ≡ line ∷ log_lines more
line_at log line more at is ended front back =
    line_ended log (subst (λ n. n < length log) is ended)
    ∙ ap (λ n. take (n + 1) log ∷ log_lines (drop (n + 1) log)) (sym is)
    ∙ ap (λ first. first ∷ log_lines (drop (at + 1) log)) (sym front) ∙ ap (λ rest. line ∷ log_lines rest) (sym back)

-- what a list has, with one line more
pub one_line_more : (start whole here there line more rest : List (List ℕ)) → here ++ rest ≡ start ++ whole → rest ≡ line ++ more
    → there ≡ here ++ line → there ++ more ≡ start ++ whole
one_line_more start whole here there line more rest so_far first next =
    ap (λ l. l ++ more) next ∙ append_assoc here line more ∙ ap (λ l. here ++ l) (sym first) ∙ so_far

-- and with none
pub no_line_more : (start whole here none : List (List ℕ)) → here ++ none ≡ start ++ whole → none ≡ [] → here ≡ start ++ whole
no_line_more start whole here none so_far nothing = sym (append-nil here) ∙ ap (λ l. here ++ l) (sym nothing) ∙ so_far
