-- A gateway stands after one more sending.
use Rattle.std.proofs.Common.{get_or-set_same, get_or-set_other, inl, inr, ◌⊎◌, ◌^◌, ◌≡◌, ◌≢◌, ℕ, ◌+◌}
use Rattle.std.proofs.Common.{◌-◌, ◌<◌, false, eqb, leb, List, ◌∷◌, ◌++◌, length}
use Rattle.std.proofs.Common.{Some, None, Ok, refl, sym, ap, subst, ◌∙◌, arith, slice_index_or, drop, min}
use Rattle.std.specs.Prelude.{slice_get, slice_set, slice_index, option_to_list}
use Rattle.std.proofs.lemmas.Bool.Decides.{nat_tests}
use Rattle.std.proofs.lemmas.Option.{slice_get_read}
use Rattle.std.proofs.lemmas.Bool.{cases_eq}
use Rattle.gw_ledger.specs.Bounds.{Bounds}
use Rattle.gw_ledger.specs.declared.ledger.OutLedger.{OutLedger}
use Rattle.gw_ledger.specs.declared.outcome.FrameCopy.{FrameCopy}
use Rattle.gw_core.specs.Start.{Start, Heard, begun}
use Rattle.gw_core.specs.PortHistory.{copy_asked, ingress_of, waiting}
use Rattle.gw_core.specs.Events.{history_of, accepted, refusal, sent_after}
use Rattle.gw_core.specs.Events.{first_waiting}
use Rattle.gw_core.specs.declared.event.Event.{Event}
use Rattle.gw_core.specs.declared.event.Event.TheVariants.{Send}
use Rattle.gw_core.specs.Standing.{Worker, WorkerStands, lane_of, lanes_sent}
use Rattle.gw_core.proofs.Sendings.{worker_sent, answers_send, some_wait, none_wait, send_here, send_there, sent_there, sent_one}
use Rattle.gw_core.proofs.Sendings.{sent_none, next_count}
use Rattle.gw_core.specs.declared.event.Answer.TheVariants.{Sent, Empty}
use Rattle.gw_core.specs.Gateway.{Gateway, StandsAt, Stands, CoreAnswers}
use Rattle.gw_core.proofs.Gateways.{lane_waits, get_set_same, get_set_other, length_set, same_some, accepts}
use Rattle.gw_core.proofs.Gateways.{with_worker, stands_with, stands_at}

-- the worker after a sending, which changes one lane
sent_worker : (c : Gateway) (known : Heard) (done : List Event) (to from : ℕ) (w w2 : Worker) → StandsAt c known done
    → slice_get c.workers from ≡ Some w → to < c.limits.ports → w2 ≡ record w { lanes = lanes_sent w to }
    → WorkerStands c.batches w2 (copy_asked to ∷ history_of (begun c.limits known) from done)
sent_worker c known done to from w w2 s at lt is =
    let h = s.workers from w at in
    subst (λ (x : Worker). WorkerStands c.batches x (copy_asked to ∷ history_of (begun c.limits known) from done)) (sym is)
    (worker_sent c.batches w (history_of (begun c.limits known) from done) to h.stands (subst (λ (l : Bounds). to < l.ports)
    (sym h.limits) lt))

-- a port found no copy to send
pub stands_empty : (c : Gateway) (known : Heard) (done : List Event) (to from : ℕ) (w w2 : Worker) → StandsAt c known done
    → slice_get c.workers from ≡ Some w → to < c.limits.ports → w2 ≡ record w { lanes = lanes_sent w to }
    → (lane_of w to).waiting ≡ option_to_list None ++ drop 1 (lane_of w to).waiting
    → StandsAt (with_worker c from w2) known (Send to from ∷ done)
stands_empty c known done to from w w2 s at lt is first =
    let none : length (waiting (ingress_of c.limits from) to (history_of (begun c.limits known) from done))
    ≡ 0 = ap length (sym (lane_waits c known done to from w s at lt)) ∙ none_wait (lane_of w to).waiting first in
    stands_at c known done (Send to from) (copy_asked to) from w w2 tt refl (send_here to from) (λ q ne. send_there to from q ne)
    (λ r q. count none r q (cases_eq r from) (cases_eq q to))
    s at (sent_worker c known done to from w w2 s at lt is) (ap (λ (x : Worker). x.limits) is) (ap (λ (x : Worker). x.own) is)
  where
    count : length (waiting (ingress_of c.limits from) to (history_of (begun c.limits known) from done)) ≡ 0 → (r q : ℕ)
        → (r ≡ from) ⊎ (r ≡ from → ⊥)
        → (q ≡ to) ⊎ (q ≡ to → ⊥)
        → sent_after (begun c.limits known) r q (Send to from ∷ done) ≡ sent_after (begun c.limits known) r q done
    count none r q (inl a) (inl b) =
        subst (λ n. sent_after (begun c.limits known) n q (Send to from ∷ done)
        ≡ sent_after (begun c.limits known) n q done) (sym a)
        (subst (λ m. sent_after (begun c.limits known) from m (Send to from ∷ done) ≡ sent_after
        (begun c.limits known) from m done) (sym b)
        (sent_none (begun c.limits known) to from done none))
    count none r q (inl a) (inr b) = sent_there (begun c.limits known) to from r q done (λ z. b)
    count none r q (inr a) other = sent_there (begun c.limits known) to from r q done (λ z. absurd (a z))

-- a port sent a copy
pub stands_sent : (c : Gateway) (known : Heard) (done : List Event) (to from : ℕ) (w w2 : Worker) (o o2 : OutLedger)
    (copy : FrameCopy)
    → StandsAt c known done → slice_get c.workers from ≡ Some w → slice_get c.outs to ≡ Some o
    → to < c.limits.ports → from < c.limits.ports → w2 ≡ record w { lanes = lanes_sent w to }
    → (lane_of w to).waiting ≡ option_to_list (Some copy) ++ drop 1 (lane_of w to).waiting
    → o2.sent ≡ slice_set o.sent from (min (slice_index o.sent from + 1) (2 ^ 64 - 1))
    → StandsAt (record c { workers = slice_set c.workers from w2; outs = slice_set c.outs to o2 }) known (Send to from ∷ done)
stands_sent c known done to from w w2 o o2 copy s at out lt own is first counts =
    stands_with c known done (Send to from) (copy_asked to) from w w2 (slice_set c.outs to o2) tt refl (send_here to from)
    (λ q ne. send_there to from q ne)
    s at (sent_worker c known done to from w w2 s at lt is) (ap (λ (x : Worker). x.limits) is) (ap (λ (x : Worker). x.own) is)
    (length_set c.outs to o2 ∙ s.senders)
    (λ q p get. by_out q p (cases_eq q to) get)
  where
    some : 0 < length (waiting (ingress_of c.limits from) to (history_of (begun c.limits known) from done))
    some = subst (λ (xs : List FrameCopy). 0 < length xs) (lane_waits c known done to from w s at lt)
        (some_wait (lane_of w to).waiting copy first)

    small : from < length o.sent
    small = let k = (s.outs to o out).0 in let m = s.limits.most_ports in omega arith

    new_count : (r : ℕ) → (r ≡ from) ⊎ (r ≡ from → ⊥)
        → slice_index (slice_set o.sent from (min (slice_index o.sent from + 1) (2 ^ 64 - 1))) r
        ≡ min (sent_after (begun c.limits known) r to (Send to from ∷ done)) (2 ^ 64 - 1)
    new_count r (inl same) =
        subst (λ n. slice_index (slice_set o.sent from (min (slice_index o.sent from + 1) (2 ^ 64 - 1))) n ≡ min
        (sent_after (begun c.limits known) n to (Send to from ∷ done)) (2 ^ 64 - 1)) (sym same)
        (get_or-set_same o.sent from (min (slice_index o.sent from + 1) (2 ^ 64 - 1)) 0 small
        ∙ next_count (slice_index o.sent from) (sent_after (begun c.limits known) from to done)
        (sent_after (begun c.limits known) from to (Send to from ∷ done)) ((s.outs to o out).1 from) (sent_one
        (begun c.limits known) to from done some))
    new_count r (inr other) =
        get_or-set_other o.sent from r (min (slice_index o.sent from + 1) (2 ^ 64 - 1)) 0 other
        ∙ (s.outs to o out).1 r ∙ ap (λ n. min n (2 ^ 64 - 1))
        (sym (sent_there (begun c.limits known) to from r to done (λ z. absurd (other z))))

    by_out : (q : ℕ) (p : OutLedger) → (q ≡ to) ⊎ (q ≡ to → ⊥) → slice_get (slice_set c.outs to o2) q ≡ Some p
        → (length p.sent ≡ 16) × ((r : ℕ) → slice_index p.sent r
        ≡ min (sent_after (begun c.limits known) r q (Send to from ∷ done))
        (2 ^ 64 - 1))
    by_out q p (inl same) get =
        let it : o2 ≡ p = same_some o2 p
        (sym (get_set_same c.outs to o2 o out) ∙ ap (slice_get (slice_set c.outs to o2)) (sym same) ∙ get) in
        subst (λ (x : OutLedger). (length x.sent ≡ 16) ×
        ((r : ℕ) → slice_index x.sent r ≡ min (sent_after (begun c.limits known) r q (Send to from ∷ done)) (2 ^ 64 - 1))) it
        (subst (λ m. (length o2.sent ≡ 16) × ((r : ℕ) → slice_index o2.sent r ≡ min
        (sent_after (begun c.limits known) r m (Send to from ∷ done)) (2 ^ 64 - 1))) (sym same) (
          ap length counts ∙ length_set o.sent from _ ∙ (s.outs to o out).0,
          λ r. ap (λ xs. slice_index xs r) counts ∙ new_count r (cases_eq r from),
        ))
    by_out q p (inr other) get =
        let old = s.outs q p (sym (get_set_other c.outs to q o2 (λ z. other (sym z))) ∙ get) in (
          old.0,
          λ r. old.1 r ∙ ap (λ n. min n (2 ^ 64 - 1)) (sym (sent_there (begun c.limits known) to from r q done
              (λ z. other))),
        )

-- a sending is not refused
pub send_allowed : (start : Start) (done : List Event) (to from : ℕ) → to < start.limits.ports → from < start.limits.ports
    → to ≢ from
    → refusal start done (Send to from) ≡ None
send_allowed start done to from lt own other =
    let a : leb start.limits.ports to ≡ false = grind (arith, nat_tests) in
    let b : leb start.limits.ports from ≡ false = grind (arith, nat_tests) in
    let d : eqb to from ≡ false = grind (arith, nat_tests) in
    rw (a, b, d) refl

-- a sending is answered by the copy that waited first, or by Empty
pub core_sent : (c : Gateway) (i j to from : ℕ) (w w2 : Worker) (o o2 : OutLedger) (copy : FrameCopy) → i ≡ from → j ≡ to
    → to < c.limits.ports → from < c.limits.ports → to ≢ from
    → w ≡ slice_index_or c.workers i w → o ≡ slice_index_or c.outs j o → w2 ≡ record w { lanes = lanes_sent w to }
    → (lane_of w to).waiting ≡ option_to_list (Some copy) ++ drop 1 (lane_of w to).waiting
    → o2.sent ≡ slice_set o.sent from (min (slice_index o.sent from + 1) (2 ^ 64 - 1))
    → ((known : Heard) (done : List Event) → StandsAt c known done → StandsAt
    (record c { workers = slice_set c.workers i w2; outs = slice_set c.outs j o2 }) known (Send to from ∷ done))
    × ((known : Heard) (history : List Event) → Stands c known history → CoreAnswers c (Send to from) (Ok (Sent copy))
    (record c { workers = slice_set c.workers i w2; outs = slice_set c.outs j o2 }) known history)
core_sent c i j to from w w2 o o2 copy ii jj lt own other read out is first counts =
    (moved, λ known history s. answered known history s)
  where
    at : (known : Heard) (done : List Event) → StandsAt c known done → slice_get c.workers from ≡ Some w
    at known done s = slice_get_read c.workers c.limits.ports from w (sym s.ports) own
        (read ∙ ap (λ n. slice_index_or c.workers n w) ii)

    at_out : (known : Heard) (done : List Event) → StandsAt c known done → slice_get c.outs to ≡ Some o
    at_out known done s = slice_get_read c.outs c.limits.ports to o (sym s.senders) lt (out
        ∙ ap (λ n. slice_index_or c.outs n o) jj)

    moved : (known : Heard) (done : List Event) → StandsAt c known done
        → StandsAt (record c { workers = slice_set c.workers i w2; outs = slice_set c.outs j o2 }) known (Send to from ∷ done)
    moved known done s =
        subst (λ n. StandsAt (record c { workers = slice_set c.workers n w2; outs = slice_set c.outs j o2 }) known
        (Send to from ∷ done)) (sym ii)
        (subst (λ n. StandsAt (record c { workers = slice_set c.workers from w2; outs = slice_set c.outs n o2 }) known
        (Send to from ∷ done)) (sym jj)
        (stands_sent c known done to from w w2 o o2 copy s (at known done s) (at_out known done s) lt own is first counts))

    answered : (known : Heard) (history : List Event) → Stands c known history
        → CoreAnswers c (Send to from) (Ok (Sent copy))
        (record c { workers = slice_set c.workers i w2; outs = slice_set c.outs j o2 }) known history
    answered known history s =
        accepts c (record c { workers = slice_set c.workers i w2; outs = slice_set c.outs j o2 }) known history (Send to from)
        (Sent copy) (send_allowed (begun c.limits known) (accepted (begun c.limits known) history) to from lt own other)
        (answers_send (lane_of w to).waiting (Some copy) first
        ∙ ap first_waiting (lane_waits c known (accepted (begun c.limits known) history) to from w s (at known (accepted
        (begun c.limits known) history) s) lt))
        refl (moved known (accepted (begun c.limits known) history) s)

pub core_empty : (c : Gateway) (i to from : ℕ) (w w2 : Worker) → i ≡ from → to < c.limits.ports → from < c.limits.ports
    → to ≢ from
    → w ≡ slice_index_or c.workers i w → w2 ≡ record w { lanes = lanes_sent w to }
    → (lane_of w to).waiting ≡ option_to_list None ++ drop 1 (lane_of w to).waiting
    → (known : Heard) (history : List Event) → Stands c known history
    → CoreAnswers c (Send to from) (Ok Empty) (with_worker c i w2) known history
core_empty c i to from w w2 ii lt own other read is first known history s =
    let done = accepted (begun c.limits known) history in
    let at = slice_get_read c.workers c.limits.ports from w (sym s.ports) own
    (read ∙ ap (λ n. slice_index_or c.workers n w) ii) in
    subst (λ n. CoreAnswers c (Send to from) (Ok Empty) (with_worker c n w2) known history) (sym ii)
    (accepts c (with_worker c from w2) known history (Send to from) Empty (send_allowed
    (begun c.limits known) done to from lt own other)
    (answers_send (lane_of w to).waiting None first ∙ ap first_waiting (lane_waits c known done to from w s at lt))
    refl (stands_empty c known done to from w w2 s at lt is first))
