-- A gateway stands after one more batch.
use Rattle.std.proofs.Common.{length-append, ◌≡◌, ℕ, suc, ◌+◌}
use Rattle.std.proofs.Common.{◌<◌, false, leb, List, [], ◌∷◌, ◌++◌, length, Option}
use Rattle.std.proofs.Common.{Some, Ok, refl, sym, ap, subst, ◌∙◌, arith}
use Rattle.std.specs.Prelude.{All, slice_get}
use Rattle.std.proofs.lemmas.Bool.Decides.{nat_tests}
use Rattle.std.proofs.lemmas.List.Elements.{All-nil, All-cons}
use Rattle.gw_policy.specs.Filter.{IsFilter}
use Rattle.gw_policy.specs.Batches.{Pair}
use Rattle.gw_core.specs.Start.{Heard, begun}
use Rattle.gw_core.specs.Events.{history_of, all_batches, accepted}
use Rattle.gw_core.specs.Events.{names_no_port}
use Rattle.gw_core.specs.declared.event.Event.{Event}
use Rattle.gw_core.specs.declared.event.Event.TheVariants.{Publish}
use Rattle.gw_core.specs.Standing.{AreSound}
use Rattle.gw_core.specs.Headline.{IsEvent}
use Rattle.gw_core.proofs.Publishings.{sound_published, found_published, worker_published}
use Rattle.gw_core.specs.declared.active.PairIndex.{PairIndex}
use Rattle.gw_core.specs.declared.event.Answer.TheVariants.{Published}
use Rattle.std.proofs.lemmas.List.{reverse-append}
use Rattle.gw_core.specs.Gateway.{IndicesWith, Gateway, StandsAt, Stands, CoreAnswers}
use Rattle.gw_core.proofs.Gateways.{front_of, accepts, batches_of_port}

-- what is known of each pair of a batch is known of all
all_sound : (batch : List Pair) → ((i : ℕ) (pair : Pair) → slice_get batch i ≡ Some pair → IsFilter pair.policy)
    → All (λ (pair : Pair). IsFilter pair.policy) batch
all_sound [] each = All-nil (λ (pair : Pair). IsFilter pair.policy)
all_sound (pair ∷ pairs) each = All-cons (λ (pair : Pair). IsFilter pair.policy) pair pairs (each 0 pair refl)
    (all_sound pairs (λ i x get. each (suc i) x get))

-- a batch was published
pub stands_publish : (c : Gateway) (known : Heard) (done : List Event) (batch : List Pair) (latest : List (Option PairIndex))
    → StandsAt c known done
    → length c.batches < c.limits.versions
    → IndicesWith batch (length c.batches) c.latest latest
    → StandsAt (record c { batches = c.batches ++ batch ∷ []; latest = latest }) known (Publish batch ∷ done)
stands_publish c known done batch latest s more made =
    let sound : AreSound (batch ∷ all_batches done) = sound_published (all_batches done) batch s.sound made.sound in
    record {
      limits = s.limits;
      events = All-cons IsEvent (Publish batch) done (all_sound batch made.sound) s.events;
      batches = ap (λ (x : List (List Pair)). x ++ batch ∷ []) s.batches ∙ sym (reverse-append (batch ∷ []) (all_batches done));
      few = let k = length-append c.batches (batch ∷ []) in omega arith;
      sound = sound;
      latest = found_published c.batches (all_batches done) batch c.latest latest s.latest made;
      ports = s.ports;
      workers = λ p w get. let h = s.workers p w get in record {
        limits = h.limits;
        own = h.own;
        stands = worker_published c.batches batch w (history_of (begun c.limits known) p done)
            (subst (λ (x : List (List Pair)). AreSound (batch ∷ x)) (sym (batches_of_port p
            (begun c.limits known) done)) sound) h.stands;
      };
      senders = s.senders;
      outs = s.outs;
    }

-- a batch that is accepted is answered by the new front
pub core_publish : (c : Gateway) (batch : List Pair) (latest : List (Option PairIndex)) → length c.batches < c.limits.versions
    → names_no_port c.limits.ports batch ≡ false
    → IndicesWith batch (length c.batches) c.latest latest → (known : Heard) (history : List Event) → Stands c known history
    → CoreAnswers c (Publish batch) (Ok (Published (length c.batches + 1)))
    (record c { batches = c.batches ++ batch ∷ []; latest = latest }) known history
core_publish c batch latest more there made known history s =
    let done = accepted (begun c.limits known) history in
    let front = front_of c known done s in
    let e : leb c.limits.versions (length (all_batches done)) ≡ false = grind (arith, nat_tests) in
    accepts c (record c { batches = c.batches ++ batch ∷ []; latest = latest }) known history (Publish batch)
    (Published (length c.batches + 1))
    (rw (there, e) refl) (ap (λ n. Published (n + 1)) (sym front)) refl (stands_publish c known done batch latest s more made)
