-- What a run on dealt frames is a run of.
use Rattle.std.proofs.Common.{◌≡◌, ◌∙◌, ℕ, ◌<◌, Bool, false, List, [], ◌++◌, length, map, Option, slice_index_or, ap, arith}
use Rattle.std.proofs.Common.{subst, sym, zero-add, Err, MatchResult, inl, inr, refl}
use Rattle.std.proofs.lemmas.List.{length-map}
use Rattle.std.proofs.lemmas.List.FromFn.{get_or-map-range_with_len, length-map-range_with_len}
use Rattle.std.specs.List.{range_with_len}
use Rattle.gw_ports.specs.declared.running.RunEnd.{RunEnd}
use Rattle.gw_trace.specs.Shares.{share_of}
use Rattle.gw_trace.specs.declared.refusal.TraceRefusal.{TraceRefusal}
use Rattle.gw_trace.specs.Traces.{whole_trace}
use Rattle.gw_trace.specs.declared.refusal.TraceRefusal.TheVariants as trace
use Rattle.gw_ledger.specs.Bounds.{Bounds}
use Rattle.gw_policy.specs.Batches.{Pair}
use Rattle.gw_run.specs.Dealing.{AreFronts, AreSameRings, HasPut, RefusesReading}
use Rattle.gw_run.specs.DealtRuns.{CanDeal, EndsDealing, HasDealt, IsWholeEnd, RefusesEnd, reading_refusal}
use Rattle.gw_run.specs.Dealt.{Putting, Taken, TakesItem}
use Rattle.gw_run.specs.Forwarding.{AreShares, EndsRun, IsRunOf, IsRunOn, RefusesInputs, RefusesTrace}
use Rattle.gw_run.specs.declared.dealing.Dealer.{Dealer}
use Rattle.gw_run.specs.declared.dealt_run.DealtEnd.{DealtEnd}
use Rattle.gw_run.specs.declared.dealt_run.DealtRun.{DealtRun}
use Rattle.gw_run.specs.declared.dealt_run.WholeEnd.{WholeEnd}
use Rattle.gw_run.specs.declared.refusal.ForwardRefusal.{ForwardRefusal}
use Rattle.gw_run.specs.declared.kept.NoCopies.{NoCopies}
use Rattle.gw_run.specs.declared.losses.Losses.{Losses}
use Rattle.gw_run.specs.declared.taking.Taking.TheVariants.{InTurn}
use Rattle.gw_run.proofs.DealtLists.{IsPortDealt, dealt_lists, kept_rings, same_many}
use Rattle.gw_run.proofs.Forwards.{refuses_as}
use Rattle.gw_run.proofs.ListRuns.{list_run}

module _ {R G : Type 0} (run : DealtRun R G) (can : CanDeal run) (waits : Bool) (ended : RunEnd Taken Losses NoCopies)
    (is : EndsRun TakesItem run.limits run.first run.inputs.items waits ended) where
  abbrev ports : ℕ
  ports = run.limits.ports

  inputs_many : length is.is_run.feeds ≡ ports
  inputs_many =
      sym (length-map is.is_run.feeds (λ feed. feed.input)) ∙ ap length is.is_run.inputs_are ∙ can.rings.enough.1

  -- as many inputs were left
  rests_many : length ended.inputs.items ≡ ports
  rests_many =
      ap length is.is_run.rests_are ∙ length-map is.is_run.done (λ one. one.rest)
      ∙ sym (same_many is.is_run.feeds is.is_run.done is.is_run.offered) ∙ inputs_many

  -- the ends of each ring
  same_ends : (dealer : Dealer R) → AreSameRings run.dealer.ports.items dealer.ports.items → (k : ℕ) (d : Taken)
      (e : Putting) → k < length ended.inputs.items
      → (slice_index_or dealer.ports.items k e).ring ≡ (slice_index_or ended.inputs.items k d).ring
  same_ends dealer rings k d e below =
      let inside : k < ports = omega (arith, below, rests_many) in
      rings.each k e (omega (arith, inside, can.rings.enough.0))
      ∙ (can.rings.each k e d inside).one
      ∙ ap (λ (l : List Taken). (slice_index_or l k d).ring) (sym is.is_run.inputs_are)
      ∙ sym (kept_rings is.is_run.feeds is.is_run.done is.is_run.offered k d d (omega (arith, inside, inputs_many)))
      ∙ ap (λ (l : List Taken). (slice_index_or l k d).ring) (sym is.is_run.rests_are)

  -- it is a run on the ports' shares of the trace
  module _ (before after : Option (List ℕ)) (failed : Bool) (dealer : Dealer R)
      (rings : AreSameRings run.dealer.ports.items dealer.ports.items) (read : HasDealt before after failed dealer)
      (fronts : AreFronts ended.inputs.items dealer.ports.items) where
    wholes : List (List (List ℕ))
    wholes = map (λ k. share_of k ports read.frames) (range_with_len 0 ports)

    shared : AreShares ports read.frames wholes
    unfolding wholes
    shared = record {
      enough = length-map-range_with_len (λ k. share_of k ports read.frames) 0 ports;
      each = λ k d below. get_or-map-range_with_len (λ k. share_of k ports read.frames) 0 ports k k d below (zero-add k);
    }

    dealer_many : length dealer.ports.items ≡ ports
    dealer_many = rings.enough ∙ can.rings.enough.0

    port_dealt : (k : ℕ) (w : List (List ℕ)) (i r : Taken) → k < length is.is_run.feeds
        → IsPortDealt (slice_index_or wholes k w) (slice_index_or (map (λ feed. feed.input) is.is_run.feeds) k i)
        (slice_index_or (map (λ one. one.rest) is.is_run.done) k r)
    port_dealt k w i r below =
        let inside : k < ports = omega (arith, below, inputs_many) in
        let none : Putting = record { ring = i.ring; put = []; is_left = false } in
        let new = can.rings.each k none i inside in
        let put = read.each k none (omega (arith, inside, dealer_many)) in
        let front = fronts k r none (omega (arith, inside, rests_many)) in record {
          nothing = (
            ap (λ (l : List Taken). (slice_index_or l k i).items) is.is_run.inputs_are ∙ new.none.0,
            ap (λ (l : List Taken). (slice_index_or l k i).is_over) is.is_run.inputs_are ∙ new.none.1,
          );
          dealt_to = put.0;
          put =
              subst (λ (l : List (List ℕ)). HasPut l put.0) (sym (shared.each k w inside))
              (subst (λ n. HasPut (share_of k n read.frames) put.0) dealer_many put.1);
          ended = slice_index_or dealer.ports.items k none;
          end = put.2;
          more = front.0;
          taken =
              ap (λ (l : List Taken). (slice_index_or l k r).items ++ front.0) (sym is.is_run.rests_are) ∙ front.1;
        }

    dealt_run : IsRunOf InTurn run.limits run.first read.octets is.ran
    dealt_run =
        let lists =
        dealt_lists is.is_run.feeds is.is_run.done is.is_run.offered wholes (shared.enough ∙ sym inputs_many) port_dealt in (
          read.frames,
          read.whole,
          record {
            inputs = wholes;
            shared = shared;
            is_run =
                (list_run TakesItem run.limits run.first run.inputs.items ended.inputs.items is.ran is.is_run wholes lists.0
                lists.1).is_run;
          },
        )

-- ---- behind the end of the trace

-- what is known where the trace was read whole and there was a run
pub record IsEndOf {R G : Type 0} (run : DealtRun R G) (waits : Bool) (before after : Option (List ℕ)) (failed : Bool)
    (whole : WholeEnd R) : Type 0 where
  pub began : CanDeal run
  pub rings : AreSameRings run.dealer.ports.items whole.dealer.ports.items
  pub read : HasDealt before after failed whole.dealer
  pub ran : EndsRun TakesItem run.limits run.first run.inputs.items waits whole.ended

pub end_of : {R G : Type 0} (run : DealtRun R G) (waits : Bool) (before after : Option (List ℕ)) (failed : Bool) (reads : ℕ)
    (end : DealtEnd R) (whole : WholeEnd R) → EndsDealing waits before after failed reads run end → IsWholeEnd end whole
    → IsEndOf run waits before after failed whole
end_of {R} run waits before after failed reads end whole is kept = record {
  began = is.began;
  rings = subst (λ (dealer : Dealer R). AreSameRings run.dealer.ports.items dealer.ports.items) (sym kept.2) is.rings;
  read =
      subst (HasDealt before after failed) (sym kept.2)
      (subst (λ r. MatchResult r (λ done. HasDealt before after failed end.dealer) (RefusesReading before after failed reads))
      kept.0 is.read);
  ran =
      subst
      (λ r.
      MatchResult r (EndsRun TakesItem run.limits run.first run.inputs.items waits)
      (RefusesInputs (λ ran. ⊥) run.limits run.first))
      kept.1 is.ran;
}

-- the ends of each ring, and what the run is one of
module _ {R G : Type 0} (run : DealtRun R G) (waits : Bool) (before after : Option (List ℕ)) (failed : Bool)
    (whole : WholeEnd R) (is : IsEndOf run waits before after failed whole) where
  pub whole_rings : (k : ℕ) (d : Taken) (e : Putting) → k < length whole.ended.inputs.items
      → (slice_index_or whole.dealer.ports.items k e).ring ≡ (slice_index_or whole.ended.inputs.items k d).ring
  whole_rings = same_ends run is.began waits whole.ended is.ran whole.dealer is.rings

  pub whole_run : AreFronts whole.ended.inputs.items whole.dealer.ports.items
      → IsRunOf InTurn run.limits run.first is.read.octets is.ran.ran
  whole_run = dealt_run run is.began waits whole.ended is.ran before after failed whole.dealer is.rings is.read

-- why a trace was not read whole refuses it
reading_refuses : (limits : Bounds) (first : List Pair) (before after : Option (List ℕ)) (failed : Bool) (reads : ℕ)
    (why : TraceRefusal) → RefusesReading before after failed reads why
    → RefusesTrace InTurn limits first before after failed reads (reading_refusal why)
reading_refuses limits first before after failed reads why (inl fault) =
    subst (λ w. RefusesTrace InTurn limits first before after failed reads (reading_refusal w)) (sym fault.0) (inl fault.1)
reading_refuses limits first before after failed reads why (inr (inl memory)) =
    subst (λ w. RefusesTrace InTurn limits first before after failed reads (reading_refusal w)) (sym memory.0) (inl memory.1)
reading_refuses limits first before after failed reads why (inr (inr (octets, input, bad))) = by why bad
  where
    by : (why : TraceRefusal) → whole_trace octets ≡ Err why
        → RefusesTrace InTurn limits first before after failed reads (reading_refusal why)
    by trace.BadMagic bad = inr (octets, input, inl (trace.BadMagic, refl, bad))
    by trace.BadVersion bad = inr (octets, input, inl (trace.BadVersion, refl, bad))
    by trace.BadLink bad = inr (octets, input, inl (trace.BadLink, refl, bad))
    by (trace.BadRecord index why) bad = inr (octets, input, inl (trace.BadRecord index why, refl, bad))
    by trace.OutOfMemory bad = inl input.whole
    by trace.Cut bad = inr (octets, input, inl (trace.Cut, refl, bad))
    by trace.ReadFault bad = inr (octets, input, inl (trace.ReadFault, refl, bad))

-- what refuses the end refuses the trace
pub end_refuses : {R G : Type 0} (run : DealtRun R G) (waits : Bool) (before after : Option (List ℕ)) (failed : Bool) (reads : ℕ)
    (end : DealtEnd R) (refusal : ForwardRefusal) → EndsDealing waits before after failed reads run end
    → RefusesEnd end refusal → RefusesTrace InTurn run.limits run.first before after failed reads refusal
end_refuses run waits before after failed reads end refusal is (inl (why, read, same)) =
    subst (RefusesTrace InTurn run.limits run.first before after failed reads) (sym same)
    (reading_refuses run.limits run.first before after failed reads why
    (subst (λ r. MatchResult r (λ done. HasDealt before after failed end.dealer) (RefusesReading before after failed reads))
    read is.read))
end_refuses run waits before after failed reads end refusal is (inr (read, ran)) =
    let dealt : HasDealt before after failed end.dealer =
    subst (λ r. MatchResult r (λ done. HasDealt before after failed end.dealer) (RefusesReading before after failed reads))
    read is.read in
    inr (
      dealt.octets,
      dealt.input,
      inr (
        dealt.frames,
        dealt.whole,
        refuses_as (λ ran. ⊥) (IsRunOn run.limits run.first dealt.frames) run.limits run.first refusal
            (λ ran no. absurd no)
            (subst
            (λ r.
            MatchResult r (EndsRun TakesItem run.limits run.first run.inputs.items waits)
            (RefusesInputs (λ ran. ⊥) run.limits run.first))
            ran is.ran),
      ),
    )
