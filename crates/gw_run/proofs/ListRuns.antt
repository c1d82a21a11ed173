-- A run on inputs of any kind is a run on the lists of the frames that they give.
use Rattle.std.proofs.Common.{◌≡◌, ◌∙◌, ℕ, List, [], ◌∷◌, ◌++◌, length, Option, Some, None, Global, ap, arith, map, refl}
use Rattle.std.proofs.Common.{subst, sym}
use Rattle.std.specs.Iterator.{Yields, YieldsFirst}
use Rattle.std.specs.Vec.Iter.{into_iter_deque, into_iter_items, into_iter_len, into_iter_steps}
use Rattle.std.specs.declared.vec.IntoIter.{IntoIter}
use Rattle.gw_ledger.specs.Bounds.{Bounds}
use Rattle.gw_ledger.specs.declared.outcome.Outcome.{Outcome}
use Rattle.gw_policy.specs.Batches.{Pair}
use Rattle.gw_ports.specs.Closing.{Closes}
use Rattle.gw_ports.specs.Ends.{Ingress}
use Rattle.gw_ports.specs.Reports.{Ran}
use Rattle.gw_ports.specs.Running.{Fed, Feeding, Gives, IsDone, Pairwise}
use Rattle.gw_ports.specs.Runs.{IsRun}
use Rattle.gw_ports.specs.declared.refusals.OfferRefusal.{OfferRefusal}
use Rattle.gw_run.specs.Forwarding.{IsListRun, IsRunOver}

-- lists of frames, from the front on
abbrev pub list_steps : List (List ℕ) → Option (List ℕ) → List (List ℕ) → Type 0
list_steps = YieldsFirst (λ s. s)

-- the frames that an input gave: those that the port offered, and the one for which it stopped
abbrev pub given : {S : Type 0} (steps : S → Option (List ℕ) → S → Type 0) (input : S) (frames : List (List ℕ))
    (stop : Option OfferRefusal) (rest : S) → Gives steps input frames stop rest → List (List ℕ)
given steps input frames None rest gave = frames
given steps input frames (Some why) rest gave = frames ++ gave.0 ∷ []

abbrev pub given_by : {S : Type 0} (steps : S → Option (List ℕ) → S → Type 0) (feed : Feeding S) (done : Fed S)
    → IsDone steps feed done → List (List ℕ)
given_by steps feed done is = given steps feed.input is.frames done.stop done.rest is.gave

-- a list gives its front
yields_front : (xs ys : List (List ℕ)) → Yields list_steps (xs ++ ys) xs ys
yields_front [] ys = refl
yields_front (x ∷ xs) ys = (xs ++ ys, refl, yields_front xs ys)

list_gives : {S : Type 0} (steps : S → Option (List ℕ) → S → Type 0) (input : S) (frames left : List (List ℕ))
    (stop : Option OfferRefusal) (rest : S) (gave : Gives steps input frames stop rest) → (stop ≡ None → left ≡ [])
    → Gives list_steps (given steps input frames stop rest gave ++ left) frames stop left
list_gives steps input frames left None rest gave all = (left, yields_front frames left, (all refl, all refl))
list_gives steps input frames left (Some why) rest gave all = (gave.0, yields_front (frames ++ gave.0 ∷ []) left)

-- a list in place of an input
abbrev fed_by : {S : Type 0} → Feeding S → List (List ℕ) → Feeding (List (List ℕ))
fed_by feed whole = record { port = feed.port; input = whole; waits = feed.waits }

abbrev fed_to : {S : Type 0} → Fed S → List (List ℕ) → Fed (List (List ℕ))
fed_to done left = record { port = done.port; outcomes = done.outcomes; stop = done.stop; rest = left }

done_on : {S : Type 0} (steps : S → Option (List ℕ) → S → Type 0) (feed : Feeding S) (done : Fed S) (is : IsDone steps feed done)
    (whole left : List (List ℕ)) → whole ≡ given_by steps feed done is ++ left → (done.stop ≡ None → left ≡ [])
    → IsDone list_steps (fed_by feed whole) (fed_to done left)
done_on steps feed done is whole left same all = record {
  frames = is.frames;
  gave = subst (λ (list : List (List ℕ)). Gives list_steps list is.frames done.stop left) (sym same)
      (list_gives steps feed.input is.frames left done.stop done.rest is.gave all);
  offers = is.offers;
  same = is.same;
  spent = is.spent;
  all = is.all;
}

-- by port, the list in place of its input, and what is left of it
abbrev pub AreLists : {S : Type 0} (steps : S → Option (List ℕ) → S → Type 0) (feeds : List (Feeding S)) (dones : List (Fed S))
    → Pairwise (IsDone steps) feeds dones → List (List (List ℕ)) → List (List (List ℕ)) → Type 0
AreLists steps [] [] done [] [] = Unit {0}
AreLists steps (feed ∷ feeds) (done ∷ dones) both (whole ∷ wholes) (left ∷ lefts) =
    (whole ≡ given_by steps feed done both.0 ++ left) × (done.stop ≡ None → left ≡ [])
    × AreLists steps feeds dones both.1 wholes lefts
AreLists steps feeds dones done wholes lefts = ⊥

-- the ports with lists in place of their inputs, which did the same
record OnLists {S : Type 0} (feeds : List (Feeding S)) (dones : List (Fed S)) (wholes lefts : List (List (List ℕ)))
    : Type 0 where
  list_feeds : List (Feeding (List (List ℕ)))
  list_dones : List (Fed (List (List ℕ)))
  offered : Pairwise (IsDone list_steps) list_feeds list_dones
  ports_are : map (λ feed. feed.port) list_feeds ≡ map (λ feed. feed.port) feeds
  inputs_are : map (λ feed. feed.input) list_feeds ≡ wholes
  done_ports_are : map (λ one. one.port) list_dones ≡ map (λ one. one.port) dones
  outcomes_are : map (λ one. one.outcomes) list_dones ≡ map (λ one. one.outcomes) dones
  stops_are : map (λ one. one.stop) list_dones ≡ map (λ one. one.stop) dones
  rests_are : map (λ one. one.rest) list_dones ≡ lefts

on_lists : {S : Type 0} (steps : S → Option (List ℕ) → S → Type 0) (feeds : List (Feeding S)) (dones : List (Fed S))
    (done : Pairwise (IsDone steps) feeds dones) (wholes lefts : List (List (List ℕ)))
    → AreLists steps feeds dones done wholes lefts → OnLists feeds dones wholes lefts
on_lists steps [] [] done [] [] are = record {
  list_feeds = [];
  list_dones = [];
  offered = tt;
  ports_are = refl;
  inputs_are = refl;
  done_ports_are = refl;
  outcomes_are = refl;
  stops_are = refl;
  rests_are = refl;
}
on_lists steps (feed ∷ feeds) (done ∷ dones) both (whole ∷ wholes) (left ∷ lefts) are =
    let others = on_lists steps feeds dones both.1 wholes lefts are.2 in record {
      list_feeds = fed_by feed whole ∷ others.list_feeds;
      list_dones = fed_to done left ∷ others.list_dones;
      offered = (done_on steps feed done both.0 whole left are.0 are.1, others.offered);
      ports_are = ap (λ (l : List Ingress). feed.port ∷ l) others.ports_are;
      inputs_are = ap (λ (l : List (List (List ℕ))). whole ∷ l) others.inputs_are;
      done_ports_are = ap (λ (l : List Ingress). done.port ∷ l) others.done_ports_are;
      outcomes_are = ap (λ (l : List (List Outcome)). done.outcomes ∷ l) others.outcomes_are;
      stops_are = ap (λ (l : List (Option OfferRefusal)). done.stop ∷ l) others.stops_are;
      rests_are = ap (λ (l : List (List (List ℕ))). left ∷ l) others.rests_are;
    }
on_lists steps [] [] done (whole ∷ wholes) lefts are = absurd are
on_lists steps [] [] done [] (left ∷ lefts) are = absurd are
on_lists steps [] (done ∷ dones) both wholes lefts are = absurd both
on_lists steps (feed ∷ feeds) [] both wholes lefts are = absurd both
on_lists steps (feed ∷ feeds) (done ∷ dones) both [] lefts are = absurd are
on_lists steps (feed ∷ feeds) (done ∷ dones) both (whole ∷ wholes) [] are = absurd are

-- the run on the lists
pub list_run : {S : Type 0} (steps : S → Option (List ℕ) → S → Type 0) (limits : Bounds) (first : List Pair) (inputs : List S)
    (rests : List S) (ran : Ran) (run : IsRun steps limits first inputs [] rests ran) (wholes lefts : List (List (List ℕ)))
    → AreLists steps run.feeds run.done run.offered wholes lefts → IsListRun limits first wholes ran
list_run steps limits first inputs rests ran run wholes lefts are =
    let lists = on_lists steps run.feeds run.done run.offered wholes lefts are in record {
      is_run = (
        lefts,
        record {
          operator = run.operator;
          ins = run.ins;
          outs = run.outs;
          opened = run.opened;
          feeds = lists.list_feeds;
          ports_are = lists.ports_are ∙ run.ports_are;
          inputs_are = lists.inputs_are;
          done = lists.list_dones;
          offered = lists.offered;
          rests_are = sym lists.rests_are;
          drained = run.drained;
          took = run.took;
          closing = run.closing;
          published = run.published;
          outcomes_are = run.outcomes_are ∙ sym lists.outcomes_are;
          stops_are = run.stops_are ∙ sym lists.stops_are;
          out_is = run.out_is;
          closed =
              subst
              (λ (ports : List Ingress). Closes run.closing ports (map (λ one. one.port) run.drained) ran.report)
              (sym lists.done_ports_are) run.closed;
        },
      );
    }

-- ---- inputs that are iterators over lists

no_items : {X : Type 0} (xs : List X) → length xs ≡ 0 → xs ≡ []
no_items [] none = refl
no_items (x ∷ xs) none = absurd (omega arith)

pub none_left : {X : Type 0} (it : IntoIter X Global) → into_iter_len it ≡ 0 → into_iter_items it ≡ []
none_left it empty = no_items (into_iter_items it) (sym (into_iter_deque it).ok.0 ∙ empty)

iterated : (xs : List (List ℕ)) (s t : IntoIter (List ℕ) Global) → Yields into_iter_steps s xs t
    → into_iter_items s ≡ xs ++ into_iter_items t
iterated [] s t same = ap into_iter_items same
iterated (x ∷ xs) s t step = step.1.0 ∙ ap (λ (l : List (List ℕ)). x ∷ l) (iterated xs step.0 t step.2)

iterated_all : (input : IntoIter (List ℕ) Global) (frames : List (List ℕ)) (stop : Option OfferRefusal)
    (rest : IntoIter (List ℕ) Global) (gave : Gives into_iter_steps input frames stop rest)
    → (into_iter_items input ≡ given into_iter_steps input frames stop rest gave ++ into_iter_items rest)
    × (stop ≡ None → into_iter_items rest ≡ [])
iterated_all input frames None rest gave = (
  iterated frames input gave.0 gave.1
      ∙ ap (λ (l : List (List ℕ)). frames ++ l) (none_left gave.0 gave.2.0 ∙ sym (none_left rest gave.2.1)),
  λ ended. none_left rest gave.2.1,
)
iterated_all input frames (Some why) rest gave = (
  iterated (frames ++ gave.0 ∷ []) input rest gave.1,
  λ ended. absurd (stopped ended),
)
  where
    stopped : Some why ≡ None → ⊥
    stopped e = cc

iterators_are : (feeds : List (Feeding (IntoIter (List ℕ) Global))) (dones : List (Fed (IntoIter (List ℕ) Global)))
    (done : Pairwise (IsDone into_iter_steps) feeds dones)
    → AreLists into_iter_steps feeds dones done (map into_iter_items (map (λ feed. feed.input) feeds))
    (map into_iter_items (map (λ one. one.rest) dones))
iterators_are [] [] done = tt
iterators_are (feed ∷ feeds) (done ∷ dones) both =
    let one = iterated_all feed.input both.0.frames done.stop done.rest both.0.gave in
    (one.0, one.1, iterators_are feeds dones both.1)
iterators_are [] (done ∷ dones) both = absurd both
iterators_are (feed ∷ feeds) [] both = absurd both

pub run_on_lists : (limits : Bounds) (first : List Pair) (inputs : List (List (List ℕ))) (made : List (IntoIter (List ℕ) Global))
    (ran : Ran) → map into_iter_items made ≡ inputs → IsRunOver into_iter_steps limits first made ran
    → IsListRun limits first inputs ran
run_on_lists limits first inputs made ran items run =
    subst (λ (lists : List (List (List ℕ))). IsListRun limits first lists ran)
    (ap (map into_iter_items) run.1.inputs_are ∙ items)
    (list_run into_iter_steps limits first made run.0 ran run.1 _ _ (iterators_are run.1.feeds run.1.done run.1.offered))
