-- A run on dealt frames before the first frame, and behind the last.
use Rattle.std.proofs.Common.{◌≡◌, ◌∙◌, ℕ, ◌<◌, Bool, List, [], length, slice_index_or, Option, None, Result, Ok, Err, IfErr}
use Rattle.std.proofs.Common.{MatchResult, false, arith, refl, subst, sym}
use Rattle.std.specs.Prelude.{OnOk}
use Rattle.std.proofs.Math.Nat.{mod-eq_of_lt}
use Rattle.gw_trace.specs.Shares.{share_of}
use Rattle.gw_trace.specs.Traces.{whole_trace}
use Rattle.gw_trace.specs.declared.refusal.TraceRefusal.{TraceRefusal}
use Rattle.gw_run.specs.Dealing.{AreSameRings, HasPut, IsDealt, RefusesReading}
use Rattle.gw_run.specs.DealtRuns.{CanDeal, HasDealt}
use Rattle.gw_run.specs.Dealt.{Putting, Puts}
use Rattle.gw_run.specs.Forwarding.{IsTraceInput}
use Rattle.gw_run.specs.declared.dealing.Dealer.{Dealer}
use Rattle.gw_run.specs.declared.dealt_run.DealtRun.{DealtRun}

-- no frame was dealt
pub none_dealt : {R G : Type 0} (run : DealtRun R G) → CanDeal run → IsDealt [] run.dealer
none_dealt run can = record {
  turn = can.turn ∙ sym (mod-eq_of_lt (omega (arith, can.ports, can.rings.enough.0)));
  each = λ k d below.
      let new = can.rings.each k d (record { ring = d.ring; items = []; is_over = false })
      (omega (arith, below, can.rings.enough.0)) in record {
        front = [];
        others = [];
        parts = refl;
        put = new.nothing.0;
        whole = λ going. refl;
      };
}

-- all of a trace was dealt, and behind it that there is no other frame; or why it was not read whole
pub read_all : {R : Type 0} (before after : Option (List ℕ)) (failed : Bool) (reads : ℕ)
    (result : Result (Unit {0}) TraceRefusal) (dealt ended : Dealer R)
    → OnOk result ((octets : List ℕ) × (frames : List (List ℕ)) × IsTraceInput before after failed octets
    × (whole_trace octets ≡ Ok frames) × IsDealt frames dealt)
    → IfErr result (RefusesReading before after failed reads) → AreSameRings dealt.ports.items ended.ports.items
    → ((k : ℕ) (d : Putting) → k < length dealt.ports.items
    → Puts (slice_index_or dealt.ports.items k d) None (slice_index_or ended.ports.items k d))
    → MatchResult result (λ done. HasDealt before after failed ended) (RefusesReading before after failed reads)
read_all before after failed reads (Ok done) dealt ended (octets, frames, input, whole, is) refused rings ends = record {
  octets = octets;
  input = input;
  frames = frames;
  whole = whole;
  each = λ k d below.
      let inside : k < length dealt.ports.items = omega (arith, below, rings.enough) in (
        slice_index_or dealt.ports.items k d,
        subst (λ n. HasPut (share_of k n frames) (slice_index_or dealt.ports.items k d)) (sym rings.enough) (is.each k d inside),
        ends k d inside,
      );
}
read_all before after failed reads (Err why) dealt ended read refused rings ends = refused
