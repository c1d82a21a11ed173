-- A script that ended early, and the line that says why.
use Rattle.std.proofs.Common.{◌≡◌, ◌≢◌, ℕ, Bool, true, false, List, length, Option, Some, None, Err, inl, inr, refl, sym}
use Rattle.std.proofs.Common.{◌∙◌, subst, append-nil}
use Rattle.std.proofs.Math.Seq.{take-length}
use Rattle.std.proofs.lemmas.Bool.{true≢false}
use Rattle.std.specs.Io.KnownBytes.{Appends}
use Rattle.gw_replay.specs.declared.whole.ReplayFault.{ReplayFault}
use Rattle.gw_replay.specs.declared.whole.ReplayFault.TheVariants as fault
use Rattle.gw_replay.specs.Written.{IsPartlyReplayed, IsHalted, IsReplayFault}
use Rattle.gw_answers.specs.declared.refusal.Refusal.{Refusal}
use Rattle.gw_io.specs.Written.{WritesPart}
use Rattle.gw_answers.specs.Responses.{Writes}
use Rattle.gw_answers.specs.Refusals.{refusal_text}
use Rattle.gw_commands.specs.Replays.{Replays, fault_line}

-- the line was written behind the answers, or a beginning of it where a write failed
pub ended_early : (strict : Bool) (before after : Option (List ℕ)) (read_failed : Bool) (reads : ℕ)
    (old middle new : Option (List ℕ)) (write_failed : Bool) (status : ℕ) (why : ReplayFault) (r : Refusal)
    → refusal_text r ≡ fault_line why
    → IsReplayFault read_failed reads write_failed why → IsPartlyReplayed before after old middle
    → IsHalted read_failed before after old middle why → Writes (Err r) status middle new write_failed
    → Replays strict before after read_failed reads old new write_failed status
ended_early strict before after read_failed reads old middle new false status why r same is answers halted written =
    let whole : Appends middle new (fault_line why) = subst (Appends middle new) same written.1 in
    inr (
      written.0,
      record {
        fault = why;
        why = is;
        middle = middle;
        answers = answers;
        halted = halted;
        line = (length (fault_line why), subst (Appends middle new) (sym (take-length (fault_line why))) whole);
        whole = λ _. whole;
      },
    )
ended_early strict before after read_failed reads old middle new true status why r same is answers halted written =
    inr (
      written.0,
      record {
        fault = why;
        why = is;
        middle = middle;
        answers = answers;
        halted = halted;
        line = subst (WritesPart middle new) same written.1;
        whole = λ failed. absurd (true≢false failed);
      },
    )

-- where no write failed and memory was there, a read failed or there were too many
pub unread : (read_failed : Bool) (reads : ℕ) (write_failed : Bool) (why : ReplayFault) → why ≢ fault.OutOfMemory
    → write_failed ≡ false → IsReplayFault read_failed reads write_failed why → why ≡ fault.ReadFault
unread read_failed reads write_failed fault.ReadFault other none is = refl
unread read_failed reads write_failed fault.WriteFault other none is = absurd (true≢false (sym is ∙ none))
unread read_failed reads write_failed fault.OutOfMemory other none is = absurd (other refl)

-- a write failed before: no line stands behind the answers
pub wrote_nothing : (a : Option (List ℕ)) (text : List ℕ) → WritesPart a a text
wrote_nothing None text = (0, tt)
wrote_nothing (Some octets) text = (0, sym (append-nil octets))

pub unwritten : (strict : Bool) (before after : Option (List ℕ)) (read_failed : Bool) (reads : ℕ) (old new : Option (List ℕ))
    (write_failed : Bool) (why : ReplayFault) → write_failed ≡ true → IsReplayFault read_failed reads write_failed why
    → IsPartlyReplayed before after old new → IsHalted read_failed before after old new why
    → Replays strict before after read_failed reads old new write_failed 1
unwritten strict before after read_failed reads old new write_failed why failed is answers halted =
    inr (
      refl,
      record {
        fault = why;
        why = is;
        middle = new;
        answers = answers;
        halted = halted;
        line = wrote_nothing new (fault_line why);
        whole = λ fine. absurd (true≢false (sym failed ∙ fine));
      },
    )

-- after a failed read the status is 1
pub failed_is_1 : (strict : Bool) (before after : Option (List ℕ)) (reads : ℕ) (old new : Option (List ℕ)) (write_failed : Bool)
    (status : ℕ) → Replays strict before after true reads old new write_failed status → status ≡ 1
failed_is_1 strict before after reads old new write_failed status (inl done) = absurd (true≢false done.2)
failed_is_1 strict before after reads old new write_failed status (inr early) = early.0
