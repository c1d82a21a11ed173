use Rattle.std.proofs.Common.{Err, inl, inr, refl, sym, ◌∙◌, ap, ⊎_elim, subst, ◌++◌, arith, ◌≡◌}
use Rattle.std.specs.Io.KnownBytes.{Consumes}
use Rattle.gw_io.specs.Tries.{inner_of}
use Rattle.gw_io.proofs.Callers.{met_end, met_piece}
use Rattle.gw_trace.proofs.Taking.{ends_by, takes_end, takes_fault, takes_piece}
use Rattle.gw_trace.specs.declared.refusal.TraceRefusal.TheVariants.{OutOfMemory, ReadFault}
use Rattle.gw_trace.specs.Traces.{reading}
use Rattle.gw_trace.proofs.trace_frames.TraceFrames.read_on.Goals as goal

pub returns-in-Ok-clause-read : goal.returns-in-Ok-clause-read
returns-in-Ok-clause-read g c = λ before octets given h.
    let old = g.R.Read.remaining (inner_of c.args.self.now.reader) in
    let new = g.R.Read.remaining (inner_of c.read.new.reader) in
    let piece =
    met_piece old new c.read.new.self.piece c.in-Ok-true.field-0 c.in-Ok-true.field-0-test c.in-Ok-true.ensures.piece in
    takes_piece g.R.Read.remaining before octets given c.args.self.now _ h c.requires.going c.requires.none c.piece.result.now
    (subst (Consumes old new) (sym c.piece.ensures) piece.0)
    (c.feed.ensures.read octets h.read (λ e. let is = c.in-Ok.is in cc))
    ((c.in-Ok.ensures.frames octets h.read).so_far ∙ ap (λ l. (reading octets).frames ++ l) (sym c.into_iter.ensures.rest))
    c.requires.going

pub returns-in-Err-feed-clause-read : goal.returns-in-Err-feed-clause-read
returns-in-Err-feed-clause-read g c = λ before octets given h.
    let old = g.R.Read.remaining (inner_of c.args.self.now.reader) in
    let new = g.R.Read.remaining (inner_of c.read.new.reader) in
    let piece =
    met_piece old new c.read.new.self.piece c.in-Ok-true.field-0 c.in-Ok-true.field-0-test c.in-Ok-true.ensures.piece in
    takes_fault g.R.Read.remaining before octets given c.args.self.now _ h c.requires.going c.requires.none c.piece.result.now
    c.in-Err-feed.why (subst (Consumes old new) (sym c.piece.ensures) piece.0) refl refl
    (λ other. (
      c.in-Err-feed.ensures.refused octets h.read other,
      c.feed.ensures.read octets h.read
          (λ e. other (let is = c.in-Err-feed.is in let same : c.in-Err-feed.why ≡ OutOfMemory = cc in same)),
    ))
    (λ is. c.in-Err-feed.ensures.unchanged octets h.read (ap Err is))

pub returns-in-Ok-false-clause-read : goal.returns-in-Ok-false-clause-read
returns-in-Ok-false-clause-read g c = λ before octets given h.
    let old = g.R.Read.remaining (inner_of c.args.self.now.reader) in
    let new = g.R.Read.remaining (inner_of c.read.new.reader) in
    let end =
    met_end old new c.read.new.self.piece c.in-Ok-false.field-0 c.in-Ok-false.field-0-test c.in-Ok-false.ensures.piece in
    takes_end g.R.Read.remaining before octets given c.args.self.now _ h c.requires.going c.requires.none c.end.result end.0 refl
    refl refl
    (λ all. ends_by _ _ _ octets given c.end.result end.1 all (c.end.ensures octets h.read))

pub returns-in-Err-clause-read : goal.returns-in-Err-clause-read
returns-in-Err-clause-read g c = λ before octets given h.
    takes_end g.R.Read.remaining before octets given c.args.self.now _ h c.requires.going c.requires.none (Err ReadFault)
    c.in-Err.ensures.piece refl refl refl
    (λ all. ⊎_elim inl (λ spent. inr (let fewer = c.in-Err.ensures.fewer in omega arith)) c.in-Err.ensures.fault)
