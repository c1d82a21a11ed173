-- The line of what refuses a run.
use Rattle.std.specs.Prelude.{ℕ, List, [], ◌∷◌}
use Rattle.gw_frame.specs.Record.{refusal_number}
use Rattle.gw_trace.specs.Refusals as trace
use Rattle.gw_trace.specs.declared.refusal.TraceRefusal.{TraceRefusal}
use Rattle.gw_trace.specs.declared.refusal.TraceRefusal.TheVariants.{BadRecord}
use Rattle.gw_ports.specs.Refusals.{offer_refusal_number}
use Rattle.gw_ports.specs.Runs.{run_refusal_number}
use Rattle.gw_input.specs.Refused.{refused_line}
use Rattle.gw_answers.specs.Refusals.{refusal_line}
use Rattle.gw_run.specs.declared.refusal.ForwardRefusal.{ForwardRefusal}
use Rattle.gw_run.specs.declared.refusal.ForwardRefusal.TheVariants as refuses
use Rattle.gw_run.specs.declared.refusal.ForwardRefusal.TheVariants.{Command, Trace, Run, Stopped}

-- the record of a trace, and the number of what is wrong with it
abbrev pub trace_details : TraceRefusal → List ℕ
trace_details (BadRecord index why) = index ∷ refusal_number why ∷ []
trace_details _ = []

abbrev pub trace_line : TraceRefusal → List ℕ
trace_line why = refused_line (trace.refusal_number why) (trace_details why)

-- the line of what refuses a run
abbrev pub forward_refusal_line : ForwardRefusal → List ℕ
forward_refusal_line (Command refusal) = refusal_line refusal
forward_refusal_line (Trace why) = trace_line why
forward_refusal_line (refuses.NoLog why) = refused_line 114 []
forward_refusal_line (Run why) = refused_line (run_refusal_number why) []
forward_refusal_line (Stopped port why) = refused_line (offer_refusal_number why) []
