-- Events have exactly one list of answers.
use Rattle.std.proofs.Common.{◌≡◌, List, [], ◌∷◌, ◌++◌, length, reverse, Option, Some, Result, refl, sym, ap, subst, ◌∙◌, arith}
use Rattle.std.proofs.Common.{append_assoc}
use Rattle.std.proofs.lemmas.List.{reverse-append}
use Rattle.std.specs.Prelude.{slice_get}
use Rattle.std.specs.Option.{unwrap_or}
use Rattle.gw_core.specs.Start.{Start}
use Rattle.gw_core.specs.declared.event.Event.{Event}
use Rattle.gw_core.specs.declared.event.Answer.{Answer}
use Rattle.gw_core.specs.declared.event.EventRefusal.{EventRefusal}
use Rattle.gw_core.specs.Events.{reply, replies}
use Rattle.gw_core.specs.Runs.{AreReplies}

-- an event before others is the newest of the history that these meet
pub turned : (x : Event) (before history : List Event) → reverse (x ∷ before) ++ history ≡ reverse before ++ x ∷ history
turned x before history = ap (λ (l : List Event). l ++ history) (reverse-append (x ∷ []) before)
    ∙ append_assoc (reverse before) (x ∷ []) history

-- the reply to an event stands at its index
reply_at : (start : Start) (history before : List Event) (e : Event) (after : List Event)
    → slice_get (replies start history (before ++ e ∷ after)) (length before) ≡ Some (reply start (reverse before ++ history) e)
reply_at start history [] e after = refl
reply_at start history (x ∷ before) e after = reply_at start (x ∷ history) before e after
    ∙ ap (λ (h : List Event). Some (reply start h e)) (sym (turned x before history))

-- one for each event
as_many : (start : Start) (history events : List Event) → length (replies start history events) ≡ length events
as_many start history [] = refl
as_many start history (e ∷ events) = let rest = as_many start (e ∷ history) events in omega (arith, rest)

-- the replies are answers to the events
pub are_replies : (start : Start) (history events : List Event)
    → AreReplies start history events (replies start history events)
are_replies start history events = record {
  many = as_many start history events;
  each = λ before e after split. subst
      (λ (es : List Event). slice_get (replies start history es) (length before)
      ≡ Some (reply start (reverse before ++ history) e))
      (sym split) (reply_at start history before e after);
}

-- and no other list is
pub only_replies : (start : Start) (history events : List Event) (given : List (Result Answer EventRefusal))
    → AreReplies start history events given → given ≡ replies start history events
only_replies start history [] [] r = refl
only_replies start history [] (g ∷ given) r = absurd (let m = r.many in omega (arith, m))
only_replies start history (e ∷ events) [] r = absurd (let m = r.many in omega (arith, m))
only_replies start history (e ∷ events) (g ∷ given) r =
    let first : g ≡ reply start history e =
    ap (λ (o : Option (Result Answer EventRefusal)). unwrap_or o g) (r.each [] e events refl) in
    let rest : given ≡ replies start (e ∷ history) events = only_replies start (e ∷ history) events given (record {
      many = let m = r.many in omega (arith, m);
      each = λ before x after split. r.each (e ∷ before) x after (ap (λ (es : List Event). e ∷ es) split)
          ∙ ap (λ (h : List Event). Some (reply start h x)) (turned e before history);
    }) in
    ap (λ (x : Result Answer EventRefusal). x ∷ given) first
    ∙ ap (λ (xs : List (Result Answer EventRefusal)). reply start history e ∷ xs) rest
