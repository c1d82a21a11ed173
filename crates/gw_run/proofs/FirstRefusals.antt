-- The first file that is refused, while the inputs are opened and finished one after another.
use Rattle.std.proofs.Common.{◌≡◌, ◌∙◌, ℕ, List, [], ◌∷◌, ◌++◌, Option, None, Result, Ok, ap, append-nil}
use Rattle.std.proofs.Common.{◌+◌, ◌<◌, append_assoc, drop, get_or, inl, inr, length, map, refl, subst, sym, take}
use Rattle.std.proofs.lemmas.List.{take-append-drop, take_more}
use Rattle.std.proofs.lemmas.Slice.Zip.{all_zipped_more}
use Rattle.std.specs.Borrow.{Bor}
use Rattle.gw_run.specs.PortInputs.{AreFinished, AreKnown, AreNew, HasGiven}
use Rattle.gw_run.specs.PortInputs.{IsFinished}
use Rattle.gw_run.specs.PortInputs.{Known, RefusesFile, RefusesFiles, RefusesFinished}
use Rattle.gw_run.specs.PortInputs.{frames_of}
use Rattle.gw_run.specs.declared.port_input.PortInput.{PortInput}
use Rattle.gw_run.specs.declared.refusal.ForwardRefusal.{ForwardRefusal}
use Rattle.gw_run.proofs.PortInputs.{all_found}

-- ---- the first refusal

-- of a file, whatever stands behind it
refused_at : (file : Option (Bor (List ℕ))) (files : List (Option (Bor (List ℕ)))) (refusal : ForwardRefusal)
    → RefusesFile file refusal → RefusesFiles (file ∷ files) refusal
refused_at file files refusal (inl refused) =
    let others = all_found files in
    inl (
      refused.0 ∷ others.0,
      (refused.1, others.1),
      record {
        before = [];
        after = map frames_of others.0;
        refused = ap (λ first. first ∷ map frames_of others.0) refused.2;
      },
    )
refused_at file files refusal (inr memory) = inr memory

-- of one behind a file that has frames
refused_behind : {R : Type 0} (known : Known) (input : PortInput R) (files : List (Option (Bor (List ℕ))))
    (refusal : ForwardRefusal) → IsFinished known input → RefusesFiles files refusal
    → RefusesFiles (known.file ∷ files) refusal
refused_behind known input files refusal one (inl refused) =
    inl (
      one.found ∷ refused.0,
      (one.is_found, refused.1),
      record {
        before = (known.given ++ one.left) ∷ refused.2.before;
        after = refused.2.after;
        refused =
            ap (λ first. first ∷ map frames_of refused.0) one.frames
            ∙ ap (λ (l : List (Result (List (List ℕ)) ForwardRefusal)). Ok (known.given ++ one.left) ∷ l) refused.2.refused;
      },
    )
refused_behind known input files refusal one (inr memory) = inr memory

-- while the inputs are finished, with others behind
pub refused_finished : {R : Type 0} (known : List Known) (inputs : List (PortInput R)) (files : List (Option (Bor (List ℕ))))
    (refusal : ForwardRefusal) → RefusesFinished known inputs refusal
    → RefusesFiles (map (λ one. one.file) known ++ files) refusal
refused_finished [] inputs files refusal refused = absurd refused
refused_finished (one ∷ known) [] files refusal refused = absurd refused
refused_finished (one ∷ known) (input ∷ inputs) files refusal (inl refused) =
    refused_at one.file (map (λ one. one.file) known ++ files) refusal refused
refused_finished (one ∷ known) (input ∷ inputs) files refusal (inr behind) =
    refused_behind one input (map (λ one. one.file) known ++ files) refusal behind.0
    (refused_finished known inputs files refusal behind.1)

-- behind all of them
pub refused_next : {R : Type 0} (known : List Known) (inputs : List (PortInput R)) (file : Option (Bor (List ℕ)))
    (files : List (Option (Bor (List ℕ)))) (refusal : ForwardRefusal) → AreFinished known inputs → RefusesFile file refusal
    → RefusesFiles (map (λ one. one.file) known ++ file ∷ files) refusal
refused_next [] [] file files refusal finished refused = refused_at file files refusal refused
refused_next (one ∷ known) (input ∷ inputs) file files refusal finished refused =
    refused_behind one input (map (λ one. one.file) known ++ file ∷ files) refusal finished.0
    (refused_next known inputs file files refusal finished.1 refused)
refused_next [] (input ∷ inputs) file files refusal finished refused = absurd finished
refused_next (one ∷ known) [] file files refusal finished refused = absurd finished

-- ---- the inputs, finished one after another

-- those in front of these are finished, and of these what was known before is still known
pub record IsFinishedTo {R : Type 0} (remaining : R → Option (List ℕ)) (known : List Known) (inputs rest : List (PortInput R))
    : Type 0 where
  pub before : List Known
  pub after : List Known
  pub front : List (PortInput R)
  pub known_are : known ≡ before ++ after
  pub inputs_are : inputs ≡ front ++ rest
  pub finished : AreFinished before front
  pub others : AreKnown remaining after rest

pub none_finished : {R : Type 0} (remaining : R → Option (List ℕ)) (known : List Known) (inputs : List (PortInput R))
    → AreKnown remaining known inputs → IsFinishedTo remaining known inputs inputs
none_finished remaining known inputs are = record {
  before = [];
  after = known;
  front = [];
  known_are = refl;
  inputs_are = refl;
  finished = tt;
  others = are;
}

-- one more is finished, as what was known of it says
pub finished_more : {R : Type 0} (remaining : R → Option (List ℕ)) (known : List Known) (inputs : List (PortInput R))
    (input : PortInput R) (rest : List (PortInput R)) → IsFinishedTo remaining known inputs (input ∷ rest)
    → ((one : Known) → HasGiven remaining one.file one.given input → IsFinished one input)
    → IsFinishedTo remaining known inputs rest
finished_more {R} remaining known inputs input rest to ends = by to.after to.known_are to.others
  where
    by : (after : List Known) → known ≡ to.before ++ after → AreKnown remaining after (input ∷ rest)
        → IsFinishedTo remaining known inputs rest
    by [] are others = absurd others
    by (one ∷ after) are others = record {
      before = to.before ++ one ∷ [];
      after = after;
      front = to.front ++ input ∷ [];
      known_are = are ∙ sym (append_assoc to.before (one ∷ []) after);
      inputs_are = to.inputs_are ∙ sym (append_assoc to.front (input ∷ []) rest);
      finished = all_zipped_more IsFinished to.before to.front one input to.finished (ends one others.0);
      others = others.1;
    }

-- the next one is refused
refused_behind_all : {R : Type 0} (known : List Known) (inputs : List (PortInput R)) (one : Known) (others : List Known)
    (input : PortInput R) (rest : List (PortInput R)) (refusal : ForwardRefusal) → AreFinished known inputs
    → RefusesFile one.file refusal → RefusesFinished (known ++ one ∷ others) (inputs ++ input ∷ rest) refusal
refused_behind_all [] [] one others input rest refusal finished refused = inl refused
refused_behind_all [] (other ∷ inputs) one others input rest refusal finished refused = absurd finished
refused_behind_all (other ∷ known) [] one others input rest refusal finished refused = absurd finished
refused_behind_all (other ∷ known) (first ∷ inputs) one others input rest refusal finished refused =
    inr (finished.0, refused_behind_all known inputs one others input rest refusal finished.1 refused)

pub refused_more : {R : Type 0} (remaining : R → Option (List ℕ)) (known : List Known) (inputs : List (PortInput R))
    (input : PortInput R) (rest : List (PortInput R)) (refusal : ForwardRefusal)
    → IsFinishedTo remaining known inputs (input ∷ rest)
    → ((one : Known) → HasGiven remaining one.file one.given input → RefusesFile one.file refusal)
    → RefusesFinished known inputs refusal
refused_more remaining known inputs input rest refusal to ends = by to.after to.known_are to.others
  where
    by : (after : List Known) → known ≡ to.before ++ after → AreKnown remaining after (input ∷ rest)
        → RefusesFinished known inputs refusal
    by [] are others = absurd others
    by (one ∷ after) are others =
        subst (λ l. RefusesFinished l inputs refusal) (sym are)
        (subst (λ l. RefusesFinished (to.before ++ one ∷ after) l refusal) (sym to.inputs_are)
        (refused_behind_all to.before to.front one after input rest refusal to.finished (ends one others.0)))

-- all are finished
pub all_finished_to : {R : Type 0} (remaining : R → Option (List ℕ)) (known : List Known) (inputs rest : List (PortInput R))
    → rest ≡ [] → IsFinishedTo remaining known inputs rest → AreFinished known inputs
all_finished_to {R} remaining known inputs rest none to =
    by to.after to.known_are (subst (AreKnown remaining to.after) none to.others)
  where
    by : (after : List Known) → known ≡ to.before ++ after → AreKnown {R = R} remaining after [] → AreFinished known inputs
    by [] are others =
        subst (λ l. AreFinished l inputs) (sym (are ∙ append-nil to.before))
        (subst (AreFinished to.before) (sym (to.inputs_are ∙ ap (λ l. to.front ++ l) none ∙ append-nil to.front)) to.finished)
    by (one ∷ after) are others = absurd others

-- ---- the inputs, opened one after another

-- what is known of files of whose inputs no frame was taken
abbrev pub new_known : List (Option (Bor (List ℕ))) → List Known
new_known files = map (λ file. record { file = file; given = [] }) files

pub known_new : {R : Type 0} (remaining : R → Option (List ℕ)) (files : List (Option (Bor (List ℕ))))
    (inputs : List (PortInput R)) → AreNew remaining files inputs → AreKnown remaining (new_known files) inputs
known_new remaining [] [] new = tt
known_new remaining (file ∷ files) (input ∷ inputs) new = (new.0, known_new remaining files inputs new.1)
known_new remaining [] (input ∷ inputs) new = absurd new
known_new remaining (file ∷ files) [] new = absurd new

files_of_new : (files : List (Option (Bor (List ℕ)))) → map (λ one. one.file) (new_known files) ≡ files
files_of_new [] = refl
files_of_new (file ∷ files) = ap (λ l. file ∷ l) (files_of_new files)

-- the inputs of the first files, and of the next one
pub new_more : {R : Type 0} (remaining : R → Option (List ℕ)) (files : List (Option (Bor (List ℕ)))) (n : ℕ)
    (inputs : List (PortInput R)) (input : PortInput R) → n < length files → HasGiven remaining (get_or files n None) [] input
    → AreNew remaining (take n files) inputs → AreNew remaining (take (n + 1) files) (inputs ++ input ∷ [])
new_more remaining files n inputs input within more so_far =
    subst (λ l. AreNew remaining l (inputs ++ input ∷ [])) (sym (take_more files n None within))
    (all_zipped_more (λ file one. HasGiven remaining file [] one) (take n files) inputs (get_or files n None) input so_far more)

-- one of the first files is refused
pub refused_before : {R : Type 0} (files : List (Option (Bor (List ℕ)))) (n : ℕ) (inputs : List (PortInput R))
    (refusal : ForwardRefusal) → RefusesFinished (new_known (take n files)) inputs refusal → RefusesFiles files refusal
refused_before files n inputs refusal refused =
    subst (λ l. RefusesFiles l refusal)
    (ap (λ l. l ++ drop n files) (files_of_new (take n files)) ∙ take-append-drop n files)
    (refused_finished (new_known (take n files)) inputs (drop n files) refusal refused)

-- the next one is, where the first files have frames
pub refused_there : {R : Type 0} (files : List (Option (Bor (List ℕ)))) (n : ℕ) (inputs : List (PortInput R))
    (refusal : ForwardRefusal) → n < length files → AreFinished (new_known (take n files)) inputs
    → RefusesFile (get_or files n None) refusal → RefusesFiles files refusal
refused_there files n inputs refusal within finished refused =
    subst (λ l. RefusesFiles l refusal)
    (ap (λ l. l ++ get_or files n None ∷ drop (n + 1) files) (files_of_new (take n files))
    ∙ sym (append_assoc (take n files) (get_or files n None ∷ []) (drop (n + 1) files))
    ∙ ap (λ l. l ++ drop (n + 1) files) (sym (take_more files n None within)) ∙ take-append-drop (n + 1) files)
    (refused_next (new_known (take n files)) inputs (get_or files n None) (drop (n + 1) files) refusal finished refused)
