-- What the words of a line ask for. Words are divided by single spaces; an empty word fits nothing.
use Rattle.std.specs.Prelude.{ℕ, ◌==◌, if◌then◌else◌, List, length, codes, Option, Some, None}
use Rattle.std.specs.Prelude.{is_none, option_map, option_and_then, bytes_eq}
use Rattle.std.specs.List.{list_any}
use Rattle.gw_input.specs.Words.{first_word, behind_word, number_in, number_before}

-- a command, with its texts not yet read
pub data Request : Type 0 where
  limits_of : ℕ → ℕ → ℕ → ℕ → Request
  program_of : ℕ → List ℕ → Request
  table_of : ℕ → List ℕ → Request
  publish_all : Request
  take_at : ℕ → List ℕ → Request
  step_at : ℕ → Request
  send_to : ℕ → ℕ → Request
  ledger_of : ℕ → Request

-- the greatest number of a port, and of everything else
abbrev pub most_port : ℕ
most_port = 255

abbrev pub most_number : ℕ
most_number = 4294967295

-- a port and the rest of the line, which is not empty
abbrev pub text_behind : List ℕ → Option (ℕ × List ℕ)
text_behind words =
    option_and_then (λ found. if length found.1 == 0 then None else Some found) (number_before most_port words)

-- a port and one word
abbrev pub word_behind : List ℕ → Option (ℕ × List ℕ)
word_behind words =
    option_and_then (λ found. if list_any (λ c. c == 32) found.1 then None else Some found) (text_behind words)

-- two ports
abbrev pub send_in : List ℕ → Option Request
send_in words =
    option_and_then (λ to. option_map (λ from. send_to to.0 from) (number_in most_port to.1)) (number_before most_port words)

-- four numbers
abbrev pub limits_in : List ℕ → Option Request
limits_in words =
    option_and_then (λ ports. option_and_then (λ lane. option_and_then (λ versions.
    option_map (λ frames. limits_of ports.0 lane.0 versions.0 frames) (number_in most_number versions.1))
    (number_before most_number lane.1)) (number_before most_number ports.1)) (number_before most_number words)

-- the request of a name that words follow
abbrev pub named_request : List ℕ → List ℕ → Option Request
named_request name words =
    if bytes_eq name (codes "step") then option_map step_at (number_in most_port words)
    else if bytes_eq name (codes "take") then option_map (λ found. take_at found.0 found.1) (word_behind words)
    else if bytes_eq name (codes "send") then send_in words
    else if bytes_eq name (codes "ledger") then option_map ledger_of (number_in most_port words)
    else if bytes_eq name (codes "program") then option_map (λ found. program_of found.0 found.1) (text_behind words)
    else if bytes_eq name (codes "table") then option_map (λ found. table_of found.0 found.1) (word_behind words)
    else if bytes_eq name (codes "limits") then limits_in words
    else None

-- the request of a line, if its words are one: no word follows `publish`, and words follow every other name
abbrev pub request_of : List ℕ → Option Request
request_of line =
    if bytes_eq (first_word line) (codes "publish") then if is_none (behind_word line) then Some publish_all else None
    else option_and_then (named_request (first_word line)) (behind_word line)
