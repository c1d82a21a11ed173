-- The line of a refusal: `refused`, the number, and what it names: the instruction that is not there, the place, the place and
-- the scratch word, the rule.
use Rattle.std.specs.Prelude.{ℕ, List, [], ◌∷◌, ◌++◌, codes, decimal, Option, Some, None}
use Rattle.std.specs.List.{flat_map}
use Rattle.gw_insn.specs.declared.reading.ListRefusal.{ListRefusal}
use Rattle.gw_insn.specs.declared.reading.ListRefusal.TheVariants.{BadField}
use Rattle.gw_verify.specs.declared.cause.Cause.{Cause}
use Rattle.gw_verify.specs.declared.cause.Cause.TheVariants.{UnsetWord, OutOfMemory}
use Rattle.gw_table.specs.declared.refusal.TableRefusal.{TableRefusal}
use Rattle.gw_table.specs.declared.refusal.TableRefusal.TheVariants.{UnknownKey, BadAction, BadRange}
use Rattle.gw_table.specs.declared.refusal.KeyLocation.TheVariants as location
use Rattle.gw_table.specs.declared.table.Part.TheVariants as part

-- of a listing, of code, and of a table
abbrev pub listing_details : ListRefusal → List ℕ
listing_details (BadField index) = index ∷ []
listing_details _ = []

abbrev pub cause_details : Cause → ℕ → List ℕ
cause_details (UnsetWord word) place = place ∷ word ∷ []
cause_details OutOfMemory place = []
cause_details _ place = place ∷ []

abbrev pub table_details : TableRefusal → List ℕ
table_details (BadRange rule field why) = rule ∷ []
table_details _ = []

-- the rule of a table that a refusal is about
abbrev pub refused_rule : TableRefusal → Option ℕ
refused_rule (UnknownKey (location.Rule rule) key) = Some rule
refused_rule (BadAction (part.Rule rule) why) = Some rule
refused_rule (BadRange rule field why) = Some rule
refused_rule _ = None

-- `refused` and the numbers, with spaces between
abbrev pub refused_line : ℕ → List ℕ → List ℕ
refused_line number details = codes "refused" ++ 32 ∷ decimal number ++ flat_map (λ n. 32 ∷ decimal n) details ++ 10 ∷ []
