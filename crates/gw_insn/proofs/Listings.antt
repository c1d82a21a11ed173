-- A text read as far as some item, and what it is where it ends.
use Rattle.std.proofs.Common.{ℕ, ◌≡◌, ◌+◌, ◌<◌, eqb, List, [], ◌∷◌, ◌++◌, length, subst, sym, ◌∙◌, arith, Option, Some, None, Vec}
use Rattle.std.proofs.Common.{vec_capacity, Global, ap, length-append}
use Rattle.std.specs.Prelude.{All, IfSome, IfOk, IfErr}
use Rattle.std.specs.Option.{ok_or}
use Rattle.std.proofs.lemmas.Bool.Decides.{nat_tests}
use Rattle.gw_insn.specs.declared.insn.Raw.{Raw}
use Rattle.gw_insn.specs.declared.reading.ListRefusal.TheVariants.{OutOfMemory}
use Rattle.gw_insn.specs.Listing.{IsWhite, HasItem, HasItems, HasCount, IsListing, LacksItem, HasMore, IsListRefusal}
use Rattle.gw_insn.proofs.Items.{items_more}

-- the vector has these instructions, and room for so many
abbrev pub Keeps : ℕ → List Raw → Vec Raw Global → Type 0
Keeps n code v = (v.items ≡ code) × (vec_capacity v ≡ n)

-- so many items are read, and kept unless memory was refused
pub record HasRead (n : ℕ) (body : List ℕ) (index : ℕ) (rest : List ℕ) (kept : Option (Vec Raw Global)) : Type 0 where
  pub code : List Raw
  pub so_far : length code ≡ index
  pub items : HasItems n body code rest
  pub same : IfSome kept (Keeps n code)

last_item : (n index : ℕ) → eqb (index + 1) n ≡ eqb n (index + 1)
last_item n index = grind (arith, nat_tests)

-- the next item is read
pub read_more : {n index : ℕ} {body rest next : List ℕ} {kept : Option (Vec Raw Global)} {r : Raw}
    (longer : Option (Vec Raw Global)) → index < n → (h : HasRead n body index rest kept)
    → HasItem (eqb (index + 1) n) rest r next → IfSome longer (Keeps n (h.code ++ r ∷ []))
    → HasRead n body (index + 1) next longer
read_more {n} {index} {body} {rest} {next} {kept} {r} longer inside h item grown =
    let here : eqb (index + 1) n ≡ eqb n (length h.code + 1) = last_item n index ∙ ap (λ m. eqb n (m + 1)) (sym h.so_far) in
    record {
      code = h.code ++ r ∷ [];
      so_far = length-append h.code (r ∷ []) ∙ ap (λ m. m + 1) h.so_far;
      items = items_more n body h.code rest next r (omega (arith, h.so_far)) h.items
          (subst (λ b. HasItem b rest r next) here item);
      same = grown;
    }

-- the next item is not there
pub lacks_next : {text body rest : List ℕ} {n index : ℕ} {kept : Option (Vec Raw Global)} → HasCount text n body → index < n
    → HasRead n body index rest kept → ((r : Raw) (after : List ℕ) → HasItem (eqb (index + 1) n) rest r after → ⊥)
    → LacksItem text index
lacks_next {text} {body} {rest} {n} {index} count inside h none = record {
  n = n;
  body = body;
  code = h.code;
  after = rest;
  count = count;
  inside = inside;
  before = h.so_far;
  items = h.items;
  absent = λ r after item. none r after (subst (λ b. HasItem b rest r after) (sym (last_item n index)) item);
}

-- all the items are there
pub lists : {text body rest : List ℕ} {n index : ℕ} {kept : Option (Vec Raw Global)} → HasCount text n body
    → (h : HasRead n body index rest kept) → index ≡ n → All IsWhite rest → IsListing text h.code
lists {text} {body} {rest} {n} count h all blank = record {
  body = body;
  after = rest;
  count = subst (λ m. HasCount text m body) (sym (h.so_far ∙ all)) count;
  items = subst (λ m. HasItems m body h.code rest) (sym (h.so_far ∙ all)) h.items;
  blank = blank;
}

-- or something else follows
pub lists_more : {text body rest : List ℕ} {n index : ℕ} {kept : Option (Vec Raw Global)} → HasCount text n body
    → HasRead n body index rest kept → index ≡ n → (All IsWhite rest → ⊥) → HasMore text
lists_more {text} {body} {rest} {n} count h all more = record {
  body = body;
  code = h.code;
  after = rest;
  count = subst (λ m. HasCount text m body) (sym (h.so_far ∙ all)) count;
  items = subst (λ m. HasItems m body h.code rest) (sym (h.so_far ∙ all)) h.items;
  more = more;
}

-- the instructions that were kept are those of the listing
pub kept_lists : (n : ℕ) {text : List ℕ} {code : List Raw} (kept : Option (Vec Raw Global)) → IfSome kept (Keeps n code)
    → IsListing text code → IfOk (ok_or kept OutOfMemory) (λ v. IsListing text v.items)
kept_lists n None same h = tt
kept_lists n {text} (Some v) same h = subst (IsListing text) (sym same.0) h

-- and else memory was refused
pub kept_refuses : {text : List ℕ} {code : List Raw} (kept : Option (Vec Raw Global)) → IsListing text code
    → IfErr (ok_or kept OutOfMemory) (IsListRefusal text)
kept_refuses {text} {code} None h = (code, h)
kept_refuses (Some v) h = tt
