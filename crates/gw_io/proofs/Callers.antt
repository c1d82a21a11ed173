-- For whoever reads in pieces or writes: what was read or written so far, with more behind it.
use Rattle.std.specs.Prelude.{not, ◌&&◌, ◌||◌, if◌then◌else◌}
use Rattle.std.proofs.Common.{◌≡◌, ◌<◌, ◌≤◌, ◌+◌, ◌-◌, ℕ, Bool, true, false, List, [], ◌++◌, length, length-append, length-drop}
use Rattle.std.proofs.Common.{take, drop, Option, Some}
use Rattle.std.proofs.Common.{None, Ok}
use Rattle.std.proofs.Common.{sym, ap, ◌∙◌, subst, refl, true≢false}
use Rattle.std.proofs.lemmas.Bool.{false≢true}
use Rattle.std.proofs.Common.{append_assoc, arith}
use Rattle.std.specs.Io.KnownBytes.{Appends, Consumes, IsAtEnd, Keeps}
use Rattle.std.proofs.Math.Seq.{take-append-add, take-length}
use Rattle.std.proofs.lemmas.List.{take_all}
use Rattle.gw_io.specs.Pieces.{IsNextPiece, GivesAtLeast}
use Rattle.gw_io.specs.Tries.{has_ended, reads_of, unended_reads}
use Rattle.gw_io.specs.declared.tried.Tried.{Tried}
use Rattle.gw_io.specs.Written.{WritesPart}

-- no read gave nothing
pub consumed_nothing : (a : Option (List ℕ)) → Consumes a a []
consumed_nothing None = tt
consumed_nothing (Some xs) = refl

-- what a reader gave, with one more piece
pub consumed_more : (a b c : Option (List ℕ)) (xs ys : List ℕ) → Consumes a b xs → Consumes b c ys → Consumes a c (xs ++ ys)
consumed_more None b c xs ys h k = tt
consumed_more (Some p) None c xs ys h k = absurd h
consumed_more (Some p) (Some q) None xs ys h k = absurd k
consumed_more (Some p) (Some q) (Some r) xs ys h k = h ∙ ap (λ zs. xs ++ zs) k ∙ sym (append_assoc xs ys r)

-- a read that failed gave nothing, and so did the last one
pub consumed_kept : (a b c : Option (List ℕ)) (xs : List ℕ) → Consumes a b xs → Keeps b c → Consumes a c xs
consumed_kept None b c xs h k = tt
consumed_kept (Some p) None c xs h k = absurd h
consumed_kept (Some p) (Some q) None xs h k = absurd k
consumed_kept (Some p) (Some q) (Some r) xs h k = h ∙ ap (λ zs. xs ++ zs) (sym k)

-- a read that gave no piece met the end
pub met_end : (a b : Option (List ℕ)) (piece : List ℕ) (more : Bool) → more ≡ false → IsNextPiece a b piece (Ok more)
    → Keeps a b × IsAtEnd b
met_end a b piece more e h = subst (λ m. IsNextPiece a b piece (Ok m)) e h

-- a read that gave a piece
pub met_piece : (a b : Option (List ℕ)) (piece : List ℕ) (more : Bool) → more ≡ true → IsNextPiece a b piece (Ok more)
    → Consumes a b piece × (0 < length piece)
met_piece a b piece more e h = subst (λ m. IsNextPiece a b piece (Ok m)) e h

-- before the first read a reader gave no octet
pub gives_nothing : (a : Option (List ℕ)) (n : ℕ) → n ≡ 0 → GivesAtLeast a a n
gives_nothing a n none = record { octets = []; consumed = consumed_nothing a; enough = omega arith }

-- each read that gave a piece gave one octet at least
pub gives_more : (a b c : Option (List ℕ)) (n m : ℕ) (piece : List ℕ) → GivesAtLeast a b n
    → Consumes b c piece × (0 < length piece) → m ≡ n + 1 → GivesAtLeast a c m
gives_more a b c n m piece h read one = record {
  octets = h.octets ++ piece;
  consumed = consumed_more a b c h.octets piece h.consumed read.0;
  enough = let more = read.1 in let before = h.enough in omega (arith, length-append h.octets piece);
}

-- and one that failed gave none
pub gives_kept : (a b c : Option (List ℕ)) (n m : ℕ) → GivesAtLeast a b n → Keeps b c → m ≡ n → GivesAtLeast a c m
gives_kept a b c n m h kept same = record {
  octets = h.octets;
  consumed = consumed_kept a b c h.octets h.consumed kept;
  enough = let before = h.enough in omega arith;
}

-- a read that gave a piece did not meet the end
pub unended_more : (ended before more : Bool) → more ≡ true → ended ≡ (before || not more) → ended ≡ before
unended_more ended true true some h = h
unended_more ended false true some h = h
unended_more ended before false some h = absurd (false≢true some)

-- where no read met the end, all reads count
unended_when : (old new : Bool) (n : ℕ) → new ≡ old → (if new && not old then 0 else n) ≡ n
unended_when true true n same = refl
unended_when false false n same = refl
unended_when true false n same = refl
unended_when false true n same = absurd (true≢false same)

pub unended_all : {T : Type 0} (old new : Tried T) → has_ended new ≡ has_ended old → unended_reads old new ≡ reads_of new
unended_all old new same = unended_when (has_ended old) (has_ended new) (reads_of new) same

-- and no more than all count
unended_least : (b : Bool) (n most : ℕ) → n ≤ most → (if b then 0 else n) ≤ most
unended_least true n most few = omega arith
unended_least false n most few = few

pub unended_few : {T : Type 0} (old new : Tried T) (most : ℕ) → reads_of new ≤ most → unended_reads old new ≤ most
unended_few old new most few = unended_least (has_ended new && not (has_ended old)) (reads_of new) most few

-- one text written behind another
pub appended_on : (a b c : Option (List ℕ)) (xs ys : List ℕ) → Appends a b xs → Appends b c ys → Appends a c (xs ++ ys)
appended_on None b c xs ys h k = tt
appended_on (Some p) None c xs ys h k = absurd h
appended_on (Some p) (Some q) None xs ys h k = absurd k
appended_on (Some p) (Some q) (Some r) xs ys h k = k ∙ ap (λ zs. zs ++ ys) h ∙ append_assoc p xs ys

-- a text that was written whole
pub whole_part : (a b : Option (List ℕ)) (text : List ℕ) → Appends a b text → WritesPart a b text
whole_part a b text h = (length text, subst (Appends a b) (sym (take-length text)) h)

-- a part of what follows a text, and of a text with more behind it
pub part_behind : (a b c : Option (List ℕ)) (text more : List ℕ) → Appends a b text → WritesPart b c more
    → WritesPart a c (text ++ more)
part_behind a b c text more h part = (
  length text + part.0,
  subst (Appends a c) (sym (take-append-add text more part.0)) (appended_on a b c text (take part.0 more) h part.1),
)

-- what stands behind a place, as a slice from there on gives it
pub rest_from : (at : ℕ) (xs : List ℕ) → take (length xs - at) (drop at xs) ≡ drop at xs
rest_from at xs = take_all (length xs - at) (drop at xs) (simp length-drop (omega arith))
