-- What is dealt to the ports, frame by frame.
use Rattle.std.proofs.Common.{◌≡◌, ◌≢◌, ◌∙◌, ℕ, zero, suc, ◌+◌, ◌*◌, ◌/◌, ◌%◌, ◌<◌, ◌==◌, Bool, true, false, if◌then◌else◌}
use Rattle.std.proofs.Common.{List, [], ◌∷◌, ◌++◌, length, map, slice_index_or, slice_set, Some, ap, arith, refl, subst, sym}
use Rattle.std.proofs.Common.{append-nil, append_assoc, true≢false, ⊎_elim}
use Rattle.std.proofs.lemmas.Bool.{cases_eq}
use Rattle.std.proofs.lemmas.Bool.Decides.{nat_tests}
use Rattle.std.proofs.Math.ListN.{length-set}
use Rattle.std.proofs.Math.Seq.{get_or-set_other, get_or-set_same}
use Rattle.std.proofs.Math.Nat.{add-mod_right, div-add-mod, mod-eq_of_lt}
use Rattle.gw_trace.specs.Shares.{share_of, shared_from}
use Rattle.gw_trace.specs.Traces.{reading}
use Rattle.gw_run.specs.Dealing.{AreSameRings, HasPut}
use Rattle.gw_run.specs.Dealt.{Dealt, Putting, Puts}

-- ---- whose turn it is

rest_of : (q r m : ℕ) → r < m → (m * q + r) % m ≡ r
rest_of zero r m small = ap (λ n. n % m) (nothing m r) ∙ mod-eq_of_lt small
  where
    nothing : (m r : ℕ) → m * 0 + r ≡ r
    nothing m r = omega arith
rest_of (suc q) r m small = ap (λ n. n % m) (round m q r) ∙ add-mod_right (m * q + r) m ∙ rest_of q r m small
  where
    round : (m q r : ℕ) → m * suc q + r ≡ m * q + r + m
    round m q r = grind arith

-- the turn after the next frame: the first port's behind the last, and else the next one's
pub first_turn : (n m turn : ℕ) → turn < m → turn ≡ n % m → turn + 1 ≡ m → 0 ≡ (n + 1) % m
first_turn n m turn small is last = sym (rest_of (n / m + 1) 0 m (omega arith)) ∙ ap (λ k. k % m) (sym whole)
  where
    parts : m * (n / m) + turn ≡ n
    parts = ap (λ r. m * (n / m) + r) is ∙ div-add-mod n m

    whole : n + 1 ≡ m * (n / m + 1) + 0
    whole = let same = parts in grind arith

pub next_turn : (n m turn : ℕ) → turn < m → turn ≡ n % m → turn + 1 ≢ m → turn + 1 ≡ (n + 1) % m
next_turn n m turn small is other =
    sym (rest_of (n / m) (turn + 1) m (omega (arith, other))) ∙ ap (λ k. k % m) (sym further)
  where
    parts : m * (n / m) + turn ≡ n
    parts = ap (λ r. m * (n / m) + r) is ∙ div-add-mod n m

    further : n + 1 ≡ m * (n / m) + (turn + 1)
    further = omega (arith, parts)

-- ---- a port's share, with a frame more

abbrev part : Bool → List ℕ → List (List ℕ)
part own frame = if own then frame ∷ [] else []

picked : (own : Bool) (first : List ℕ) (later more : List (List ℕ))
    → (if own then first ∷ (later ++ more) else later ++ more) ≡ (if own then first ∷ later else later) ++ more
picked true first later more = refl
picked false first later more = refl

shared_more : (i port ports : ℕ) (frames : List (List ℕ)) (frame : List ℕ)
    → shared_from i port ports (frames ++ frame ∷ [])
    ≡ shared_from i port ports frames ++ part ((i + length frames) % ports == port) frame
shared_more i port ports [] frame = ap (λ n. part (n % ports == port) frame) (nothing i)
  where
    nothing : (i : ℕ) → i ≡ i + 0
    nothing i = omega arith
shared_more i port ports (first ∷ frames) frame =
    ap (λ (l : List (List ℕ)). if i % ports == port then first ∷ l else l)
    (shared_more (i + 1) port ports frames frame
    ∙ ap (λ n. shared_from (i + 1) port ports frames ++ part (n % ports == port) frame) (further i (length frames)))
    ∙ picked (i % ports == port) first (shared_from (i + 1) port ports frames)
    (part ((i + suc (length frames)) % ports == port) frame)
  where
    further : (i n : ℕ) → i + 1 + n ≡ i + suc n
    further i n = omega arith

-- it is the port's turn, or another's
own_more : (port ports : ℕ) (frames : List (List ℕ)) (frame : List ℕ) → length frames % ports ≡ port
    → share_of port ports (frames ++ frame ∷ []) ≡ share_of port ports frames ++ frame ∷ []
own_more port ports frames frame own =
    shared_more 0 port ports frames frame
    ∙ ap (λ b. share_of port ports frames ++ part b frame) (yes (0 + length frames) (length frames) (omega arith) own)
  where
    yes : (n m : ℕ) → n ≡ m → m % ports ≡ port → (n % ports == port) ≡ true
    yes n m same own = ap (λ k. k % ports == port) same ∙ grind (arith, nat_tests)

other_more : (port ports : ℕ) (frames : List (List ℕ)) (frame : List ℕ) → length frames % ports ≢ port
    → share_of port ports (frames ++ frame ∷ []) ≡ share_of port ports frames
other_more port ports frames frame other =
    shared_more 0 port ports frames frame
    ∙ ap (λ b. share_of port ports frames ++ part b frame) (no (0 + length frames) (length frames) (omega arith) other)
    ∙ append-nil (share_of port ports frames)
  where
    no : (n m : ℕ) → n ≡ m → m % ports ≢ port → (n % ports == port) ≡ false
    no n m same other = ap (λ k. k % ports == port) same ∙ grind (arith, nat_tests)

-- ---- what is put at an end

some_more : (frames : List (List ℕ)) (frame : List ℕ)
    → map (λ f. Some f) (frames ++ frame ∷ []) ≡ map (λ f. Some f) frames ++ Some frame ∷ []
some_more [] frame = refl
some_more (first ∷ frames) frame = ap (λ (l : List Dealt). Some first ∷ l) (some_more frames frame)

put_one : (frames : List (List ℕ)) (frame : List ℕ) (old new : Putting) → HasPut frames old → Puts old (Some frame) new
    → HasPut (frames ++ frame ∷ []) new
put_one frames frame old new has puts =
    ⊎_elim
    (λ more. record {
      front = has.front ++ frame ∷ [];
      others = [];
      parts =
          ap (λ (l : List (List ℕ)). l ++ frame ∷ [])
          (has.parts ∙ ap (λ (l : List (List ℕ)). has.front ++ l) (has.whole more.1) ∙ append-nil has.front)
          ∙ sym (append-nil (has.front ++ frame ∷ []));
      put = more.0 ∙ ap (λ (l : List Dealt). l ++ Some frame ∷ []) has.put ∙ sym (some_more has.front frame);
      whole = λ fine. refl;
    })
    (λ same. record {
      front = has.front;
      others = has.others ++ frame ∷ [];
      parts = ap (λ (l : List (List ℕ)). l ++ frame ∷ []) has.parts ∙ append_assoc has.front has.others (frame ∷ []);
      put = same.0 ∙ has.put;
      whole = λ fine. absurd (true≢false (sym same.1 ∙ fine));
    }) puts.put

-- ---- by port

-- the ports' ends, one of which an item was put at
module _ (ports : List Putting) (turn : ℕ) (new : Putting) (inside : turn < length ports) where
  many : length (slice_set ports turn new) ≡ length ports
  many = length-set ports turn new

  here : (k : ℕ) (d : Putting) → k ≡ turn → slice_index_or (slice_set ports turn new) k d ≡ new
  here k d same =
      ap (λ n. slice_index_or (slice_set ports turn new) n d) same ∙ get_or-set_same ports turn new d inside

  there : (k : ℕ) (d : Putting) → k ≢ turn → slice_index_or (slice_set ports turn new) k d ≡ slice_index_or ports k d
  there k d other = get_or-set_other ports turn k new d other

  -- no end changed its ring
  pub same_rings : (item : Dealt) → ((d : Putting) → Puts (slice_index_or ports turn d) item new)
      → AreSameRings ports (slice_set ports turn new)
  same_rings item puts = record {
    enough = many;
    each = λ k d below.
        ⊎_elim
        (λ same. ap (λ (end : Putting). end.ring) (here k d same) ∙ (puts d).same
        ∙ ap (λ n. (slice_index_or ports n d).ring) (sym same))
        (λ other. ap (λ (end : Putting). end.ring) (there k d other))
        (cases_eq k turn);
  }

  -- the next frame was dealt to the port whose turn it is
  pub dealt_one : (frames : List (List ℕ)) (frame : List ℕ) → turn ≡ length frames % length ports
      → ((k : ℕ) (d : Putting) → k < length ports → HasPut (share_of k (length ports) frames) (slice_index_or ports k d))
      → ((d : Putting) → Puts (slice_index_or ports turn d) (Some frame) new) → (k : ℕ) (d : Putting)
      → k < length (slice_set ports turn new)
      → HasPut (share_of k (length (slice_set ports turn new)) (frames ++ frame ∷ []))
      (slice_index_or (slice_set ports turn new) k d)
  dealt_one frames frame is each puts k d below =
      subst (λ n. HasPut (share_of k n (frames ++ frame ∷ [])) (slice_index_or (slice_set ports turn new) k d)) (sym many)
      (⊎_elim
      (λ same.
      subst (HasPut (share_of k (length ports) (frames ++ frame ∷ []))) (sym (here k d same))
      (subst (λ (l : List (List ℕ)). HasPut l new) (sym (own_more k (length ports) frames frame (sym (same ∙ is))))
      (put_one (share_of k (length ports) frames) frame (slice_index_or ports k d) new
      (each k d (omega (arith, many)))
      (subst (λ n. Puts (slice_index_or ports n d) (Some frame) new) (sym same) (puts d)))))
      (λ other.
      subst (HasPut (share_of k (length ports) (frames ++ frame ∷ []))) (sym (there k d other))
      (subst (λ (l : List (List ℕ)). HasPut l (slice_index_or ports k d))
      (sym (other_more k (length ports) frames frame (λ own. other (sym own ∙ sym is))))
      (each k d (omega (arith, many)))))
      (cases_eq k turn))

-- no end changed its ring, one step after another
pub rings_on : (one two three : List Putting) → AreSameRings one two → AreSameRings two three → AreSameRings one three
rings_on one two three first second = record {
  enough = second.enough ∙ first.enough;
  each = λ k d below.
      second.each k d (subst (λ n. k < n) (sym first.enough) below) ∙ first.each k d below;
}

pub rings_same : (ends : List Putting) → AreSameRings ends ends
rings_same ends = record { enough = refl; each = λ k d below. refl }

-- nothing was read, and no frame
pub nothing_read : (reading []).frames ≡ []
unfolding reading
nothing_read = refl
