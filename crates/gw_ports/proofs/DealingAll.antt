-- Dealing out the lanes, port by port.
use Rattle.std.proofs.Common.{◌≡◌, ◌∙◌, ℕ, suc, ◌+◌, ◌-◌, ◌*◌, ◌<◌, List, [], ◌∷◌, ◌++◌, length, map, get_or}
use Rattle.std.proofs.Common.{option_map, ⊎_elim, sym, ap, subst, arith, length-append, append_assoc}
use Rattle.std.specs.List.{All}
use Rattle.std.proofs.lemmas.Bool.{cases_eq}
use Rattle.std.proofs.lemmas.List.{get_or-map, get_or_append_left, get_or_push, length-map, map-append}
use Rattle.std.proofs.Math.Nat.{suc-mul}
use Rattle.gw_board.specs.Ends.{Board, Known, Watching, known_of, new_watch}
use Rattle.gw_lanes.specs.Ends.{Inlet, Outlet, new_outlet}
use Rattle.gw_ports.specs.Ends.{Ingress, Egress, lane_to}
use Rattle.gw_ports.specs.Making.{IsNewIngress, AreNewEnds, known_at, lanes_from, new_egress, egress_with}
use Rattle.gw_ports.proofs.Dealing.{AreNew}

-- the lanes from the ports below a number were dealt out
pub record DealtAll (ports frames room port : ℕ) (watches rest : List Known) (ins : List Ingress) (outs : List Egress)
    (froms : List Inlet) (tos : List Outlet) : Type 0 where
  pub count : length ins ≡ port
  pub watched : length watches ≡ ports
  pub known : map known_at ins ++ rest ≡ watches
  pub outs_size : length outs ≡ ports
  pub paired : tos ≡ map new_outlet froms
  pub new : AreNew room froms
  pub remain : length froms + port * (ports - 1) ≡ ports * (ports - 1)
  pub ingress : (k : ℕ) (d : Ingress) → k < port → IsNewIngress ports frames room k (get_or ins k d)
  pub egress : (k : ℕ) (d : Egress) → k < ports → get_or outs k d ≡ new_egress k (lanes_from k ins)

module _ (ports frames room port : ℕ) (watches rest : List Known) (ins : List Ingress) (outs : List Egress) (froms : List Inlet)
    (tos : List Outlet) where
  pub next_is_port : (w : Known) (rest' : List Known) → DealtAll ports frames room port watches rest ins outs froms tos
      → rest ≡ w ∷ rest' → port < ports
  next_is_port w rest' dealt more =
      let a = ap length dealt.known in
      let b = length-append (map known_at ins) rest in
      let c = length-map ins known_at in
      let d : length rest ≡ suc (length rest') = ap length more in
      let e = dealt.count in
      let f = dealt.watched in
      omega arith

  pub as_made : DealtAll ports frames room port watches rest ins outs froms tos → (k : ℕ) (d : Egress) → k < length outs
      → ((get_or outs k d).port ≡ k) × (length (get_or outs k d).lanes ≡ port)
  as_made dealt k d below =
      let size = dealt.outs_size in
      let is = dealt.egress k d (omega arith) in (
        ap (λ (s : Egress). s.port) is,
        ap (λ (s : Egress). length s.lanes) is
            ∙ length-map ins (λ a. option_map new_outlet (lane_to k a)) ∙ dealt.count,
      )

  pub one_more_port : (w : Known) (rest' : List Known) (a : Ingress) (outs' : List Egress) (froms' : List Inlet)
      (tos' : List Outlet)
      → DealtAll ports frames room port watches rest ins outs froms tos
      → rest ≡ w ∷ rest'
      → known_at a ≡ w
      → IsNewIngress ports frames room port a
      → length outs' ≡ length outs
      → tos' ≡ map new_outlet froms'
      → AreNew room froms'
      → length froms' + length outs ≡ length froms + 1
      → ((k : ℕ) (d : Egress) → k < length outs
      → get_or outs' k d ≡ egress_with (get_or outs k d) (option_map new_outlet (lane_to k a)))
      → DealtAll ports frames room (port + 1) watches rest' (ins ++ a ∷ []) outs' froms' tos'
  one_more_port w rest' a outs' froms' tos' dealt more knows made outs_size paired new left_over dealt_to =
      let size = dealt.outs_size in
      let count = dealt.count in
      let below = next_is_port w rest' dealt more in
      record {
        count = let e = length-append ins (a ∷ []) in omega arith;
        watched = dealt.watched;
        known = ap (λ l. l ++ rest') (map-append known_at ins (a ∷ [])) ∙ append_assoc (map known_at ins) (known_at a ∷ []) rest'
            ∙ ap (λ (x : Known). map known_at ins ++ x ∷ rest') knows ∙ ap (λ l. map known_at ins ++ l) (sym more) ∙ dealt.known;
        outs_size = outs_size ∙ size;
        paired = paired;
        new = new;
        remain =
            let r = dealt.remain in
            let c : (port + 1) * (ports - 1) ≡ port * (ports - 1) + (ports - 1) = let e : suc port ≡ port + 1 = omega arith in
            subst (λ n. n * (ports - 1) ≡ port * (ports - 1) + (ports - 1)) e (suc-mul port (ports - 1)) in
            omega arith;
        ingress = λ k d lt. ⊎_elim
            (λ (e : k ≡ port). subst (λ n. IsNewIngress ports frames room n (get_or (ins ++ a ∷ []) n d)) (sym e)
            (subst (λ (t : Ingress). IsNewIngress ports frames room port t) (sym (get_or_push ins a d port count)) made))
            (λ (other : k ≡ port → ⊥). subst (λ (t : Ingress). IsNewIngress ports frames room k t)
            (sym (get_or_append_left ins (a ∷ []) d k (omega arith))) (dealt.ingress k d (omega arith)))
            (cases_eq k port);
        egress = λ k d lt.
            dealt_to k d (omega arith) ∙ ap (λ (s : Egress). egress_with s (option_map new_outlet (lane_to k a)))
            (dealt.egress k d lt)
            ∙ ap (λ l. new_egress k l) (sym (map-append (λ b. option_map new_outlet (lane_to k b)) ins (a ∷ [])));
      }

  pub all_dealt : DealtAll ports frames room port watches rest ins outs froms tos → length rest ≡ 0
      → AreNewEnds ports frames room ins outs
  all_dealt dealt none =
      let a = ap length dealt.known in
      let b = length-append (map known_at ins) rest in
      let c = length-map ins known_at in
      let e = dealt.count in
      let f = dealt.watched in
      let g = dealt.outs_size in
      record {
        enough_ins = omega arith;
        enough_outs = g;
        ingress = λ k t lt. dealt.ingress k t (omega arith);
        egress = λ k t lt. dealt.egress k t (omega arith);
      }

-- ends that know what new watches know
pub know_nothing : (board : Board) (ins : List Ingress) (watches : List Watching) → map known_at ins ≡ map known_of watches
    → All (λ w. w ≡ new_watch board) watches
    → All (λ a. (a.board ≡ board) × (a.known ≡ [])) ins
know_nothing board ins watches same all = λ k d below.
    let size = ap length same in
    let c = length-map ins known_at in
    let n = length-map watches known_of in
    let new = new_watch board in
    let is : known_at (get_or ins k d) ≡ known_of new = sym (get_or-map known_at ins k d (known_at d) below)
    ∙ ap (λ l. get_or l k (known_at d)) same ∙ get_or-map known_of watches k new (known_at d) (omega arith)
    ∙ ap (λ w. known_of w) (all k new (omega arith)) in
    (ap (λ w. w.board) is, ap (λ w. w.batches) is)
