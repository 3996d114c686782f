-- Walks are legal only where each front of them is.
use Rattle.std.proofs.Common.{◌≡◌, ℕ, zero, suc, ◌+◌, ◌-◌, ◌<◌, ◌≤◌, ◌%◌, true, ltb, List, [], ◌∷◌, ◌++◌, length, map, Option, Some, None, slice_get, append_assoc, sym, refl, ap, subst, ◌∙◌, arith, ◌⊎◌, inl, inr}
use Rattle.std.proofs.lemmas.Bool.{and_parts, and_from, lt-ltb, ltb-true}
use Rattle.std.proofs.lemmas.List.{append-nil}
use Rattle.std.specs.List.{cons_option, filter_map}
use Rattle.std.specs.Prelude.{is_none}
use Rattle.map_base.specs.declared.ids.SegId.{SegId}
use Rattle.graph_core.specs.declared.parts.GraphParts.{GraphParts}
use Rattle.octi_grid.specs.declared.dir.Dir.{Dir}
use Rattle.octi_grid.specs.declared.drawing.DrawWhy.{DrawWhy}
use Rattle.octi_grid.specs.Ways.{number_of}
use Rattle.octi_grid.specs.Costs.{clockwise_from}
use Rattle.octi_grid.specs.Walks.{PlainWalk}
use Rattle.octi_grid.specs.Legal.{are_clockwise, are_rising, first_illegal, first_illegal_after, illegal_at, legal, legs_of, port_of, port_where, ports_from, puts_by, puts_of, why_illegal, Leg, Put}
use Rattle.octi_grid.proofs.Members.{in_left, In}
use Rattle.octi_grid.proofs.CostLemmas.{number_small}
use Rattle.octi_grid.proofs.LegalLemmas.{ends_hold-from, puts_of-push, EndsFit-from, EndsFit-part}
use Rattle.octi_grid.proofs.MeetsLemmas.{all_apart-front, meets_hold-from, MeetsFit-from}
use Rattle.octi_grid.proofs.PortsLemmas.{no_walks_legal, why_ports, AreLegal, AreLegal-from}

-- numbers that rise from one direction rise from a later one
turned_number : (a b c : ℕ) → a ≤ 7 → b ≤ 7 → c ≤ 7 → (b + 8 - a) % 8 ≤ (c + 8 - a) % 8 → (c + 8 - a) % 8 ≡ (c + 8 - b) % 8 + (b + 8 - a) % 8
turned_number a b c h k l order = omega arith

turned_by : (d e f : Dir) → clockwise_from d e ≤ clockwise_from d f → clockwise_from d f ≡ clockwise_from e f + clockwise_from d e
turned_by d e f order = turned_number (number_of d) (number_of e) (number_of f) (number_small d) (number_small e) (number_small f) order

rising_turned : (d e : Dir) (low less : ℕ) (ds : List Dir) → less + clockwise_from d e ≤ low → are_rising low (map (clockwise_from d) ds) ≡ true → are_rising less (map (clockwise_from e) ds) ≡ true
rising_turned d e low less [] h r = refl
rising_turned d e low less (f ∷ ds) h r =
    let parts = and_parts (ltb low (clockwise_from d f)) (are_rising (clockwise_from d f) (map (clockwise_from d) ds)) r in
    let above : low < clockwise_from d f = ltb-true low (clockwise_from d f) parts.0 in
    let sum : clockwise_from d f ≡ clockwise_from e f + clockwise_from d e = turned_by d e f (omega arith) in
    and_from (ltb less (clockwise_from e f)) (are_rising (clockwise_from e f) (map (clockwise_from e) ds)) (lt-ltb less (clockwise_from e f) (omega arith))
    (rising_turned d e (clockwise_from d f) (clockwise_from e f) ds (omega arith) parts.1)

clockwise_rest : (d : Dir) (low : ℕ) (ds : List Dir) → are_rising low (map (clockwise_from d) ds) ≡ true → are_clockwise ds ≡ true
clockwise_rest d low [] r = refl
clockwise_rest d low (e ∷ ds) r =
    let parts = and_parts (ltb low (clockwise_from d e)) (are_rising (clockwise_from d e) (map (clockwise_from d) ds)) r in
    rising_turned d e (clockwise_from d e) 0 ds (omega arith) parts.1

-- fewer ports of clockwise ones are clockwise
abbrev pub IsSameOrNone : Option Dir → Option Dir → Type 0
IsSameOrNone o p = (o ≡ None) ⊎ (o ≡ p)

rising_fewer : (f h : SegId → Option Dir) (first : Dir) (xs : List SegId) → ((s : SegId) → IsSameOrNone (f s) (h s)) → (low less : ℕ) → less ≤ low → are_rising low (map (clockwise_from first) (filter_map h xs)) ≡ true →
    are_rising less (map (clockwise_from first) (filter_map f xs)) ≡ true
rising_fewer f h first [] same low less k r = refl
rising_fewer f h first (x ∷ xs) same low less k r = of_port (f x) (h x) (same x) r (λ a b l q. rising_fewer f h first xs same a b l q)
  where
    of_port : (o p : Option Dir) → IsSameOrNone o p → are_rising low (map (clockwise_from first) (cons_option p (filter_map h xs))) ≡ true →
        ((a b : ℕ) → b ≤ a → are_rising a (map (clockwise_from first) (filter_map h xs)) ≡ true → are_rising b (map (clockwise_from first) (filter_map f xs)) ≡ true) →
        are_rising less (map (clockwise_from first) (cons_option o (filter_map f xs))) ≡ true
    of_port None None e q rest = rest low less k q
    of_port None (Some d) e q rest =
        let parts = and_parts (ltb low (clockwise_from first d)) (are_rising (clockwise_from first d) (map (clockwise_from first) (filter_map h xs))) q in
        let above : low < clockwise_from first d = ltb-true low (clockwise_from first d) parts.0 in
        rest (clockwise_from first d) less (omega arith) parts.1
    of_port (Some c) p (inl e) q rest = let no : ⊥ = cc in absurd no
    of_port (Some c) None (inr e) q rest = let no : ⊥ = cc in absurd no
    of_port (Some c) (Some d) (inr e) q rest =
        let parts = and_parts (ltb low (clockwise_from first d)) (are_rising (clockwise_from first d) (map (clockwise_from first) (filter_map h xs))) q in
        let above : low < clockwise_from first d = ltb-true low (clockwise_from first d) parts.0 in
        let one : d ≡ c = cc in
        subst (λ (v : Dir). are_rising less (map (clockwise_from first) (v ∷ filter_map f xs)) ≡ true) one
        (and_from (ltb less (clockwise_from first d)) (are_rising (clockwise_from first d) (map (clockwise_from first) (filter_map f xs))) (lt-ltb less (clockwise_from first d) (omega arith))
        (rest (clockwise_from first d) (clockwise_from first d) (omega arith) parts.1))

pub clockwise_fewer : (f h : SegId → Option Dir) (xs : List SegId) → ((s : SegId) → IsSameOrNone (f s) (h s)) → are_clockwise (filter_map h xs) ≡ true → are_clockwise (filter_map f xs) ≡ true
clockwise_fewer f h [] same r = refl
clockwise_fewer f h (x ∷ xs) same r = of_port (f x) (h x) (same x) r (clockwise_fewer f h xs same)
  where
    of_port : (o p : Option Dir) → IsSameOrNone o p → are_clockwise (cons_option p (filter_map h xs)) ≡ true → (are_clockwise (filter_map h xs) ≡ true → are_clockwise (filter_map f xs) ≡ true) →
        are_clockwise (cons_option o (filter_map f xs)) ≡ true
    of_port None None e q rest = rest q
    of_port None (Some d) e q rest = rest (clockwise_rest d 0 (filter_map h xs) q)
    of_port (Some c) p (inl e) q rest = let no : ⊥ = cc in absurd no
    of_port (Some c) None (inr e) q rest = let no : ⊥ = cc in absurd no
    of_port (Some c) (Some d) (inr e) q rest =
        let one : d ≡ c = cc in
        subst (λ (v : Dir). are_clockwise (v ∷ filter_map f xs) ≡ true) one (rising_fewer f h d xs same 0 0 (omega arith) q)

-- a front of legs gives the same ports, or none
got_front : {X : Type 0} (xs ys : List X) (i : ℕ) → (slice_get xs i ≡ None) ⊎ (slice_get xs i ≡ slice_get (xs ++ ys) i)
got_front [] ys i = inl refl
got_front (x ∷ xs) ys zero = inr refl
got_front (x ∷ xs) ys (suc i) = got_front xs ys i

port_front : (legs more : List Leg) (n : ℕ) (s : SegId) → IsSameOrNone (port_of legs n s) (port_of (legs ++ more) n s)
port_front legs more n s = of_case (got_front legs more s.0)
  where
    of_case : (slice_get legs s.0 ≡ None) ⊎ (slice_get legs s.0 ≡ slice_get (legs ++ more) s.0) → IsSameOrNone (port_of legs n s) (port_of (legs ++ more) n s)
    of_case (inl e) = inl (ap (port_where n) e)
    of_case (inr e) = inr (ap (port_where n) e)

ports_front : (legs more : List Leg) (n : ℕ) (rounds : List (List SegId)) → ports_from (legs ++ more) n rounds ≡ true → ports_from legs n rounds ≡ true
ports_front legs more n [] e = refl
ports_front legs more n (round ∷ rounds) e =
    let parts = and_parts (are_clockwise (filter_map (port_of (legs ++ more) n) round)) (ports_from (legs ++ more) (n + 1) rounds) e in
    and_from (are_clockwise (filter_map (port_of legs n) round)) (ports_from legs (n + 1) rounds)
    (clockwise_fewer (port_of legs n) (port_of (legs ++ more) n) round (port_front legs more n) parts.0) (ports_front legs more (n + 1) rounds parts.1)

-- legal walks but for the last
legal_front : (rounds : List (List SegId)) (legs : List Leg) (l : Leg) → AreLegal rounds (legs ++ l ∷ []) → AreLegal rounds legs
legal_front rounds legs l h = record {
  ends = ends_hold-from legs (EndsFit-part (puts_of legs) (puts_of (legs ++ l ∷ [])) wider (EndsFit-from (legs ++ l ∷ []) h.ends));
  meets = meets_hold-from legs
      (let fit = MeetsFit-from (legs ++ l ∷ []) h.meets in
      record {
        distinct = λ m k. fit.distinct m (in_left m legs (l ∷ []) k);
        apart = all_apart-front legs l fit.apart;
        clear = λ m p k n. fit.clear m p (in_left m legs (l ∷ []) k) (wider p n);
      });
  ports = ports_front legs (l ∷ []) 0 rounds h.ports;
}
  where
    wider : (p : Put) → In p (puts_of legs) → In p (puts_of (legs ++ l ∷ []))
    wider p m = subst (In p) (sym (puts_of-push legs l)) (in_left p (puts_of legs) (puts_by l) m)

legal_fronts : (rounds : List (List SegId)) (legs more : List Leg) → AreLegal rounds (legs ++ more) → AreLegal rounds legs
legal_fronts rounds legs [] h = subst (AreLegal rounds) (append-nil legs) h
legal_fronts rounds legs (l ∷ more) h = legal_front rounds legs l (legal_fronts rounds (legs ++ l ∷ []) more (subst (AreLegal rounds) (sym (append_assoc legs (l ∷ []) more)) h))

no_reason : (rounds : List (List SegId)) (legs : List Leg) → AreLegal rounds legs → why_illegal rounds legs ≡ None
no_reason rounds legs h = why_ports rounds legs true h.ends h.meets h.ports

-- so none of legal walks is the first that is not legal
none_illegal : (rounds : List (List SegId)) (before legs : List Leg) → AreLegal rounds (before ++ legs) → first_illegal_after rounds before legs ≡ None
none_illegal rounds before [] h = refl
none_illegal rounds before (l ∷ legs) h =
    let whole : AreLegal rounds ((before ++ l ∷ []) ++ legs) = subst (AreLegal rounds) (sym (append_assoc before (l ∷ []) legs)) h in
    ap (λ o. illegal_at (length before) o (first_illegal_after rounds (before ++ l ∷ []) legs)) (no_reason rounds (before ++ l ∷ []) (legal_fronts rounds (before ++ l ∷ []) legs whole))
    ∙ none_illegal rounds (before ++ l ∷ []) legs whole

-- and where none is, all are legal
illegal_none : (k : ℕ) (o : Option DrawWhy) (rest : Option (SegId × DrawWhy)) → illegal_at k o rest ≡ None → (o ≡ None) × (rest ≡ None)
illegal_none k None rest e = (refl, e)
illegal_none k (Some w) rest e = let no : ⊥ = cc in absurd no

all_legal : (rounds : List (List SegId)) (before legs : List Leg) → why_illegal rounds before ≡ None → first_illegal_after rounds before legs ≡ None → why_illegal rounds (before ++ legs) ≡ None
all_legal rounds before [] h e = ap (why_illegal rounds) (append-nil before) ∙ h
all_legal rounds before (l ∷ legs) h e =
    let parts = illegal_none (length before) (why_illegal rounds (before ++ l ∷ [])) (first_illegal_after rounds (before ++ l ∷ []) legs) e in
    ap (why_illegal rounds) (sym (append_assoc before (l ∷ []) legs)) ∙ all_legal rounds (before ++ l ∷ []) legs parts.0 parts.1

no_first_illegal : (rounds : List (List SegId)) (legs : List Leg) → is_none (why_illegal rounds legs) ≡ true → first_illegal_after rounds [] legs ≡ None
no_first_illegal rounds legs e = none_illegal rounds [] legs (AreLegal-from rounds legs (of_reason (why_illegal rounds legs) e))
  where
    of_reason : (o : Option DrawWhy) → is_none o ≡ true → o ≡ None
    of_reason None k = refl
    of_reason (Some w) k = let no : ⊥ = cc in absurd no

pub legal_has_no_first : (g : GraphParts) (walks : List PlainWalk) → legal g walks ≡ true → first_illegal g walks ≡ None
legal_has_no_first g walks e = no_first_illegal g.rounds (legs_of g.ends walks) e

pub legal_from_no_first : (g : GraphParts) (walks : List PlainWalk) → first_illegal g walks ≡ None → legal g walks ≡ true
legal_from_no_first g walks e = ap (λ (o : Option DrawWhy). is_none o) (all_legal g.rounds [] (legs_of g.ends walks) (no_walks_legal g.rounds) e)
