-- The stops of a line, one at a time.
use Rattle.std.proofs.Common.{◌≡◌, ℕ, zero, suc, ◌+◌, ◌-◌, ◌<◌, ◌≤◌, ◌%◌, true, false, nat_lt, eqb, if◌then◌else◌, List, [], ◌∷◌, ◌++◌, Vec, refl, sym, ap, ◌∙◌, subst, append_assoc, append-nil, arith}
use Rattle.std.proofs.lemmas.List.{map-append}
use Rattle.std.proofs.lemmas.Bool.{and_parts, ltb-true}
use Rattle.std.specs.declared.alloc.Global.{Global}
use Rattle.trial_feed.specs.declared.lattice.Place.{Place}
use Rattle.trial_feed.specs.Draws.{next_state, drawn}
use Rattle.trial_feed.specs.Lattice.{side, line_count, is_inside, step_after}
use Rattle.trial_feed.specs.Lines.{in_front, walk, line, lines, lines_drawn, stops_of}

-- stops in front of what is drawn behind them
abbrev pub behind : List Place → List Place × ℕ → List Place × ℕ
behind done rest = (done ++ rest.0, rest.1)

-- how far a place is from the far sides, at most
abbrev pub left : ℕ → Place → ℕ
left side place = (side - place.east) + (side - place.north)

-- a walk that has steps enough gives, behind the stops so far, the whole line
pub record IsUnderWay (side : ℕ) (place : Place) (state : ℕ) (done : List Place) (whole : List Place × ℕ) : Type 0 where
  pub steps : ℕ
  pub enough : left side place ≤ steps
  pub same : behind done (walk steps side place state) ≡ whole

walk-ends : (steps side : ℕ) (place : Place) (state : ℕ) → is_inside side place ≡ false → walk steps side place state ≡ ([], state)
walk-ends zero side place state outside = refl
walk-ends (suc steps) side place state outside = rw outside

pub line_ends : (side : ℕ) (place : Place) (state : ℕ) (done : List Place) (whole : List Place × ℕ) → is_inside side place ≡ false
    → IsUnderWay side place state done whole → (done, state) ≡ whole
line_ends side place state done whole outside way =
    ap (λ xs. (xs, state)) (sym (append-nil done)) ∙ sym (ap (behind done) (walk-ends way.steps side place state outside)) ∙ way.same

walk-more : (steps side : ℕ) (place : Place) (state : ℕ) → is_inside side place ≡ true
    → walk (suc steps) side place state
    ≡ in_front (step_after (drawn (next_state state)) place) (walk steps side (step_after (drawn (next_state state)) place) (next_state state))
walk-more steps side place state inside = rw inside

-- a step inside the lattice comes nearer to a far side
pub step_is_nearer : (side draw : ℕ) (place : Place) → is_inside side place ≡ true → left side (step_after draw place) < left side place
step_is_nearer side draw place inside =
    let east : place.east < side = ltb-true place.east side (and_parts (nat_lt place.east side) (nat_lt place.north side) inside).0 in
    let north : place.north < side = ltb-true place.north side (and_parts (nat_lt place.east side) (nat_lt place.north side) inside).1 in
    elim (eqb (draw % 2) 0) as (λ even. left side (if even then record { east = place.east + 1; north = place.north } else record { east = place.east; north = place.north + 1 }) < left side place)
    [ true ↦ omega arith | false ↦ omega arith ]

behind-more : (done : List Place) (place : Place) (rest : List Place × ℕ) → behind (done ++ place ∷ []) rest ≡ behind done (in_front place rest)
behind-more done place rest = ap (λ xs. (xs, rest.1)) (append_assoc done (place ∷ []) rest.0)

goes_on : (steps side : ℕ) (place : Place) (state : ℕ) (done : List Place) (whole : List Place × ℕ) → is_inside side place ≡ true
    → left side place ≤ steps → behind done (walk steps side place state) ≡ whole
    → IsUnderWay side (step_after (drawn (next_state state)) place) (next_state state) (done ++ step_after (drawn (next_state state)) place ∷ []) whole
goes_on zero side place state done whole inside enough same =
    absurd (omega (arith, step_is_nearer side (drawn (next_state state)) place inside))
goes_on (suc steps) side place state done whole inside enough same = record {
  steps = steps;
  enough = omega (arith, step_is_nearer side (drawn (next_state state)) place inside);
  same =
      behind-more done (step_after (drawn (next_state state)) place) (walk steps side (step_after (drawn (next_state state)) place) (next_state state))
      ∙ sym (ap (behind done) (walk-more steps side place state inside)) ∙ same;
}

pub line_goes_on : (side : ℕ) (place : Place) (state : ℕ) (done : List Place) (whole : List Place × ℕ) → is_inside side place ≡ true
    → IsUnderWay side place state done whole
    → IsUnderWay side (step_after (drawn (next_state state)) place) (next_state state) (done ++ step_after (drawn (next_state state)) place ∷ []) whole
line_goes_on side place state done whole inside way = goes_on way.steps side place state done whole inside way.enough way.same

-- the same, with names for what is drawn
pub line_goes_on_to : (side : ℕ) (place next : Place) (state after draw : ℕ) (done more : List Place) (whole : List Place × ℕ) → is_inside side place ≡ true
    → after ≡ next_state state → draw ≡ drawn (next_state state) → next ≡ step_after draw place → more ≡ done ++ next ∷ []
    → IsUnderWay side place state done whole → IsUnderWay side next after more whole
line_goes_on_to side place next state after draw done more whole inside after_is draw_is next_is more_is way =
    let stepped : next ≡ step_after (drawn (next_state state)) place = next_is ∙ ap (λ (d : ℕ). step_after d place) draw_is in
    subst (λ (xs : List Place). IsUnderWay side next after xs whole) (sym more_is)
    (subst (λ (p : Place). IsUnderWay side p after (done ++ p ∷ []) whole) (sym stepped)
    (subst (λ (s : ℕ). IsUnderWay side (step_after (drawn (next_state state)) place) s (done ++ step_after (drawn (next_state state)) place ∷ []) whole) (sym after_is)
    (line_goes_on side place state done whole inside way)))

-- one more line is drawn
pub lines_go_on : (done : List (Vec Place Global)) (more : Vec Place Global) (count number side state next : ℕ) (whole : List (List Place))
    → number < count → (more.items, next) ≡ line side state → stops_of done ++ lines_drawn (count - number) side state ≡ whole
    → stops_of (done ++ more ∷ []) ++ lines_drawn (count - (number + 1)) side next ≡ whole
lines_go_on done more count number side state next whole below drawn same =
    let fewer : count - number ≡ suc (count - (number + 1)) = omega arith in
    let first : more.items ≡ (line side state).0 = ap (λ (x : List Place × ℕ). x.0) drawn in
    let behind_it : next ≡ (line side state).1 = ap (λ (x : List Place × ℕ). x.1) drawn in
    ap (λ (xs : List (List Place)). xs ++ lines_drawn (count - (number + 1)) side next) (map-append (λ (line : Vec Place Global). line.items) done (more ∷ []))
    ∙ append_assoc (stops_of done) (more.items ∷ []) (lines_drawn (count - (number + 1)) side next)
    ∙ ap (λ (x : List Place × ℕ). stops_of done ++ x.0 ∷ lines_drawn (count - (number + 1)) side x.1) drawn
    ∙ sym (ap (λ (n : ℕ). stops_of done ++ lines_drawn n side state) fewer)
    ∙ same

-- before the first line
pub lines_begin : (trial of_side state : ℕ) → of_side ≡ side trial → state ≡ trial
    → stops_of [] ++ lines_drawn (line_count trial - 0) of_side state ≡ lines trial
lines_begin trial of_side state side_is state_is =
    let all : line_count trial - 0 ≡ line_count trial = omega arith in
    ap (λ (n : ℕ). lines_drawn n of_side state) all
    ∙ ap (λ (s : ℕ). lines_drawn (line_count trial) s state) side_is ∙ ap (λ (s : ℕ). lines_drawn (line_count trial) (side trial) s) state_is

-- behind the last line
pub lines_end : (done : List (Vec Place Global)) (count number side state : ℕ) (whole : List (List Place)) → count ≤ number
    → stops_of done ++ lines_drawn (count - number) side state ≡ whole → stops_of done ≡ whole
lines_end done count number side state whole all same =
    let none : count - number ≡ 0 = omega arith in
    sym (append-nil (stops_of done)) ∙ sym (ap (λ (n : ℕ). stops_of done ++ lines_drawn n side state) none) ∙ same
