-- Where readers stop.
use Rattle.std.proofs.Common.{◌≡◌, ℕ, List, Option, None, Result, Ok, Err, ap, sym, ◌∙◌}
use Rattle.decimal_text.specs.declared.fault.Stop.{Stop}
use Rattle.decimal_text.specs.declared.fault.Stop.TheVariants as stops
use Rattle.decimal_text.specs.Readers.{IsRead, left_of, Follows}
use Rattle.decimal_text.proofs.Steps.{then_read}

abbrev err : ℕ → Result ℕ ℕ
err n = Err n

abbrev as_is : List ℕ → List ℕ
as_is rest = rest

-- what follows where reading stopped, whatever it would have given
abbrev pub StopsIn : Stop → Result (List ℕ) (List ℕ) → Type 0
StopsIn e defined = Follows {X = List ℕ} as_is (Err e) defined

-- a line has not the form due
pub line_stops : {A : Type 0} (e : Stop) (rest : List ℕ) (there : Option (A × List ℕ)) (defined : Result (List ℕ) (List ℕ))
    → IsRead {X = A × List ℕ} (λ x. x) (Err e) rest there → (there ≡ None → defined ≡ Err rest) → StopsIn e defined
line_stops (stops.Wrong left) rest there defined read stops = ap left_of (stops read.0) ∙ ap err (sym read.1)
line_stops stops.Memory rest there defined read stops = tt

-- what is due first stops, and so does the whole
pub part_stops : (e : Stop) (inner outer : Result (List ℕ) (List ℕ)) (next : List ℕ → Result (List ℕ) (List ℕ)) → StopsIn e inner → outer ≡ then_read inner next → StopsIn e outer
part_stops (stops.Wrong left) inner outer next follows is = ap left_of is ∙ by inner follows
  where
    by : (r : Result (List ℕ) (List ℕ)) → left_of r ≡ Err left → left_of (then_read r next) ≡ Err left
    by (Ok rest) e = absurd cc
    by (Err rest) e = e
part_stops stops.Memory inner outer next follows is = tt

-- what is due last stops, and so does the whole
pub rest_stops : (e : Stop) (inner outer : Result (List ℕ) (List ℕ)) → StopsIn e inner → outer ≡ inner → StopsIn e outer
rest_stops (stops.Wrong left) inner outer follows is = ap left_of is ∙ follows
rest_stops stops.Memory inner outer follows is = tt
