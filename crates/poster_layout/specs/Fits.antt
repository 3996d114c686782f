-- Names at a pitch as they are kept, and the search for a pitch.
use Rattle.std.specs.Prelude.{ℕ, ◌≡◌, ◌≤◌, ◌+◌, ◌*◌, ◌==◌, nat_lt, List, [], ◌∷◌, filter, fold, if◌then◌else◌}
use Rattle.poster_plan.specs.declared.plan.Plan.{Plan}
use Rattle.poster_plan.specs.Placing.{printed_names}
use Rattle.poster_plan.specs.Pitches.{better_of, full_left, pitches, small_left, tried}
use Rattle.poster_layout.specs.declared.laying.Laid.{Laid}

-- of marks told with numbers those whose number is this one
abbrev pub with_count : List ℕ → List ℕ → ℕ → List ℕ
with_count [] counts count = []
with_count (i ∷ marks) [] count = []
with_count (i ∷ marks) (k ∷ counts) count = if k == count then i ∷ with_count marks counts count else with_count marks counts count

-- a pitch is one of those
abbrev pub IsPitch : ℕ → Type 0
IsPitch u = (j : ℕ) × (j ≤ 45) × (u ≡ 20 + 4 * j)

-- the names are those of a plan at their pitch
pub record IsLaid (plan : Plan) (laid : Laid) : Type 0 where
  pub printed : laid.printed.items ≡ printed_names laid.pitch plan
  pub full : laid.full_left ≡ full_left laid.pitch plan
  pub small : laid.small_left ≡ small_left laid.pitch plan
  pub pitch : laid.pitch ≤ 200

-- the pitches above one
unfoldable pub above : ℕ → List ℕ
above u = filter (nat_lt u) pitches

-- the best of one pitch and of those above another that are tried, none where that one has all names in full size
unfoldable pub best_of : Plan → ℕ → ℕ → ℕ → ℕ
best_of plan best left u = if left == 0 then best else fold (better_of plan) best (tried plan (above u))
