-- The rows of a table, one at a time.
use Rattle.std.proofs.Common.{◌≡◌, ℕ, ◌+◌, List, ◌++◌, add-one, sym, ap, ◌∙◌, append_assoc}
use Rattle.trial_feed.specs.Lattice.{side, line_count}
use Rattle.trial_feed.specs.Lines.{lines}
use Rattle.trial_feed.specs.Folder.{joined, folder_of, trial_folder, stops_table, routes_table, trips_table, calls_table}

joined-more : (text : ℕ → List ℕ) (n : ℕ) → joined text (n + 1) ≡ joined text n ++ text n
joined-more text n = ap (joined text) (add-one n)

-- one more text is appended
pub joined_next : (text : ℕ → List ℕ) (n : ℕ) (front before after : List ℕ) → before ≡ front ++ joined text n → after ≡ before ++ text n
    → after ≡ front ++ joined text (n + 1)
joined_next text n front before after before_is after_is =
    after_is ∙ ap (λ (xs : List ℕ). xs ++ text n) before_is ∙ append_assoc front (joined text n) (text n)
    ∙ sym (ap (λ (xs : List ℕ). front ++ xs) (joined-more text n))

-- all texts are appended
pub joined_all : (text : ℕ → List ℕ) (n count : ℕ) (header front after : List ℕ) → after ≡ front ++ joined text n → n ≡ count → front ≡ header
    → after ≡ header ++ joined text count
joined_all text n count header front after after_is all front_is =
    after_is ∙ ap (λ (xs : List ℕ). xs ++ joined text n) front_is ∙ ap (λ (m : ℕ). header ++ joined text m) all

-- the folder of the tables of a trial
pub folder_same : (trial : ℕ) (stops routes trips calls : List ℕ) → stops ≡ stops_table (side trial) → routes ≡ routes_table (line_count trial)
    → trips ≡ trips_table (line_count trial) → calls ≡ calls_table (lines trial) → folder_of stops routes trips calls ≡ trial_folder trial
folder_same trial stops routes trips calls stops_are routes_are trips_are calls_are =
    ap (λ (xs : List ℕ). folder_of xs routes trips calls) stops_are
    ∙ ap (λ (xs : List ℕ). folder_of (stops_table (side trial)) xs trips calls) routes_are
    ∙ ap (λ (xs : List ℕ). folder_of (stops_table (side trial)) (routes_table (line_count trial)) xs calls) trips_are
    ∙ ap (λ (xs : List ℕ). folder_of (stops_table (side trial)) (routes_table (line_count trial)) (trips_table (line_count trial)) xs) calls_are
