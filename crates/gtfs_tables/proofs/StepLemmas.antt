-- A folder read table by table.
use Rattle.std.proofs.Common.{◌≡◌, ◌≤◌, ◌<◌, ◌-◌, ◌^◌, ◌⊎◌, inl, inr, ℕ, List, Option, Some, None, Result, Ok, Err, IfSome, refl, ap, sym, ◌∙◌, subst, arith}
use Rattle.std.proofs.lemmas.Bool.{cases_lt}
use Rattle.files_door.specs.Fault.{Rose}
use Rattle.transit_feed.specs.Feeds.{Feed}
use Rattle.table_rows.specs.declared.why.Table.{Table}
use Rattle.table_rows.specs.declared.why.Table.TheVariants as tables
use Rattle.table_rows.specs.declared.fault.FeedFault.{FeedFault}
use Rattle.table_rows.specs.declared.fault.FeedFault.TheVariants as faults
use Rattle.table_rows.specs.Folder.{table_file}
use Rattle.table_rows.specs.Outcome.{◌>>=◌, Refuses, Answers, rose_at, never}
use Rattle.gtfs_tables.specs.Feed.{Folder, told_folder}
use Rattle.gtfs_tables.specs.Steps.{IsTold, OfFile, OfFolder, FailsAt}

abbrev Files : Type 0
Files = Option (List (List ℕ × List ℕ))

-- what is told of a file, or something that holds of some file
pub of_file : (told : Files) (path : List ℕ) (table : Table) (P : Option (List ℕ) → Type 0)
    → IfSome told (λ all. P (table_file all path table)) → ((file : Option (List ℕ)) × P file) → OfFile told path table P
of_file None path table P known some = record { file = some.0; is_told = tt; holds = some.1 }
of_file (Some all) path table P known some = record { file = table_file all path table; is_told = refl; holds = known }

pub of_file_weaker : (told : Files) (path : List ℕ) (table : Table) (P Q : Option (List ℕ) → Type 0) → ((file : Option (List ℕ)) → P file → Q file)
    → OfFile told path table P → OfFile told path table Q
of_file_weaker told path table P Q weaker of = record { file = of.file; is_told = of.is_told; holds = weaker of.file of.holds }

-- a refusal of the first of two steps is one of both
pub refuses_then : {A B : Type 0} (reads more : Table → Type 0) (fault : FeedFault) (first : Result A FeedFault) (next : A → Result B FeedFault)
    → ((table : Table) → reads table → more table) → Refuses reads fault first → Refuses more fault (first >>= next)
refuses_then reads more faults.NoMemory first next weaker refused = tt
refuses_then reads more (faults.ReadFault table) first next weaker refused = weaker table refused
refuses_then reads more (faults.BadRow table row why) first next weaker refused = ap (λ r. r >>= next) refused
refuses_then reads more (faults.Limit limit) first next weaker refused = ap (λ r. r >>= next) refused

-- and a refusal of the second
pub refuses_after : {A B : Type 0} (reads more : Table → Type 0) (fault : FeedFault) (first : Result A FeedFault) (value : A) (next : A → Result B FeedFault)
    → ((table : Table) → reads table → more table) → first ≡ Ok value → Refuses reads fault (next value) → Refuses more fault (first >>= next)
refuses_after reads more faults.NoMemory first value next weaker is refused = tt
refuses_after reads more (faults.ReadFault table) first value next weaker is refused = weaker table refused
refuses_after reads more (faults.BadRow table row why) first value next weaker is refused = ap (λ r. r >>= next) is ∙ refused
refuses_after reads more (faults.Limit limit) first value next weaker is refused = ap (λ r. r >>= next) is ∙ refused

pub answers_after : {A B C : Type 0} (reads more : Table → Type 0) (view : C → B) (result : Result C FeedFault) (first : Result A FeedFault) (value : A) (next : A → Result B FeedFault)
    → ((table : Table) → reads table → more table) → first ≡ Ok value → Answers reads view result (next value) → Answers more view result (first >>= next)
answers_after reads more view (Ok found) first value next weaker is answers = ap (λ r. r >>= next) is ∙ answers
answers_after reads more view (Err fault) first value next weaker is answers = refuses_after reads more fault first value next weaker is answers

-- a folder with the file of one table put in the place of another
abbrev pub folder_with : Table → Option (List ℕ) → Folder → Folder
folder_with tables.Routes file folder tables.Routes = file
folder_with tables.Stops file folder tables.Stops = file
folder_with tables.Trips file folder tables.Trips = file
folder_with tables.Shapes file folder tables.Shapes = file
folder_with tables.StopTimes file folder tables.StopTimes = file
folder_with table file folder other = folder other

told_with : (table : Table) (told : Files) (path : List ℕ) (file : Option (List ℕ)) (folder : Folder)
    → IsTold told path table file → ((other : Table) → IsTold told path other (folder other)) → (other : Table) → IsTold told path other (folder_with table file folder other)
told_with tables.Routes told path file folder here rest tables.Routes = here
told_with tables.Stops told path file folder here rest tables.Stops = here
told_with tables.Trips told path file folder here rest tables.Trips = here
told_with tables.Shapes told path file folder here rest tables.Shapes = here
told_with tables.StopTimes told path file folder here rest tables.StopTimes = here
told_with table told path file folder here rest other = rest other

-- the folder of what is told, and nothing else
abbrev told_alone : Files → List ℕ → Folder
told_alone None path table = None
told_alone (Some all) path table = table_file all path table

is_told_alone : (told : Files) (path : List ℕ) (table : Table) → IsTold told path table (told_alone told path table)
is_told_alone None path table = tt
is_told_alone (Some all) path table = refl

-- what holds of every folder
pub of_any_folder : (told : Files) (path : List ℕ) (P : Folder → Type 0) → ((folder : Folder) → P folder) → OfFolder told path P
of_any_folder told path P each = record { folder = told_alone told path; is_told = is_told_alone told path; holds = each (told_alone told path) }

pub refuses_never : {B : Type 0} (more : Table → Type 0) (fault : FeedFault) (defined : Result B FeedFault) → Refuses never fault defined → Refuses more fault defined
refuses_never more faults.NoMemory defined refused = tt
refuses_never more (faults.ReadFault table) defined refused = absurd refused
refuses_never more (faults.BadRow table row why) defined refused = refused
refuses_never more (faults.Limit limit) defined refused = refused

pub answers_never : {B C : Type 0} (more : Table → Type 0) (view : C → B) (result : Result C FeedFault) (defined : Result B FeedFault) → Answers never view result defined → Answers more view result defined
answers_never more view (Ok found) defined answers = answers
answers_never more view (Err fault) defined answers = refuses_never more fault defined answers

rose_later : (old mid now : ℕ) → old ≤ mid → Rose mid now → mid ≤ now → Rose old now
rose_later old mid now first rose second below = by (cases_lt mid (2 ^ 64 - 1)) (cases_lt (2 ^ 64 - 1) mid)
  where
    by : (mid < 2 ^ 64 - 1) ⊎ (2 ^ 64 - 1 ≤ mid) → (2 ^ 64 - 1 < mid) ⊎ (mid ≤ 2 ^ 64 - 1) → old < now
    by (inl l) m =
        let later = rose (omega (arith, l)) in
        omega (arith, first, later)
    by (inr l) (inl m) =
        let later = rose (omega (arith, m)) in
        omega (arith, first, later)
    by (inr l) (inr m) = omega (arith, first, second, l, m, below)

-- a refusal that is answered as it came
refused_as : {C : Type 0} (told : Files) (path : List ℕ) (reads : Folder → Table → Type 0) (view : C → Feed) (whole : Folder → Result Feed FeedFault) (fault : FeedFault) (result : Result C FeedFault)
    → ((given : FeedFault) × (result ≡ Err given) × (given ≡ fault))
    → OfFolder told path (λ folder. Refuses (reads folder) fault (whole folder)) → OfFolder told path (λ folder. Answers (reads folder) view result (whole folder))
refused_as {C} told path reads view whole fault result is of =
    let refused : FeedFault → Result C FeedFault = λ f. Err f in
    let same : result ≡ Err fault = is.1 ∙ ap refused is.2 in
    subst (λ (r : Result C FeedFault). OfFolder told path (λ folder. Answers (reads folder) view r (whole folder))) (sym same)
    (record { folder = of.folder; is_told = of.is_told; holds = of.holds })

-- One table of a folder is read, and then others: first its file, and then what the file gives.
module _ {A B : Type 0} (table : Table) (first : Option (List ℕ) → Result A FeedFault) (second : A → Result B FeedFault)
    (next : B → Folder → Result Feed FeedFault) (later : B → Folder → Table → Result (Unit {0}) FeedFault)
    (whole : Folder → Result Feed FeedFault) (before : Folder → Table → Result (Unit {0}) FeedFault)
    (whole_is : (file : Option (List ℕ)) (folder : Folder) → whole (folder_with table file folder) ≡ ((first file >>= second) >>= (λ value. next value folder)))
    (before_here : (folder : Folder) → before folder table ≡ Ok tt)
    (before_later : (file : Option (List ℕ)) (folder : Folder) (value : B) (other : Table) → (first file >>= second) ≡ Ok value → later value folder other ≡ Ok tt → before (folder_with table file folder) other ≡ Ok tt)
    (told : Files) (path : List ℕ) where
  outcome : Option (List ℕ) → Result B FeedFault
  outcome = λ file. first file >>= second

  refused_at : (old now : ℕ) (fault : FeedFault) (file : Option (List ℕ)) → IsTold told path table file → Refuses (rose_at table old now) fault (outcome file)
      → OfFolder told path (λ folder. Refuses (FailsAt (before folder) old now) fault (whole folder))
  unfolding outcome
  refused_at old now fault file is_told refused =
      let folder = folder_with table file (told_alone told path) in
      record {
        folder = folder;
        is_told = told_with table told path file (told_alone told path) is_told (is_told_alone told path);
        holds = subst (Refuses (FailsAt (before folder) old now) fault) (sym (whole_is file (told_alone told path)))
            (refuses_then (rose_at table old now) (FailsAt (before folder) old now) fault (first file >>= second) (λ value. next value (told_alone told path))
            (λ other at. (at.1, ap (before folder) at.0 ∙ before_here folder)) refused);
      }

  -- the file can't be read
  pub step_unread : {C : Type 0} (old now : ℕ) (view : C → Feed) (fault : FeedFault) (result : Result C FeedFault) → ((given : FeedFault) × (result ≡ Err given) × (given ≡ fault))
      → OfFile told path table (λ file. Refuses (rose_at table old now) fault (first file))
      → OfFolder told path (λ folder. Answers (FailsAt (before folder) old now) view result (whole folder))
  unfolding outcome
  step_unread old now view fault result is of =
      refused_as told path (λ folder. FailsAt (before folder) old now) view whole fault result is
      (refused_at old now fault of.file of.is_told
      (refuses_then (rose_at table old now) (rose_at table old now) fault (first of.file) second (λ other at. at) of.holds))

  -- what it gives is refused
  pub step_refused : {C : Type 0} (old now : ℕ) (view : C → Feed) (fault : FeedFault) (result : Result C FeedFault) → ((given : FeedFault) × (result ≡ Err given) × (given ≡ fault))
      → (given : A) → OfFile told path table (λ file. first file ≡ Ok given) → Refuses never fault (second given)
      → OfFolder told path (λ folder. Answers (FailsAt (before folder) old now) view result (whole folder))
  unfolding outcome
  step_refused old now view fault result is given of refused =
      refused_as told path (λ folder. FailsAt (before folder) old now) view whole fault result is
      (refused_at old now fault of.file of.is_told
      (refuses_after never (rose_at table old now) fault (first of.file) given second (λ other at. absurd at) of.holds refused))

  -- the tables behind it are read too
  pub step_went_on : {C : Type 0} (old mid now : ℕ) (view : C → Feed) (given : A) (value : B) (result : Result C FeedFault) → old ≤ mid → mid ≤ now
      → OfFile told path table (λ file. first file ≡ Ok given) → second given ≡ Ok value
      → OfFolder told path (λ folder. Answers (FailsAt (later value folder) mid now) view result (next value folder))
      → OfFolder told path (λ folder. Answers (FailsAt (before folder) old now) view result (whole folder))
  step_went_on old mid now view given value result fewer more of gives rest =
      let folder = folder_with table of.file rest.folder in
      let is : (first of.file >>= second) ≡ Ok value = ap (λ r. r >>= second) of.holds ∙ gives in
      record {
        folder = folder;
        is_told = told_with table told path of.file rest.folder of.is_told rest.is_told;
        holds = subst (Answers (FailsAt (before folder) old now) view result) (sym (whole_is of.file rest.folder))
            (answers_after (FailsAt (later value rest.folder) mid now) (FailsAt (before folder) old now) view result (first of.file >>= second) value (λ value. next value rest.folder)
            (λ other at. (rose_later old mid now fewer at.0 more, before_later of.file rest.folder value other is at.1))
            is rest.holds);
      }

-- where all files are told, the folder is that of the files
pub told_whole : (told : Files) (path : List ℕ) (P : Folder → Type 0) → OfFolder told path P → IfSome told (λ all. P (told_folder all path))
told_whole None path P of = tt
told_whole (Some all) path P of = subst P (λ i table. of.is_told table i) of.holds

pub answers_weaker : {B C : Type 0} (reads more : Table → Type 0) (view : C → B) (result : Result C FeedFault) (defined : Result B FeedFault)
    → ((table : Table) → reads table → more table) → Answers reads view result defined → Answers more view result defined
answers_weaker reads more view (Ok found) defined weaker answers = answers
answers_weaker reads more view (Err faults.NoMemory) defined weaker answers = tt
answers_weaker reads more view (Err (faults.ReadFault table)) defined weaker answers = weaker table answers
answers_weaker reads more view (Err (faults.BadRow table row why)) defined weaker answers = answers
answers_weaker reads more view (Err (faults.Limit limit)) defined weaker answers = answers

pub of_folder_weaker : (told : Files) (path : List ℕ) (P Q : Folder → Type 0) → ((folder : Folder) → P folder → Q folder) → OfFolder told path P → OfFolder told path Q
of_folder_weaker told path P Q weaker of = record { folder = of.folder; is_told = of.is_told; holds = weaker of.folder of.holds }
