-- From what reading tables answers to the work of reading them.
use Rattle.std.proofs.Common.{◌≡◌, ℕ, List, [], ◌∷◌, Option, None, Some, Result, Ok, Err, IfSome, refl, sym, ap, ◌∙◌, subst}
use Rattle.files_door.specs.Fault.{Rose}
use Rattle.table_rows.specs.declared.why.Table.{Table}
use Rattle.table_rows.specs.declared.why.Table.TheVariants.{Routes, Stops, Trips, Shapes, StopTimes}
use Rattle.table_rows.specs.declared.fault.FeedFault.{FeedFault}
use Rattle.table_rows.specs.declared.fault.FeedFault.TheVariants as fault
use Rattle.table_rows.specs.Folder.{table_file}
use Rattle.table_rows.specs.Outcome.{Answers, rose_at, ◌>>=◌ as ◌>>>◌}
use Rattle.transit_feed.specs.Feeds.{Feed}
use Rattle.gtfs_tables.specs.Feed.{Folder, told_folder, feed_outcome, before, may_fail, routes_outcome, stops_table_outcome, trips_outcome, shapes_outcome, stop_times_outcome}
use Rattle.command_run.specs.Work.{Work, ◌>>=◌, outcome, Seen, Runs}
use Rattle.command_run.specs.Told.{file_of, Agree, AreTold, IsRun}
use Rattle.command_run.proofs.WorkLemmas.{trace, trace_runs, trace_agrees}
use Rattle.run_status.specs.declared.input.Input.{Input}
use Rattle.run_status.specs.declared.input.Input.TheVariants as input
use Rattle.run_status.specs.declared.refusal.Refusal.{Refusal}
use Rattle.run_status.specs.declared.refusal.Refusal.TheVariants as refused
use Rattle.command_inputs.specs.Inputs.{InputPaths, input_at}
use Rattle.run_status.specs.Refusals.{of_feed}
use Rattle.command_inputs.specs.Loading.{given_by, table_work, tables_work}
use Rattle.run_status.specs.Following.{Follows}

abbrev Told : Type 0
Told = Option (List (List ℕ × List ℕ))

-- a result of reading tables, as that of a command
abbrev pub refusing : {A : Type 0} → Result A FeedFault → Result A Refusal
refusing (Ok value) = Ok value
refusing (Err why) = Err (of_feed why)

-- a step that gave a value, and the rest by it
bind_ok : {A B : Type 0} (first : Result A FeedFault) (next : A → Result B FeedFault) (value : B) → (first >>> next) ≡ Ok value → (a : A) × (first ≡ Ok a) × (next a ≡ Ok value)
bind_ok (Ok a) next value is = (a, refl, is)
bind_ok {A} {B} (Err why) next value is =
    let refused : Result B FeedFault = Err why in
    let same : refused ≡ Ok value = is in
    absurd (cc)

-- what each input gives, and what is told of it
module _ (told : Told) (paths : Input → List ℕ) (given : Input → Option (List ℕ)) (tell : (seen : List (Seen Input)) → Agree given seen → AreTold told paths seen) where
  -- what a table gives, as work that has come to its end
  ends_with : {A : Type 0} (first : Result A FeedFault) → Runs refused.ReadFault (given_by first) [] (refusing first)
  ends_with (Ok value) = refl
  ends_with (Err why) = refl

  table_run : {B : Type 0} (table : Table) (gives : Option (List ℕ) → Result B FeedFault) (first : Result B FeedFault)
      → gives (given (input.Table table)) ≡ first → IsRun refused.ReadFault told paths (table_work table gives) (refusing first)
  table_run {B} table gives first is = record {
    seen = (input.Table table, given (input.Table table)) ∷ [];
    are_told = tell ((input.Table table, given (input.Table table)) ∷ []) (refl, tt);
    runs = (refl, subst (λ (r : Result B FeedFault). Runs refused.ReadFault (given_by r) [] (refusing first)) (sym is) (ends_with first));
  }

  -- one table alone
  pub table_follows : {A B : Type 0} (table : Table) (gives : Option (List ℕ) → Result B FeedFault) (old now : ℕ) (view : A → B) (result : Result A FeedFault)
      → Answers (rose_at table old now) view result (gives (given (input.Table table))) → Follows told paths (Rose old now) view (table_work table gives) (refusing result)
  table_follows table gives old now view (Ok value) answers = (tt, table_run table gives (Ok (view value)) answers)
  table_follows table gives old now view (Err fault.NoMemory) answers = tt
  table_follows {A} {B} table gives old now view (Err (fault.ReadFault other)) answers =
      let left : Table → Result B Refusal = λ t. Err (refused.ReadFault (input.Table t)) in
      (answers.1, record { seen = []; are_told = tell [] tt; runs = ap left answers.0 })
  table_follows table gives old now view (Err (fault.BadRow other row why)) answers = (tt, table_run table gives (Err (fault.BadRow other row why)) answers)
  table_follows table gives old now view (Err (fault.Limit limit)) answers = (tt, table_run table gives (Err (fault.Limit limit)) answers)

  -- the outcome of one table and of what follows it
  rest_outcome : {A B : Type 0} (first : Result A FeedFault) (next : A → Work Input Refusal B) (rest : A → Result B FeedFault)
      → ((value : A) → outcome (next value) given ≡ refusing (rest value)) → outcome (given_by first >>= next) given ≡ refusing (first >>> rest)
  rest_outcome (Ok value) next rest follows = follows value
  rest_outcome (Err why) next rest follows = refl

  folder : Folder
  folder table = given (input.Table table)

  -- five tables in a row give the feed, or its refusal
  tables_outcome : (types : List ℕ) → outcome (tables_work types) given ≡ refusing (feed_outcome types folder)
  unfolding folder
  tables_outcome types =
      rest_outcome (routes_outcome types folder) _ _ (λ routes.
      rest_outcome (stops_table_outcome folder) _ _ (λ stops.
      rest_outcome (trips_outcome routes.known folder) _ _ (λ trips.
      rest_outcome (shapes_outcome trips folder) _ _ (λ shapes.
      rest_outcome (stop_times_outcome trips stops.known folder) _ _ (λ stations. refl)))))

  tables_run : (types : List ℕ) (result : Result Feed FeedFault) → feed_outcome types folder ≡ result → IsRun refused.ReadFault told paths (tables_work types) (refusing result)
  tables_run types result is = record {
    seen = trace refused.ReadFault (tables_work types) given;
    are_told = tell (trace refused.ReadFault (tables_work types) given) (trace_agrees refused.ReadFault (tables_work types) given);
    runs = subst (λ r. Runs refused.ReadFault (tables_work types) (trace refused.ReadFault (tables_work types) given) r) (tables_outcome types ∙ ap refusing is)
        (trace_runs refused.ReadFault (tables_work types) given);
  }

  -- one table past which the work goes on
  seen_at : Table → Seen Input
  seen_at table = (input.Table table, given (input.Table table))

  past : {A B : Type 0} (first : Result A FeedFault) (next : A → Work Input Refusal B) (value : A) (more : List (Seen Input)) (result : Result B Refusal)
      → first ≡ Ok value → Runs refused.ReadFault (next value) more result → Runs refused.ReadFault (given_by first >>= next) more result
  past {A} {B} first next value more result is runs = subst (λ (r : Result A FeedFault). Runs refused.ReadFault (given_by r >>= next) more result) (sym is) runs

  -- the work comes to each table before which nothing is refused
  reads_table : (types : List ℕ) (table : Table) → before types folder table ≡ Ok tt
      → (seen : List (Seen Input)) × Agree given seen × Runs refused.ReadFault (tables_work types) seen (Err (refused.ReadFault (input.Table table)))
  unfolding folder seen_at
  reads_table types Routes known = ([], tt, refl)
  reads_table types Stops known =
      let routes = bind_ok (routes_outcome types folder) _ tt known in
      (seen_at Routes ∷ [], (refl, tt), (refl, past (routes_outcome types folder) _ routes.0 [] _ routes.1 refl))
  reads_table types Trips known =
      let routes = bind_ok (routes_outcome types folder) _ tt known in
      let stops = bind_ok (stops_table_outcome folder) _ tt routes.2 in (
        seen_at Routes ∷ seen_at Stops ∷ [],
        (refl, (refl, tt)),
        (refl, past (routes_outcome types folder) _ routes.0 _ _ routes.1 (refl, past (stops_table_outcome folder) _ stops.0 [] _ stops.1 refl)),
      )
  reads_table types Shapes known =
      let routes = bind_ok (routes_outcome types folder) _ tt known in
      let stops = bind_ok (stops_table_outcome folder) _ tt routes.2 in
      let trips = bind_ok (trips_outcome routes.0.known folder) _ tt stops.2 in (
        seen_at Routes ∷ seen_at Stops ∷ seen_at Trips ∷ [],
        (refl, (refl, (refl, tt))),
        (
          refl,
          past (routes_outcome types folder) _ routes.0 _ _ routes.1 (
            refl,
            past (stops_table_outcome folder) _ stops.0 _ _ stops.1
                (refl, past (trips_outcome routes.0.known folder) _ trips.0 [] _ trips.1 refl),
          ),
        ),
      )
  reads_table types StopTimes known =
      let routes = bind_ok (routes_outcome types folder) _ tt known in
      let stops = bind_ok (stops_table_outcome folder) _ tt routes.2 in
      let trips = bind_ok (trips_outcome routes.0.known folder) _ tt stops.2 in
      let shapes = bind_ok (shapes_outcome trips.0 folder) _ tt trips.2 in (
        seen_at Routes ∷ seen_at Stops ∷ seen_at Trips ∷ seen_at Shapes ∷ [],
        (refl, (refl, (refl, (refl, tt)))),
        (
          refl,
          past (routes_outcome types folder) _ routes.0 _ _ routes.1 (
            refl,
            past (stops_table_outcome folder) _ stops.0 _ _ stops.1
                (refl, past (trips_outcome routes.0.known folder) _ trips.0 _ _ trips.1 (refl, past (shapes_outcome trips.0 folder) _ shapes.0 [] _ shapes.1 refl)),
          ),
        ),
      )

  -- all tables
  tables_follow : {A : Type 0} (types : List ℕ) (old now : ℕ) (view : A → Feed) (result : Result A FeedFault)
      → Answers (may_fail types folder old now) view result (feed_outcome types folder) → Follows told paths (Rose old now) view (tables_work types) (refusing result)
  tables_follow types old now view (Ok value) answers = (tt, tables_run types (Ok (view value)) answers)
  tables_follow types old now view (Err fault.NoMemory) answers = tt
  tables_follow types old now view (Err (fault.ReadFault table)) answers =
      let reads = reads_table types table answers.1 in
      (answers.0, record { seen = reads.0; are_told = tell reads.0 reads.1; runs = reads.2 })
  tables_follow types old now view (Err (fault.BadRow other row why)) answers = (tt, tables_run types (Err (fault.BadRow other row why)) answers)
  tables_follow types old now view (Err (fault.Limit limit)) answers = (tt, tables_run types (Err (fault.Limit limit)) answers)

  pub tables_follow_given : {A : Type 0} (types : List ℕ) (old now : ℕ) (view : A → Feed) (result : Result A FeedFault)
      → Answers (may_fail types (λ table. given (input.Table table)) old now) view result (feed_outcome types (λ table. given (input.Table table)))
      → Follows told paths (Rose old now) view (tables_work types) (refusing result)
  unfolding folder
  tables_follow_given types old now view result answers = tables_follow types old now view result answers

-- inputs of which the tables alone give something
abbrev by_tables : Folder → Input → Option (List ℕ)
by_tables tables (input.Table table) = tables table
by_tables tables other = None

-- one table of a folder, told or not
pub read_follows : {A B : Type 0} (told : Told) (inputs : InputPaths) (path : List ℕ) (table : Table) (gives : Option (List ℕ) → Result B FeedFault) (old now : ℕ) (view : A → B) (result : Result A FeedFault)
    → path ≡ inputs.feed
    → IfSome told (λ all. Answers (rose_at table old now) view result (gives (table_file all path table)))
    → (file : Option (List ℕ)) × Answers (rose_at table old now) view result (gives file)
    → Follows told (input_at inputs) (Rose old now) view (table_work table gives) (refusing result)
read_follows None inputs path table gives old now view result is told untold =
    table_follows None (input_at inputs) (λ _. untold.0) (λ seen agree. tt) table gives old now view result untold.1
read_follows {A} {B} (Some all) inputs path table gives old now view result is told untold =
    let here = subst (λ (p : List ℕ). Answers (rose_at table old now) view result (gives (table_file all p table))) is told in
    table_follows (Some all) (input_at inputs) (file_of all (input_at inputs)) (λ seen agree. agree) table gives old now view result here

-- all tables of a folder, told or not
pub reads_follow : {A : Type 0} (told : Told) (inputs : InputPaths) (path types wanted : List ℕ) (old now : ℕ) (view : A → Feed) (result : Result A FeedFault)
    → path ≡ inputs.feed → types ≡ wanted
    → IfSome told (λ all. Answers (may_fail types (told_folder all path) old now) view result (feed_outcome types (told_folder all path)))
    → (f : Folder) × Answers (may_fail types f old now) view result (feed_outcome types f)
    → Follows told (input_at inputs) (Rose old now) view (tables_work wanted) (refusing result)
reads_follow {A} None inputs path types wanted old now view result is same told untold =
    subst (λ (ts : List ℕ). Follows None (input_at inputs) (Rose old now) view (tables_work ts) (refusing result)) same
    (tables_follow_given None (input_at inputs) (by_tables untold.0) (λ seen agree. tt) types old now view result untold.1)
reads_follow {A} (Some all) inputs path types wanted old now view result is same told untold =
    let here = subst (λ (p : List ℕ). Answers (may_fail types (told_folder all p) old now) view result (feed_outcome types (told_folder all p))) is told in
    subst (λ (ts : List ℕ). Follows (Some all) (input_at inputs) (Rose old now) view (tables_work ts) (refusing result)) same
    (tables_follow_given (Some all) (input_at inputs) (file_of all (input_at inputs)) (λ seen agree. agree) types old now view result here)
