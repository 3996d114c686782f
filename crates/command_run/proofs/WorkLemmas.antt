-- Work over the files that it reads.
use Rattle.std.proofs.Common.{◌≡◌, ℕ, List, [], ◌∷◌, ◌++◌, Option, None, Some, Result, Ok, Err, inl, inr, ◌⊎◌, refl, ap, ◌∙◌, subst}
use Rattle.command_run.specs.Work.{Work, ends, reads, ◌>>=◌, outcome, Seen, Runs}
use Rattle.command_run.specs.Told.{file_of, Agree, AreTold, IsRun}

module _ {Input Refusal : Type 0} (unread : Input → Refusal) where
  -- what follows a piece of work that came to a value
  pub then_runs : {A B : Type 0} (work : Work Input Refusal A) (next : A → Work Input Refusal B) (seen more : List (Seen Input)) (value : A) (result : Result B Refusal)
      → Runs unread work seen (Ok value) → Runs unread (next value) more result → Runs unread (work >>= next) (seen ++ more) result
  then_runs {A} {B} (ends (Ok found)) next [] more value result first second =
      let same : value ≡ found = cc in
      subst (λ (v : A). Runs unread (next v) more result) same second
  then_runs (ends (Err why)) next [] more value result first second = absurd (cc)
  then_runs (ends defined) next (one ∷ seen) more value result first second = absurd first
  then_runs (reads input rest) next [] more value result first second = absurd (cc)
  then_runs (reads input rest) next (one ∷ seen) more value result first second = (first.0, then_runs (rest one.1) next seen more value result first.1 second)

  -- a refusal of the first piece of work is one of both
  pub refused_runs : {A B : Type 0} (work : Work Input Refusal A) (next : A → Work Input Refusal B) (seen : List (Seen Input)) (why : Refusal)
      → Runs unread work seen (Err why) → Runs unread (work >>= next) seen (Err why)
  refused_runs (ends (Ok found)) next [] why runs = absurd (cc)
  refused_runs (ends (Err found)) next [] why runs =
      let same : why ≡ found = cc in
      cc
  refused_runs (ends defined) next (one ∷ seen) why runs = absurd runs
  refused_runs (reads input rest) next [] why runs =
      let same : why ≡ unread input = cc in
      cc
  refused_runs (reads input rest) next (one ∷ seen) why runs = (runs.0, refused_runs (rest one.1) next seen why runs.1)

  -- over files that are told the work comes to its outcome, or an input can't be read
  pub told_outcome : {A : Type 0} (work : Work Input Refusal A) (given : Input → Option (List ℕ)) (seen : List (Seen Input)) (result : Result A Refusal)
      → Agree given seen → Runs unread work seen result → (result ≡ outcome work given) ⊎ ((input : Input) × (result ≡ Err (unread input)))
  told_outcome (ends defined) given [] result agree runs = inl runs
  told_outcome (ends defined) given (one ∷ seen) result agree runs = absurd runs
  told_outcome (reads input rest) given [] result agree runs = inr (input, runs)
  told_outcome {A} (reads input rest) given (one ∷ seen) result agree runs =
      let here : one.1 ≡ given input = agree.0 ∙ ap given runs.0 in
      subst (λ (file : Option (List ℕ)). (result ≡ outcome (rest file) given) ⊎ ((i : Input) × (result ≡ Err (unread i)))) here
      (told_outcome (rest one.1) given seen result agree.1 runs.1)

  -- what the work reads where each input gives this
  abbrev pub trace : {A : Type 0} → Work Input Refusal A → (Input → Option (List ℕ)) → List (Seen Input)
  trace (ends defined) given = []
  trace (reads input rest) given = (input, given input) ∷ trace (rest (given input)) given

  pub trace_runs : {A : Type 0} (work : Work Input Refusal A) (given : Input → Option (List ℕ)) → Runs unread work (trace work given) (outcome work given)
  trace_runs (ends defined) given = refl
  trace_runs (reads input rest) given = (refl, trace_runs (rest (given input)) given)

  pub trace_agrees : {A : Type 0} (work : Work Input Refusal A) (given : Input → Option (List ℕ)) → Agree given (trace work given)
  trace_agrees (ends defined) given = tt
  trace_agrees (reads input rest) given = (refl, trace_agrees (rest (given input)) given)

  agree-append : (given : Input → Option (List ℕ)) (seen more : List (Seen Input)) → Agree given seen → Agree given more → Agree given (seen ++ more)
  agree-append given [] more first second = second
  agree-append given (one ∷ seen) more first second = (first.0, agree-append given seen more first.1 second)

  told-append : (told : Option (List (List ℕ × List ℕ))) (paths : Input → List ℕ) (seen more : List (Seen Input)) → AreTold told paths seen → AreTold told paths more → AreTold told paths (seen ++ more)
  told-append None paths seen more first second = tt
  told-append (Some files) paths seen more first second = agree-append (file_of files paths) seen more first second

  -- one run after another
  pub then_run : {A B : Type 0} (told : Option (List (List ℕ × List ℕ))) (paths : Input → List ℕ) (work : Work Input Refusal A) (next : A → Work Input Refusal B) (value : A) (result : Result B Refusal)
      → IsRun unread told paths work (Ok value) → IsRun unread told paths (next value) result → IsRun unread told paths (work >>= next) result
  then_run told paths work next value result first second = record {
    seen = first.seen ++ second.seen;
    are_told = told-append told paths first.seen second.seen first.are_told second.are_told;
    runs = then_runs work next first.seen second.seen value result first.runs second.runs;
  }

  pub refused_run : {A B : Type 0} (told : Option (List (List ℕ × List ℕ))) (paths : Input → List ℕ) (work : Work Input Refusal A) (next : A → Work Input Refusal B) (why : Refusal)
      → IsRun unread told paths work (Err why) → IsRun unread told paths (work >>= next) (Err why)
  refused_run told paths work next why first = record { seen = first.seen; are_told = first.are_told; runs = refused_runs work next first.seen why first.runs }

  -- work that reads nothing
  pub ends_run : {A : Type 0} (told : Option (List (List ℕ × List ℕ))) (paths : Input → List ℕ) (result : Result A Refusal) → IsRun unread told paths (ends result) result
  ends_run None paths result = record { seen = []; are_told = tt; runs = refl }
  ends_run (Some files) paths result = record { seen = []; are_told = tt; runs = refl }

  -- some run: the one where each input gives what is told of it, and is absent where nothing is
  pub some_run : {A : Type 0} (told : Option (List (List ℕ × List ℕ))) (paths : Input → List ℕ) (work : Work Input Refusal A) → (given : Input → Option (List ℕ)) × IsRun unread told paths work (outcome work given)
  some_run None paths work =
      let none : Input → Option (List ℕ) = λ _. None in
      (none, record { seen = trace work none; are_told = tt; runs = trace_runs work none })
  some_run (Some files) paths work =
      let given : Input → Option (List ℕ) = file_of files paths in
      (given, record { seen = trace work given; are_told = trace_agrees work given; runs = trace_runs work given })
