-- Calls that do pieces of work, one after another.
use Rattle.std.proofs.Common.{◌≡◌, ◌≢◌, ℕ, inl, inr, List, Option, Some, Result, Ok, Err, refl, sym, ap, ◌∙◌, subst}
use Rattle.command_run.specs.Work.{Work, ends, outcome, ◌>>=◌}
use Rattle.command_run.specs.Told.{IsRun, file_of}
use Rattle.command_run.proofs.WorkLemmas.{then_run, refused_run, ends_run, told_outcome}
use Rattle.run_status.specs.declared.input.Input.{Input}
use Rattle.run_status.specs.declared.refusal.Refusal.{Refusal}
use Rattle.run_status.specs.declared.refusal.Refusal.TheVariants as refused
use Rattle.run_status.specs.Following.{ComesTo, Follows, Gives}

abbrev pub Told : Type 0
Told = Option (List (List ℕ × List ℕ))

-- a refusal that is answered as it came
abbrev pub IsRefusedAs : {A : Type 0} → Refusal → Result A Refusal → Type 0
IsRefusedAs why result = (given : Refusal) × (result ≡ Err given) × (given ≡ why)

pub refused_as : {A : Type 0} (why : Refusal) (result : Result A Refusal) → IsRefusedAs why result → result ≡ Err why
refused_as {A} why result is =
    let answer : Refusal → Result A Refusal = λ w. Err w in
    is.1 ∙ ap answer is.2

-- want of memory follows any work, and is given by anything
pub follows_no_memory : {A B : Type 0} (told : Told) (paths : Input → List ℕ) (rose : Type 0) (view : A → B) (work : Work Input Refusal B) (result : Result A Refusal)
    → IsRefusedAs refused.NoMemory result → Follows told paths rose view work result
follows_no_memory told paths rose view work result is = subst (λ r. Follows told paths rose view work r) (sym (refused_as refused.NoMemory result is)) tt

pub gives_no_memory : {A B : Type 0} (view : A → B) (defined : Result B Refusal) (result : Result A Refusal)
    → IsRefusedAs refused.NoMemory result → Gives view result defined
gives_no_memory view defined result is = subst (λ r. Gives view r defined) (sym (refused_as refused.NoMemory result is)) tt

-- a refusal of the first of two pieces of work
refusal_follows : {A B C D : Type 0} (told : Told) (paths : Input → List ℕ) (rose : Type 0) (first_view : A → B) (view : C → D) (work : Work Input Refusal B) (next : B → Work Input Refusal D) (why : Refusal)
    → Follows told paths rose first_view work (Err why) → Follows told paths rose view (work >>= next) (Err why)
refusal_follows told paths rose first_view view work next refused.NoMemory first = tt
refusal_follows told paths rose first_view view work next (refused.ReadFault input) first = (first.0, refused_run refused.ReadFault told paths work next (refused.ReadFault input) first.1)
refusal_follows told paths rose first_view view work next (refused.BadRow table row why) first = (tt, refused_run refused.ReadFault told paths work next (refused.BadRow table row why) first.1)
refusal_follows told paths rose first_view view work next (refused.Limit limit) first = (tt, refused_run refused.ReadFault told paths work next (refused.Limit limit) first.1)
refusal_follows told paths rose first_view view work next (refused.NoRoute seg) first = (tt, refused_run refused.ReadFault told paths work next (refused.NoRoute seg) first.1)
refusal_follows told paths rose first_view view work next (refused.Spent component branches) first = (tt, refused_run refused.ReadFault told paths work next (refused.Spent component branches) first.1)
refusal_follows told paths rose first_view view work next (refused.Refuted item) first = (tt, refused_run refused.ReadFault told paths work next (refused.Refuted item) first.1)
refusal_follows told paths rose first_view view work next (refused.Missing input) first = (tt, refused_run refused.ReadFault told paths work next (refused.Missing input) first.1)
refusal_follows told paths rose first_view view work next (refused.BadSettings bad) first = (tt, refused_run refused.ReadFault told paths work next (refused.BadSettings bad) first.1)
refusal_follows told paths rose first_view view work next (refused.BadGraph bad) first = (tt, refused_run refused.ReadFault told paths work next (refused.BadGraph bad) first.1)
refusal_follows told paths rose first_view view work next (refused.BadEdit line) first = (tt, refused_run refused.ReadFault told paths work next (refused.BadEdit line) first.1)

pub follows_refused : {A B C D : Type 0} (told : Told) (paths : Input → List ℕ) (rose : Type 0) (first_view : A → B) (view : C → D) (work : Work Input Refusal B) (next : B → Work Input Refusal D) (why : Refusal) (result : Result C Refusal)
    → IsRefusedAs why result → Follows told paths rose first_view work (Err why) → Follows told paths rose view (work >>= next) result
follows_refused told paths rose first_view view work next why result is first =
    subst (λ r. Follows told paths rose view (work >>= next) r) (sym (refused_as why result is)) (refusal_follows told paths rose first_view view work next why first)

-- the first of two pieces of work came to a value, and the second follows
pub follows_then : {A B C D : Type 0} (told : Told) (paths : Input → List ℕ) (first_rose later rose : Type 0) (first_view : A → B) (view : C → D) (work : Work Input Refusal B) (next : B → Work Input Refusal D) (value : A) (result : Result C Refusal)
    → (later → rose) → Follows told paths first_rose first_view work (Ok value) → Follows told paths later view (next (first_view value)) result → Follows told paths rose view (work >>= next) result
follows_then told paths first_rose later rose first_view view work next value (Ok found) widen first second =
    (tt, then_run refused.ReadFault told paths work next (first_view value) (Ok (view found)) first.1 second.1)
follows_then told paths first_rose later rose first_view view work next value (Err refused.NoMemory) widen first second = tt
follows_then told paths first_rose later rose first_view view work next value (Err (refused.ReadFault input)) widen first second =
    (widen second.0, then_run refused.ReadFault told paths work next (first_view value) (Err (refused.ReadFault input)) first.1 second.1)
follows_then told paths first_rose later rose first_view view work next value (Err (refused.BadRow table row why)) widen first second =
    (tt, then_run refused.ReadFault told paths work next (first_view value) (Err (refused.BadRow table row why)) first.1 second.1)
follows_then told paths first_rose later rose first_view view work next value (Err (refused.Limit limit)) widen first second =
    (tt, then_run refused.ReadFault told paths work next (first_view value) (Err (refused.Limit limit)) first.1 second.1)
follows_then told paths first_rose later rose first_view view work next value (Err (refused.NoRoute seg)) widen first second =
    (tt, then_run refused.ReadFault told paths work next (first_view value) (Err (refused.NoRoute seg)) first.1 second.1)
follows_then told paths first_rose later rose first_view view work next value (Err (refused.Spent component branches)) widen first second =
    (tt, then_run refused.ReadFault told paths work next (first_view value) (Err (refused.Spent component branches)) first.1 second.1)
follows_then told paths first_rose later rose first_view view work next value (Err (refused.Refuted item)) widen first second =
    (tt, then_run refused.ReadFault told paths work next (first_view value) (Err (refused.Refuted item)) first.1 second.1)
follows_then told paths first_rose later rose first_view view work next value (Err (refused.Missing input)) widen first second =
    (tt, then_run refused.ReadFault told paths work next (first_view value) (Err (refused.Missing input)) first.1 second.1)
follows_then told paths first_rose later rose first_view view work next value (Err (refused.BadSettings bad)) widen first second =
    (tt, then_run refused.ReadFault told paths work next (first_view value) (Err (refused.BadSettings bad)) first.1 second.1)
follows_then told paths first_rose later rose first_view view work next value (Err (refused.BadGraph bad)) widen first second =
    (tt, then_run refused.ReadFault told paths work next (first_view value) (Err (refused.BadGraph bad)) first.1 second.1)
follows_then told paths first_rose later rose first_view view work next value (Err (refused.BadEdit line)) widen first second =
    (tt, then_run refused.ReadFault told paths work next (first_view value) (Err (refused.BadEdit line)) first.1 second.1)

-- what is given without reading is a piece of work that has come to its end
pub gives_follows : {A B : Type 0} (told : Told) (paths : Input → List ℕ) (rose : Type 0) (view : A → B) (defined : Result B Refusal) (result : Result A Refusal)
    → Gives view result defined → Follows told paths rose view (ends defined) result
gives_follows {A} {B} told paths rose view defined (Ok value) gives =
    (tt, subst (λ (d : Result B Refusal). IsRun refused.ReadFault told paths (ends d) (Ok (view value))) (sym gives) (ends_run refused.ReadFault told paths (Ok (view value))))
gives_follows told paths rose view defined (Err refused.NoMemory) gives = tt
gives_follows told paths rose view defined (Err (refused.ReadFault input)) gives = absurd gives
gives_follows {A} {B} told paths rose view defined (Err (refused.BadRow table row why)) gives =
    (tt, subst (λ (d : Result B Refusal). IsRun refused.ReadFault told paths (ends d) (Err (refused.BadRow table row why))) (sym gives) (ends_run refused.ReadFault told paths (Err (refused.BadRow table row why))))
gives_follows {A} {B} told paths rose view defined (Err (refused.Limit limit)) gives =
    (tt, subst (λ (d : Result B Refusal). IsRun refused.ReadFault told paths (ends d) (Err (refused.Limit limit))) (sym gives) (ends_run refused.ReadFault told paths (Err (refused.Limit limit))))
gives_follows {A} {B} told paths rose view defined (Err (refused.NoRoute seg)) gives =
    (tt, subst (λ (d : Result B Refusal). IsRun refused.ReadFault told paths (ends d) (Err (refused.NoRoute seg))) (sym gives) (ends_run refused.ReadFault told paths (Err (refused.NoRoute seg))))
gives_follows {A} {B} told paths rose view defined (Err (refused.Spent component branches)) gives =
    (tt, subst (λ (d : Result B Refusal). IsRun refused.ReadFault told paths (ends d) (Err (refused.Spent component branches))) (sym gives) (ends_run refused.ReadFault told paths (Err (refused.Spent component branches))))
gives_follows {A} {B} told paths rose view defined (Err (refused.Refuted item)) gives =
    (tt, subst (λ (d : Result B Refusal). IsRun refused.ReadFault told paths (ends d) (Err (refused.Refuted item))) (sym gives) (ends_run refused.ReadFault told paths (Err (refused.Refuted item))))
gives_follows {A} {B} told paths rose view defined (Err (refused.Missing input)) gives =
    (tt, subst (λ (d : Result B Refusal). IsRun refused.ReadFault told paths (ends d) (Err (refused.Missing input))) (sym gives) (ends_run refused.ReadFault told paths (Err (refused.Missing input))))
gives_follows {A} {B} told paths rose view defined (Err (refused.BadSettings bad)) gives =
    (tt, subst (λ (d : Result B Refusal). IsRun refused.ReadFault told paths (ends d) (Err (refused.BadSettings bad))) (sym gives) (ends_run refused.ReadFault told paths (Err (refused.BadSettings bad))))
gives_follows {A} {B} told paths rose view defined (Err (refused.BadGraph bad)) gives =
    (tt, subst (λ (d : Result B Refusal). IsRun refused.ReadFault told paths (ends d) (Err (refused.BadGraph bad))) (sym gives) (ends_run refused.ReadFault told paths (Err (refused.BadGraph bad))))
gives_follows {A} {B} told paths rose view defined (Err (refused.BadEdit line)) gives =
    (tt, subst (λ (d : Result B Refusal). IsRun refused.ReadFault told paths (ends d) (Err (refused.BadEdit line))) (sym gives) (ends_run refused.ReadFault told paths (Err (refused.BadEdit line))))

-- what a call that did its work to the end came to
pub comes_to : {A B : Type 0} (told : Told) (paths : Input → List ℕ) (rose : Type 0) (view : A → B) (work : Work Input Refusal B) (why : Refusal)
    → why ≢ refused.NoMemory → Follows told paths rose view work (Err why) → ComesTo told paths rose work (Err why)
comes_to told paths rose view work refused.NoMemory free follows = absurd (free refl)
comes_to told paths rose view work (refused.ReadFault input) free follows = follows
comes_to told paths rose view work (refused.BadRow table row why) free follows = follows
comes_to told paths rose view work (refused.Limit limit) free follows = follows
comes_to told paths rose view work (refused.NoRoute seg) free follows = follows
comes_to told paths rose view work (refused.Spent component branches) free follows = follows
comes_to told paths rose view work (refused.Refuted item) free follows = follows
comes_to told paths rose view work (refused.Missing input) free follows = follows
comes_to told paths rose view work (refused.BadSettings bad) free follows = follows
comes_to told paths rose view work (refused.BadGraph bad) free follows = follows
comes_to told paths rose view work (refused.BadEdit line) free follows = follows

-- a refusal of one piece of work
pub follows_as : {A B : Type 0} (told : Told) (paths : Input → List ℕ) (rose : Type 0) (view : A → B) (work : Work Input Refusal B) (why : Refusal) (result : Result A Refusal)
    → IsRefusedAs why result → Follows told paths rose view work (Err why) → Follows told paths rose view work result
follows_as told paths rose view work why result is first = subst (λ r. Follows told paths rose view work r) (sym (refused_as why result is)) first

-- a piece of work that came to a value, and what is given by it
pub follows_value : {A B C D : Type 0} (told : Told) (paths : Input → List ℕ) (rose : Type 0) (first_view : A → B) (view : C → D) (work : Work Input Refusal B) (defined : B → Result D Refusal) (value : A) (result : Result C Refusal)
    → Follows told paths rose first_view work (Ok value) → Gives view result (defined (first_view value)) → Follows told paths rose view (work >>= (λ b. ends (defined b))) result
follows_value told paths rose first_view view work defined value result first gives =
    follows_then told paths rose rose rose first_view view work (λ b. ends (defined b)) value result (λ r. r) first (gives_follows told paths rose view (defined (first_view value)) result gives)

-- Over files that are told and never fail, what follows a piece of work is what it comes to by them.
pub told_gives : {A B : Type 0} (files : List (List ℕ × List ℕ)) (paths : Input → List ℕ) (rose : Type 0) (view : A → B) (work : Work Input Refusal B) (result : Result A Refusal)
    → (rose → ⊥) → Follows (Some files) paths rose view work result → Gives view result (outcome work (file_of files paths))
told_gives {A} {B} files paths rose view work result steady follows = by_result result follows
  where
    defined : (found : Result B Refusal) → ((input : Input) → found ≡ Err (refused.ReadFault input) → ⊥) → IsRun refused.ReadFault (Some files) paths work found → outcome work (file_of files paths) ≡ found
    defined found other run =
        elim (told_outcome refused.ReadFault work (file_of files paths) run.seen found run.are_told run.runs) [ inl is ↦ sym is | inr left ↦ absurd (other left.0 left.1) ]

    by_result : (r : Result A Refusal) → Follows (Some files) paths rose view work r → Gives view r (outcome work (file_of files paths))
    by_result (Ok value) follows = defined (Ok (view value)) (λ input same. cc) follows.1
    by_result (Err refused.NoMemory) follows = tt
    by_result (Err (refused.ReadFault input)) follows = absurd (steady follows.0)
    by_result (Err (refused.BadRow table row why)) follows = defined (Err (refused.BadRow table row why)) (λ input same. cc) follows.1
    by_result (Err (refused.Limit limit)) follows = defined (Err (refused.Limit limit)) (λ input same. cc) follows.1
    by_result (Err (refused.NoRoute seg)) follows = defined (Err (refused.NoRoute seg)) (λ input same. cc) follows.1
    by_result (Err (refused.Spent component branches)) follows = defined (Err (refused.Spent component branches)) (λ input same. cc) follows.1
    by_result (Err (refused.Refuted item)) follows = defined (Err (refused.Refuted item)) (λ input same. cc) follows.1
    by_result (Err (refused.Missing one)) follows = defined (Err (refused.Missing one)) (λ input same. cc) follows.1
    by_result (Err (refused.BadSettings bad)) follows = defined (Err (refused.BadSettings bad)) (λ input same. cc) follows.1
    by_result (Err (refused.BadGraph bad)) follows = defined (Err (refused.BadGraph bad)) (λ input same. cc) follows.1
    by_result (Err (refused.BadEdit line)) follows = defined (Err (refused.BadEdit line)) (λ input same. cc) follows.1
