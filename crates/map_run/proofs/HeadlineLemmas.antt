-- From how a run ends to what status 0 means.
use Rattle.std.proofs.Common.{◌≡◌, ◌≢◌, ℕ, Bool, true, false, List, [], ◌∷◌, ◌++◌, map, Option, None, Some, Result, Ok, Err, IfSome, String, string_bytes, if◌then◌else◌, refl, sym, ap, ◌∙◌, subst}
use Rattle.std.specs.declared.alloc.Global.{Global}
use Rattle.std.specs.Str.{bytes_eq}
use Rattle.std.proofs.lemmas.List.{append-nil}
use Rattle.files_door.specs.declared.target.Target.{Target}
use Rattle.files_door.specs.declared.target.Target.TheVariants.{Said, Path}
use Rattle.files_door.specs.Targets.{Written, held_by}
use Rattle.std.proofs.lemmas.Slice.Eq.{bytes_eq-Decides}
use Rattle.command_run.specs.declared.output.Output.{Output}
use Rattle.command_run.specs.Held.{held_after, line_outputs, IsBeginning}
use Rattle.graph_maps.specs.Making.{MapBytes}
use Rattle.map_run.specs.declared.answer.Answer.{Answer}
use Rattle.run_status.specs.declared.input.Input.{Input}
use Rattle.run_status.specs.declared.refusal.Refusal.{Refusal}
use Rattle.run_status.specs.declared.refusal.Refusal.TheVariants as refused
use Rattle.run_status.specs.declared.status.Status.{Status}
use Rattle.run_status.specs.declared.status.Status.TheVariants as status
use Rattle.command_words.specs.Asked.{Asked, graph, export, imported, make, improve, check, depict, session, page}
use Rattle.command_paths.specs.Paths.{MapPaths}
use Rattle.command_words.specs.Words.{asked, asked_in}
use Rattle.command_words.proofs.Apart.{AreApart, AreNewApart, asked_apart}
use Rattle.asked_inputs.specs.Inputs.{input_path}
use Rattle.map_page.specs.Pages.{page_bytes}
use Rattle.map_commands.specs.MapWorks.{map_outputs, page_output}
use Rattle.edit_session.specs.SessionWorks.{Played, session_text}
use Rattle.map_run.specs.Answers.{Finished, answer_by, status_at}
use Rattle.run_status.specs.Statuses.{status_of}
use Rattle.map_run.specs.Promises.{Keeps, Promised}
use Rattle.map_run.specs.Ending.{Ends, IsLineOf}
use Rattle.map_run.specs.Headline.{MeansDone}
use Rattle.map_run.proofs.EndingLemmas.{Told}
use Rattle.map_run.proofs.LawLemmas.{leaves_whole, Holds}

-- what targets hold after the outputs of a map

other_way : (a b : List ℕ) → bytes_eq a b ≡ false → bytes_eq b a ≡ false
other_way a b apart = by_test (bytes_eq b a) refl
  where
    by_test : (same : Bool) → bytes_eq b a ≡ same → same ≡ false
    by_test true e =
        let same : bytes_eq a b ≡ true = (bytes_eq-Decides a b).1 (sym ((bytes_eq-Decides b a).0 e)) in
        absurd (cc)
    by_test false e = refl

map_held : (paths : MapPaths) (made : MapBytes) (held : Option (List ℕ)) → bytes_eq paths.picture paths.certificate ≡ false → held_after (Path paths.picture) (map_outputs paths made) held ≡ Some made.svg
map_held paths made held apart = by_tests (bytes_eq paths.picture paths.picture) (bytes_eq paths.certificate paths.picture) ((bytes_eq-Decides paths.picture paths.picture).1 refl) (other_way paths.picture paths.certificate apart)
  where
    by_tests : (first second : Bool) → first ≡ true → second ≡ false
        → (if second then Some ([] ++ made.certificate) else (if first then Some ([] ++ made.svg) else held)) ≡ Some made.svg
    by_tests true false a b = refl
    by_tests true true a b = absurd (cc)
    by_tests false second a b = absurd (cc)

certificate_held : (paths : MapPaths) (made : MapBytes) (held : Option (List ℕ)) → held_after (Path paths.certificate) (map_outputs paths made) held ≡ Some made.certificate
certificate_held paths made held = by_test (bytes_eq paths.certificate paths.certificate) (if bytes_eq paths.picture paths.certificate then Some ([] ++ made.svg) else held) ((bytes_eq-Decides paths.certificate paths.certificate).1 refl)
  where
    by_test : (second : Bool) (before : Option (List ℕ)) → second ≡ true → (if second then Some ([] ++ made.certificate) else before) ≡ Some made.certificate
    by_test true before e = refl
    by_test false before e = absurd (cc)

-- what targets hold after the outputs of a new map, with its page or without one

-- another target doesn't touch what is held
not_this : (same : Bool) (bytes : List ℕ) (before : Option (List ℕ)) → same ≡ false → (if same then Some ([] ++ bytes) else before) ≡ before
not_this true bytes before e = absurd (cc)
not_this false bytes before e = refl

new_map_held : (paths : MapPaths) (page : Option (List ℕ)) (poster : List ℕ) (made : MapBytes) (held : Option (List ℕ)) → AreNewApart (record { map = paths; page = page })
    → held_after (Path paths.picture) (map_outputs paths made ++ page_output page (Ok poster)) held ≡ Some made.svg
new_map_held paths None poster made held apart = map_held paths made held apart.0
new_map_held paths (Some path) poster made held apart =
    not_this (bytes_eq path paths.picture) (page_bytes poster) (held_after (Path paths.picture) (map_outputs paths made) held) apart.1.0 ∙ map_held paths made held apart.0

new_certificate_held : (paths : MapPaths) (page : Option (List ℕ)) (poster : List ℕ) (made : MapBytes) (held : Option (List ℕ)) → AreNewApart (record { map = paths; page = page })
    → held_after (Path paths.certificate) (map_outputs paths made ++ page_output page (Ok poster)) held ≡ Some made.certificate
new_certificate_held paths None poster made held apart = certificate_held paths made held
new_certificate_held paths (Some path) poster made held apart =
    not_this (bytes_eq path paths.certificate) (page_bytes poster) (held_after (Path paths.certificate) (map_outputs paths made) held) apart.1.1 ∙ certificate_held paths made held

new_page_held : (paths : MapPaths) (page : Option (List ℕ)) (poster : List ℕ) (made : MapBytes) (old new : Written)
    → ((target : Target) → held_by target new ≡ held_after target (map_outputs paths made ++ page_output page (Ok poster)) (held_by target old))
    → IfSome page (λ path. held_by (Path path) new ≡ Some (page_bytes poster))
new_page_held paths None poster made old new holds = tt
new_page_held paths (Some path) poster made old new holds =
    holds (Path path) ∙ by_test (bytes_eq path path) (held_after (Path path) (map_outputs paths made) (held_by (Path path) old)) ((bytes_eq-Decides path path).1 refl)
  where
    by_test : (same : Bool) (before : Option (List ℕ)) → same ≡ true → (if same then Some ([] ++ page_bytes poster) else before) ≡ Some (page_bytes poster)
    by_test true before e = refl
    by_test false before e = absurd (cc)

-- what one file holds after one output
one_held : (out bytes : List ℕ) (held : Option (List ℕ)) → held_after (Path out) (record { to = Path out; bytes = bytes } ∷ []) held ≡ Some bytes
one_held out bytes held = by_test (bytes_eq out out) ((bytes_eq-Decides out out).1 refl)
  where
    by_test : (same : Bool) → same ≡ true → (if same then Some ([] ++ bytes) else held) ≡ Some bytes
    by_test true e = refl
    by_test false e = absurd (cc)

-- the outputs of a command that ended with status 0

pub no_front : (front : List Output) (line : List ℕ) → line ≡ [] → IsBeginning front (line_outputs line) → front ≡ []
no_front [] line is begins = refl
no_front (output ∷ front) line is begins = absurd (subst (λ (l : List ℕ). IsBeginning (output ∷ front) (line_outputs l)) is begins)

-- no refusal has the status of work that is done
refusal_not_done : (paths : Input → List ℕ) (why : Refusal) → status_of paths why ≢ status.Done
refusal_not_done paths (refused.BadRow table row why) same = cc
refusal_not_done paths why same = cc

means : (told : Told) (command : Asked) (finished : Finished) (old new : Written) → AreApart (Some command) → Promised told command finished → finished.bad_line ≡ None → Holds finished.outputs old new → MeansDone told command old new
means told (graph feed chosen) finished old new apart promised none holds =
    let has = subst (λ (o : List Output). Holds o old new) promised.tells.are holds in
    record {
      loaded = promised.loaded;
      loads = promised.loads;
      graph = promised.tells.graph;
      of_feed = promised.tells.of_feed;
      kept = promised.tells.kept;
      printed = has Said;
    }
means told (export feed out chosen) finished old new apart promised none holds =
    let has = subst (λ (o : List Output). Holds o old new) promised.writes.are holds in
    record {
      loaded = promised.loaded;
      loads = promised.loads;
      text = promised.writes.text;
      exported = promised.writes.exported;
      holds = has (Path out) ∙ one_held out promised.writes.text (held_by (Path out) old);
    }
means told (imported json paths chosen) finished old new apart promised none holds =
    let has = subst (λ (o : List Output). Holds o old new) promised.are holds in
    record {
      both = promised.both;
      reads = promised.reads;
      made = promised.made;
      defined = promised.defined;
      promised = promised.promised;
      map = has (Path paths.picture) ∙ map_held paths promised.made (held_by (Path paths.picture) old) apart;
      certificate = has (Path paths.certificate) ∙ certificate_held paths promised.made (held_by (Path paths.certificate) old);
    }
means told (make feed paths chosen) finished old new apart promised none holds =
    let has = subst (λ (o : List Output). Holds o old new) promised.are holds in
    record {
      loaded = promised.loaded;
      loads = promised.loads;
      made = promised.made;
      defined = promised.defined;
      is_made = promised.is_made;
      map = has (Path paths.map.picture) ∙ new_map_held paths.map paths.page promised.poster promised.made (held_by (Path paths.map.picture) old) apart;
      certificate = has (Path paths.map.certificate) ∙ new_certificate_held paths.map paths.page promised.poster promised.made (held_by (Path paths.map.certificate) old) apart;
      poster = promised.poster;
      postered = promised.postered;
      is_poster = promised.is_poster;
      page = new_page_held paths.map paths.page promised.poster promised.made old new has;
    }
means told (improve feed paths moves chosen) finished old new apart promised none holds =
    let has = subst (λ (o : List Output). Holds o old new) promised.are holds in
    record {
      loaded = promised.loaded;
      loads = promised.loads;
      improved = promised.improved;
      defined = promised.defined;
      is_improved = promised.is_improved;
      map = has (Path paths.picture) ∙ map_held paths promised.improved.map (held_by (Path paths.picture) old) apart;
      certificate = has (Path paths.certificate) ∙ certificate_held paths promised.improved.map (held_by (Path paths.certificate) old);
      printed = has Said;
    }
means told (check feed paths chosen) finished old new apart promised none holds =
    let has = subst (λ (o : List Output). Holds o old new) promised.are holds in
    record {
      loaded = promised.loaded;
      loads = promised.loads;
      picture = promised.picture;
      lies = promised.lies;
      proved = promised.proved;
      accepted = promised.accepted;
      printed = has Said;
    }
means told (depict kind feed certificate out chosen) finished old new apart promised none holds =
    let labelled = promised.drawn in
    let has = subst (λ (o : List Output). Holds o old new) labelled.4 holds in
    record {
      loaded = promised.loaded;
      loads = promised.loads;
      certificate = labelled.0;
      lies = labelled.2;
      map = labelled.1;
      is_picture = labelled.3;
      holds = has (Path out) ∙ one_held out labelled.1 (held_by (Path out) old);
    }
means told (session feed script out chosen) finished old new apart promised none holds =
    let has = subst (λ (o : List Output). Holds o old new) (ap (λ (p : Played). p.outputs) promised.are) holds in
    record {
      loaded = promised.loaded;
      loads = promised.loads;
      script = promised.script;
      lies = promised.lies;
      followed = sym (ap (λ (p : Played). p.bad) promised.are) ∙ none;
      kept = promised.kept;
      holds = has (Path out) ∙ one_held out (session_text promised.loaded promised.script) (held_by (Path out) old);
    }
means told command finished old new apart promised none holds = tt

-- an answer with status 0 is that of an end without a bad line, which keeps what the command promises
abbrev IsKept : Told → Asked → Answer → Type 0
IsKept told command answer = (finished : Finished) × Promised told command finished × (finished.bad_line ≡ None) × (answer.outputs ≡ finished.outputs)

no_bad_line : (line : Option ℕ) → status_at line ≡ status.Done → line ≡ None
no_bad_line None same = refl
no_bad_line (Some line) same = absurd (cc)

kept_of : (told : Told) (command : Asked) (result : Result Finished Refusal) (answer : Answer) → Keeps told command result → answer ≡ answer_by (input_path command) result → answer.status ≡ status.Done
    → IsKept told command answer
kept_of told command (Ok finished) answer keeps is ended =
    (finished, keeps, no_bad_line finished.bad_line (ap (λ (a : Answer). a.status) (sym is) ∙ ended), ap (λ (a : Answer). a.outputs) is)
kept_of told command (Err why) answer keeps is ended = absurd (refusal_not_done (input_path command) why (ap (λ (a : Answer). a.status) (sym is) ∙ ended))

run_means : (told : Told) (command : Asked) (files_rose sinks_rose : Type 0) (old new : Written) (ended : Status) → AreApart (Some command)
    → Ends (Some command) told files_rose sinks_rose (Some old) (Some new) ended → ended ≡ status.Done → MeansDone told command old new
run_means told command files_rose sinks_rose old new ended apart ends is =
    let left = leaves_whole (Some command) told files_rose sinks_rose old new ended ends (λ same. let other : status.Done ≡ status.WriteFault = sym is ∙ same in cc) (λ same. let other : status.Done ≡ status.NoMemory = sym is ∙ same in cc) in
    let line = subst (λ (s : Status). IsLineOf s left.1) is left.5 in
    let none = no_front left.2 left.1 line left.6 in
    let kept = kept_of told command left.3.0 left.0 left.3.2 left.3.3 (sym left.4 ∙ is) in
    let whole : left.0.outputs ++ left.2 ≡ kept.0.outputs = ap (λ (f : List Output). left.0.outputs ++ f) none ∙ append-nil left.0.outputs ∙ kept.3 in
    means told command kept.0 old new apart kept.1 kept.2 (subst (λ (o : List Output). Holds o old new) whole left.8)

-- what status 0 means, where the sinks tell what was written
abbrev Means : Told → Option Asked → Option Written → Option Written → Type 0
Means told asked old new = IfSome asked (λ command. IfSome old (λ before. IfSome new (λ now. MeansDone told command before now)))

by_telling : (told : Told) (asked : Option Asked) (files_rose sinks_rose : Type 0) (old new : Option Written) (ended : Status) → AreApart asked
    → Ends asked told files_rose sinks_rose old new ended → ended ≡ status.Done → Means told asked old new
by_telling told None files_rose sinks_rose old new ended apart ends is = tt
by_telling told (Some command) files_rose sinks_rose None new ended apart ends is = tt
by_telling told (Some command) files_rose sinks_rose (Some old) None ended apart ends is = tt
by_telling told (Some command) files_rose sinks_rose (Some old) (Some new) ended apart ends is = run_means told command files_rose sinks_rose old new ended apart ends is

pub done_means : (told : Told) (words : List (String Global)) (files_rose sinks_rose : Type 0) (old new : Option Written) (ended : Status)
    → Ends (asked_in words) told files_rose sinks_rose old new ended → ended ≡ status.Done → Means told (asked_in words) old new
done_means told words files_rose sinks_rose old new ended ends is =
    by_telling told (asked_in words) files_rose sinks_rose old new ended (asked_apart (map string_bytes words)) ends is
