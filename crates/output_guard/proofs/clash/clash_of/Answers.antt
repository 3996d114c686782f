use Rattle.std.proofs.Common.{◌≡◌, ℕ, List, [], ◌∷◌, ◌++◌, Contains, ap, subst, sym, ◌∙◌, arith}
use Rattle.std.proofs.lemmas.List.Elements.{Contains-get_or}
use Rattle.command_words.specs.Asked.{asked_by}
use Rattle.output_guard.specs.declared.clash.Clash.{Clash}
use Rattle.output_guard.specs.Guarded.{IsAmong, outputs_of, paths_read}
use Rattle.output_guard.proofs.Clashes.{is_among, of_found}
use Rattle.output_guard.proofs.clash.clash_of.Goals as goal

pub returns-in_ok-read-in-File-clause-among : goal.returns-in_ok-read-in-File-clause-among
returns-in_ok-read-in-File-clause-among g c =
    let outputs = outputs_of (asked_by c.args.command.now) in
    let read = paths_read (asked_by c.args.command.now) in
    let file = c.in-File.output.now in
    of_found c.clash_among.result (λ (clash : Clash). clash.output ≡ file) (λ (clash : Clash). Contains c.deref.result.now clash.other) (IsAmong outputs read)
    (λ clash is other.
    is_among outputs outputs c.deref.result.now read clash (ap (λ (paths : List (List ℕ)). paths ++ outputs) (c.deref.ensures.value ∙ c.in_ok-read-in-File.ensures))
    (subst (λ (paths : List (List ℕ)). Contains paths clash.output) c.in-File.ensures
    (subst (λ (path : List ℕ). Contains (file ∷ []) path) (sym is) (Contains-get_or (file ∷ []) 0 [] (omega arith)))) other)
    c.clash_among.ensures.output c.clash_among.ensures.other
