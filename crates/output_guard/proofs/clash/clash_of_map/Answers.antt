use Rattle.std.proofs.Common.{◌≡◌, ℕ, List, [], ◌∷◌, ◌++◌, Contains, Option, IfSome, option_map, ap, subst, sym, ◌∙◌, arith}
use Rattle.std.proofs.lemmas.List.Elements.{Contains-append_right, Contains-get_or}
use Rattle.command_paths.specs.Paths.{new_paths_by}
use Rattle.output_guard.specs.declared.clash.Clash.{Clash}
use Rattle.output_guard.specs.Guarded.{IsAmong, files_of, page_file}
use Rattle.output_guard.proofs.Clashes.{is_among, of_found, one_more}
use Rattle.output_guard.proofs.clash.clash_of_map.Goals as goal

pub returns-in-Some-clause-among : goal.returns-in-Some-clause-among
returns-in-Some-clause-among g c =
    let files = files_of (new_paths_by c.args.files) in
    let is : c.in-Some.clash.output ≡ c.args.files.map.picture.now =
    subst (λ (f : Option Clash). IfSome f (λ clash. clash.output ≡ c.args.files.map.picture.now)) c.in-Some.is c.in_ok-clash.ensures.output in
    let other : Contains c.deref.result.now c.in-Some.clash.other =
    subst (λ (f : Option Clash). IfSome f (λ clash. Contains c.deref.result.now clash.other)) c.in-Some.is c.in_ok-clash.ensures.other in
    is_among files files c.deref.result.now c.args.read.items c.in-Some.clash (ap (λ (paths : List (List ℕ)). paths ++ files) c.deref.ensures.value)
    (subst (λ (path : List ℕ). Contains files path) (sym is) (Contains-get_or files 0 [] (omega arith))) other

pub returns-in-Some-2-clause-among : goal.returns-in-Some-2-clause-among
returns-in-Some-2-clause-among g c =
    let picture = c.args.files.map.picture.now in
    let certificate = c.args.files.map.certificate.now in
    let files = files_of (new_paths_by c.args.files) in
    let left = certificate ∷ page_file (new_paths_by c.args.files).page in
    let is : c.in-Some-2.clash.output ≡ certificate =
    subst (λ (f : Option Clash). IfSome f (λ clash. clash.output ≡ certificate)) c.in-Some-2.is c.in_ok-clash-2.ensures.output in
    let other : Contains c.deref-2.result.now c.in-Some-2.clash.other =
    subst (λ (f : Option Clash). IfSome f (λ clash. Contains c.deref-2.result.now clash.other)) c.in-Some-2.is c.in_ok-clash-2.ensures.other in
    let pushed = c.deref-2.ensures.value ∙ c.in_ok-push.ensures.items ∙ ap (λ (path : List ℕ). c.args.read.items ++ path ∷ []) c.in_ok-of.ensures in
    is_among files left c.deref-2.result.now c.args.read.items c.in-Some-2.clash (one_more c.args.read.items c.deref-2.result.now left picture pushed)
    (subst (λ (path : List ℕ). Contains files path) (sym is) (Contains-get_or files 1 [] (omega arith))) other

pub returns-clause-among : goal.returns-clause-among
returns-clause-among g c =
    let picture = c.args.files.map.picture.now in
    let certificate = c.args.files.map.certificate.now in
    let page = page_file (option_map (λ path. path.now) c.args.files.page) in
    let files = files_of (new_paths_by c.args.files) in
    let read = c.args.read.items in
    let two = c.push.new.self.items in
    let three = c.deref-3.result.now in
    let second = one_more read two (certificate ∷ page) picture (c.in_ok-push.ensures.items ∙ ap (λ (path : List ℕ). read ++ path ∷ []) c.in_ok-of.ensures) in
    let third = one_more two three page certificate (c.deref-3.ensures.value ∙ c.in_ok-push-2.ensures.items ∙ ap (λ (path : List ℕ). two ++ path ∷ []) c.in_ok-of-2.ensures) in
    of_found c.clash_of_page.result (λ (clash : Clash). Contains page clash.output) (λ (clash : Clash). Contains three clash.other) (IsAmong files read)
    (λ clash output other. is_among files page three read clash (third ∙ second) (Contains-append_right (picture ∷ certificate ∷ []) page clash.output output) other)
    c.clash_of_page.ensures.output c.clash_of_page.ensures.other
