-- A file of edits with a draw behind it.
use Rattle.std.proofs.Common.{◌≡◌, ◌∙◌, ap, sym, refl, ℕ, suc, Bool, true, false, List, [], ◌∷◌, ◌++◌, Option, Some, None, Result, Ok, option_map, codes, if◌then◌else◌}
use Rattle.std.specs.Str.{bytes_eq}
use Rattle.std.proofs.lemmas.Slice.Eq.{bytes_eq-Decides}
use Rattle.std.proofs.lemmas.Option.{none-some}
use Rattle.map_edits.specs.declared.edit.Edit.{Edit}
use Rattle.map_edits.specs.declared.reading.ScriptLine.{ScriptLine}
use Rattle.map_edits.specs.declared.reading.ScriptLine.TheVariants as script
use Rattle.map_edits.specs.Grammar.{edit_in, script_line_in}
use Rattle.map_edits.specs.Standing.{Named, is_due, after_edit, after_line, unless_bad, edits_from}
use Rattle.edit_session.specs.Scripts.{Followed, ends_behind, followed_by, followed_from}

-- the line that draws is no edit, so a line that says an edit is read as that
says_edit : (line : List ℕ) (edit : Edit) → edit_in line ≡ Some edit → script_line_in line ≡ Some (script.Edit edit)
says_edit line edit says = by_test (bytes_eq line (codes "draw")) (λ h. (bytes_eq-Decides line (codes "draw")).0 h)
  where
    by_test : (b : Bool) → (b ≡ true → line ≡ codes "draw") → (if b then Some script.Draw else option_map (λ e. script.Edit e) (edit_in line)) ≡ Some (script.Edit edit)
    by_test true same = absurd (none-some _ (sym (ap edit_in (same refl)) ∙ says))
    by_test false same = ap (option_map (λ e. script.Edit e)) says

module _ (named : Named) (end : List Edit) where
  abbrev one_draw : Followed
  one_draw = record { draws = end ∷ []; bad = None }

  -- where lines are edits that come to these, a draw behind them shows these
  pub drawn_behind : (lines : List (List ℕ)) (done : ℕ) (standing : List Edit) → edits_from named done standing lines ≡ Ok end → followed_from named done standing (lines ++ codes "draw" ∷ []) ≡ one_draw
  drawn_behind [] done standing comes = let same : standing ≡ end = cc in ap (λ (edits : List Edit). record { draws = edits ∷ []; bad = None }) same
  drawn_behind (line ∷ later) done standing comes = by_line (edit_in line) refl (λ edits there. drawn_behind later (suc done) edits there) comes
    where
      next : List Edit → Followed
      next edits = followed_from named (suc done) edits (later ++ codes "draw" ∷ [])

      more : List Edit → Result (List Edit) ℕ
      more edits = edits_from named (suc done) edits later

      by_due : (edit : Edit) (b : Bool) → ((edits : List Edit) → more edits ≡ Ok end → next edits ≡ one_draw) → unless_bad (suc done) (if b then Some (after_edit standing edit) else None) more ≡ Ok end
          → (if b then next (after_edit standing edit) else ends_behind done) ≡ one_draw
      by_due edit true later_drawn comes = later_drawn (after_edit standing edit) comes
      by_due edit false later_drawn comes = absurd cc

      by_line : (o : Option Edit) → edit_in line ≡ o → ((edits : List Edit) → more edits ≡ Ok end → next edits ≡ one_draw) → unless_bad (suc done) (after_line named standing o) more ≡ Ok end
          → followed_by named done standing (script_line_in line) next ≡ one_draw
      by_line None says later_drawn comes = absurd cc
      by_line (Some edit) says later_drawn comes =
          ap (λ (o : Option ScriptLine). followed_by named done standing o next) (says_edit line edit says) ∙ by_due edit (is_due named standing edit) later_drawn comes
