-- An element, and one behind it where a colour is pale.
use Rattle.std.proofs.Common.{◌≡◌, ℕ, Bool, true, false, cond, List, [], ◌∷◌, ◌++◌, ap, sym, ◌∙◌}
use Rattle.svg_writer.proofs.Appends.{grew2}
use Rattle.name_widths.specs.Colours.{is_pale}
use Rattle.poster_rules.specs.Elements.{Element, element_text, texts}
use Rattle.poster_rules.specs.Posters.{with_behind}
use Rattle.poster_picture.proofs.Writing.{one_text}

pub both_written : (colour : List ℕ) (behind front : Element) (old mid new : List ℕ) → is_pale colour ≡ true → mid ≡ old ++ element_text behind → new ≡ mid ++ element_text front → new ≡ old ++ texts (with_behind colour behind front)
both_written colour behind front old mid new pale first second =
    grew2 old mid new (element_text behind) (element_text front) first second
    ∙ ap (λ (bytes : List ℕ). old ++ (element_text behind ++ bytes)) (sym (one_text front))
    ∙ sym (ap (λ (b : Bool). old ++ texts (cond b (behind ∷ front ∷ []) (front ∷ []))) pale)

pub front_written : (colour : List ℕ) (behind front : Element) (old new : List ℕ) → is_pale colour ≡ false → new ≡ old ++ element_text front → new ≡ old ++ texts (with_behind colour behind front)
front_written colour behind front old new pale only =
    only ∙ ap (λ (bytes : List ℕ). old ++ bytes) (sym (one_text front)) ∙ sym (ap (λ (b : Bool). old ++ texts (cond b (behind ∷ front ∷ []) (front ∷ []))) pale)
