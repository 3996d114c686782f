-- The number that a text spells, as `u32` reads it.
use Rattle.std.proofs.Common.{◌≡◌, ◌^◌, ◌&&◌, ℕ, Bool, true, false, List, [], ◌∷◌, length, nat_lt, Option, None, Some, Result, Ok, Err, refl, ap, ◌∙◌, lt-ltb, ltb-true}
use Rattle.std.specs.List.{list_all}
use Rattle.std.specs.Prelude.{option_and_then}
use Rattle.std.specs.Char.{digit_value}
use Rattle.std.specs.Str.Parse.{AllDigits, ParsesUnsigned, digits_value, without_leading_plus}
use Rattle.clap.specs.Walk.{rows_of}
use Rattle.clap.specs.Matches.{ReadsOne, one_text}
use Rattle.clap.specs.ValueTests.{is_numeral}
use Rattle.clap.specs.declared.parser.matches.Found.{Found}
use Rattle.clap.proofs.WalkLemmas.{both, one_text-rows}
use Rattle.command_words.specs.Words.{number_in, number_spelt}

digits_pass : (ds : List ℕ) → AllDigits 10 ds → list_all (λ d. nat_lt (digit_value d) 10) ds ≡ true
digits_pass [] h = refl
digits_pass (d ∷ ds) h = rw (lt-ltb (digit_value d) 10 h.0) (digits_pass ds h.1)

digits_from : (ds : List ℕ) → list_all (λ d. nat_lt (digit_value d) 10) ds ≡ true → AllDigits 10 ds
digits_from [] e = tt
digits_from (d ∷ ds) e =
    let parts = both _ _ e in
    (ltb-true _ _ parts.0, digits_from ds parts.1)

-- the digits spell a number of 32 bits
abbrev fits : List ℕ → Bool
fits ds = is_numeral ds && nat_lt (digits_value 10 ds) (2 ^ 32)

module _ {E : Type 0} where
  abbrev ok_of : Result ℕ E → Option ℕ
  ok_of (Ok n) = Some n
  ok_of (Err e) = None

  spelt : (text : List ℕ) (r : Result ℕ E) → ParsesUnsigned 32 10 text r → ok_of r ≡ number_spelt text
  spelt text (Ok n) h =
      let ds = without_leading_plus text in
      rw (lt-ltb 0 (length ds) h.0.0.0, digits_pass ds h.0.0.1, lt-ltb (digits_value 10 ds) (2 ^ 32) h.0.1) (ap Some h.1)
  spelt text (Err e) h = go (fits (without_leading_plus text)) refl
    where
      go : (b : Bool) → fits (without_leading_plus text) ≡ b → None ≡ number_spelt text
      go false t = rw t refl
      go true t =
          let outer = both _ _ t in
          let inner = both _ _ outer.0 in
          absurd (h ((ltb-true _ _ inner.0, digits_from (without_leading_plus text) inner.1), ltb-true _ _ outer.1))

  -- the value of an argument as a number
  pub number_read : (gives : List ℕ → Result ℕ E → Type 0) → ((t : List ℕ) (r : Result ℕ E) → gives t r → ParsesUnsigned 32 10 t r)
      → (f : Found) (id : List ℕ) (found : Option ℕ) → (one_text f id ≡ None → found ≡ None) → ((t : List ℕ) → one_text f id ≡ Some t → ReadsOne gives t found)
      → found ≡ number_in id (rows_of f)
  number_read gives parses f id found none value = go (one_text f id) refl ∙ ap (option_and_then number_spelt) (one_text-rows f id)
    where
      by : (t : List ℕ) (o : Option ℕ) → ReadsOne gives t o → o ≡ number_spelt t
      by t (Some n) is = spelt t (Ok n) (parses t (Ok n) is)
      by t None is = spelt t (Err is.0) (parses t (Err is.0) is.1)

      go : (o : Option (List ℕ)) → one_text f id ≡ o → found ≡ option_and_then number_spelt o
      go None is = none is
      go (Some t) is = by t found (value t is)
