-- The terms that are left as contracts see them, after each step.
use Rattle.std.proofs.Common.{◌≡◌, ◌≢◌, ℕ, ◌+◌, ◌<◌, ◌==◌, Bool, false, not, Option, Some, List, [], ◌∷◌, ◌++◌, length, map, get_or, set, refl, sym, ap, subst, ◌∙◌, arith, length-append}
use Rattle.std.specs.Prelude.{filter, Vec}
use Rattle.std.specs.Global.{Global}
use Rattle.std.proofs.lemmas.List.{length-set, length-map, map-append}
use Rattle.map_base.specs.declared.ids.SegId.{SegId}
use Rattle.map_base.specs.declared.ids.LineId.{LineId}
use Rattle.order_model.specs.declared.term.Term.{Term}
use Rattle.order_model.specs.Parts.{is_between}
use Rattle.order_model.specs.Places.{tables_of}
use Rattle.order_rules.specs.Merging.{moved}
use Rattle.order_rules.specs.Dividing.{is_across, sent}
use Rattle.order_untangle.specs.LeftTerms.{Listing, AreTermsOn, left, holds_on, cell_at, live, AreListed, changed, merged_cell, divided_cell}
use Rattle.order_untangle.proofs.CellLemmas.{left_some, live_are}
use Rattle.order_untangle.proofs.TermChanges.{differ_test}
use Rattle.order_untangle.proofs.ListedChanges.{own_listed, merged_left, merged_listed, divided_left, divided_listed}

-- the terms that are left are these, on so many segments
abbrev pub IsListing : List (Option Term) → List (Vec ℕ Global) → Listing → Type 0
IsListing cells on listing = ◌≡◌ {A = Listing} (record { count = length on; terms = left cells }) listing

pub listing_is : (count n : ℕ) (ts us : List Term) → count ≡ n → ts ≡ us → ◌≡◌ {A = Listing} (record { count = count; terms = ts }) (record { count = n; terms = us })
listing_is count n ts us h k = cc

pub first_left : (cells : List (Option Term)) (terms : List Term) → cells ≡ map Some terms → left cells ≡ terms
first_left cells terms is = ap left is ∙ left_some terms

pub gathered : (listing : Listing) (cells given : List (Option Term)) (on : List (Vec ℕ Global)) (s : SegId) (lists : List (Vec ℕ Global)) (numbers : List ℕ) (terms : List Term)
    → IsListing cells on listing → AreListed cells (tables_of on) → given ≡ cells → lists ≡ on → numbers ≡ get_or (tables_of lists) s.0 []
    → terms ≡ live given numbers → AreTermsOn s listing.terms terms
gathered listing cells given on s lists numbers terms view listed is_given is_lists is_numbers is_terms =
    let these : terms ≡ live cells (get_or (tables_of on) s.0 []) =
    is_terms ∙ (ap (λ (cs : List (Option Term)). live cs numbers) is_given
    ∙ ap (live cells) (is_numbers ∙ ap (λ (ls : List (Vec ℕ Global)). get_or (tables_of ls) s.0 []) is_lists)) in
    subst (λ (l : Listing). AreTermsOn s l.terms terms) view
    (subst (AreTermsOn s (left cells)) (sym these) (live_are cells s (get_or (tables_of on) s.0 []) listed.few (listed.each s)))

-- what a step makes
pub record Makes (listing : Listing) (cells : List (Option Term)) (on : List (Vec ℕ Global)) : Type 0 where
  pub listed : AreListed cells (tables_of on)
  pub view : IsListing cells on listing

table_count : (on : List (Vec ℕ Global)) → length (tables_of on) ≡ length on
table_count on = length-map on (λ (v : Vec ℕ Global). v.items)

pub merge_makes : (listing : Listing) (cells after given : List (Option Term)) (on between on_after : List (Vec ℕ Global)) (numbers these those kept more : List ℕ)
    (e f : SegId) (flip : Bool) → IsListing cells on listing → AreListed cells (tables_of on)
    → e.0 < listing.count → f.0 < listing.count → e.0 ≢ f.0
    → numbers ≡ get_or (tables_of on) f.0 [] → tables_of between ≡ set (tables_of on) f.0 []
    → these ≡ numbers → after ≡ changed (merged_cell e f flip) cells these
    → those ≡ numbers → given ≡ after → kept ≡ filter (λ n. holds_on e (cell_at given n)) those
    → more ≡ kept → tables_of on_after ≡ set (tables_of between) e.0 (get_or (tables_of between) e.0 [] ++ more)
    → Makes (record { count = listing.count; terms = map (moved e f flip) (filter (λ t. not (is_between t e.0 f.0)) listing.terms) }) after on_after
merge_makes listing cells after given on between on_after numbers these those kept more e f flip view listed known_e known_f differ is_numbers is_between_on is_these is_after is_those is_given is_kept is_more is_on =
    let off : (e.0 == f.0) ≡ false = differ_test e.0 f.0 differ in
    let many : length (tables_of on) ≡ listing.count = table_count on ∙ ap (λ (l : Listing). l.count) view in
    let e_known : e.0 < length (tables_of on) = omega (arith, known_e, many) in
    let f_known : f.0 < length (tables_of on) = omega (arith, known_f, many) in
    let all : after ≡ changed (merged_cell e f flip) cells (get_or (tables_of on) f.0 []) =
    is_after ∙ ap (changed (merged_cell e f flip) cells) (is_these ∙ is_numbers) in
    let all_kept : more ≡ filter (λ n. holds_on e (cell_at after n)) (get_or (tables_of on) f.0 []) =
    is_more ∙ (is_kept ∙ (ap (λ (cs : List (Option Term)). filter (λ n. holds_on e (cell_at cs n)) those) is_given
    ∙ ap (filter (λ n. holds_on e (cell_at after n))) (is_those ∙ is_numbers))) in
    let lists : tables_of on_after ≡ set (set (tables_of on) f.0 []) e.0 (get_or (set (tables_of on) f.0 []) e.0 [] ++ filter (λ n. holds_on e (cell_at after n)) (get_or (tables_of on) f.0 [])) =
    is_on ∙ (ap (λ (ls : List (List ℕ)). set ls e.0 (get_or ls e.0 [] ++ more)) is_between_on
    ∙ ap (λ (ns : List ℕ). set (set (tables_of on) f.0 []) e.0 (get_or (set (tables_of on) f.0 []) e.0 [] ++ ns)) all_kept) in
    let same_count : length on_after ≡ listing.count =
    sym (table_count on_after)
    ∙ (ap length is_on ∙ (length-set (tables_of between) e.0 (get_or (tables_of between) e.0 [] ++ more)
    ∙ (ap length is_between_on ∙ (length-set (tables_of on) f.0 [] ∙ many)))) in
    record {
      listed = merged_listed e f flip off cells after (tables_of on) (tables_of on_after) listed e_known f_known all lists;
      view = listing_is (length on_after) listing.count (left after) (map (moved e f flip) (filter (λ t. not (is_between t e.0 f.0)) listing.terms)) same_count
          (ap left all ∙ (merged_left e f flip off cells (tables_of on) listed e_known
          ∙ ap (λ (l : Listing). map (moved e f flip) (filter (λ t. not (is_between t e.0 f.0)) l.terms)) view));
    }

pub known_by : (listing : Listing) (cells : List (Option Term)) (on : List (Vec ℕ Global)) (e : SegId) → Makes listing cells on → e.0 < listing.count → e.0 < length on
known_by listing cells on e made known = omega (arith, known, ap (λ (l : Listing). l.count) made.view)

-- a segment forgets the numbers of terms that were dropped
pub forgets : (listing : Listing) (cells given : List (Option Term)) (on on_after : List (Vec ℕ Global)) (e : SegId) → Makes listing cells on → e.0 < listing.count
    → given ≡ cells → tables_of on_after ≡ set (tables_of on) e.0 (filter (λ n. holds_on e (cell_at given n)) (get_or (tables_of on) e.0 [])) → Makes listing cells on_after
forgets listing cells given on on_after e made known is_given is_on =
    let lists : tables_of on_after ≡ set (tables_of on) e.0 (filter (λ n. holds_on e (cell_at cells n)) (get_or (tables_of on) e.0 [])) =
    is_on ∙ ap (λ (cs : List (Option Term)). set (tables_of on) e.0 (filter (λ n. holds_on e (cell_at cs n)) (get_or (tables_of on) e.0 []))) is_given in
    let count : length on_after ≡ length on =
    sym (table_count on_after)
    ∙ (ap length lists ∙ (length-set (tables_of on) e.0 (filter (λ n. holds_on e (cell_at cells n)) (get_or (tables_of on) e.0 [])) ∙ table_count on)) in
    let in_table : e.0 < length (tables_of on) = omega (arith, known_by listing cells on e made known, table_count on) in
    record {
      listed = own_listed cells (tables_of on) (tables_of on_after) e made.listed in_table lists;
      view = listing_is (length on_after) (length on) (left cells) (left cells) count refl ∙ made.view;
    }

pub divide_makes : (listing : Listing) (cells after given given_last : List (Option Term)) (on between on_kept on_after : List (Vec ℕ Global)) (numbers these those last kept more : List ℕ) (gone : Vec ℕ Global)
    (e new : SegId) (group rest : List LineId) → IsListing cells on listing → AreListed cells (tables_of on)
    → e.0 < listing.count → new.0 ≡ length on
    → numbers ≡ get_or (tables_of on) e.0 [] → tables_of between ≡ set (tables_of on) e.0 []
    → these ≡ numbers → after ≡ changed (divided_cell e new group rest) cells these
    → those ≡ numbers → given ≡ after → kept ≡ filter (λ n. holds_on e (cell_at given n)) those
    → last ≡ numbers → given_last ≡ after → gone.items ≡ filter (λ n. holds_on new (cell_at given_last n)) last
    → more ≡ kept → tables_of on_kept ≡ set (tables_of between) e.0 (get_or (tables_of between) e.0 [] ++ more) → on_after ≡ on_kept ++ gone ∷ []
    → Makes (record { count = listing.count + 1; terms = map (sent e (record { 0 = listing.count }) rest) (filter (λ t. not (is_across e group rest t)) listing.terms) }) after on_after
divide_makes listing cells after given given_last on between on_kept on_after numbers these those last kept more gone e new group rest view listed known is_new is_numbers is_between_on is_these is_after is_those is_given is_kept is_last is_given_last is_gone is_more is_on is_all =
    let many : length (tables_of on) ≡ listing.count = table_count on ∙ ap (λ (l : Listing). l.count) view in
    let e_known : e.0 < length (tables_of on) = omega (arith, known, many) in
    let is_last_seg : new.0 ≡ length (tables_of on) = is_new ∙ sym (table_count on) in
    let off : (new.0 == e.0) ≡ false = differ_test new.0 e.0 (λ same. omega (arith, same, e_known, is_last_seg)) in
    let all : after ≡ changed (divided_cell e new group rest) cells (get_or (tables_of on) e.0 []) =
    is_after ∙ ap (changed (divided_cell e new group rest) cells) (is_these ∙ is_numbers) in
    let all_kept : more ≡ filter (λ n. holds_on e (cell_at after n)) (get_or (tables_of on) e.0 []) =
    is_more ∙ (is_kept ∙ (ap (λ (cs : List (Option Term)). filter (λ n. holds_on e (cell_at cs n)) those) is_given
    ∙ ap (filter (λ n. holds_on e (cell_at after n))) (is_those ∙ is_numbers))) in
    let all_gone : gone.items ≡ filter (λ n. holds_on new (cell_at after n)) (get_or (tables_of on) e.0 []) =
    is_gone ∙ (ap (λ (cs : List (Option Term)). filter (λ n. holds_on new (cell_at cs n)) last) is_given_last
    ∙ ap (filter (λ n. holds_on new (cell_at after n))) (is_last ∙ is_numbers)) in
    let front : tables_of on_kept ≡ set (set (tables_of on) e.0 []) e.0 (get_or (set (tables_of on) e.0 []) e.0 [] ++ filter (λ n. holds_on e (cell_at after n)) (get_or (tables_of on) e.0 [])) =
    is_on ∙ (ap (λ (ls : List (List ℕ)). set ls e.0 (get_or ls e.0 [] ++ more)) is_between_on
    ∙ ap (λ (ns : List ℕ). set (set (tables_of on) e.0 []) e.0 (get_or (set (tables_of on) e.0 []) e.0 [] ++ ns)) all_kept) in
    let pushed : tables_of on_after ≡ tables_of on_kept ++ gone.items ∷ [] =
    ap tables_of is_all ∙ map-append (λ (v : Vec ℕ Global). v.items) on_kept (gone ∷ []) in
    let lists : tables_of on_after ≡ set (set (tables_of on) e.0 []) e.0 (get_or (set (tables_of on) e.0 []) e.0 [] ++ filter (λ n. holds_on e (cell_at after n)) (get_or (tables_of on) e.0 []))
    ++ filter (λ n. holds_on new (cell_at after n)) (get_or (tables_of on) e.0 []) ∷ [] =
    pushed ∙ (ap (λ (ls : List (List ℕ)). ls ++ gone.items ∷ []) front
    ∙ ap (λ (ns : List ℕ). set (set (tables_of on) e.0 []) e.0 (get_or (set (tables_of on) e.0 []) e.0 [] ++ filter (λ n. holds_on e (cell_at after n)) (get_or (tables_of on) e.0 [])) ++ ns ∷ []) all_gone) in
    let kept_count : length (tables_of on_kept) ≡ listing.count =
    ap length is_on ∙ (length-set (tables_of between) e.0 (get_or (tables_of between) e.0 [] ++ more)
    ∙ (ap length is_between_on ∙ (length-set (tables_of on) e.0 [] ∙ many))) in
    let new_count : length on_after ≡ listing.count + 1 =
    sym (table_count on_after) ∙ (ap length pushed ∙ (length-append (tables_of on_kept) (gone.items ∷ []) ∙ ap (λ (n : ℕ). n + 1) kept_count)) in
    let named : new.0 ≡ listing.count = is_last_seg ∙ many in
    let same_new : new ≡ record { 0 = listing.count } = let P : ℕ → SegId = λ n. record { 0 = n } in ap P named in
    record {
      listed = divided_listed e new group rest off cells after (tables_of on) (tables_of on_after) listed e_known is_last_seg all lists;
      view = listing_is (length on_after) (listing.count + 1) (left after)
          (map (sent e (record { 0 = listing.count }) rest) (filter (λ t. not (is_across e group rest t)) listing.terms)) new_count
          (ap left all ∙ (divided_left e new group rest off cells (tables_of on) listed
          ∙ (ap (λ (s : SegId). map (sent e s rest) (filter (λ t. not (is_across e group rest t)) (left cells))) same_new
          ∙ ap (λ (l : Listing). map (sent e (record { 0 = listing.count }) rest) (filter (λ t. not (is_across e group rest t)) l.terms)) view)));
    }
