-- The parts of a poster, one after the other.
use Rattle.std.proofs.Common.{◌≡◌, ◌⊎◌, inl, inr, ℕ, ◌<◌, Bool, cond, List, [], ◌∷◌, ◌++◌, ap, sym, ◌∙◌, append-nil, append_assoc, length, Option, arith}
use Rattle.line_offsets.specs.declared.corner.Corner.{Corner}
use Rattle.map_base.specs.declared.ids.LineId.{LineId}
use Rattle.map_base.specs.declared.ids.StationId.{StationId}
use Rattle.graph_core.specs.declared.parts.NodeKind.TheVariants as kind
use Rattle.eight_sides.specs.declared.frame.Frame.{Frame}
use Rattle.svg_writer.specs.declared.names.Names.{Names}
use Rattle.svg_writer.specs.Picture.{colour_of, name_of, station_name}
use Rattle.svg_writer.proofs.Appends.{grew2}
use Rattle.poster_plan.specs.declared.layout.Legend.{Legend}
use Rattle.poster_plan.specs.declared.layout.Printed.{Printed}
use Rattle.poster_plan.specs.declared.layout.Step.{Step}
use Rattle.poster_plan.specs.declared.layout.Step.TheVariants.{Full, Small, Over}
use Rattle.poster_plan.specs.declared.plan.Plan.{Plan}
use Rattle.poster_plan.specs.Legends.{frame_beside, legend_of}
use Rattle.poster_plan.specs.Pitches.{frame_with}
use Rattle.poster_rules.specs.Elements.{Element, element_text, texts, black, dark, white, RowName, Stroke, Head, Ground, Station, Opens, Closes, Tail, LinesGroup, StationsGroup, NamesGroup, LegendGroup}
use Rattle.poster_rules.specs.Plans.{widest}
use Rattle.poster_rules.specs.Posters.{all_names, apart_from, elements_with, feet_at, legend_elements, rim_of, row_elements, station_elements, stroke_through, strokes_at, strokes_over, with_behind, Sheet}
use Rattle.poster_rules.specs.Stations.{callers_at, is_interchange}
use Rattle.poster_picture.specs.Parts.{all_joins, all_lines, all_stations, legend_part, map_part, names_part}
use Rattle.poster_picture.proofs.Writing.{one_text, texts-append}

-- elements behind elements
behind : (o s t : List ℕ) (a b : List Element) → s ≡ o ++ texts a → t ≡ s ++ texts b → t ≡ o ++ texts (a ++ b)
behind o s t a b e f = grew2 o s t (texts a) (texts b) e f ∙ ap (λ (bytes : List ℕ). o ++ bytes) (sym (texts-append a b))

-- one element behind elements
one_behind : (o s t : List ℕ) (a : List Element) (e : Element) → s ≡ o ++ texts a → t ≡ s ++ element_text e → t ≡ o ++ texts (a ++ e ∷ [])
one_behind o s t a e was now = behind o s t a (e ∷ []) was (now ∙ ap (λ (bytes : List ℕ). s ++ bytes) (sym (one_text e)))

-- one element first
one_first : (o s : List ℕ) (e : Element) → s ≡ o ++ element_text e → s ≡ o ++ texts (e ∷ [])
one_first o s e now = now ∙ ap (λ (bytes : List ℕ). o ++ bytes) (sym (one_text e))

pub map_written : (sheet : Sheet) (frame : Frame) (o a b c d e f g h i : List ℕ) → a ≡ o ++ element_text (Head frame) → b ≡ a ++ element_text (Ground frame) → c ≡ b ++ element_text (Opens LinesGroup)
    → d ≡ c ++ texts (all_lines sheet) → e ≡ d ++ texts (all_joins sheet) → f ≡ e ++ element_text Closes → g ≡ f ++ element_text (Opens StationsGroup) → h ≡ g ++ texts (all_stations sheet) → i ≡ h ++ element_text Closes
    → i ≡ o ++ texts (map_part sheet frame)
map_written sheet frame o a b c d e f g h i p q r s t u v w x =
    let lines = all_lines sheet in
    let joins = all_joins sheet in
    let stations = all_stations sheet in
    let last : i ≡ g ++ texts (stations ++ Closes ∷ []) = one_behind g h i stations Closes w x in
    let from_opens : i ≡ f ++ texts (Opens StationsGroup ∷ (stations ++ Closes ∷ [])) = behind f g i (Opens StationsGroup ∷ []) (stations ++ Closes ∷ []) (one_first f g (Opens StationsGroup) v) last in
    let from_closes : i ≡ e ++ texts (Closes ∷ Opens StationsGroup ∷ (stations ++ Closes ∷ [])) = behind e f i (Closes ∷ []) (Opens StationsGroup ∷ (stations ++ Closes ∷ [])) (one_first e f Closes u) from_opens in
    let from_joins = behind d e i joins (Closes ∷ Opens StationsGroup ∷ (stations ++ Closes ∷ [])) t from_closes in
    let from_lines = behind c d i lines (joins ++ (Closes ∷ Opens StationsGroup ∷ (stations ++ Closes ∷ []))) s from_joins in
    let from_group = behind b c i (Opens LinesGroup ∷ []) (lines ++ (joins ++ (Closes ∷ Opens StationsGroup ∷ (stations ++ Closes ∷ [])))) (one_first b c (Opens LinesGroup) r) from_lines in
    let from_ground = behind a b i (Ground frame ∷ []) (Opens LinesGroup ∷ (lines ++ (joins ++ (Closes ∷ Opens StationsGroup ∷ (stations ++ Closes ∷ []))))) (one_first a b (Ground frame) q) from_group in
    behind o a i (Head frame ∷ []) (Ground frame ∷ Opens LinesGroup ∷ (lines ++ (joins ++ (Closes ∷ Opens StationsGroup ∷ (stations ++ Closes ∷ []))))) (one_first o a (Head frame) p) from_ground

pub names_written : (sheet : Sheet) (plan : Plan) (printed : List Printed) (o a b c : List ℕ) → a ≡ o ++ element_text (Opens NamesGroup) → b ≡ a ++ texts (all_names sheet plan.marks printed) → c ≡ b ++ element_text Closes → c ≡ o ++ texts (names_part sheet plan printed)
names_written sheet plan printed o a b c p q r =
    let names = all_names sheet plan.marks printed in
    behind o a c (Opens NamesGroup ∷ []) (names ++ Closes ∷ []) (one_first o a (Opens NamesGroup) p) (one_behind a b c names Closes q r)

pub legend_written : (names : Names) (legend : Option Legend) (lines : List LineId) (o a b c d : List ℕ) → a ≡ o ++ element_text (Opens LegendGroup) → b ≡ a ++ texts (legend_elements names legend lines) → c ≡ b ++ element_text Closes → d ≡ c ++ element_text Tail
    → d ≡ o ++ texts (legend_part names legend lines)
legend_written names legend lines o a b c d p q r s =
    let rows = legend_elements names legend lines in
    let ends : d ≡ b ++ texts (Closes ∷ Tail ∷ []) = behind b c d (Closes ∷ []) (Tail ∷ []) (one_first b c Closes r) (one_first c d Tail s) in
    behind o a d (Opens LegendGroup ∷ []) (rows ++ Closes ∷ Tail ∷ []) (one_first o a (Opens LegendGroup) p) (behind a b d rows (Closes ∷ Tail ∷ []) q ends)

-- all parts are the poster
pub parts_are : (sheet : Sheet) (plan : Plan) (printed : List Printed) (lines : List LineId) (legend : Option Legend) (frame : Frame) (o a b c : List ℕ)
    → frame ≡ frame_beside (frame_with sheet.pitch plan printed) (length lines) (widest sheet.names lines) legend → o ≡ []
    → a ≡ o ++ texts (map_part sheet frame) → b ≡ a ++ texts (names_part sheet plan printed) → c ≡ b ++ texts (legend_part sheet.names legend lines) → c ≡ texts (elements_with sheet plan printed lines legend)
parts_are sheet plan printed lines legend frame o a b c framed none p q r =
    let all = behind o a c (map_part sheet frame) (names_part sheet plan printed ++ legend_part sheet.names legend lines) p (behind a b c (names_part sheet plan printed) (legend_part sheet.names legend lines) q r) in
    all ∙ ap (λ (bytes : List ℕ). bytes ++ texts (map_part sheet frame ++ (names_part sheet plan printed ++ legend_part sheet.names legend lines))) none
    ∙ ap texts (regrouped frame)
    ∙ ap (λ (f : Frame). texts (whole f)) framed
  where
    -- the elements behind a frame
    whole : Frame → List Element
    whole f =
        Head f ∷ Ground f ∷ (Opens LinesGroup ∷ [])
        ++ (all_lines sheet
        ++ (all_joins sheet
        ++ (Closes ∷ Opens StationsGroup ∷ []
        ++ (all_stations sheet
        ++ (Closes ∷ Opens NamesGroup ∷ []
        ++ (all_names sheet plan.marks printed
        ++ (Closes ∷ Opens LegendGroup ∷ []
        ++ (legend_elements sheet.names legend lines ++ Closes ∷ Tail ∷ []))))))))

    regrouped : (f : Frame) → map_part sheet f ++ (names_part sheet plan printed ++ legend_part sheet.names legend lines) ≡ whole f
    regrouped f =
        let lines_of = all_lines sheet in
        let joins = all_joins sheet in
        let stations = all_stations sheet in
        let names = all_names sheet plan.marks printed in
        let legend_of = legend_part sheet.names legend lines in
        let tail = names_part sheet plan printed ++ legend_of in
        ap (λ (es : List Element). Head f ∷ Ground f ∷ Opens LinesGroup ∷ es)
        (append_assoc lines_of (joins ++ (Closes ∷ Opens StationsGroup ∷ (stations ++ Closes ∷ []))) tail
        ∙ ap (λ (es : List Element). lines_of ++ es)
        (append_assoc joins (Closes ∷ Opens StationsGroup ∷ (stations ++ Closes ∷ [])) tail
        ∙ ap (λ (es : List Element). joins ++ (Closes ∷ Opens StationsGroup ∷ es))
        (append_assoc stations (Closes ∷ []) tail
        ∙ ap (λ (es : List Element). stations ++ (Closes ∷ Opens NamesGroup ∷ es)) (append_assoc names (Closes ∷ []) legend_of))))

-- the same at the legend of the lines that are shown
pub sheet_written : (sheet : Sheet) (plan : Plan) (printed : List Printed) (lines shown : List LineId) (count most : ℕ) (legend : Option Legend) (frame map : Frame) (o a b c : List ℕ)
    → lines ≡ shown → count ≡ length lines → most ≡ widest sheet.names lines → legend ≡ legend_of sheet.pitch plan printed count most → map ≡ frame_with sheet.pitch plan printed → frame ≡ frame_beside map count most legend → o ≡ []
    → a ≡ o ++ texts (map_part sheet frame) → b ≡ a ++ texts (names_part sheet plan printed) → c ≡ b ++ texts (legend_part sheet.names legend lines)
    → c ≡ texts (elements_with sheet plan printed shown (legend_of sheet.pitch plan printed (length shown) (widest sheet.names shown)))
sheet_written sheet plan printed lines shown count most legend frame map o a b c are counted widest_is placed framed beside none p q r =
    let framed_all : frame ≡ frame_beside (frame_with sheet.pitch plan printed) (length lines) (widest sheet.names lines) legend =
    beside ∙ ap (λ (f : Frame). frame_beside f count most legend) framed ∙ ap (λ (n : ℕ). frame_beside (frame_with sheet.pitch plan printed) n most legend) counted ∙ ap (λ (n : ℕ). frame_beside (frame_with sheet.pitch plan printed) (length lines) n legend) widest_is in
    parts_are sheet plan printed lines legend frame o a b c framed_all none p q r
    ∙ ap (λ (l : Option Legend). texts (elements_with sheet plan printed lines l)) (placed ∙ ap (λ (n : ℕ). legend_of sheet.pitch plan printed n most) counted ∙ ap (legend_of sheet.pitch plan printed (length lines)) widest_is)
    ∙ ap (λ (ls : List LineId). texts (elements_with sheet plan printed ls (legend_of sheet.pitch plan printed (length ls) (widest sheet.names ls)))) are

-- ---- a station

pub station_written : (n : ℕ) (callers : List LineId) (name : List ℕ) (strokes : List Element) (o a b c : List ℕ) → a ≡ o ++ element_text (Station n callers name) → b ≡ a ++ texts strokes → c ≡ b ++ element_text Closes
    → c ≡ o ++ texts (Station n callers name ∷ (strokes ++ Closes ∷ []))
station_written n callers name strokes o a b c p q r = behind o a c (Station n callers name ∷ []) (strokes ++ Closes ∷ []) (one_first o a (Station n callers name) p) (one_behind a b c strokes Closes q r)

pub station_is : (sheet : Sheet) (n : ℕ) (s : StationId) (callers : List LineId) (name : List ℕ) → callers ≡ callers_at sheet.callers n → name ≡ station_name sheet.names s.0
    → Station n callers name ∷ (strokes_at sheet n callers ++ Closes ∷ []) ≡ station_elements sheet n (kind.Station s)
station_is sheet n s callers name e f =
    ap (λ (ls : List LineId). Station n ls name ∷ (strokes_at sheet n ls ++ Closes ∷ [])) e
    ∙ ap (λ (bytes : List ℕ). Station n (callers_at sheet.callers n) bytes ∷ (strokes_at sheet n (callers_at sheet.callers n) ++ Closes ∷ [])) f

pub no_strokes : (sheet : Sheet) (n : ℕ) (callers : List LineId) (o : List ℕ) → length callers ≡ 0 → o ≡ o ++ texts (strokes_at sheet n callers)
no_strokes sheet n [] o none = sym (append-nil o)
no_strokes sheet n (l ∷ ls) o none = absurd (omega (arith, none))

pub strokes_are : (sheet : Sheet) (n : ℕ) (callers : List LineId) (change : Bool) (path : List Corner) → 0 < length callers → change ≡ is_interchange sheet.graph sheet.callers n → path ≡ stroke_through (feet_at sheet n)
    → strokes_over change path ≡ strokes_at sheet n callers
strokes_are sheet n [] change path some e f = absurd (omega arith)
strokes_are sheet n (l ∷ ls) change path some e f = ap (λ (b : Bool). strokes_over b path) e ∙ ap (strokes_over (is_interchange sheet.graph sheet.callers n)) f

pub strokes_written : (change : Bool) (path : List Corner) (m n : ℕ) (o a b : List ℕ) → m ≡ cond change 28 20 → n ≡ cond change 18 12 → a ≡ o ++ element_text (Stroke path black m) → b ≡ a ++ element_text (Stroke path white n)
    → b ≡ o ++ texts (strokes_over change path)
strokes_written change path m n o a b e f p q =
    one_behind o a b (Stroke path black m ∷ []) (Stroke path white n) (one_first o a (Stroke path black m) p) q
    ∙ ap (λ w. o ++ texts (Stroke path black w ∷ Stroke path white n ∷ [])) e
    ∙ ap (λ w. o ++ texts (Stroke path black (cond change 28 20) ∷ Stroke path white w ∷ [])) f

-- ---- a name

-- a name over lines stands behind its rim, and another alone
pub name_over : (z : Step) (rim name : Element) (o a b : List ℕ) → z ≡ Over → a ≡ o ++ element_text rim → b ≡ a ++ element_text name → b ≡ o ++ texts (rim_of z rim ++ name ∷ [])
name_over z rim name o a b e p q = one_behind o a b (rim ∷ []) name (one_first o a rim p) q ∙ sym (ap (λ (y : Step). o ++ texts (rim_of y rim ++ name ∷ [])) e)

pub name_alone : (z : Step) (rim name : Element) → (z ≡ Full) ⊎ (z ≡ Small) → element_text name ≡ texts (rim_of z rim ++ name ∷ [])
name_alone z rim name (inl e) = sym (one_text name) ∙ sym (ap (λ (y : Step). texts (rim_of y rim ++ name ∷ [])) e)
name_alone z rim name (inr e) = sym (one_text name) ∙ sym (ap (λ (y : Step). texts (rim_of y rim ++ name ∷ [])) e)

-- ---- a row of the legend

pub row_written : (names : Names) (c : Corner) (l : LineId) (end below : Corner) (colour name : List ℕ) (o a b : List ℕ) → a ≡ o ++ texts (with_behind colour (Stroke (c ∷ end ∷ []) dark 14) (Stroke (c ∷ end ∷ []) colour 12))
    → b ≡ a ++ element_text (RowName below name) → end ≡ apart_from c 60 0 → below ≡ apart_from c 90 9 → colour ≡ colour_of names l → name ≡ name_of names l → b ≡ o ++ texts (row_elements names c l)
row_written names c l end below colour name o a b p q e f g h =
    let row : Corner → Corner → List ℕ → List ℕ → List ℕ = λ x y k n. o ++ texts (with_behind k (Stroke (c ∷ x ∷ []) dark 14) (Stroke (c ∷ x ∷ []) k 12) ++ RowName y n ∷ []) in
    one_behind o a b (with_behind colour (Stroke (c ∷ end ∷ []) dark 14) (Stroke (c ∷ end ∷ []) colour 12)) (RowName below name) p q
    ∙ ap (λ (x : Corner). row x below colour name) e
    ∙ ap (λ (y : Corner). row (apart_from c 60 0) y colour name) f
    ∙ ap (λ (k : List ℕ). row (apart_from c 60 0) (apart_from c 90 9) k name) g
    ∙ ap (λ (n : List ℕ). row (apart_from c 60 0) (apart_from c 90 9) (colour_of names l) n) h
