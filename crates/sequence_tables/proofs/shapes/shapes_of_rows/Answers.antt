use Rattle.std.proofs.Common.{◌∙◌, ◌≡◌, ℕ, List, Option, Some, None, Ok, ap, sym, subst, arith, get_or, option_map, map, filter, drop, MatchOption, length, nat_le, bytes_eq, []}
use Rattle.ordered_entries.specs.declared.entry.Entry.{Entry}
use Rattle.ordered_entries.specs.Entries.{AreDistinct, IsFirstRepeat}
use Rattle.table_rows.specs.declared.why.Why.{Why}
use Rattle.table_rows.specs.declared.why.Table.TheVariants.{Shapes}
use Rattle.table_rows.specs.Reasons.{unless_bad}
use Rattle.table_rows.specs.Firsts.{firsts}
use Rattle.table_rows.specs.Cells.{rows_before, ids_in}
use Rattle.table_rows.proofs.FirstLemmas.{first_ids}
use Rattle.table_rows.proofs.RowLemmas.{rows_before-all}
use Rattle.sequence_tables.specs.Reads.{first_refused}
use Rattle.sequence_tables.specs.Shapes.{shape_columns, point_in, known_shapes}
use Rattle.sequence_tables.specs.ShapeReads.{entry_in, is_read, is_known, sighted_before}
use Rattle.sequence_tables.specs.KeptShapes.{places_of_id, AreEachNew}
use Rattle.sequence_tables.proofs.ReadLemmas.{few_read, length-filtered}
use Rattle.sequence_tables.proofs.StopTimeLemmas.{none_refused}
use Rattle.sequence_tables.proofs.ShapeLemmas.{first_bad_is, repeat_within, all_read, refused}
use Rattle.sequence_tables.proofs.CourseLemmas.{each_new_sighted, each_new_empty, shapes_known}
use Rattle.sequence_tables.proofs.shapes.shapes_of_rows.Goals as goal

pub of-requires : goal.of-requires
of-requires c =
    let reads = c.in_ok-reads.reads in
    few_read (is_read c.args.named.now (shape_columns c.args.rows.now)) (entry_in c.args.named.now (shape_columns c.args.rows.now)) reads.upto c.args.rows.now 4294967296 c.into_vec.result.items c.requires.few
    (c.into_vec.ensures ∙ c.in_ok-reads.ensures.entries)

pub first_refused-requires-clause-few : goal.first_refused-requires-clause-few
first_refused-requires-clause-few c = omega (arith, c.in_ok-reads.ensures.within, c.requires.few)

pub first_refused-requires-clause-within : goal.first_refused-requires-clause-within
first_refused-requires-clause-within c =
    let reads = c.in_ok-reads.reads in
    let repeats = subst (λ (es : List Entry). MatchOption c.first_repeat-repeat.result (AreDistinct es) (IsFirstRepeat es)) (c.in_ok-ordered.ensures ∙ c.into_vec.ensures) c.first_repeat-repeat.ensures in
    repeat_within c.args.named.now c.args.rows.now reads c.first_repeat-repeat.result c.in_ok-reads.ensures repeats

pub returns-in-Some : goal.returns-in-Some
returns-in-Some c =
    let reads = c.in_ok-reads.reads in
    let repeats = subst (λ (es : List Entry). MatchOption c.first_repeat-repeat.result (AreDistinct es) (IsFirstRepeat es)) (c.in_ok-ordered.ensures ∙ c.into_vec.ensures) c.first_repeat-repeat.ensures in
    let stopped : Option (ℕ × Why) = option_map (λ why. (reads.upto, why)) reads.stopped in
    let found : first_refused (option_map (λ k. get_or reads.places k 0) c.first_repeat-repeat.result) stopped ≡ Some c.in-Some.bad =
    sym c.first_refused.ensures.first ∙ c.in-Some.is in
    refused c.args.trips.now c.args.named.now c.args.rows.now reads c.first_repeat-repeat.result c.in-Some.bad c.bad_row.result c.requires.named c.requires.header c.in_ok-reads.ensures repeats found c.bad_row.ensures

pub kept_shapes-requires-clause-new : goal.kept_shapes-requires-clause-new
kept_shapes-requires-clause-new c =
    subst AreEachNew (sym c.in_ok-ids.ensures.order)
    (each_new_sighted [] (filter (is_known c.args.named.now) (ids_in c.args.columns.now.id (rows_before (length c.args.rows.now) c.args.rows.now))) each_new_empty)

pub places_among-requires : goal.places_among-requires
places_among-requires c =
    let kept = c.in_ok-kept.ensures.ids in
    let fewer = length-filtered (λ id. nat_le 2 (length (places_of_id c.args.named.now c.in_ok-ordered.ordered id))) c.in_ok-ids.ids in
    omega (arith, ap length kept, fewer, c.in_ok-ids.ensures.few, c.requires.few)

pub returns : goal.returns
returns c =
    let trips = c.args.trips.now in
    let named = c.args.named.now in
    let rows = c.args.rows.now in
    let reads = c.in_ok-reads.reads in
    let repeats = subst (λ (es : List Entry). MatchOption c.first_repeat-repeat.result (AreDistinct es) (IsFirstRepeat es)) (c.in_ok-ordered.ensures ∙ c.into_vec.ensures) c.first_repeat-repeat.ensures in
    let stopped : Option (ℕ × Why) = option_map (λ why. (reads.upto, why)) reads.stopped in
    let none : first_refused (option_map (λ k. get_or reads.places k 0) c.first_repeat-repeat.result) stopped ≡ None =
    sym c.first_refused.ensures.first ∙ c.in_default.is in
    let all : reads.upto ≡ length rows =
    all_read named rows reads c.in_ok-reads.ensures (none_refused c.first_repeat-repeat.result (λ k. get_or reads.places k 0) reads.upto reads.stopped none) in
    let behind : rows_before reads.upto rows ≡ drop 1 rows = rows_before-all reads.upto rows (omega (arith, all)) in
    let whole : rows_before (length rows) rows ≡ drop 1 rows = rows_before-all (length rows) rows (omega arith) in
    ap (λ bad. unless_bad Shapes bad (known_shapes trips rows)) (first_bad_is trips named rows reads c.first_repeat-repeat.result c.requires.named c.requires.header c.in_ok-reads.ensures repeats ∙ none)
    ∙ ap Ok (sym (shapes_known trips named rows c.in_ok-ids.ids c.in_ok-kept.kept.ids c.in_ok-ordered.ordered c.as_slice.result.now c.in_ok-kept.kept.shapes.items c.in_ok-of_trips.of_trips.items
    c.requires.named
    (c.in_ok-ids.ensures.order ∙ ap (λ columns. sighted_before named columns (length rows) rows) c.requires.columns
    ∙ first_ids (filter (is_known named) (ids_in (shape_columns rows).id (rows_before (length rows) rows)))
    ∙ ap (λ rs. firsts bytes_eq (filter (is_known named) (ids_in (shape_columns rows).id rs))) whole)
    (c.in_ok-ordered.ensures ∙ c.into_vec.ensures ∙ c.in_ok-reads.ensures.entries ∙ ap (λ rs. map (entry_in named (shape_columns rows)) (filter (is_read named (shape_columns rows)) rs)) behind)
    (c.as_slice.ensures ∙ c.in_ok-reads.ensures.points ∙ ap (λ rs. map (point_in (shape_columns rows)) (filter (is_read named (shape_columns rows)) rs)) behind)
    c.in_ok-kept.ensures.ids
    c.in_ok-kept.ensures.shapes
    c.in_ok-of_trips.ensures
    (record { shapes = c.of-2.result; of_trips = c.of-3.result })
    (λ i. record { shapes = c.of-2.ensures i; of_trips = c.of-3.ensures i })))
