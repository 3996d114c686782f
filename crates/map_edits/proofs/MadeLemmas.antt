-- Tables and settings made of changed parts, and the place of a pair that a binary search finds.
use Rattle.std.proofs.Common.{◌≡◌, ℕ, List, [], length, All, Result, Ok, Err, sym, subst, arith}
use Rattle.std.specs.Ordering.{nat_cmp}
use Rattle.std.specs.Cmp.Lexicographic.{slice_cmp}
use Rattle.std.specs.List.Sorted.{IsBinarySearchResult, IsSearchInRange}
use Rattle.map_base.specs.Settings.{AreRisingIds}
use Rattle.transit_feed.specs.Feeds.{Feed, IsFeed}
use Rattle.map_edits.specs.declared.edit.Edit.{Edit}
use Rattle.transit_feed.specs.declared.line.Line.{Line}
use Rattle.transit_feed.specs.declared.pattern.Pattern.{Pattern}
use Rattle.transit_feed.specs.declared.shape.Shape.{Shape}
use Rattle.transit_feed.specs.declared.station.Station.{Station}
use Rattle.map_edits.specs.Effects.{stations_after, lines_after, feed_after, IsInRange}
use Rattle.map_edits.specs.Pairs.{IsPairPlace}
use Rattle.map_edits.proofs.PairLemmas.{Pair, orders_rise}
use Rattle.map_edits.proofs.EffectLemmas.{fits_after}

-- tables that are those that edits make fit together
pub fits : (edits : List Edit) (feed new : Feed) → new ≡ feed_after edits feed → All IsInRange edits → IsFeed feed → IsFeed new
fits edits feed new same ranges is = subst IsFeed (sym same) (fits_after edits feed ranges is)

-- the same where the tables are known by their lists
pub parts_fit : (edits : List Edit) (feed : Feed) (stations : List Station) (lines : List Line) (patterns : List Pattern) (shapes : List Shape) → stations ≡ stations_after edits feed.stations
    → lines ≡ lines_after edits feed.lines → patterns ≡ feed.patterns → shapes ≡ feed.shapes → All IsInRange edits → IsFeed feed
    → IsFeed (record { stations = stations; lines = lines; patterns = patterns; shapes = shapes })
parts_fit edits feed stations lines patterns shapes same_stations same_lines same_patterns same_shapes ranges is =
    let same : record { stations = stations; lines = lines; patterns = patterns; shapes = shapes } ≡ feed_after edits feed = cc in
    fits edits feed (record { stations = stations; lines = lines; patterns = patterns; shapes = shapes }) same ranges is

-- what a binary search answers is where an id stands, or else where it goes
pub pair_place : (pairs : List Pair) (id : List ℕ) (found : Result ℕ ℕ) → AreRisingIds pairs → IsSearchInRange found (length pairs)
    → IsBinarySearchResult (λ (p : Pair). slice_cmp nat_cmp p.0 id) pairs found → IsPairPlace pairs id found
pair_place pairs id (Ok place) rising within here = record { within = within; equal = here ([], 0) }
pair_place pairs id (Err place) rising within here =
    let parts = here (orders_rise pairs id rising) in
    record {
      within = within;
      lower = λ k before. parts.0 k ([], 0) (omega arith) before;
      greater = λ k from low. parts.1 k ([], 0) from low;
    }
