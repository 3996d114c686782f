use Rattle.std.proofs.Common.{◌∙◌, sym}
use Rattle.table_rows.specs.Outcome.{Answers}
use Rattle.gtfs_tables.specs.Feed.{feed_outcome, may_fail}
use Rattle.gtfs_tables.specs.Steps.{FailsAt, before_any}
use Rattle.gtfs_tables.proofs.StepLemmas.{told_whole, answers_weaker, of_folder_weaker}
use Rattle.gtfs_tables.proofs.StepCases.{before_is}
use Rattle.gtfs_tables.proofs.whole_feed.read_tables.Goals as goal

pub returns-clause-told : goal.returns-clause-told
returns-clause-told g c =
    let told = g.F.Files.told c.args.files.now in
    let old = g.F.Files.faults c.args.files.now in
    let now = g.F.Files.faults c.feed_in.new.files in
    let types = c.args.types.now in
    told_whole told c.args.folder.now (λ f. Answers (may_fail types f old now) (λ tables. tables) c.feed_in.result (feed_outcome types f))
    (of_folder_weaker told c.args.folder.now (λ f. Answers (FailsAt (before_any types f) old now) (λ tables. tables) c.feed_in.result (feed_outcome types f))
    (λ f. Answers (may_fail types f old now) (λ tables. tables) c.feed_in.result (feed_outcome types f))
    (λ f. answers_weaker (FailsAt (before_any types f) old now) (may_fail types f old now) (λ tables. tables) c.feed_in.result (feed_outcome types f) (λ table at. (at.0, sym (before_is types f table) ∙ at.1)))
    c.feed_in.ensures.read)

pub returns-clause-untold : goal.returns-clause-untold
returns-clause-untold g c =
    let old = g.F.Files.faults c.args.files.now in
    let now = g.F.Files.faults c.feed_in.new.files in
    let types = c.args.types.now in
    let of = c.feed_in.ensures.read in (
      of.folder,
      answers_weaker (FailsAt (before_any types of.folder) old now) (may_fail types of.folder old now) (λ tables. tables) c.feed_in.result (feed_outcome types of.folder)
          (λ table at. (at.0, sym (before_is types of.folder table) ∙ at.1)) of.holds,
    )
