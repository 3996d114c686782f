use Rattle.std.proofs.Common.{ℕ, List, ◌++◌, ap₂, ◌∙◌}
use Rattle.std.proofs.lemmas.Result.{IfOk-weaker}
use Rattle.map_page.specs.Pages.{page_bytes}
use Rattle.map_page.proofs.page.page_of.Goals as goal

pub returns : goal.returns
unfolding page_bytes
returns c =
    IfOk-weaker c.joined.result _ _
    (λ page is. is ∙ ap₂ (λ (head tail : List ℕ). head ++ c.args.svg.now ++ tail) c.as_bytes.ensures.value c.as_bytes-2.ensures.value) c.joined.ensures
