use Rattle.std.proofs.Common.{◌∙◌, ◌++◌, ap, string_bytes, sym}
use Rattle.lalrpop_ambiguity.specs.declared.search.Search.{Search}
use Rattle.lalrpop_collections.proofs.theory.lists.Pieces.{two_pieces}
use Rattle.conflict_causes.specs.CauseTexts.{search_text}
use Rattle.conflict_causes.proofs.text.lines.push_search.Goals as goal

pub returns-in_ok-write-in-Cut : goal.returns-in_ok-write-in-Cut
returns-in_ok-write-in-Cut c =
    two_pieces _ _ _ _ _ c.in_ok-push_str-in-Cut.ensures.bytes c.in_ok-write-in-Cut.ensures.bytes
    ∙ ap (λ (s : Search). string_bytes c.args.text.now ++ search_text c.args.steps c.args.moves s) (sym c.in-Cut.is)
