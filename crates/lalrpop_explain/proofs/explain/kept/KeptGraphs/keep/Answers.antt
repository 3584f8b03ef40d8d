use Rattle.lalrpop_explain.proofs.theory.explained.KeptGraphs.{kept_more, kept_same}
use Rattle.lalrpop_explain.proofs.explain.kept.KeptGraphs.keep.Goals as goal

pub returns : goal.returns
returns c = record { kept = λ g states kept is. kept_more g states c.make_room.new.self.graphs.items _ c.args.one c.in_ok-push.ensures.items is (c.make_room.ensures.kept g states kept) }

pub returns-in_err-push : goal.returns-in_err-push
returns-in_err-push c = record { kept = λ g states kept is. kept_same g states c.make_room.new.self.graphs.items _ c.in_err-push.ensures.items (c.make_room.ensures.kept g states kept) }

pub returns-in_err-insert : goal.returns-in_err-insert
returns-in_err-insert c = record { kept = λ g states kept is. c.make_room.ensures.kept g states kept }
