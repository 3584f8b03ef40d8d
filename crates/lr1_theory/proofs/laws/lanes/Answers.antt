use Rattle.lr1_theory.proofs.theory.lanes.Lanes.{lane_tokens, lanes_faithful}
use Rattle.lr1_theory.proofs.theory.lanes.LaneTables.{lanes_checked}
use Rattle.lr1_theory.proofs.laws.lanes.Goals as goal

pub returns-clause-tokens : goal.returns-clause-tokens
returns-clause-tokens c = lane_tokens

pub returns-clause-faithful : goal.returns-clause-faithful
returns-clause-faithful c = lanes_faithful

pub returns-clause-checked : goal.returns-clause-checked
returns-clause-checked c g start states closed lr0 reductions reached alone lalr holds = lanes_checked g start states closed lr0 reductions reached alone lalr holds
