use Rattle.std.proofs.Common.{◌≡◌, ℕ}
use Rattle.lalrpop_base.specs.Words.{Configuration, Contents, IsBitOf, next_token}
use Rattle.parse_tables.specs.Tables.{IsTableOf}
use Rattle.table_parser.specs.Machines.{HasReduced, IsAt}
use Rattle.table_parser.proofs.machine.Machine.reduce_all.Given as goal

abbrev pub invariant-reducing : goal.invariant-reducing
invariant-reducing g l = record {
  table : l.self.table ≡ l.fn.self.table;
  position : l.self.position ≡ l.fn.self.position;
  reduced : (states : ℕ → Contents) (c : Configuration) → IsTableOf l.fn.self.table.now states → IsAt l.fn.self c → IsBitOf l.fn.self.table.now.terminals (next_token c.rest) l.bit →
      (d : Configuration) × HasReduced l.fn.self.table.now.terminals l.fn.self.table.now.productions states g.H.ParseHandler.takes c l.fn.self l.fn.handler l.self.left d l.handler × IsAt l.self d;
}

abbrev pub decreases-reducing : goal.decreases-reducing
decreases-reducing g l = l.self.left
