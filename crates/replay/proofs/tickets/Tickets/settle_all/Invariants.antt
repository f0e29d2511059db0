use Rattle.std.specs.BTreeMap.{btree_map_len}
use Rattle.replay.proofs.tickets.Tickets.settle_all.Given as goal

abbrev pub decreases-loop-ticket : goal.decreases-loop-ticket
decreases-loop-ticket g l = btree_map_len l.held
