use Rattle.std.proofs.Common.{sym, rules}
use Rattle.loading.proofs.Beyond.{beyond_wider}
use Rattle.loading.proofs.Loading.judge.Goals as goal

pub holds_opposite_pair-requires : goal.holds_opposite_pair-requires
holds_opposite_pair-requires c = beyond_wider c.args.self.now.variables 512 0 c.args.list.now c.args.self.now.narrow (sym c.in_default.ensures)

pub gather-requires : goal.gather-requires
gather-requires c = record { literals = beyond_wider c.args.self.now.variables 512 0 c.args.list.now c.args.self.now.narrow (sym c.in_default.ensures); apart = search rules }
