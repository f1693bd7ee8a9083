use Rattle.std.proofs.Common.{rules}
use Rattle.firsts.proofs.Elements.{any_map}
use Rattle.naming.specs.Keys.{names, is_key}
use Rattle.naming.proofs.keys.Keys.has.Goals as goal

pub returns : goal.returns
returns c = search (rules, any_map (is_key c.args.key.first.now c.args.key.second.now) names c.args.self.now.list.items)
