use Rattle.std.proofs.Common.{map, length, rules, tests, ap, ◌∙◌}
use Rattle.std.proofs.lemmas.Iterator.Search.{position_from_yields_List}
use Rattle.std.proofs.lemmas.List.{length-map}
use Rattle.std.specs.Option.{unwrap_or}
use Rattle.firsts.proofs.Seen.{YieldsList-from_seen, place_or}
use Rattle.naming.specs.Keys.{names, is_key, place}
use Rattle.naming.proofs.keys.Keys.place.Goals as goal

pub returns-clause-value : goal.returns-clause-value
unfolding place
returns-clause-value c =
    c.unwrap_or.ensures
    ∙ ap (λ n. unwrap_or c.position.result n) (c.len.ensures ∙ search (rules, length-map))
    ∙ ap (λ o. unwrap_or o (length (map names c.args.self.now.list.items)))
    (position_from_yields_List (is_key c.args.key.first.now c.args.key.second.now) _ _ _ c.position.ensures.ran (YieldsList-from_seen names c.args.self.now.list.items cc) (λ x b q k. search (rules, tests)))
    ∙ place_or _ (map names c.args.self.now.list.items)
